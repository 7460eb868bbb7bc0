use Rattle.std.proofs.Common.{◌≡◌, rules, arith, subst, ap, ◌∙◌}
use Rattle.std.specs.Prelude.{option_map, map}
use Rattle.pal_asm.specs.Assembling.{with_label, with_statement, line_size}
use Rattle.pal_asm.specs.SeenStatements.{statement_view}
use Rattle.pal_asm.specs.SeenDraft.{HasLabels, placed_view}
use Rattle.pal_asm.proofs.DraftLemmas.{fits}
use Rattle.pal_asm.proofs.draft.Draft.add.Goals as goal

pub returns : goal.returns
returns c = λ lines s d.
    let size : c.line_size-size.result ≡ line_size (option_map statement_view c.args.statement) =
    c.line_size-size.ensures in (
      record { label = c.args.label; statement = option_map statement_view c.args.statement },
      fits lines c.args.label (option_map statement_view c.args.statement)
          (omega (arith, s.end, size)),
      record {
        labels = subst (λ n. HasLabels c.define.new.labels (with_label c.args.label n lines.labels))
            s.end (c.in-Ok.ensures lines.labels s.labels d);
        placed = c.in-Ok-add_statement.ensures
            ∙ ap (λ n. with_statement (option_map statement_view c.args.statement) c.args.line n
            (map placed_view c.args.self.now.placed.items)) s.end
            ∙ ap (with_statement (option_map statement_view c.args.statement) c.args.line
            lines.end) s.placed;
        end = omega (arith, s.end, size);
      },
    )

pub returns-then-size-self : goal.returns-then-size-self
returns-then-size-self c = search rules
