use Rattle.std.proofs.Common.{◌≤◌, ap, ◌∙◌, arith}
use Rattle.std.specs.Prelude.{None}
use Rattle.pal_asm.specs.Tokens.{tokens}
use Rattle.pal_asm.specs.Assembling.{most_end, at_line, line_in}
use Rattle.pal_asm.proofs.AssembleLemmas.{same_tokens, nothing_added}
use Rattle.pal_asm.proofs.assembling.add_numbered.Goals as goal

pub returns-then-is_blank_text-clause-added : goal.returns-then-is_blank_text-clause-added
returns-then-is_blank_text-clause-added c = λ before s.
    let reached : before.end ≤ most_end = omega (arith, s.end, c.args.draft.now.reached) in
    let same =
    same_tokens c.args.line.now c.without_comment-text.result.now c.content.result.now
    c.content.ensures c.without_comment-text.ensures in (
      record { label = None; statement = None },
      nothing_added c.args.number before c.args.line.now (same
          ∙ c.if-is_blank_text.ensures) reached,
      record { labels = s.labels; placed = s.placed; end = omega (arith, s.end) },
    )

pub returns-in-Ok-clause-added : goal.returns-in-Ok-clause-added
returns-in-Ok-clause-added c = λ before s.
    let h = c.in-Ok.ensures.added before s in
    let same =
    same_tokens c.args.line.now c.without_comment-text.result.now c.content.result.now
    c.content.ensures c.without_comment-text.ensures in (
      h.0,
      ap (λ ts. at_line c.args.number (line_in before ts)) same
          ∙ ap (at_line c.args.number) h.1,
      h.2,
    )

pub returns-in-Err-clause-added : goal.returns-in-Err-clause-added
returns-in-Err-clause-added c = λ before s.
    let same =
    same_tokens c.args.line.now c.without_comment-text.result.now c.content.result.now
    c.content.ensures c.without_comment-text.ensures in
    rw same (c.at.ensures.fault (line_in before (tokens c.without_comment-text.result.now))
    (c.in-Err.ensures.added before s))
