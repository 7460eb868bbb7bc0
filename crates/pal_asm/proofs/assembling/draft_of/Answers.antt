use Rattle.std.proofs.lemmas.Result.{err_from_is_err_and}
use Rattle.pal_asm.specs.Lines.{lines}
use Rattle.pal_asm.specs.Assembling.{with_line}
use Rattle.pal_asm.proofs.AssembleLemmas.{more_lines, next_number, blank_first, BeginsWell, still_well, begins_here}
use Rattle.pal_asm.proofs.assembling.draft_of.Goals as goal

pub lines-preserved : goal.lines-preserved
lines-preserved c =
    let i = c.lines.invariant.1 in
    let h = c.in_ok-add_numbered.ensures.added i.0 i.1 in (
      next_number c.lines.number c.lines.rest c.split_line.result.1 c.in-Some.lines
          c.split_line.result.0.now c.lines.invariant.0 c.in-Some.is c.split_line.ensures.shorter,
      (
        with_line c.lines.number i.0 h.0,
        h.2,
        more_lines c.lines.number i.0 c.lines.rest c.split_line.result.1 c.in-Some.lines
            c.split_line.result.0.now h.0 _ i.2 c.in-Some.is c.split_line.ensures.lines h.1,
      ),
      λ b. (blank_first c.lines.rest c.split_line.result.1 c.in-Some.lines c.split_line.result.0.now
          c.in-Some.is c.split_line.ensures.lines (c.lines.invariant.2 b)).1,
      still_well c.lines.number i.0 c.lines.rest c.split_line.result.1 c.in-Some.lines
          c.split_line.result.0.now h.0 (BeginsWell (lines c.args.text.now)) c.in-Some.is
          c.split_line.ensures.lines h.1 c.lines.invariant.3,
    )

pub returns-in_err-add_numbered-clause-first : goal.returns-in_err-add_numbered-clause-first
returns-in_err-add_numbered-clause-first c =
    let p = err_from_is_err_and c.from_residual.result c.from_residual.ensures.1 in
    let h = c.in_err-add_numbered.ensures in
    rw (p.1, p.2)
    (λ w. begins_here c.lines.rest c.split_line.result.1 c.in-Some.lines c.split_line.result.0.now
    (BeginsWell (lines c.args.text.now)) c.in-Some.is c.split_line.ensures.lines
    c.lines.invariant.3
    (λ e. let none = h.blank e in cc) (h.alone w))
