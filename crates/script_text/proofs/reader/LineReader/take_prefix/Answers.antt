use Rattle.std.proofs.Common.{◌≤◌, ◌+◌, List, ℕ, length, sym, ap, subst, ◌∙◌, arith}
use Rattle.std.specs.Prelude.{slice_range}
use Rattle.script_text.specs.Lines.{IsOneLine}
use Rattle.script_text.specs.declared.line.TheConstants.{LONGEST_LINE}
use Rattle.script_text.specs.Reader.{Held, HasLongPrefix}
use Rattle.script_text.specs.declared.reader.TheConstants.{READ_SIZE}
use Rattle.std.proofs.lemmas.List.Edits.{length-between}
use Rattle.script_text.specs.Buffered.{IsLineEndAt}
use Rattle.script_text.proofs.BufferLemmas.{searched_on, long_prefix, length_held, open_prefix, line_prefix, one_more}
use Rattle.script_text.proofs.reader.LineReader.take_prefix.Goals as goal

pub invariant_of-self : goal.invariant_of-self
invariant_of-self c =
    let r = c.self.inside in
    let one = subst (λ (xs : List ℕ). IsOneLine
    (slice_range xs r.seen c.min-limit.result)) c.deref.ensures.value c.in_default.ensures in
    searched_on r.buffer.items r.line_start r.line_end r.start r.seen r.end c.min-limit.result c.self.invariant (omega arith) (omega arith) (omega arith) one

pub invariant_of-self-in_default : goal.invariant_of-self-in_default
invariant_of-self-in_default c =
    let r = c.self.inside in
    let one = subst (λ (xs : List ℕ). IsOneLine
    (slice_range xs r.seen c.min-limit.result)) c.deref.ensures.value c.in_default.ensures in
    searched_on r.buffer.items r.line_start r.line_end r.start r.seen r.end c.min-limit.result c.self.invariant (omega arith) (omega arith) (omega arith) one

pub returns-then-limit-self : goal.returns-then-limit-self
returns-then-limit-self c =
    let r = c.self.inside in
    let is = invariant_of-self c in
    let held = ap (λ (h : Held). h.bytes) c.self.view_is in (
      c.self.view_is,
      subst HasLongPrefix held
          (long_prefix r.buffer.items r.line_start r.line_end r.start c.min-limit.result r.end is c.if-limit-self.true),
      subst (λ (xs : List ℕ). length xs ≤ LONGEST_LINE + 1 + READ_SIZE) held
          (length_held r.buffer.items r.line_start r.line_end r.start c.min-limit.result r.end is),
    )

pub returns-in_default : goal.returns-in_default
returns-in_default c =
    let r = c.self.inside in
    let is = invariant_of-self-in_default c in
    let held = ap (λ (h : Held). h.bytes) c.self.view_is in
    let prefix = open_prefix r.buffer.items r.line_start r.line_end r.start c.min-limit.result r.end is (omega arith) c.if-limit-self.false in (
      c.self.view_is,
      subst IsOneLine held prefix.0,
      subst (λ (xs : List ℕ). length xs ≤ LONGEST_LINE) held prefix.1,
    )

pub returns : goal.returns
returns c =
    let r = c.self.inside in
    let at = subst
    (λ (xs : List ℕ). IsLineEndAt xs r.seen c.min-limit.result c.in-Some.position) c.deref.ensures.value c.in-Some.ensures in
    let is = c.self.invariant in (
      sym (ap (λ (h : Held). h.bytes) c.self.view_is)
          ∙ line_prefix r.buffer.items r.line_start r.line_end r.start r.seen r.end c.min-limit.result c.in-Some.position is (omega arith) at,
      ap (λ (h : Held). h.ended) c.self.view_is,
      one_more r.buffer.items r.start r.seen c.in-Some.position is.searched at.low is.one at.one,
      omega (
        arith,
        length-between r.buffer.items r.start c.in-Some.position
            (omega arith),
        at.high,
      ),
      omega (
        arith,
        length-between r.buffer.items (c.in-Some.position + 1) r.end
            (omega arith),
        at.low,
        is.after,
      ),
    )
