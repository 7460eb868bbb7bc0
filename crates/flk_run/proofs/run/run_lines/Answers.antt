use Rattle.std.proofs.Common.{refl, ◌≡◌, ◌<◌, false, sym, ap, ◌∙◌, length, arith}
use Rattle.flk_base.specs.Streams.{intake, output}
use Rattle.script_text.specs.Reader.{Held}
use Rattle.script_text.specs.Lines.{lines_from}
use Rattle.script_text.specs.declared.line.TheConstants.{MOST_LINES}
use Rattle.script_text.specs.declared.reader.LineEnd.TheVariants as line
use Rattle.script_text.specs.declared.reader.AnyEnd.TheVariants as any
use Rattle.flk_run.specs.Parts.{platform}
use Rattle.flk_run.proofs.SplitLemmas.{stepped, any_stepped}
use Rattle.flk_run.proofs.RunLemmas.{begins, ends_all, ends_long, ends_many, ends_short, ends_failed, line_done, line_ends}
use Rattle.flk_run.proofs.run.run_lines.Goals as goal

pub loop-before-init : goal.loop-before-init
loop-before-init g c =
    let empty = c.requires in
    record {
      far = rw empty (begins (g.S.Source.left c.args.source.now) (g.K.Sink.contents c.args.out.now)
          (platform c.args.runner));
      end = λ e. let f = sym (ap (λ (h : Held). h.ended) empty) ∙ e in absurd (cc);
      near = omega (arith, ap (λ (h : Held). length h.bytes) empty);
      untaken = refl;
      stays = refl;
      out_stays = refl;
    }

pub returns-in-End-clause-ran : goal.returns-in-End-clause-ran
returns-in-End-clause-ran g c =
    let t = stepped g.S.Source.left line.End c.loop-before.reader c.next.new.self c.loop-before.source c.next.new.source c.in-End.ensures.next c.in-End.ensures.unread c.in-End.ensures.held in
    ends_all c.loop-before.before c.loop-before.reader _ _ _ _ _ t.taken (platform c.args.runner)
    (platform c.loop-before.runner) c.loop-before.invariant.far t.consumed
    (c.in-End.ensures.end c.loop-before.invariant.end t.after.0) t.after.1 (λ e. (t.goes e).0)

pub returns-in-Long-clause-ran : goal.returns-in-Long-clause-ran
returns-in-Long-clause-ran g c =
    let t = stepped g.S.Source.left line.Long c.loop-before.reader c.next.new.self c.loop-before.source c.next.new.source c.in-Long.ensures.next c.in-Long.ensures.unread c.in-Long.ensures.held in
    let few : c.loop-before.before < MOST_LINES = omega arith in
    rw c.bad_line.ensures
    (ends_long c.loop-before.before c.loop-before.reader c.next.new.self _ _ _ _ _
    (platform c.args.runner) (platform c.loop-before.runner) few c.loop-before.invariant.far t
    (c.in-Long.ensures.end c.loop-before.invariant.end) c.in-Long.ensures.ahead)

pub returns-in-Failed-clause-ran : goal.returns-in-Failed-clause-ran
returns-in-Failed-clause-ran g c =
    let t = stepped g.S.Source.left line.Failed c.loop-before.reader c.next.new.self c.loop-before.source c.next.new.source c.in-Failed.ensures.next c.in-Failed.ensures.unread c.in-Failed.ensures.held in
    let few : c.loop-before.before < MOST_LINES = omega arith in
    ends_failed c.loop-before.before c.loop-before.reader c.next.new.self _ _ _ _ _
    (platform c.args.runner) (platform c.loop-before.runner) few c.loop-before.invariant.far t

pub returns-in_default-clause-ran : goal.returns-in_default-clause-ran
returns-in_default-clause-ran g c =
    let t = stepped g.S.Source.left line.Line c.loop-before.reader c.next.new.self c.loop-before.source c.next.new.source c.in-Line.ensures.next c.in-Line.ensures.unread c.in-Line.ensures.held in
    let few : c.loop-before.before < MOST_LINES = omega arith in
    line_ends c.loop-before.before c.loop-before.reader c.next.new.self
    (intake g.S.Source c.args.source.now c.next.new.source)
    (output g.K.Sink c.args.out.now c.run_line-next.new.out)
    (g.S.Source.left c.loop-before.source) (g.K.Sink.contents c.loop-before.out)
    (platform c.args.runner) (platform c.loop-before.runner)
    (platform c.run_line-next.result.0) few c.loop-before.invariant.far t
    (c.in-Line.ensures.end c.loop-before.invariant.end) c.in-Line.ensures.ahead c.run_line-next.result.1 c.in_default.not-Done (rw c.line.ensures at c.run_line-next.ensures.ran)

pub loop-before-preserved : goal.loop-before-preserved
loop-before-preserved g c =
    let t = stepped g.S.Source.left line.Line c.loop-before.reader c.next.new.self c.loop-before.source c.next.new.source c.in-Line.ensures.next c.in-Line.ensures.unread c.in-Line.ensures.held in
    record {
      far = line_done c.loop-before.before c.loop-before.reader c.next.new.self _ _ _ _ _ _
          (platform c.args.runner) (platform c.loop-before.runner)
          (platform c.run_line-next.result.0) c.loop-before.invariant.far t
          (rw (c.in-Done.is, c.line.ensures) at c.run_line-next.ensures.ran);
      end = c.in-Line.ensures.end c.loop-before.invariant.end;
      near = c.in-Line.ensures.ahead;
      untaken = c.run_line-next.ensures.untaken ∙ c.loop-before.invariant.untaken;
      stays = c.in-Line.ensures.stays (λ e. absurd (cc)) ∙ c.loop-before.invariant.stays;
      out_stays = rw c.in-Done.is at c.run_line-next.ensures.caused
          ∙ c.loop-before.invariant.out_stays;
    }

pub returns-in-Some-clause-ran : goal.returns-in-Some-clause-ran
returns-in-Some-clause-ran g c =
    let t = any_stepped g.S.Source.left any.Some c.loop-before.reader c.any.new.self c.loop-before.source c.any.new.source c.in-Some.ensures.any c.in-Some.ensures.unread c.in-Some.ensures.held in
    let many : c.loop-before.before ≡ MOST_LINES = omega arith in
    rw c.too_many_lines.ensures (rw many at
    (ends_many c.loop-before.before c.loop-before.reader c.any.new.self _ _ _ _ _ t.taken
    (platform c.args.runner) (platform c.loop-before.runner) many
    c.loop-before.invariant.far t.consumed t.after.0 t.after.1 t.goes
    (c.in-Some.ensures.end c.loop-before.invariant.end)
    (c.in-Some.ensures.few c.loop-before.invariant.near)))

pub returns-in-End-any-clause-ran : goal.returns-in-End-any-clause-ran
returns-in-End-any-clause-ran g c =
    let t = any_stepped g.S.Source.left any.End c.loop-before.reader c.any.new.self c.loop-before.source c.any.new.source c.in-End-any.ensures.any c.in-End-any.ensures.unread c.in-End-any.ensures.held in
    ends_all c.loop-before.before c.loop-before.reader _ _ _ _ _ t.taken (platform c.args.runner)
    (platform c.loop-before.runner) c.loop-before.invariant.far t.consumed
    (c.in-End-any.ensures.end c.loop-before.invariant.end t.after.0) t.after.1 (λ e. (t.goes e).0)

pub returns-in-Failed-any-clause-ran : goal.returns-in-Failed-any-clause-ran
returns-in-Failed-any-clause-ran g c =
    let t = any_stepped g.S.Source.left any.Failed c.loop-before.reader c.any.new.self c.loop-before.source c.any.new.source c.in-Failed-any.ensures.any c.in-Failed-any.ensures.unread c.in-Failed-any.ensures.held in
    ends_short c.loop-before.before c.loop-before.reader _ _ _ _ _ t.taken (platform c.args.runner)
    (platform c.loop-before.runner) c.loop-before.invariant.far t.consumed
    (λ e. let f = (t.goes e).1 in let h = t.after.0 in absurd (cc))
    (ap (λ bs. lines_from c.loop-before.before bs false) t.after.1)
