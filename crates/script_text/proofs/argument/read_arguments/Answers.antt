use Rattle.std.proofs.Common.{arith, length-append}
use Rattle.std.proofs.lemmas.List.{drop_more, drop_all}
use Rattle.std.proofs.lemmas.Result.{err_from_is_err_and}
use Rattle.script_text.proofs.ArgumentLemmas.{read_step, read_error, read_end, next_left, some_left}
use Rattle.script_text.proofs.argument.read_arguments.Goals as goal

pub returns-in_err-argument_in-clause-exact : goal.returns-in_err-argument_in-clause-exact
returns-in_err-argument_in-clause-exact c =
    let p = err_from_is_err_and c.from_residual.result c.from_residual.ensures.1 in
    rw (p.1, p.2)
    (read_error _ _ _ _ _ _ _ _
    (drop_more c.args.kinds.now c.loop-kind.kind-index _ c.loop-kind-test.true) c.in-Some.ensures c.loop-kind.invariant.all
    c.in_err-argument_in.field-0.0 c.in_err-argument_in.ensures.exact)

pub unreachable-requires : goal.unreachable-requires
unreachable-requires c =
    some_left _ _ _ _ c.loop-kind.invariant.left c.requires.counted c.loop-kind-test.true c.in_default.ensures.0

pub loop-kind-preserved : goal.loop-kind-preserved
loop-kind-preserved c = record {
  read = rw c.push.ensures (simp length-append (omega (arith, c.loop-kind.invariant.read)));
  left = next_left c.args.words.now c.loop-kind.kind-index _ _ _ c.loop-kind.invariant.left c.in-Some.ensures;
  all = read_step _ _ _ _ _ _ _ _
      (drop_more c.args.kinds.now c.loop-kind.kind-index _ c.loop-kind-test.true) c.in-Some.ensures c.loop-kind.invariant.all
      _ _ c.in_ok-argument_in.ensures.exact c.push.ensures;
}

pub returns-clause-exact : goal.returns-clause-exact
returns-clause-exact c =
    read_end _ _ _ _
    (drop_all c.loop-kind.kind-index c.args.kinds.now c.loop-kind-test.false) c.loop-kind.invariant.all
