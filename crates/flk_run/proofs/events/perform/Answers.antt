use Rattle.std.specs.Prelude.{Result, Ok, Err, IfOk}
use Rattle.flk_run.proofs.events.perform.Goals as goal

-- what follows from a fact of each answer
so : {T E : Type 0} (result : Result T E) (One Other : T → Type 0) → ((answer : T) → One answer → Other answer)
    → IfOk result One → IfOk result Other
so (Ok answer) One Other follows fact = follows answer fact
so (Err error) One Other follows fact = tt

pub returns-in-Arm-clause-done : goal.returns-in-Arm-clause-done
returns-in-Arm-clause-done c =
    rw (c.in-Arm.is, ← c.as_slice.ensures)
    (so c.arm.result.1 _ _ (λ answer steps untaken. steps c.args.vars.now.table) c.arm.ensures.steps)

pub returns-in-Take-clause-done : goal.returns-in-Take-clause-done
returns-in-Take-clause-done c =
    rw c.in-Take.is
    (so c.take.result.1 _ _ (λ answer steps untaken. steps untaken c.args.vars.now.table) c.take.ensures.steps)

pub returns-in-RunSession-clause-done : goal.returns-in-RunSession-clause-done
returns-in-RunSession-clause-done c = rw c.in-RunSession.is c.run_session.ensures.done

pub returns-in_default : goal.returns-in_default
returns-in_default c = record {
  untaken = c.done-host.ensures.untaken;
  done = c.done-host.ensures.done;
  fits = c.done-host.ensures.fits;
  short = c.done-host.ensures.short;
  kept = tt;
  table = tt;
  memory = λ h. absurd (cc);
}
