use Rattle.std.proofs.Common.{Some, None, take}
use Rattle.job_store.specs.Commands.{MayReply}
use Rattle.job_engine.specs.Calls.{looks, second_told}
use Rattle.job_engine.specs.declared.ends.JobEnd.TheVariants.{Lost}
use Rattle.job_engine.proofs.Runs.{ran_gives, ran_ends, ran_then, ran_exit}
use Rattle.job_engine.proofs.parts.find_second.Goals as goal

pub returns-in-Err-clause-ran : goal.returns-in-Err-clause-ran
returns-in-Err-clause-ran g c =
    ran_exit (MayReply g.D.Disk.contents g.D.Disk.fault_count g.D.Disk.call_gives) c.args.image.now (looks c.args.j 1) second_told
    c.args.board c.args.disk.now c.look.new.disk c.in-Err.exit (rw c.in-Err.is at c.look.ensures.ran)

pub returns-in-Some-clause-ran : goal.returns-in-Some-clause-ran
returns-in-Some-clause-ran g c =
    let may = MayReply g.D.Disk.contents g.D.Disk.fault_count g.D.Disk.call_gives in
    let blob = take c.in-Some.len c.look.new.blob in
    ran_then may c.args.image.now (looks c.args.j 1) second_told
    c.args.board c.in-Ok.both.0 c.args.disk.now c.look.new.disk c.look.new.disk (Some blob) _ (rw (c.in-Ok.is, c.in-Some.is) at c.look.ensures.ran)
    (ran_gives may c.args.image.now (record { slot = 1; blob = blob }) c.in-Ok.both.0 c.look.new.disk)

pub returns-in-None-clause-ran : goal.returns-in-None-clause-ran
returns-in-None-clause-ran g c =
    let may = MayReply g.D.Disk.contents g.D.Disk.fault_count g.D.Disk.call_gives in
    ran_then may c.args.image.now (looks c.args.j 1) second_told
    c.args.board c.in-Ok.both.0 c.args.disk.now c.look.new.disk c.look.new.disk None _ (rw (c.in-Ok.is, c.in-None.is) at c.look.ensures.ran)
    (ran_ends may c.args.image.now Lost c.in-Ok.both.0 c.look.new.disk)
