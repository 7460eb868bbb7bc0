use Rattle.std.proofs.Common.{[], Some, None, take}
use Rattle.job_store.specs.Commands.{MayReply}
use Rattle.slb_core.specs.JobInputs.{job_inputs}
use Rattle.slb_core.specs.declared.job_inputs.Mode.TheVariants.{Probe}
use Rattle.job_engine.specs.Calls.{reads, tries, opens_told}
use Rattle.job_engine.proofs.Runs.{ran_gives, ran_then, ran_exit, did_ran}
use Rattle.job_engine.proofs.parts.look.Goals as goal

pub returns-in-Err-clause-ran : goal.returns-in-Err-clause-ran
returns-in-Err-clause-ran g c =
    ran_exit (MayReply g.D.Disk.contents g.D.Disk.fault_count g.D.Disk.call_gives) c.args.image.now (reads c.args.j c.args.s) tries
    c.args.board c.args.disk.now c.read.new.disk c.in-Err.exit (rw c.in-Err.is at (c.read.ensures.ran c.args.image.now))

pub returns-in-None-clause-ran : goal.returns-in-None-clause-ran
returns-in-None-clause-ran g c =
    let may = MayReply g.D.Disk.contents g.D.Disk.fault_count g.D.Disk.call_gives in
    ran_then may c.args.image.now (reads c.args.j c.args.s) tries
    c.args.board c.in-Ok.both.0 c.args.disk.now c.read.new.disk c.read.new.disk None _ (rw (c.in-Ok.is, c.in-None.is) at (c.read.ensures.ran c.args.image.now))
    (ran_gives may c.args.image.now None c.in-Ok.both.0 c.read.new.disk)

pub returns-in-Some-clause-ran : goal.returns-in-Some-clause-ran
returns-in-Some-clause-ran g c =
    let may = MayReply g.D.Disk.contents g.D.Disk.fault_count g.D.Disk.call_gives in
    let blob = take c.in-Some.len c.read.new.blob in
    ran_then may c.args.image.now (reads c.args.j c.args.s) tries
    c.args.board c.in-Ok.both.0 c.args.disk.now c.read.new.disk c.read.new.disk (Some blob) _ (rw (c.in-Ok.is, c.in-Some.is) at (c.read.ensures.ran c.args.image.now))
    (did_ran may c.args.image.now (opens_told blob) (job_inputs (record { mode = Probe; blob = blob; own = [] })) c.in-Ok.both.0 c.read.new.disk _ c.look_at.ensures.did)
