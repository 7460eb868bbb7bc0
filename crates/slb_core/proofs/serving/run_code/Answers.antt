use Rattle.std.proofs.Common.{false}
use Rattle.flk_base.specs.Plan.{Return}
use Rattle.i386_profile.specs.Effects.{state}
use Rattle.slb_core.specs.Pal.{CodeEnd, outside, pal}
use Rattle.slb_core.specs.Sessions.{permits_of}
use Rattle.slb_core.proofs.JobLemmas.{code_lost, code_ended}
use Rattle.slb_core.proofs.serving.run_code.Goals as goal

pub returns-in-Err : goal.returns-in-Err
returns-in-Err c =
    code_lost (pal false (permits_of c.args.session.now) c.args.start.budget 0 (state c.args.start.cpu c.args.session.now.region) (outside c.args.session.now.around.bytes c.args.dma.now)) (λ (code : CodeEnd). Return code.ended)
    c.args.session.now c.run.new.session c.run.new.dma c.run.new.outputs (rw c.in-Err.is at c.run.ensures)

pub returns-in-Ok : goal.returns-in-Ok
returns-in-Ok c =
    code_ended (pal false (permits_of c.args.session.now) c.args.start.budget 0 (state c.args.start.cpu c.args.session.now.region) (outside c.args.session.now.around.bytes c.args.dma.now))
    c.args.session.now c.run.new.session c.run.new.dma c.run.new.outputs c.in-Ok.code (rw c.in-Ok.is at c.run.ensures)
