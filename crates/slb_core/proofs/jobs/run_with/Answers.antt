use Rattle.i386_profile.specs.Effects.{state}
use Rattle.slb_core.specs.Pal.{outside}
use Rattle.slb_core.specs.Reports.{seen_asked}
use Rattle.slb_core.specs.Sessions.{permits_of}
use Rattle.slb_core.proofs.JobLemmas.{seen_short, put_lost, put_then}
use Rattle.slb_core.proofs.jobs.run_with.Goals as goal

pub seal_after-requires-clause-few : goal.seal_after-requires-clause-few
seal_after-requires-clause-few c =
    (seen_short (permits_of c.write_span.new.session) c.args.start.budget (state c.job_registers-cpu.result c.write_span.new.session.region) (outside c.write_span.new.session.around.bytes c.args.dma.now) c.write_span.new.session c.run.new.session c.run.new.dma c.run.new.outputs c.in-Ok.code (rw c.in-Ok.is at c.run.ensures)).0

pub seal_after-requires-clause-short : goal.seal_after-requires-clause-short
seal_after-requires-clause-short c =
    (seen_short (permits_of c.write_span.new.session) c.args.start.budget (state c.job_registers-cpu.result c.write_span.new.session.region) (outside c.write_span.new.session.around.bytes c.args.dma.now) c.write_span.new.session c.run.new.session c.run.new.dma c.run.new.outputs c.in-Ok.code (rw c.in-Ok.is at c.run.ensures)).1

pub returns-in-Err : goal.returns-in-Err
returns-in-Err c =
    put_lost c.args.session.now c.write_span.new.session c.args.start.cpu c.job_registers-cpu.result c.args.start.budget (seen_asked c.args.asked) c.args.kept.now c.args.id c.args.ahead c.args.dma.now
    c.write_span.ensures c.job_registers-cpu.ensures c.run.new.session c.run.new.dma c.run.new.outputs (rw c.in-Err.is at c.run.ensures)

pub returns-in-Ok : goal.returns-in-Ok
returns-in-Ok c =
    put_then c.args.session.now c.write_span.new.session c.args.start.cpu c.job_registers-cpu.result c.args.start.budget (seen_asked c.args.asked) c.args.kept.now c.args.id c.args.ahead c.args.dma.now
    c.write_span.ensures c.job_registers-cpu.ensures c.run.new.session c.seal_after.new.session c.run.new.dma c.run.new.outputs c.seal_after.new.outputs c.in-Ok.code c.seal_after.result
    (rw c.in-Ok.is at c.run.ensures) c.seal_after.ensures
