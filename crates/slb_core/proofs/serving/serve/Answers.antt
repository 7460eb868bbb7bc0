use Rattle.std.proofs.Common.{◌∙◌, ap, Err}
use Rattle.i386_profile.specs.declared.cpu.Cpu.{Cpu}
use Rattle.slb_core.specs.Sessions.{first_registers}
use Rattle.slb_core.proofs.ServeLemmas.{no_step_left, whole_lost, whole_lost_leaves, whole_done, whole_done_leaves, whole_counted}
use Rattle.slb_core.proofs.ResumeLemmas.{resumes_host}
use Rattle.slb_core.proofs.serving.serve.Goals as goal

pub lost-requires : goal.lost-requires
lost-requires c =
    let start = c.first_registers.ensures ∙ ap (λ (x : Cpu). first_registers x c.args.inputs) c.cpu.ensures in
    no_step_left c.args.launched c.begin.new.session c.run_by.new.session c.args.inputs c.limits_in-limits.result.budget c.limits_in-limits.result.job c.first_registers.result c.args.nonce.now c.args.dma.now c.begin.new.dma c.run_by.new.dma c.begin.new.taken c.run_by.new.outputs
    c.begin.ensures.session c.begin.ensures.writes c.limits_in-limits.ensures.job c.limits_in-limits.ensures.budget start c.begin.ensures.taken (rw c.in-Err.is at c.run_by.ensures)

pub returns-in-Err-clause-answer : goal.returns-in-Err-clause-answer
returns-in-Err-clause-answer c =
    let start = c.first_registers.ensures ∙ ap (λ (x : Cpu). first_registers x c.args.inputs) c.cpu.ensures in
    ap Err c.lost.ensures
    ∙ whole_lost c.args.launched c.begin.new.session c.run_by.new.session c.args.inputs c.limits_in-limits.result.budget c.limits_in-limits.result.job c.first_registers.result c.args.nonce.now c.args.dma.now c.begin.new.dma c.run_by.new.dma c.begin.new.taken c.run_by.new.outputs
    c.begin.ensures.session c.begin.ensures.writes c.limits_in-limits.ensures.job c.limits_in-limits.ensures.budget start c.begin.ensures.taken (rw c.in-Err.is at c.run_by.ensures)

pub returns-in-Err-clause-writes : goal.returns-in-Err-clause-writes
returns-in-Err-clause-writes c =
    let start = c.first_registers.ensures ∙ ap (λ (x : Cpu). first_registers x c.args.inputs) c.cpu.ensures in
    whole_lost_leaves c.args.launched c.begin.new.session c.run_by.new.session c.args.inputs c.limits_in-limits.result.budget c.limits_in-limits.result.job c.first_registers.result c.args.nonce.now c.args.dma.now c.begin.new.dma c.run_by.new.dma c.begin.new.taken c.run_by.new.outputs
    c.begin.ensures.session c.begin.ensures.writes c.limits_in-limits.ensures.job c.limits_in-limits.ensures.budget start c.begin.ensures.taken (rw c.in-Err.is at c.run_by.ensures)

pub returns-in-Ok-clause-answer : goal.returns-in-Ok-clause-answer
returns-in-Ok-clause-answer c =
    let start = c.first_registers.ensures ∙ ap (λ (x : Cpu). first_registers x c.args.inputs) c.cpu.ensures in
    c.close.ensures
    ∙ whole_done c.args.launched c.begin.new.session c.run_by.new.session c.args.inputs c.limits_in-limits.result.budget c.limits_in-limits.result.job c.first_registers.result c.args.nonce.now c.args.dma.now c.begin.new.dma c.run_by.new.dma c.begin.new.taken c.run_by.new.outputs
    c.begin.ensures.session c.begin.ensures.writes c.limits_in-limits.ensures.job c.limits_in-limits.ensures.budget start c.begin.ensures.taken c.outputs_of-outputs.result.now c.in-Ok.ended (rw c.in-Ok.is at c.run_by.ensures) c.outputs_of-outputs.ensures.value

pub returns-in-Ok-clause-writes : goal.returns-in-Ok-clause-writes
returns-in-Ok-clause-writes c =
    let start = c.first_registers.ensures ∙ ap (λ (x : Cpu). first_registers x c.args.inputs) c.cpu.ensures in
    whole_done_leaves c.args.launched c.begin.new.session c.run_by.new.session c.args.inputs c.limits_in-limits.result.budget c.limits_in-limits.result.job c.first_registers.result c.args.nonce.now c.args.dma.now c.begin.new.dma c.run_by.new.dma c.begin.new.taken c.run_by.new.outputs
    c.begin.ensures.session c.begin.ensures.writes c.limits_in-limits.ensures.job c.limits_in-limits.ensures.budget start c.begin.ensures.taken c.in-Ok.ended (rw c.in-Ok.is at c.run_by.ensures)

pub returns-in-Err-clause-outputs : goal.returns-in-Err-clause-outputs
returns-in-Err-clause-outputs c =
    let start = c.first_registers.ensures ∙ ap (λ (x : Cpu). first_registers x c.args.inputs) c.cpu.ensures in
    whole_counted c.args.launched c.begin.new.session c.run_by.new.session c.args.inputs c.limits_in-limits.result.budget c.limits_in-limits.result.job c.first_registers.result c.args.nonce.now c.args.dma.now c.begin.new.dma c.run_by.new.dma c.begin.new.taken c.run_by.new.outputs
    c.begin.ensures.session c.begin.ensures.writes c.limits_in-limits.ensures.job c.limits_in-limits.ensures.budget start c.begin.ensures.taken _ c.run_by.array_long c.run_by.ensures

pub returns-in-Ok-clause-outputs : goal.returns-in-Ok-clause-outputs
returns-in-Ok-clause-outputs c =
    let start = c.first_registers.ensures ∙ ap (λ (x : Cpu). first_registers x c.args.inputs) c.cpu.ensures in
    whole_counted c.args.launched c.begin.new.session c.run_by.new.session c.args.inputs c.limits_in-limits.result.budget c.limits_in-limits.result.job c.first_registers.result c.args.nonce.now c.args.dma.now c.begin.new.dma c.run_by.new.dma c.begin.new.taken c.run_by.new.outputs
    c.begin.ensures.session c.begin.ensures.writes c.limits_in-limits.ensures.job c.limits_in-limits.ensures.budget start c.begin.ensures.taken _ c.run_by.array_long c.run_by.ensures

pub returns-in-Ok-clause-resume : goal.returns-in-Ok-clause-resume
returns-in-Ok-clause-resume c =
    resumes_host c.args.inputs c.args.nonce.now c.args.dma.now _ c.args.launched (returns-in-Ok-clause-answer c) (returns-in-Ok-clause-outputs c)
