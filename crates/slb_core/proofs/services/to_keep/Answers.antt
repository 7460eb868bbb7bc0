use Rattle.std.proofs.Common.{◌≡◌, ℕ, List, ◌∙◌, refl, ap, sym, length, take, length-take, arith}
use Rattle.std.proofs.lemmas.Bool.{lt-leb, le-leb}
use Rattle.i386_profile.specs.declared.operands.Reg.TheVariants.{Ebx, Edx}
use Rattle.i386_profile.specs.Flags.{get}
use Rattle.machine_memory.specs.Writes.{part}
use Rattle.slb_core.specs.Services.{outputs_offset}
use Rattle.slb_core.proofs.JobLemmas.{part_long, front_read, ends_many, ends_long, ends_keeping}
use Rattle.slb_core.proofs.services.to_keep.Goals as goal

pub returns-then-count-gt-LONGEST_JOB_OUTPUTS : goal.returns-then-count-gt-LONGEST_JOB_OUTPUTS
returns-then-count-gt-LONGEST_JOB_OUTPUTS c =
    rw c.fault.ensures
    (ends_many c.args.session.now c.args.session.now c.args.cpu.now c.args.outputs.now refl
    (lt-leb (get c.args.cpu.now Ebx) 1024 c.if-count-gt-LONGEST_JOB_OUTPUTS.true))

pub returns-then-kept-gt-LONGEST_SEALED : goal.returns-then-kept-gt-LONGEST_SEALED
returns-then-kept-gt-LONGEST_SEALED c =
    rw c.fault-then-kept-gt-LONGEST_SEALED.ensures
    (ends_long c.args.session.now c.args.session.now c.args.cpu.now c.args.outputs.now refl
    (le-leb (get c.args.cpu.now Ebx) 1024 c.if-count-gt-LONGEST_JOB_OUTPUTS.false)
    (lt-leb (get c.args.cpu.now Edx) 2048 c.if-kept-gt-LONGEST_SEALED.true))

pub returns : goal.returns
returns c =
    let few = c.if-count-gt-LONGEST_JOB_OUTPUTS.false in
    let long : length (part c.args.session.now.region outputs_offset (get c.args.cpu.now Ebx)) ≡ get c.args.cpu.now Ebx =
    part_long c.args.session.now.region outputs_offset (get c.args.cpu.now Ebx) (omega (arith, c.read_span.ensures.size)) in
    let read : c.read_span.new.out ≡ part c.args.session.now.region outputs_offset (get c.args.cpu.now Ebx) =
    c.read_span.ensures.read
    ∙ ap (λ (n : ℕ). part c.args.session.now.region outputs_offset n)
    (let count : length (take (get c.args.cpu.now Ebx) c.args.outputs.now) ≡ get c.args.cpu.now Ebx =
    omega (arith, few, c.told-outputs, length-take (get c.args.cpu.now Ebx) c.args.outputs.now) in count) in
    ends_keeping c.args.session.now c.read_span.new.session c.args.cpu.now _ c.read_span.ensures.session
    (le-leb (get c.args.cpu.now Ebx) 1024 few)
    (le-leb (get c.args.cpu.now Edx) 2048 c.if-kept-gt-LONGEST_SEALED.false)
    c.read_span.ensures.size
    (sym read ∙ sym (front_read c.read_span.new.out _ (get c.args.cpu.now Ebx) (ap (λ (xs : List ℕ). length xs) read ∙ long)))
