use Rattle.std.proofs.Common.{◌≡◌, ◌≤◌, ◌∙◌, List, ℕ, length, replicate, take, ap, sym, arith}
use Rattle.std.proofs.lemmas.List.{length-replicate, length-take-le}
use Rattle.machine_memory.specs.Writes.{part, written}
use Rattle.machine_memory.proofs.Pieces.{length-part}
use Rattle.late_launch.specs.Regions.{input_page}
use Rattle.late_launch.proofs.RegionLemmas.{inside_memory, inputs_around}
use Rattle.late_launch.proofs.SessionLemmas.{inputs_taken}
use Rattle.late_launch.proofs.launched.Launched.take_inputs.Goals as goal

pub returns-clause-taken : goal.returns-clause-taken
returns-clause-taken c =
    let memory = c.self.inside.memory in
    let area = c.self.inside.area in
    let inside = inside_memory memory area c.frame_law.ensures c.self.invariant.placed in
    let few : c.args.len ≤ 4096 = c.requires in
    let session = c.args.self.now in
    let long : length session.region ≡ 65536 = ap length (sym c.region.ensures.bytes) ∙ c.region.ensures.size in
    let back : c.write_at.new.bytes ≡ written session.region 57344 c.read_inputs.new.inputs = c.write_at.ensures ∙ ap (λ (xs : List ℕ). written xs 57344 c.read_inputs.new.inputs) c.region.ensures.bytes in
    let whole : length (replicate {A = ℕ} 4096 0) ≡ 4096 = length-replicate {A = ℕ} 4096 0 in
    let asked : length (take c.args.len (replicate {A = ℕ} 4096 0)) ≡ c.args.len = length-take-le c.args.len (replicate {A = ℕ} 4096 0) (omega arith) in
    let read : c.read_inputs.new.inputs ≡ part memory.bytes (input_page area) c.args.len = c.read_inputs.ensures ∙ ap (λ (n : ℕ). part memory.bytes (input_page area) n) asked in
    let count : length c.read_inputs.new.inputs ≤ 4096 = (let fits = inside.bytes in let long = length-part memory.bytes (input_page area) c.args.len (omega arith) in omega (arith, ap (λ (xs : List ℕ). length xs) read)) in
    let around_is : part memory.bytes (input_page area) c.args.len ≡ part session.around.bytes (input_page session.area) c.args.len = rw (← c.self.view_is) (sym (inputs_around memory area c.args.len inside few)) in
    inputs_taken session c.write_at.new.bytes c.read_inputs.new.inputs (part session.around.bytes (input_page session.area) c.args.len) long count back (read ∙ around_is)

pub returns-clause-whole : goal.returns-clause-whole
returns-clause-whole c =
    let memory = c.self.inside.memory in
    let area = c.self.inside.area in
    let inside = inside_memory memory area c.frame_law.ensures c.self.invariant.placed in
    let few : c.args.len ≤ 4096 = c.requires in
    let fits = inside.bytes in
    rw (← c.self.view_is) (ap (λ (xs : List ℕ). length xs) (inputs_around memory area c.args.len inside few) ∙ length-part memory.bytes (input_page area) c.args.len (omega arith))
