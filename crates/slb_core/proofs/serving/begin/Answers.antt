use Rattle.std.proofs.Common.{◌≡◌, ◌∙◌, ap, sym, ℕ, List, length}
use Rattle.machine_memory.specs.Writes.{part, written}
use Rattle.machine_memory.specs.Contents.{Contents}
use Rattle.late_launch.specs.Regions.{input_page}
use Rattle.late_launch.specs.States.{LaunchedParts}
use Rattle.slb_core.specs.Spans.{around_with}
use Rattle.slb_core.specs.Sessions.{setting_of, first_outside, inputs_in}
use Rattle.slb_core.proofs.PalLemmas.{outside_after}
use Rattle.slb_core.proofs.ServeLemmas.{taken_back}
use Rattle.slb_core.proofs.serving.begin.Goals as goal

pub returns-clause-session : goal.returns-clause-session
returns-clause-session c =
    let session = c.args.session.now in
    let moved : c.device_writes.new.self ≡ record session { around = around_with session (first_outside (setting_of session) c.args.dma.now).bytes } =
    c.device_writes.ensures.session ∙ ap (λ (m : Contents). record session { around = m }) (outside_after session 0 c.args.dma.now) in
    c.read_span.ensures.session ∙ c.take_inputs.ensures.taken
    ∙ ap (λ (s : LaunchedParts). record s { region = written s.region 57344 (part s.around.bytes (input_page s.area) c.args.count) }) moved

pub returns-clause-taken : goal.returns-clause-taken
returns-clause-taken c =
    let session = c.args.session.now in
    let region = session.region in
    let inputs = inputs_in (setting_of session) c.args.count (first_outside (setting_of session) c.args.dma.now) in
    let before : LaunchedParts → List ℕ = λ s. part s.around.bytes (input_page s.area) c.args.count in
    let written_so = outside_after session 0 c.args.dma.now in
    let inputs_are : before c.device_writes.new.self ≡ inputs =
    ap (λ (s : LaunchedParts). before s) c.device_writes.ensures.session
    ∙ ap (λ (m : Contents). part m.bytes (input_page session.area) c.args.count) written_so in
    let long : length inputs ≡ c.args.count = ap (λ (xs : List ℕ). length xs) (sym inputs_are) ∙ c.take_inputs.ensures.whole in
    let region_is : c.take_inputs.new.self.region ≡ written region 57344 inputs =
    ap (λ (s : LaunchedParts). s.region) c.take_inputs.ensures.taken
    ∙ ap (λ (s : LaunchedParts). written s.region 57344 (before c.device_writes.new.self)) c.device_writes.ensures.session
    ∙ ap (λ (xs : List ℕ). written region 57344 xs) inputs_are in
    let whole : length (written region 57344 inputs) ≡ 65536 = ap (λ (xs : List ℕ). length xs) (sym region_is) ∙ c.read_span.ensures.size in
    c.read_span.ensures.read
    ∙ ap (λ (xs : List ℕ). part xs 57344 (length c.args.taken.now)) region_is
    ∙ ap (λ (n : ℕ). part (written region 57344 inputs) 57344 n) c.requires.room
    ∙ taken_back region inputs c.args.count long c.requires.few whole
