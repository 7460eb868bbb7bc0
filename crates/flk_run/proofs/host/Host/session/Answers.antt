use Rattle.std.proofs.Common.{◌≡◌, ap, sym, subst, ◌∙◌, false}
use Rattle.std.specs.Prelude.{Result, IfOk, IsErr}
use Rattle.std.proofs.lemmas.Bool.{false≢true}
use Rattle.flk_base.specs.declared.buffer.NoMemory.{NoMemory}
use Rattle.late_launch.specs.Boards.{BoardParts, DarkParts}
use Rattle.machine_memory.specs.HostMemory.{is_untaken}
use Rattle.session_driver.specs.Answers.{course, is_out_of_memory}
use Rattle.session_driver.specs.declared.driver.SessionEnd.{SessionEnd}
use Rattle.flk_run.specs.declared.answers.Answer.{Answer as HeldAnswer}
use Rattle.flk_run.specs.Seen.{seen_answer}
use Rattle.flk_run.specs.Sessions.{answer_to_end}
use Rattle.flk_run.proofs.SessionLemmas.{stepped, session_steps, has_memory, where_answered, KeepsSpans, answer_keeps, host_powered}
use Rattle.flk_run.proofs.host.Host.session.Goals as goal

pub returns-in-Ok-clause-steps : goal.returns-in-Ok-clause-steps
returns-in-Ok-clause-steps c = where_answered c.session_answer-answer.result _ (λ answer is.
    let end = c.in-Ok.end in
    let made : seen_answer answer ≡ answer_to_end end c.session.new.dma c.session.new.out =
    subst (λ (r : Result HeldAnswer NoMemory).
    IfOk r (λ answer. seen_answer answer ≡ answer_to_end end c.session.new.dma c.session.new.out)) is
    c.session_answer-answer.ensures.answer in
    let has : is_out_of_memory c.session.result ≡ false = ap is_out_of_memory c.in-Ok.is
    ∙ has_memory c.in-Ok.board end (λ out. false≢true (subst (λ (r : Result HeldAnswer NoMemory). IsErr r) is
    (c.session_answer-answer.ensures.memory.1 out))) in
    rw (← c.self.view_is) (λ untaken variables.
    rw (c.session_answer-answer.ensures.armed, made)
    (ap (λ (r : Result (BoardParts × SessionEnd) DarkParts). stepped c.self.inside.board c.self.inside.tickets.items c.args.image.now c.args.inputs.now c.args.nonce.now c.self.inside.armed
    (c.self.invariant.all untaken) c.self.inside.disk variables r c.session.new.dma c.session.new.out) (sym c.in-Ok.is)
    ∙ session_steps c.self.inside.board c.self.inside.tickets.items c.args.image.now c.args.inputs.now c.args.nonce.now c.self.inside.armed
    (c.self.invariant.all untaken) c.self.inside.disk variables c.session.result c.session.new.dma c.session.new.out (c.session.ensures.answer has) (c.session.ensures.beside has))))

-- the host holds its spans once the power came back
pub come_back-host-requires : goal.come_back-host-requires
come_back-host-requires c =
    let board = c.self.inside.board in
    let has : is_out_of_memory c.session.result ≡ false = ap is_out_of_memory c.in-Err.is in
    let keeps : KeepsSpans board c.session.result =
    subst (λ (r : Result (BoardParts × SessionEnd) DarkParts). KeepsSpans board r) (sym (c.session.ensures.answer has))
    (answer_keeps board c.args.image.now c.args.inputs.now c.args.nonce.now c.self.inside.armed (course board.memory.marks c.args.image.now c.args.inputs.now)) in
    host_powered (is_untaken c.self.inside.found.value) board c.in-Err.dark c.self.inside.tickets.items c.self.invariant
    (subst (λ (r : Result (BoardParts × SessionEnd) DarkParts). KeepsSpans board r) c.in-Err.is keeps)

pub returns-in-Err-clause-steps : goal.returns-in-Err-clause-steps
returns-in-Err-clause-steps c =
    let has : is_out_of_memory c.session.result ≡ false = ap is_out_of_memory c.in-Err.is in
    rw (← c.self.view_is) (λ untaken variables.
    rw c.come_back-host.ensures
    (ap (λ (r : Result (BoardParts × SessionEnd) DarkParts). stepped c.self.inside.board c.self.inside.tickets.items c.args.image.now c.args.inputs.now c.args.nonce.now c.self.inside.armed
    (c.self.invariant.all untaken) c.self.inside.disk variables r c.session.new.dma c.session.new.out) (sym c.in-Err.is)
    ∙ session_steps c.self.inside.board c.self.inside.tickets.items c.args.image.now c.args.inputs.now c.args.nonce.now c.self.inside.armed
    (c.self.invariant.all untaken) c.self.inside.disk variables c.session.result c.session.new.dma c.session.new.out (c.session.ensures.answer has) (c.session.ensures.beside has)))
