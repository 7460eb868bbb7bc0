use Rattle.std.proofs.Common.{sym, subst, refl, arith, inl, inr, Result}
use Rattle.region_pool.specs.Places.{place}
use Rattle.region_pool.proofs.PlaceLemmas.{place-cases}
use Rattle.late_launch.specs.Boards.{BoardParts, DarkParts}
use Rattle.session_driver.specs.declared.driver.SessionEnd.{SessionEnd}
use Rattle.std.proofs.lemmas.Bool.{cases_Bool}
use Rattle.session_driver.specs.Answers.{is_out_of_memory}
use Rattle.session_driver.specs.Resume.{HostFinds}
use Rattle.session_driver.proofs.Resuming.{finds}
use Rattle.session_driver.proofs.driver.session.Goals as goal

pub returns-clause-resume : goal.returns-clause-resume
returns-clause-resume c =
    let board = c.args.board in
    let marks = board.memory.marks in
    let answered = c.run.ensures in
    elim (cases_Bool (is_out_of_memory c.run.result)) [
      | inl wants ↦
          let w = answered.memory wants in
          subst (λ (r : Result (BoardParts × SessionEnd) DarkParts). HostFinds board c.args.dma.now r c.run.new.dma) (sym w.answer)
          (refl, w.leaves.armed)
      | inr not ↦
          subst (λ (r : Result (BoardParts × SessionEnd) DarkParts). HostFinds board c.args.dma.now r c.run.new.dma) (sym (answered.answer not))
          (finds board c.args.image.now c.args.inputs.now c.args.nonce.now c.args.dma.now c.run.new.dma c.run.new.out c.board_law.ensures (omega arith)
          (place marks 18 16) refl (place-cases marks 18 16 (omega arith)) (answered.beside not))
    ]
