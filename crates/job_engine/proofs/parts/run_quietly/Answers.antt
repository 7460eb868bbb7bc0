use Rattle.std.proofs.Common.{refl}
use Rattle.job_engine.proofs.Sessions.{session_so}
use Rattle.job_engine.proofs.parts.run_quietly.Goals as goal

pub returns : goal.returns
returns c =
    session_so c.args.board c.args.image.now c.args.inputs.now _ _ c.session.new.dma c.session.new.out c.board_law.ensures c.requires.image c.requires.short refl c.new-dma.ensures c.session.result
    c.session.ensures.answer c.session.ensures.beside c.session.ensures.memory
