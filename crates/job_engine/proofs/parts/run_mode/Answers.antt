use Rattle.std.proofs.Common.{arith}
use Rattle.job_engine.proofs.Sessions.{too_long}
use Rattle.job_engine.proofs.parts.run_mode.Goals as goal

pub returns-then-blob-own-gt-PAGE_SIZE : goal.returns-then-blob-own-gt-PAGE_SIZE
returns-then-blob-own-gt-PAGE_SIZE c =
    too_long c.args.image.now (record { mode = c.args.mode; blob = c.args.blob.now; own = c.args.own.now }) c.args.board c.args.out.now
    (omega (arith, c.if-blob-own-gt-PAGE_SIZE.true))
