use Rattle.std.proofs.Common.{◌≡◌, ◌≤◌, true, length}
use Rattle.std.specs.Io.KnownBytes.{IsAtEnd}
use Rattle.script_text.specs.declared.reader.TheConstants.{READ_SIZE}
use Rattle.flk_run.specs.Parts.{platform}
use Rattle.flk_run.proofs.RunLemmas.{Progress}
use Rattle.flk_run.proofs.run.run_lines.Given as goal

-- the lines before this one are good, done and written, the reader is not far ahead, and no fault
-- was counted
abbrev pub invariant-loop-before : goal.invariant-loop-before
invariant-loop-before g l =
    let left = g.S.Source.left in
    let contents = g.K.Sink.contents in
    record {
      far : Progress l.before l.reader (left l.fn.source) (left l.source) (contents l.fn.out)
          (contents l.out) (platform l.fn.runner) (platform l.runner);
      untaken : l.runner.untaken ≡ l.fn.runner.untaken;
      end : l.reader.ended ≡ true → IsAtEnd (left l.source);
      near : length l.reader.bytes ≤ READ_SIZE;
      stays : g.S.Source.fault_count l.source ≡ g.S.Source.fault_count l.fn.source;
      out_stays : g.K.Sink.fault_count l.out ≡ g.K.Sink.fault_count l.fn.out;
    }
