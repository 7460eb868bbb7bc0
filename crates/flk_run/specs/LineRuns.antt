-- How one line of a script ended, on the platform by digests where it is known.
use Rattle.std.specs.Prelude.{◌≡◌, ◌≢◌, ℕ, List, [], Option, Result, Ok, Err}
use Rattle.std.specs.Option.{IfSome, option_map}
use Rattle.std.specs.Io.KnownBytes.{Appends}
use Rattle.flk_base.specs.Known.{AppendsPrefix}
use Rattle.flk_base.specs.declared.run_end.RunEnd.{RunEnd}
use Rattle.flk_base.specs.declared.run_end.RunEnd.TheVariants.{Done, Bad, Cut, NoMemory}
use Rattle.script_text.specs.Grammar.{Request}
use Rattle.script_text.specs.declared.line.BadLine.{BadLine}
use Rattle.flk_run.specs.declared.run.ScriptFault.{ScriptFault}
use Rattle.seal_device.specs.Digests.{digests}
use Rattle.flk_run.specs.Platform.{Platform, DigestPlatform}
use Rattle.flk_run.specs.Events.{after, transcript_line}
use Rattle.flk_run.specs.Script.{MayRunOut}

-- the request of line n was done, and its transcript line is written
pub record EventDone (n : ℕ) (request : Request) (out out' : Option (List ℕ))
    (old new : Option DigestPlatform) : Type 0 where
  pub written : IfSome old (λ p. Appends out out' (transcript_line digests n request p))
  pub at : new ≡ option_map (after digests request) old

-- it was done, and of its transcript line, which has bytes, not all is written
pub record EventCut (n : ℕ) (request : Request) (out out' : Option (List ℕ))
    (old new : Option DigestPlatform) : Type 0 where
  pub some : IfSome old (λ p. transcript_line digests n request p ≢ [])
  pub written : IfSome old (λ p. AppendsPrefix out out' [] (transcript_line digests n request p))
  pub at : new ≡ option_map (after digests request) old

-- nothing was done or written
pub record NotBegun {H M : Type 0} (out out' : Option (List ℕ))
    (old new : Option (Platform H M)) : Type 0 where
  pub unwritten : out' ≡ out
  pub kept : new ≡ old

-- how line n ended, which has this text and was judged so: no line is begun that is bad, or for
-- which memory ran out
abbrev pub LineRan : RunEnd ScriptFault → ℕ → List ℕ → Result Request BadLine → Option (List ℕ)
    → Option (List ℕ) → Option DigestPlatform → Option DigestPlatform → Type 0
LineRan Done n text (Ok request) out out' old new = EventDone n request out out' old new
LineRan (Cut fault) n text (Ok request) out out' old new = EventCut n request out out' old new
LineRan (Bad first) n text (Err bad) out out' old new =
    (first ≡ record { line = n; bad = bad }) × NotBegun out out' old new
LineRan NoMemory n text line out out' old new = MayRunOut text line × NotBegun out out' old new
LineRan other n text line out out' old new = ⊥
