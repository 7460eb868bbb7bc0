-- How far a run of a script came: what was taken, what was done, and what was written, on a
-- platform where it is known.
use Rattle.std.specs.Prelude.{◌≡◌, ◌≢◌, ◌⊎◌, ℕ, ◌+◌, ◌-◌, ◌≤◌, Bool, true, false, List, [], ◌∷◌, ◌++◌, length, Option, Some, None, Ok}
use Rattle.std.proofs.Common.{inl, inr}
use Rattle.std.specs.Option.{IfSome, option_map}
use Rattle.std.specs.Io.KnownBytes.{Appends}
use Rattle.flk_base.specs.Known.{AppendsPrefix}
use Rattle.flk_base.specs.Streams.{Intake, Output, Takes, TakenUntilFault, IsSettled}
use Rattle.flk_base.specs.declared.run_end.RunEnd.{RunEnd}
use Rattle.flk_base.specs.declared.run_end.RunEnd.TheVariants.{Done, Bad, ReadFault, Cut, NoMemory}
use Rattle.script_text.specs.Grammar.{Request}
use Rattle.script_text.specs.Lines.{script_lines, after_lines}
use Rattle.script_text.specs.declared.line.TheConstants.{LONGEST_LINE}
use Rattle.script_text.specs.declared.reader.TheConstants.{READ_SIZE}
use Rattle.script_text.specs.Reading.{judged}
use Rattle.script_text.specs.declared.line.BadLine.{BadLine}
use Rattle.script_text.specs.declared.line.BadLine.TheVariants.{Faulty, TooMany}
use Rattle.script_text.specs.declared.line.LineFault.TheVariants as fault
use Rattle.flk_run.specs.declared.run.ScriptFault.{ScriptFault}
use Rattle.seal_device.specs.Rules.{Rules}
use Rattle.flk_run.specs.Platform.{Platform}
use Rattle.flk_run.specs.Events.{transcript_line, transcript, after_all}
use Rattle.flk_run.specs.Script.{good_requests, first_bad, MayRunOut}
use Rattle.flk_run.specs.LineRuns.{NotBegun}

-- how far the bytes go past the end of bad line n; of one that is too long past its first 16,385
-- bytes, of one line too many past the end of the line before it
abbrev pub IsNearLine : ℕ → BadLine → List ℕ → Type 0
IsNearLine n TooMany taken = length (after_lines (n - 1) taken) ≤ READ_SIZE
IsNearLine n (Faulty fault.LongLine) taken =
    length (after_lines (n - 1) taken) ≤ LONGEST_LINE + 1 + READ_SIZE
IsNearLine n (Faulty other) taken = length (after_lines n taken) ≤ READ_SIZE

-- the same of the first bad line of a script; where there is none, all is taken
abbrev pub IsNear : Option ScriptFault → List ℕ → Type 0
IsNear None taken = Unit {0}
IsNear (Some first) taken = IsNearLine first.line first.bad taken

-- the first bad line of a script, or none, by the bytes that were taken of it
abbrev pub bad_in : List ℕ → Bool → Option ScriptFault
bad_in taken ended = first_bad 1 (script_lines taken ended)

-- ---- what was done and written

-- the requests are done, and their transcript is written
pub record Written {H M : Type 0} (R : Rules H M) (requests : List Request) (out out' : Option (List ℕ))
    (old new : Option (Platform H M)) : Type 0 where
  pub written : IfSome old (λ p. Appends out out' (transcript R 1 requests p))
  pub at : new ≡ option_map (after_all R requests) old

-- these requests are done and written, and that of line n is done, of whose transcript line, which
-- has bytes, not all is written
pub record LineCut {H M : Type 0} (R : Rules H M) (n : ℕ) (before : List Request) (request : Request)
    (out out' : Option (List ℕ)) (old new : Option (Platform H M)) : Type 0 where
  pub some : IfSome old (λ p. transcript_line R n request (after_all R before p) ≢ [])
  pub written : IfSome old (λ p. AppendsPrefix out out' (transcript R 1 before p)
      (transcript_line R n request (after_all R before p)))
  pub at : new ≡ option_map (after_all R (before ++ request ∷ [])) old

-- ---- how a run ended

-- the first lines of what was taken are good, and this one comes next, up to whose end the source
-- was read, and at most by one read further
pub record Reached (source source' : Option (List ℕ)) : Type 0 where
  pub taken : List ℕ
  pub ended : Bool
  pub takes : Takes source source' taken ended
  pub first : List (List ℕ)
  pub next : List ℕ
  pub later : List (List ℕ)
  pub lines : script_lines taken ended ≡ first ++ next ∷ later
  pub good : first_bad 1 first ≡ None
  pub near : length (after_lines (length first + 1) taken) ≤ READ_SIZE

module _ {H M : Type 0} (R : Rules H M) (source source' out out' : Option (List ℕ))
    (old new : Option (Platform H M)) where
  -- the lines before the first bad one are done and written, and it is the first whatever follows;
  -- all of the source was read where there is none
  pub record AllDone (bad : Option ScriptFault) : Type 0 where
    pub taken : List ℕ
    pub ended : Bool
    pub takes : Takes source source' taken ended
    pub judged : IsSettled bad_in taken ended bad
    pub read : bad ≡ None → ended ≡ true
    pub done : Written R (good_requests 1 (script_lines taken ended)) out out' old new
    pub near : IsNear bad taken

  -- the whole lines that were taken before a read failed are good, done and written
  pub record ReadShort : Type 0 where
    pub taken : List ℕ
    pub consumed : TakenUntilFault source source' taken
    pub good : bad_in taken false ≡ None
    pub done : Written R (good_requests 1 (script_lines taken false)) out out' old new

  -- the next line was done too, but its transcript line is not whole
  pub record CutShort : Type 0 where
    pub reached : Reached source source'
    pub request : Request
    pub asks : judged (length reached.first + 1) reached.next ≡ Ok request
    pub cut : LineCut R (length reached.first + 1)
        (good_requests 1 reached.first) request out out' old new

  -- memory ran out before the next line was begun, which may want some
  pub record Paused : Type 0 where
    pub reached : Reached source source'
    pub may : MayRunOut reached.next (judged (length reached.first + 1) reached.next)
    pub done : Written R (good_requests 1 reached.first) out out' old new

-- what a run that ended so took, did and wrote; memory may also run out before anything is asked of
-- the source
abbrev pub Ran : {H M : Type 0} → Rules H M → RunEnd ScriptFault → Intake → Output → Option (Platform H M)
    → Option (Platform H M) → Type 0
Ran R Done s o old new = AllDone R s.old.left s.new.left o.old.contents o.new.contents old new None
Ran R (Bad first) s o old new =
    AllDone R s.old.left s.new.left o.old.contents o.new.contents old new (Some first)
Ran R ReadFault s o old new =
    ReadShort R s.old.left s.new.left o.old.contents o.new.contents old new
Ran R (Cut fault) s o old new =
    CutShort R s.old.left s.new.left o.old.contents o.new.contents old new
Ran R NoMemory s o old new =
    (s.IsUntouched × NotBegun o.old.contents o.new.contents old new)
    ⊎ Paused R s.old.left s.new.left o.old.contents o.new.contents old new

-- the requests that a run did
abbrev pub requests_done : {H M : Type 0} (R : Rules H M) (end : RunEnd ScriptFault) (s : Intake) (o : Output)
    (old new : Option (Platform H M)) → Ran R end s o old new → List Request
requests_done R Done s o old new ran = good_requests 1 (script_lines ran.taken ran.ended)
requests_done R (Bad first) s o old new ran = good_requests 1 (script_lines ran.taken ran.ended)
requests_done R ReadFault s o old new ran = good_requests 1 (script_lines ran.taken false)
requests_done R (Cut fault) s o old new ran = good_requests 1 ran.reached.first ++ ran.request ∷ []
requests_done R NoMemory s o old new (inl nothing) = []
requests_done R NoMemory s o old new (inr paused) = good_requests 1 paused.reached.first
