-- The answers to events, and the lines of the transcript.
use Rattle.std.specs.Prelude.{ℕ, ◌+◌, ◌*◌, Bool, true, false, List, [], ◌∷◌, ◌++◌, length, codes, decimal}
use Rattle.hex.specs.Hex.{encode_lower}
use Rattle.expr_text.specs.declared.value.ExprFault.{ExprFault}
use Rattle.expr_text.specs.declared.value.ExprFault.TheVariants as expr
use Rattle.slb_image.specs.Faults.{fault_number}
use Rattle.late_launch.specs.declared.ends.End.{End}
use Rattle.late_launch.specs.declared.ends.End.TheVariants as ends
use Rattle.late_launch.specs.Ends.{fault_number as kind_number, refusal_number}
use Rattle.flk_run.specs.declared.answers.TheConstants.{LINE_ROOM, REGISTER_ROOM, SESSION_ROOM}
use Rattle.flk_run.specs.declared.answers.Refusal.{Refusal}
use Rattle.flk_run.specs.declared.answers.Refusal.TheVariants.{NoRegister, NoValue, NoImage, NoRoom, NoSpan, NoTaken, NoLong, NoBlocked, NoNonce, NoInput, NoPlace, NoSeeded, NoSeed, NoBlob, NoChain, NoCounter, NoEnd, NoSlot, NoDisk, PowerLost}

-- how a session ended: after how many turns, how many device writes were done, were blocked and are
-- left, and its outputs
pub record SessionOver : Type 0 where
  pub end : End
  pub turns : ℕ
  pub writes_done : ℕ
  pub writes_blocked : ℕ
  pub writes_left : ℕ
  pub outputs : List ℕ

-- an answer: none, that it was done, with a number, with bytes, with the registers of the processor,
-- how a session ended, yes or no, or why it was not done
pub data Answer : Type 0 where
  Quiet : Answer
  Done : Answer
  Counts : (n : ℕ) → Answer
  Shows : (bytes : List ℕ) → Answer
  Registers : (values : List ℕ) → Answer
  Ended : (over : SessionOver) → Answer
  Says : (told : Bool) → Answer
  Refused : (why : Refusal) → Answer

-- what is wrong with an expression, in words
abbrev pub fault_text : ExprFault → List ℕ
fault_text expr.Name = codes "no name"
fault_text expr.Range = codes "no range"
fault_text expr.Long = codes "no long"

-- a refusal in words
abbrev pub refusal_text : Refusal → List ℕ
refusal_text NoRegister = codes "no register"
refusal_text (NoValue fault) = fault_text fault
refusal_text (NoImage fault) = codes "no image " ++ decimal (fault_number fault)
refusal_text NoRoom = codes "no room"
refusal_text NoSpan = codes "no span"
refusal_text NoTaken = codes "no taken"
refusal_text NoLong = codes "no long"
refusal_text NoBlocked = codes "no blocked"
refusal_text NoNonce = codes "no nonce"
refusal_text NoInput = codes "no input"
refusal_text NoPlace = codes "no place"
refusal_text NoSeeded = codes "no seeded"
refusal_text NoSeed = codes "no seed"
refusal_text NoBlob = codes "no blob"
refusal_text NoChain = codes "no chain"
refusal_text NoCounter = codes "no counter"
refusal_text NoEnd = codes "no end"
refusal_text NoSlot = codes "no slot"
refusal_text NoDisk = codes "no disk"
refusal_text PowerLost = codes "power lost"

-- numbers, each after a space
abbrev pub spaced : List ℕ → List ℕ
spaced [] = []
spaced (n ∷ ns) = codes " " ++ decimal n ++ spaced ns

-- how a session ended, in words
abbrev pub end_text : End → List ℕ
end_text (ends.Done n) = codes "done"
end_text (ends.Fault kind) = codes "fault " ++ decimal (kind_number kind)
end_text ends.Budget = codes "budget"
end_text (ends.Refused why) = codes "refused " ++ decimal (refusal_number why)

-- what was done in a session, in words: turns, and device writes by how they ended
abbrev pub counts_text : (turns done blocked left : ℕ) → List ℕ
counts_text turns done blocked left =
    codes " turns " ++ decimal turns
    ++ codes " dma " ++ decimal done ++ codes " " ++ decimal blocked ++ codes " " ++ decimal left

-- the session that is over, in words
abbrev pub over_text : SessionOver → List ℕ
over_text over =
    codes "ok " ++ end_text over.end
    ++ counts_text over.turns over.writes_done over.writes_blocked over.writes_left
    ++ codes " x:" ++ encode_lower over.outputs

-- yes or no, in words
abbrev pub verdict_text : Bool → List ℕ
verdict_text true = codes "yes"
verdict_text false = codes "no"

-- line n of the transcript: its number, a space, the text, LF
abbrev pub numbered_line : ℕ → List ℕ → List ℕ
numbered_line n text = decimal n ++ codes " " ++ text ++ codes "\n"

-- the answer as line n of the transcript
abbrev pub line_of : ℕ → Answer → List ℕ
line_of n Quiet = []
line_of n Done = numbered_line n (codes "ok")
line_of n (Counts m) = numbered_line n (codes "ok " ++ decimal m)
line_of n (Shows bytes) = numbered_line n (codes "ok x:" ++ encode_lower bytes)
line_of n (Registers values) = numbered_line n (codes "ok" ++ spaced values)
line_of n (Ended over) = numbered_line n (over_text over)
line_of n (Says told) = numbered_line n (codes "ok " ++ verdict_text told)
line_of n (Refused why) = numbered_line n (refusal_text why)

-- the room that is made for the line of an answer
abbrev pub room_of : Answer → ℕ
room_of Quiet = 0
room_of (Shows bytes) = LINE_ROOM + 2 * length bytes
room_of (Registers values) = REGISTER_ROOM
room_of (Ended over) = SESSION_ROOM
room_of other = LINE_ROOM
