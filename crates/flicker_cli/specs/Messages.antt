-- What is put on err, and with which status, for each way that a call can end.
use Rattle.std.specs.Prelude.{ℕ, List, [], ◌++◌, codes, decimal}
use Rattle.flk_base.specs.declared.run_end.RunEnd.{RunEnd}
use Rattle.flk_base.specs.declared.run_end.RunEnd.TheVariants.{Done, Bad, ReadFault, Cut, NoMemory}
use Rattle.flk_base.specs.declared.streams.PutFault.TheVariants as put
use Rattle.script_text.specs.declared.line.BadLine.{BadLine}
use Rattle.script_text.specs.declared.line.BadLine.TheVariants.{TooMany, Faulty}
use Rattle.script_text.specs.declared.line.LineFault.TheVariants as line
use Rattle.pal_asm.specs.declared.fault.AsmKind.{AsmKind}
use Rattle.pal_asm.specs.declared.fault.AsmKind.TheVariants as asm
use Rattle.slb_image.specs.Faults.{fault_number}
use Rattle.flk_filters.specs.declared.fault.BadInput.{BadInput}
use Rattle.flk_filters.specs.declared.fault.BadInput.TheVariants as input
use Rattle.flicker_cli.specs.declared.fault.Fault.{Fault}
use Rattle.flicker_cli.specs.declared.fault.Fault.TheVariants.{Words, Script, Input}

-- why a line of a script is bad, in words
abbrev pub bad_text : BadLine → List ℕ
bad_text (Faulty line.LongLine) = codes "long line"
bad_text (Faulty line.Byte) = codes "bad byte"
bad_text (Faulty line.Command) = codes "unknown command"
bad_text (Faulty line.Count) = codes "word count"
bad_text (Faulty line.Number) = codes "bad number"
bad_text (Faulty line.Expression) = codes "bad expression"
bad_text (Faulty line.Name) = codes "bad name"
bad_text TooMany = codes "too many lines"

-- why a line of an assembler text is bad, in words
abbrev pub asm_text : AsmKind → List ℕ
asm_text asm.Word = codes "unknown word"
asm_text asm.Operand = codes "bad operand"
asm_text asm.Range = codes "out of range"
asm_text asm.Label = codes "unknown label"
asm_text asm.Twice = codes "label twice"
asm_text asm.TooLong = codes "code too long"

-- the message on line n
abbrev pub line_message : ℕ → List ℕ → List ℕ
line_message n text = codes "flicker: line " ++ decimal n ++ codes ": " ++ text ++ codes "\n"

-- the message on an input that is not of its filter's form; on a line of `verify` whose quote is another there is none
abbrev pub input_message : BadInput → List ℕ
input_message input.TooLong = codes "flicker: input too long\n"
input_message input.Hex = codes "flicker: bad hex\n"
input_message (input.Assembly fault) = line_message fault.line (asm_text fault.kind)
input_message (input.NotImage fault) = codes "flicker: not an image: " ++ decimal (fault_number fault) ++ codes "\n"
input_message input.VerifyLine = codes "flicker: bad verify line\n"
input_message input.Denied = []

-- the message on what is not of its form; where the words are, it says what they may be
abbrev pub fault_message : Fault → List ℕ
fault_message Words = codes "flicker: usage: flicker run, asm, dis, measure, verify or gen N SEED\n"
fault_message (Script first) = line_message first.line (bad_text first.bad)
fault_message (Input bad) = input_message bad

-- the one message that is tried on err
abbrev pub message_of : RunEnd Fault → List ℕ
message_of Done = []
message_of (Bad fault) = fault_message fault
message_of ReadFault = codes "flicker: read fault\n"
message_of (Cut put.Failed) = codes "flicker: write fault\n"
message_of (Cut put.NoMemory) = codes "flicker: no memory\n"
message_of NoMemory = codes "flicker: no memory\n"

-- the status of an input that is not of its filter's form, and of a line of `verify` whose quote is another
abbrev pub input_status : BadInput → ℕ
input_status input.Denied = 6
input_status other = 1

-- the status of what is not of its form
abbrev pub fault_status : Fault → ℕ
fault_status Words = 2
fault_status (Script first) = 1
fault_status (Input bad) = input_status bad

-- the status where that message is written
abbrev pub status_of : RunEnd Fault → ℕ
status_of Done = 0
status_of (Bad fault) = fault_status fault
status_of ReadFault = 3
status_of (Cut put.Failed) = 4
status_of (Cut put.NoMemory) = 5
status_of NoMemory = 5
