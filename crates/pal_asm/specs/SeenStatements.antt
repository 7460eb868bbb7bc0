-- How clauses see the statements that the code holds.
use Rattle.std.specs.Prelude.{ℕ, ◌<◌, List, [], ◌∷◌, length, Option, Some, None, option_map, ℤ, if◌then◌else◌}
use Rattle.std.specs.Borrow.{Bor}
use Rattle.std.specs.List.{slice_split}
use Rattle.pal_asm.specs.declared.names.Mnemonic.{Mnemonic}
use Rattle.pal_asm.specs.declared.names.Mnemonic.TheVariants as m
use Rattle.pal_asm.specs.declared.operand.Operand.{Operand}
use Rattle.pal_asm.specs.declared.operand.Operand.TheVariants.{Number}
use Rattle.pal_asm.specs.declared.statement.Statement.{Statement as Held}
use Rattle.pal_asm.specs.declared.statement.Statement.TheVariants as held
use Rattle.pal_asm.specs.declared.statement.ByteNumber.{ByteNumber}
use Rattle.pal_asm.specs.declared.statement.ByteNumber.TheVariants.{Within, Outside}
use Rattle.pal_asm.specs.declared.statement.Operands.{Operands as HeldOperands}
use Rattle.pal_asm.specs.declared.statement.Operands.TheVariants.{Nothing, One, Two}
use Rattle.pal_asm.specs.Tokens.{Token, tokens, is_comma}
use Rattle.pal_asm.specs.Numbers.{low8}
use Rattle.pal_asm.specs.Operands.{is_within}
use Rattle.pal_asm.specs.Statements.{Statement, Whole, LoadLabel, PushLabel, Jump, Bytes, Long, Zeros, least_number, most_number}

-- the tokens between commas
abbrev pub pieces : List ℕ → List (List Token)
pieces text = slice_split is_comma (tokens text)

-- there are no operands, or more than so many
abbrev pub AreMore : ℕ → Option (List Operand) → Type 0
AreMore n None = Unit {0}
AreMore n (Some os) = n < length os

-- a number of .byte: its low byte, where it is in range
abbrev pub number_byte : ℤ → ByteNumber
number_byte z =
    if is_within (least_number m.Byte) (most_number m.Byte) z then Within (low8 z) else Outside

-- that of an operand, which must be a number
abbrev pub operand_byte : Operand → Option ByteNumber
operand_byte (Number z) = Some (number_byte z)
operand_byte _ = None

-- the statement, with bytes as a list
abbrev pub statement_view : Held → Statement
statement_view (held.Whole ins) = Whole ins
statement_view (held.LoadLabel r name) = LoadLabel r name
statement_view (held.PushLabel name) = PushLabel name
statement_view (held.Jump b t) = Jump b t
statement_view (held.Bytes bytes) = Bytes bytes.bytes
statement_view (held.Long n) = Long n
statement_view (held.Zeros n) = Zeros n

-- the operands as a list
abbrev pub operand_list : HeldOperands → List Operand
operand_list Nothing = []
operand_list (One a) = a ∷ []
operand_list (Two a b) = a ∷ b ∷ []

-- a word and the tokens after it
abbrev pub word_view : Option (Mnemonic × Bor (List ℕ)) → Option (Mnemonic × List Token)
word_view word = option_map (λ w. (w.0, tokens w.1.now)) word
