use Rattle.std.proofs.Common.{inl, inr, arith}
use Rattle.flk_base.proofs.HexLemmas.{no_digit_refused, refused_cause, cause_of}
use Rattle.flk_base.proofs.hexadecimal.read_hex.Goals as goal

pub returns-in-Ok-clause-digit : goal.returns-in-Ok-clause-digit
returns-in-Ok-clause-digit c bad =
    absurd (no_digit_refused c.args.text.now c.in-Ok.items.items c.in-Ok.ensures.ok bad)

pub returns-in-Err-clause-err : goal.returns-in-Err-clause-err
returns-in-Err-clause-err c =
    cause_of c.args.text.now c.fault_of.result (omega arith)
    (elim c.fault_of.ensures.either [
      | inl memory ↦ inl memory
      | inr digit ↦ elim c.in-Err.ensures.err [
        | inl memory ↦ absurd (digit.1 memory)
        | inr refused ↦ inr
            (digit.0, refused_cause c.args.text.now c.in-Err.error (omega arith) refused)
      ]
    ])
