-- A name in its array.
use Rattle.std.proofs.Common.{◌≡◌, ℕ, List, ◌++◌, length, take, drop, refl}
use Rattle.std.proofs.Math.Seq.{take-append_seam}
use Rattle.std.specs.Prelude.{replicate}
use Rattle.std.proofs.lemmas.List.{drop-replicate}
use Rattle.pal_asm.specs.declared.name.Name.TheInside.{Inside}
use Rattle.pal_asm.specs.NameFields.{fields_of}

abbrev copied_over : List ℕ → List ℕ → List ℕ
copied_over word copied = copied ++ drop (length word) (replicate 32 0)

abbrev held_in : List ℕ → List ℕ → Inside
held_in word copied = record { bytes = copied_over word copied; length = length word }

pub held : (word copied : List ℕ) → copied ≡ word
    → fields_of (take (length word) (copied_over word copied)) ≡ held_in word copied
held word copied e = rw (e, take-append_seam, drop-replicate) refl
