-- What contracts see of `Bytes`.
use Rattle.std.specs.Prelude.{ℕ, List, refl}
use Rattle.std.specs.Coded.{Coded, code_by, coded×, coded_list, coded_ℕ}

-- the bytes, and how many more may be put without an allocation
pub record Buffer : Type 0 where
  pub bytes : List ℕ
  pub spare : ℕ

-- a buffer as a pair
abbrev pub buffer_code : Coded Buffer
buffer_code =
    code_by (List ℕ × ℕ) (coded× (coded_list coded_ℕ) coded_ℕ) (λ b. (b.bytes, b.spare))
    (λ p. record { bytes = p.0; spare = p.1 }) (λ _. refl)
