-- What contracts see of a table of variables.
use Rattle.std.specs.Prelude.{◌≡◌, ℕ, ◌<◌, List, length, map, None, refl}
use Rattle.std.specs.Ordering.{nat_cmp}
use Rattle.std.specs.Cmp.Lexicographic.{slice_cmp}
use Rattle.std.specs.Coded.{Coded, code_by, coded×, coded_list, coded_ℕ}
use Rattle.std.specs.FinMap as finite
use Rattle.std.specs.Map.{lookup}
use Rattle.std.specs.Str.{bytes_eq}
use Rattle.flk_base.specs.Buffer.{Buffer}
use Rattle.expr_text.specs.declared.name.TheConstants.{LONGEST_NAME}

-- the values of the names that are bound
abbrev pub Table : Type 0
Table = finite.FinMap (slice_cmp nat_cmp) (List ℕ)

-- the table, and how many more names may be bound without allocating
pub record Variables : Type 0 where
  pub table : Table
  pub spare : ℕ

-- variables as a pair
abbrev pub variables_code : Coded Variables
variables_code =
    code_by (Table × ℕ) (coded× (finite.code (coded_list coded_ℕ) (coded_list coded_ℕ)) coded_ℕ)
    (λ v. (v.table, v.spare)) (λ p. record { table = p.0; spare = p.1 }) (λ _. refl)

-- the table that kept entries make
abbrev pub table_of : List (List ℕ × Buffer) → Table
table_of entries = finite.from_entries (map (λ e. (e.0, e.1.bytes)) entries)

-- no name of more than 16 bytes is kept
abbrev pub HasShortNames : List (List ℕ × Buffer) → Type 0
HasShortNames entries =
    (name : List ℕ) → LONGEST_NAME < length name → lookup (bytes_eq name) entries ≡ None
