-- Loads and stores on the bytes of a segment.
use Rattle.std.specs.Prelude.{◌≡◌, ℕ, ◌+◌, List, ◌++◌, length, take, drop, Bool, Result, Ok, Err, if◌then◌else◌, nat_lt, slice_index, slice_set, IsOk}
use Rattle.std.specs.Int.{w32, from_le_bytes, to_le_bytes}
use Rattle.i386_profile.specs.declared.segment.Outside.{Outside}

-- the one value of its type
abbrev pub outside : Outside
outside = record {}

-- An access of this width lies outside exactly where its offset plus its width passes the length.
abbrev pub is_outside : ℕ → ℕ → List ℕ → Bool
is_outside width at bytes = nat_lt (length bytes) (at + width)

-- the byte at an offset
abbrev pub load8 : ℕ → List ℕ → Result ℕ Outside
load8 at bytes = if is_outside 1 at bytes then Err outside else Ok (slice_index bytes at)

-- the doubleword at an offset, little-endian
abbrev pub load32 : ℕ → List ℕ → Result ℕ Outside
load32 at bytes =
    if is_outside 4 at bytes then Err outside else Ok (from_le_bytes w32 (take 4 (drop at bytes)))

-- the bytes after a byte is stored
abbrev pub store8 : ℕ → ℕ → List ℕ → Result (List ℕ) Outside
store8 at value bytes = if is_outside 1 at bytes then Err outside else Ok (slice_set bytes at value)

-- the bytes after a doubleword is stored
abbrev pub store32 : ℕ → ℕ → List ℕ → Result (List ℕ) Outside
store32 at value bytes =
    if is_outside 4 at bytes then Err outside else Ok
    (take at bytes ++ to_le_bytes w32 value ++ drop (at + 4) bytes)

-- The call ended with the value made, or it is outside and left the old one.
abbrev pub EndsAs : {X U : Type 0} → Result X Outside → Result U Outside → X → X → Type 0
EndsAs (Ok made) result old new = IsOk result × (new ≡ made)
EndsAs (Err e) result old new = (result ≡ Err e) × (new ≡ old)

-- The call makes f of the old value, or it is outside and changes nothing.
abbrev pub Makes : {X U : Type 0} → (X → Result X Outside) → Result U Outside → X → X → Type 0
Makes f result old new = EndsAs (f old) result old new
