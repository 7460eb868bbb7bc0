-- Why bytes are no image, and why values have none: the first check that fails.
use Rattle.std.specs.Prelude.{ℕ, ◌+◌, Bool, ◌&&◌, ◌||◌, ◌==◌, nat_lt, nat_le, List, [], ◌∷◌, length}
use Rattle.std.specs.Prelude.{replicate, codes, bytes_eq, Option, Some, None, if◌then◌else◌}
use Rattle.std.specs.Int.{is_in_range}
use Rattle.slb_image.specs.Fields.{entry_field, length_field, mark_field, version_field}
use Rattle.slb_image.specs.Fields.{flags_field, budget_field, reserved_field}
use Rattle.slb_image.specs.declared.fault.ImageFault.{ImageFault}
use Rattle.slb_image.specs.declared.fault.ImageFault.TheVariants.{Short, Length, Entry, Mark}
use Rattle.slb_image.specs.declared.fault.ImageFault.TheVariants.{Version, Flags, Budget, Reserved}

-- the fault of the first check that fails
abbrev pub first_failed : List (ImageFault × Bool) → Option ImageFault
first_failed [] = None
first_failed (check ∷ checks) = if check.1 then first_failed checks else Some check.0

-- the checks of an image, in the order of the faults' numbers
abbrev pub image_checks : List ℕ → List (ImageFault × Bool)
image_checks bytes =
    (Short, nat_le 32 (length bytes))
    ∷ (Length, is_in_range 33 49152 (length_field bytes) && length_field bytes == length bytes)
    ∷ (Entry, nat_le 32 (entry_field bytes) && nat_lt (entry_field bytes) (length_field bytes))
    ∷ (Mark, bytes_eq (mark_field bytes) (codes "FLKC"))
    ∷ (Version, version_field bytes == 1)
    ∷ (Flags, flags_field bytes == 0 || flags_field bytes == 1)
    ∷ (Budget, is_in_range 1 1000000 (budget_field bytes))
    ∷ (Reserved, bytes_eq (reserved_field bytes) (replicate 16 0))
    ∷ []

-- the first fault of bytes, if they are no image
unfoldable pub image_fault : List ℕ → Option ImageFault
image_fault bytes = first_failed (image_checks bytes)

-- the checks of what an image is to say, in the same order
abbrev pub build_checks : ℕ → ℕ → List ℕ → List (ImageFault × Bool)
build_checks entry budget code =
    (Length, is_in_range 1 49120 (length code))
    ∷ (Entry, nat_le 32 entry && nat_lt entry (32 + length code))
    ∷ (Budget, is_in_range 1 1000000 budget)
    ∷ []

-- the first fault of values, if they have no image
unfoldable pub build_fault : ℕ → ℕ → List ℕ → Option ImageFault
build_fault entry budget code = first_failed (build_checks entry budget code)

-- the number of a fault, as docs/IMAGES.md lists them
abbrev pub fault_number : ImageFault → ℕ
fault_number Short = 1
fault_number Length = 2
fault_number Entry = 3
fault_number Mark = 4
fault_number Version = 5
fault_number Flags = 6
fault_number Budget = 7
fault_number Reserved = 8
