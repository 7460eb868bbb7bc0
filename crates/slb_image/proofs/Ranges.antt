-- Values have no fault exactly where they are in their ranges.
use Rattle.std.proofs.Common.{◌≡◌, ℕ, ◌+◌, ◌<◌, true, leb, ltb, List, length, None}
use Rattle.std.specs.Prelude.{All}
use Rattle.std.proofs.lemmas.Bool.{and_parts, leb-true, le-leb, ltb-true, lt-ltb}
use Rattle.slb_image.specs.Image.{FitsImage}
use Rattle.slb_image.specs.Faults.{build_fault}
use Rattle.slb_image.proofs.Checked.{passed}

module _ (entry budget : ℕ) (code : List ℕ) where
  -- values without a fault are in their ranges
  pub fits-from_none : All (λ byte. byte < 256) code → build_fault entry budget code ≡ None
      → FitsImage entry budget code
  unfolding build_fault
  fits-from_none each none =
      let length = passed _ _ _ none in
      let entry = passed _ _ _ length.1 in
      let budget = passed _ _ _ entry.1 in
      let lengths = and_parts _ _ length.0 in
      let entries = and_parts _ _ entry.0 in
      let turns = and_parts _ _ budget.0 in
      record {
        code_bytes = each;
        code_length = (leb-true _ _ lengths.0, leb-true _ _ lengths.1);
        entry_inside = (leb-true _ _ entries.0, ltb-true _ _ entries.1);
        budget_range = (leb-true _ _ turns.0, leb-true _ _ turns.1);
      }

  -- values in their ranges have no fault
  pub none-from_fits : FitsImage entry budget code → build_fault entry budget code ≡ None
  unfolding build_fault
  none-from_fits fits =
      let some : leb 1 (length code) ≡ true = le-leb _ _ fits.code_length.0 in
      let short : leb (length code) 49120 ≡ true = le-leb _ _ fits.code_length.1 in
      let after : leb 32 entry ≡ true = le-leb _ _ fits.entry_inside.0 in
      let inside : ltb entry (32 + length code) ≡ true = lt-ltb _ _ fits.entry_inside.1 in
      let turns : leb 1 budget ≡ true = le-leb _ _ fits.budget_range.0 in
      let bounded : leb budget 1000000 ≡ true = le-leb _ _ fits.budget_range.1 in
      simp (some, short, after, inside, turns, bounded)
