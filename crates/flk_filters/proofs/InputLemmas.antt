-- What a filter has taken of its source.
use Rattle.std.proofs.Common.{◌≡◌, ℕ, ◌+◌, ◌≤◌, false, true, List, length, inl, inr, refl, arith}
use Rattle.std.specs.Prelude.{Option}
use Rattle.std.specs.Io.KnownBytes.{Consumes, IsAtEnd}
use Rattle.flk_base.proofs.TakenLemmas.{the_end, says_end, says_all}
use Rattle.flk_filters.specs.Filters.{most_input}
use Rattle.flk_filters.specs.Inputs.{TakesInput}

-- the end was read
pub takes_all : (source source' : Option (List ℕ)) (taken : List ℕ) → Consumes source source' taken
    → IsAtEnd source' → length taken ≤ most_input + 1 → TakesInput source source' taken
takes_all source source' taken consumed end few = record {
  ended = true;
  takes = record { consumed = consumed; end = says_all source' end };
  input = record { whole = inl refl; few = few };
}

-- there is one byte more than an input may have
pub takes_long : (source source' : Option (List ℕ)) (taken : List ℕ) → Consumes source source' taken
    → length taken ≡ most_input + 1 → TakesInput source source' taken
takes_long source source' taken consumed long = record {
  ended = the_end false source';
  takes = record { consumed = consumed; end = says_end false source' (λ seen. absurd (cc)) };
  input = record { whole = inr long; few = omega (arith, long) };
}
