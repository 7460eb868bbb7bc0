-- What the definition `place` computes.
use Rattle.std.proofs.Common.{◌≡◌, ℕ, zero, suc, ◌+◌, ◌%◌, ◌<◌, ◌≤◌, List, [], ◌∷◌, length}
use Rattle.std.proofs.Common.{replicate, refl, ap, ◌∙◌, inl, inr, arith, Bool, true, false, ◌&&◌}
use Rattle.std.proofs.Common.{eqb, Option, Some, None, find, MatchOption}
use Rattle.std.specs.List.{list_all, range_with_len}
use Rattle.std.proofs.lemmas.List.{length-replicate}
use Rattle.std.proofs.lemmas.Bool.{and_parts, and_from, eqb-true, eq-eqb, cases_lt, cases_Bool}
use Rattle.std.proofs.lemmas.Bool.{both_ways, cond-true, cond-false}
use Rattle.region_pool.specs.declared.mark.Mark.{Mark}
use Rattle.region_pool.specs.declared.mark.Mark.TheVariants as mark
use Rattle.region_pool.specs.Marks.{is_free}
use Rattle.region_pool.specs.Spans.{marks_at}
use Rattle.region_pool.specs.Places.{IsPlace, IsLowestPlace, HasNoPlace, is_place, place}
use Rattle.region_pool.proofs.MarkLemmas.{is_free-true}
use Rattle.region_pool.proofs.Search.{within-place}

-- the first number from a on, of so many, that passes a test
record IsFirst (test : ℕ → Bool) (a n first : ℕ) : Type 0 where
  pub passes : test first ≡ true
  pub least : (k : ℕ) → a ≤ k → k < first → test k ≡ false

-- what was found among so many numbers from a on
abbrev IsFound : (ℕ → Bool) → ℕ → ℕ → Option ℕ → Type 0
IsFound test a n found =
    MatchOption found ((k : ℕ) → a ≤ k → k < a + n → test k ≡ false) (IsFirst test a n)

below_or_at : (test : ℕ → Bool) (a k : ℕ) → test a ≡ false → a ≤ k → ((a + 1 ≤ k) → test k ≡ false)
    → test k ≡ false
below_or_at test a k here l rest =
    elim (cases_lt a k) [
      | inl h ↦ rest (omega arith)
      | inr h ↦ (let e : k ≡ a = omega arith in ap test e ∙ here)
    ]

found_later : (test : ℕ → Bool) (a n : ℕ) → test a ≡ false → (found : Option ℕ)
    → IsFound test (a + 1) n found → IsFound test a (suc n) found
found_later test a n here None none =
    λ k l h. below_or_at test a k here l (λ m. none k m (omega arith))
found_later test a n here (Some x) first = record {
  passes = first.passes;
  least = λ k l h. below_or_at test a k here l (λ m. first.least k m h);
}

find-range : (test : ℕ → Bool) (n a : ℕ) → IsFound test a n (find test (range_with_len a n))
find-range test zero a = λ k l h. absurd (omega arith)
find-range test (suc n) a =
    elim (cases_Bool (test a)) [
      | inl yes' ↦ rw (cond-true (test a) (Some a) (find test (range_with_len (a + 1) n)) yes')
          (record { passes = yes'; least = λ k l h. absurd (omega arith) })
      | inr no' ↦ rw (cond-false (test a) (Some a) (find test (range_with_len (a + 1) n)) no')
          (found_later test a n no' (find test (range_with_len (a + 1) n))
          (find-range test n (a + 1)))
    ]

-- the test of a place

all_free : (marks : List Mark) → list_all is_free marks ≡ true
    → marks ≡ replicate (length marks) mark.Free
all_free [] e = refl
all_free (m ∷ marks) e =
    let parts = and_parts (is_free m) (list_all is_free marks) e in
    let first = is_free-true m parts.0 in
    let rest = all_free marks parts.1 in
    cc

list_all-replicate : (n : ℕ) → list_all is_free (replicate n mark.Free) ≡ true
list_all-replicate zero = refl
list_all-replicate (suc n) = list_all-replicate n

is_place-true : (marks : List Mark) (frames align first : ℕ)
    → is_place marks frames align first ≡ true → IsPlace marks frames align first
is_place-true marks frames align first e =
    let found = marks_at marks first frames in
    let parts = and_parts (eqb (first % align) 0 && eqb (length found) frames)
    (list_all is_free found) e in
    let both = and_parts (eqb (first % align) 0) (eqb (length found) frames) parts.0 in
    record {
      aligned = eqb-true (first % align) 0 both.0;
      free = all_free found parts.1
          ∙ ap (λ (n : ℕ). replicate n mark.Free) (eqb-true (length found) frames both.1);
    }

true-is_place : (marks : List Mark) (frames align first : ℕ) → IsPlace marks frames align first
    → is_place marks frames align first ≡ true
true-is_place marks frames align first p =
    let found = marks_at marks first frames in
    and_from (eqb (first % align) 0 && eqb (length found) frames) (list_all is_free found)
    (and_from (eqb (first % align) 0) (eqb (length found) frames)
    (eq-eqb (first % align) 0 p.aligned)
    (eq-eqb (length found) frames (ap (λ (xs : List Mark). length xs) p.free
    ∙ length-replicate frames mark.Free)))
    (ap (λ (xs : List Mark). list_all is_free xs) p.free ∙ list_all-replicate frames)

-- a number that does not pass is no place
no_place : (marks : List Mark) (frames align first : ℕ) → is_place marks frames align first ≡ false
    → IsPlace marks frames align first → ⊥
no_place marks frames align first e p =
    both_ways (is_place marks frames align first) e (true-is_place marks frames align first p)

lowest-from_found : (marks : List Mark) (frames align : ℕ) → 1 ≤ frames → (found : Option ℕ)
    → IsFound (is_place marks frames align) 0 (length marks) found
    → MatchOption found (HasNoPlace marks frames align) (IsLowestPlace marks frames align)
lowest-from_found marks frames align some None none = λ first p.
    no_place marks frames align first
    (none first (omega arith) (omega (arith, within-place marks frames align first some p))) p
lowest-from_found marks frames align some (Some x) first = record {
  place = is_place-true marks frames align x first.passes;
  lowest = λ other p. elim (cases_lt other x) [
    | inl l ↦ absurd (no_place marks frames align other (first.least other (omega arith) l) p)
    | inr l ↦ l
  ];
}

-- `place` is the lowest place, or there is none
pub place-cases : (marks : List Mark) (frames align : ℕ) → 1 ≤ frames
    → MatchOption (place marks frames align) (HasNoPlace marks frames align)
    (IsLowestPlace marks frames align)
unfolding place
place-cases marks frames align some =
    lowest-from_found marks frames align some (place marks frames align)
    (find-range (is_place marks frames align) (length marks) 0)

-- where there is a lowest place, `place` is it
pub place-lowest : (marks : List Mark) (frames align first : ℕ) → 1 ≤ frames
    → IsLowestPlace marks frames align first → place marks frames align ≡ Some first
place-lowest marks frames align first some lowest =
    same (place marks frames align) (place-cases marks frames align some)
  where
    same : (found : Option ℕ)
        → MatchOption found (HasNoPlace marks frames align) (IsLowestPlace marks frames align)
        → found ≡ Some first
    same None none = absurd (none first lowest.place)
    same (Some x) l =
        ap Some (let up = l.lowest first lowest.place in let down = lowest.lowest x l.place in
        omega arith)

-- where there is no place, `place` is none
pub place-none : (marks : List Mark) (frames align : ℕ) → 1 ≤ frames → HasNoPlace marks frames align
    → place marks frames align ≡ None
place-none marks frames align some none =
    same (place marks frames align) (place-cases marks frames align some)
  where
    same : (found : Option ℕ)
        → MatchOption found (HasNoPlace marks frames align) (IsLowestPlace marks frames align)
        → found ≡ None
    same None e = refl
    same (Some x) l = absurd (none x l.place)
