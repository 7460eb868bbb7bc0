-- The list of spans for which there are tickets, and how it goes on.
use Rattle.std.proofs.Common.{◌≡◌, ℕ, zero, suc, ◌<◌, ◌≤◌, Bool, true, false, not, eqb, ltb, List, [], ◌∷◌, ◌++◌, length, map, filter, find, get_or, refl, sym, ap, subst, ◌∙◌, inl, inr, arith, Some, None, slice_get}
use Rattle.std.specs.Prelude.{position}
use Rattle.std.specs.List.{AllByRecursion, remove, position_or_len}
use Rattle.std.proofs.lemmas.Bool.{cases_Bool, cases_lt, cond-true, cond-false, false_from_ne_true, eqb-true, lt-ltb}
use Rattle.std.proofs.lemmas.List.Folds.{find_at}
use Rattle.region_pool.specs.declared.mark.Mark.{Mark}
use Rattle.region_pool.specs.Spans.{Span, Holds, IsDisjoint}
use Rattle.machine_memory.specs.Contents.{Contents, first_byte}
use Rattle.machine_memory.specs.Spans.{after_give}
use Rattle.machine_memory.specs.HostMemory.{HostSpan, starts_at}
use Rattle.flk_run.specs.Parts.{as_host, AreApart, HoldsSpans}
use Rattle.flk_run.specs.Taking.{Took, after_give_all}

-- the span of a ticket starts at this address
abbrev pub starts : ℕ → Span → Bool
starts at span = eqb (first_byte span.first) at

-- ---- spans that stay held

-- what holds of all holds of each
pub all_get : (P : Span → Type 0) (spans : List Span) (i : ℕ) (t : Span) → AllByRecursion P spans
    → slice_get spans i ≡ Some t → P t
all_get P [] i t all e = cc
all_get P (s ∷ ss) zero t all e = let same : s ≡ t = cc in subst P same all.0
all_get P (s ∷ ss) (suc i) t all e = all_get P ss i t all.1 e

-- all but one
abbrev Others : (Span → Type 0) → (Span → Type 0) → Span → Type 0
Others P Q t = (other : Span) → P other → (other ≡ t → ⊥) → Q other

not_itself : (marks : List Mark) (s o : Span) → Holds marks s → IsDisjoint s o → o ≡ s → ⊥
not_itself marks s o held apart same = at (subst (λ (x : Span). IsDisjoint s x) same apart)
  where
    at : IsDisjoint s s → ⊥
    at (inl l) = let some = held.some in omega arith
    at (inr l) = let some = held.some in omega arith

other_way : (s o : Span) → IsDisjoint s o → IsDisjoint o s
other_way s o (inl l) = inr l
other_way s o (inr l) = inl l

-- the spans that are apart from one that was given back stay held
others_held : (marks new : List Mark) (t : Span) (spans : List Span) → Holds marks t
    → ((other : Span) → Holds marks other → (other ≡ t → ⊥) → Holds new other)
    → AllByRecursion (Holds marks) spans → AllByRecursion (IsDisjoint t) spans
    → AllByRecursion (Holds new) spans
others_held marks new t [] holds stay held apart = tt
others_held marks new t (s ∷ ss) holds stay held apart = (
  stay s held.0
      (not_itself marks t s holds apart.0),
  others_held marks new t ss holds stay held.1 apart.1,
)

all_removed : (P : Span → Type 0) (spans : List Span) (i : ℕ) → AllByRecursion P spans
    → AllByRecursion P (remove spans i)
all_removed P [] zero all = tt
all_removed P [] (suc i) all = tt
all_removed P (s ∷ ss) zero all = all.1
all_removed P (s ∷ ss) (suc i) all = (all.0, all_removed P ss i all.1)

apart_removed : (spans : List Span) (i : ℕ) → AreApart spans → AreApart (remove spans i)
apart_removed [] zero apart = tt
apart_removed [] (suc i) apart = tt
apart_removed (s ∷ ss) zero apart = apart.1
apart_removed (s ∷ ss) (suc i) apart =
    (all_removed (IsDisjoint s) ss i apart.0, apart_removed ss i apart.1)

held_removed : (marks new : List Mark) (spans : List Span) (i : ℕ) (t : Span)
    → slice_get spans i ≡ Some t
    → ((other : Span) → Holds marks other → (other ≡ t → ⊥) → Holds new other)
    → AllByRecursion (Holds marks) spans → AreApart spans
    → AllByRecursion (Holds new) (remove spans i)
held_removed marks new [] i t e stay held apart = cc
held_removed marks new (s ∷ ss) zero t e stay held apart =
    let same : s ≡ t = cc in
    others_held marks new t ss (subst (λ (x : Span). Holds marks x) same held.0) stay held.1
    (subst (λ (x : Span). AllByRecursion (IsDisjoint x) ss) same apart.0)
held_removed marks new (s ∷ ss) (suc i) t e stay held apart =
    let from : IsDisjoint s t = all_get (IsDisjoint s) ss i t apart.0 e in (
      stay s held.0 (λ same. not_itself marks s t held.0 from (sym same)),
      held_removed marks new ss i t e stay held.1 apart.1,
    )

-- the tickets that are left once one was given back
pub holds_removed : (marks new : List Mark) (spans : List Span) (i : ℕ) (t : Span)
    → slice_get spans i ≡ Some t
    → ((other : Span) → Holds marks other → (other ≡ t → ⊥) → Holds new other)
    → HoldsSpans marks spans → HoldsSpans new (remove spans i)
holds_removed marks new spans i t e stay h =
    record { held = held_removed marks new spans i t e stay h.held h.apart; apart = apart_removed spans i h.apart }

all_more : (P Q : Span → Type 0) (spans : List Span) (t : Span) → ((s : Span) → P s → Q s)
    → AllByRecursion P spans → Q t → AllByRecursion Q (spans ++ t ∷ [])
all_more P Q [] t to all last = (last, tt)
all_more P Q (s ∷ ss) t to all last = (to s all.0, all_more P Q ss t to all.1 last)

apart_more : (marks : List Mark) (spans : List Span) (t : Span)
    → ((other : Span) → Holds marks other → IsDisjoint t other) → AllByRecursion (Holds marks) spans
    → AreApart spans → AreApart (spans ++ t ∷ [])
apart_more marks [] t from held apart = (tt, tt)
apart_more marks (s ∷ ss) t from held apart = (
  all_more (IsDisjoint s) (IsDisjoint s) ss t (λ x h. h) apart.0 (other_way t s (from s held.0)),
  apart_more marks ss t from held.1 apart.1,
)

-- one ticket more
pub holds_more : (frames : ℕ) (old new : Contents) (spans : List Span) (t : Span)
    → Took frames old new t → HoldsSpans old.marks spans → HoldsSpans new.marks (spans ++ t ∷ [])
holds_more frames old new spans t took h = record {
  held = all_more (Holds old.marks) (Holds new.marks) spans t took.others h.held took.held;
  apart = apart_more old.marks spans t took.apart h.held h.apart;
}

-- ---- all given back

all_front : (P : Span → Type 0) (spans : List Span) (t : Span) → AllByRecursion P (spans ++ t ∷ [])
    → AllByRecursion P spans × P t
all_front P [] t all = (tt, all.0)
all_front P (s ∷ ss) t all = let rest = all_front P ss t all.1 in ((all.0, rest.0), rest.1)

apart_front : (spans : List Span) (t : Span) → AreApart (spans ++ t ∷ [])
    → AreApart spans × AllByRecursion (IsDisjoint t) spans
apart_front [] t apart = (tt, tt)
apart_front (s ∷ ss) t apart =
    let here = all_front (IsDisjoint s) ss t apart.0 in
    let rest = apart_front ss t apart.1 in
    ((here.0, rest.0), (other_way s t here.1, rest.1))

-- the last is held
pub holds_last : (marks : List Mark) (spans : List Span) (t : Span)
    → HoldsSpans marks (spans ++ t ∷ []) → Holds marks t
holds_last marks spans t h = (all_front (Holds marks) spans t h.held).1

-- the others stay held once it was given back
pub holds_front : (marks new : List Mark) (spans : List Span) (t : Span)
    → ((other : Span) → Holds marks other → (other ≡ t → ⊥) → Holds new other)
    → HoldsSpans marks (spans ++ t ∷ []) → HoldsSpans new spans
holds_front marks new spans t stay h =
    let held = all_front (Holds marks) spans t h.held in
    let apart = apart_front spans t h.apart in
    record { held = others_held marks new t spans held.1 stay held.0 apart.1; apart = apart.0 }

pub given_last : (memory : Contents) (spans : List Span) (t : Span)
    → after_give_all memory (spans ++ t ∷ []) ≡ after_give_all (after_give memory t) spans
given_last memory [] t = refl
given_last memory (s ∷ ss) t = ap (λ (m : Contents). after_give m s) (given_last memory ss t)

-- ---- the ticket for an address

-- the ticket at an index is that of the first span that starts there
pub record IsFound (spans : List HostSpan) (at i : ℕ) (t : Span) : Type 0 where
  pub span : HostSpan
  pub is : t ≡ as_host span
  pub first : find (starts_at at) spans ≡ Some span
  pub address : first_byte span.first ≡ at
  pub left : map as_host (filter (λ other. not (starts_at at other)) spans)
      ≡ remove (map as_host spans) i

-- spans after one do not start where it does
none_behind : (marks : List Mark) (s : HostSpan) (at : ℕ) (ss : List HostSpan)
    → Holds marks (as_host s) → first_byte s.first ≡ at
    → AllByRecursion (Holds marks) (map as_host ss)
    → AllByRecursion (IsDisjoint (as_host s)) (map as_host ss)
    → filter (λ other. not (starts_at at other)) ss ≡ ss
none_behind marks s at [] holds address held apart = refl
none_behind marks s at (o ∷ os) holds address held apart =
    let other : starts_at at o ≡ false = false_from_ne_true _
    (λ e. later (eqb-true (first_byte o.first) at e) apart.0) in
    rw (other, none_behind marks s at os holds address held.1 apart.1) refl
  where
    later : first_byte o.first ≡ at → IsDisjoint (as_host s) (as_host o) → ⊥
    later same (inl l) = let some = holds.some in omega arith
    later same (inr l) = let some = held.0.some in omega arith

pub found : (marks : List Mark) (spans : List HostSpan) (at i : ℕ) (t : Span)
    → AllByRecursion (Holds marks) (map as_host spans) → AreApart (map as_host spans)
    → slice_get (map as_host spans) i ≡ Some t → starts at t ≡ true
    → ((k : ℕ) → k < i → starts at (get_or (map as_host spans) k t) ≡ false) → IsFound spans at i t
found marks [] at i t held apart e here before = cc
found marks (s ∷ ss) at zero t held apart e here before =
    let same : t ≡ as_host s = cc in
    let yes' : starts_at at s ≡ true = ap (starts at) (sym same) ∙ here in
    let address = eqb-true (first_byte s.first) at yes' in
    record {
      span = s;
      is = same;
      first = rw yes' refl;
      address = address;
      left = rw yes' (ap (map as_host) (none_behind marks s at ss held.0 address held.1 apart.0));
    }
found marks (s ∷ ss) at (suc i) t held apart e here before =
    let no' : starts_at at s ≡ false = before 0 (omega arith) in
    let rest = found marks ss at i t held.1 apart.1 e here (λ k l. before (suc k) (omega arith)) in
    record {
      span = rest.span;
      is = rest.is;
      first = rw no' rest.first;
      address = rest.address;
      left = rw no' (ap (λ (xs : List Span). as_host s ∷ xs) rest.left);
    }

past_end : {A : Type 0} (xs : List A) (k : ℕ) → length xs ≤ k → slice_get xs k ≡ None
past_end [] k h = refl
past_end (x ∷ xs) zero h = absurd (omega arith)
past_end (x ∷ xs) (suc k) h = past_end xs k (omega arith)

find_ticket : (spans : List HostSpan) (at : ℕ) → find (starts at) (map as_host spans) ≡ None
    → find (starts_at at) spans ≡ None
find_ticket [] at e = refl
find_ticket (s ∷ ss) at e = elim (cases_Bool (starts_at at s)) [
  | inl yes' ↦ let f = sym (cond-true (starts_at at s) (Some (as_host s))
      (find (starts at) (map as_host ss)) yes') ∙ e in absurd (cc)
  | inr no' ↦ rw no' (find_ticket ss at
      (sym (cond-false (starts_at at s) (Some (as_host s)) (find (starts at) (map as_host ss)) no')
      ∙ e))
]

-- where there is no ticket for an address, no span starts there
pub missing : (spans : List HostSpan) (at : ℕ) → position (starts at) (map as_host spans) ≡ None
    → find (starts_at at) spans ≡ None
missing spans at e =
    let xs : List Span = map as_host spans in
    let n : ℕ = position_or_len (starts at) xs in
    find_ticket spans at (elim (cases_lt n (length xs)) [
      | inl l ↦ let f = sym (cond-true (ltb n (length xs)) (Some n) None (lt-ltb n (length xs) l))
          ∙ e in absurd (cc)
      | inr l ↦ find_at (starts at) xs ∙ past_end xs n l
    ])
