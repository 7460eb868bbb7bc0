-- The bytes taken so far: the lines given, and what is held.
use Rattle.std.proofs.Common.{◌≡◌, ◌⊎◌, inl, inr, ℕ, zero, suc, ◌+◌, ◌<◌, ◌≤◌, Bool, true, false, not, cond, List, [], ◌∷◌, ◌++◌, length, refl, sym, ap, subst, ◌∙◌, append_assoc, append-nil, length-append, arith}
use Rattle.std.specs.Prelude.{Option, Some, None}
use Rattle.std.proofs.KnownBytes.{Consumes-nil}
use Rattle.std.proofs.lemmas.Bool.{not-true}
use Rattle.std.proofs.lemmas.Bool.Decides.{nat_tests}
use Rattle.std.proofs.lemmas.List.Elements.{All-head, All-tail}
use Rattle.flk_base.specs.Known.{KeepsWhereKnown}
use Rattle.script_text.specs.Lines.{is_line_end, IsOneLine, after_lines, script_lines, lines_from, counts}
use Rattle.script_text.specs.declared.line.TheConstants.{LONGEST_LINE, MOST_LINES}
use Rattle.script_text.specs.Reader.{Held, WantsMore, GivesFirst, AfterNext, AfterAny, TakenByNext, TakenByAny, Next, Any, NextOfHeld, AnyOfHeld}
use Rattle.script_text.specs.declared.reader.LineEnd.{LineEnd}
use Rattle.script_text.specs.declared.reader.LineEnd.TheVariants as line
use Rattle.script_text.specs.declared.reader.AnyEnd.{AnyEnd}
use Rattle.script_text.specs.declared.reader.AnyEnd.TheVariants as any
use Rattle.script_text.proofs.LineLemmas.{lines_from-cons, lines_from-one, lines_from-last}

-- ---- after lines

after_step : (n : ℕ) (cs : List ℕ) (b : Bool)
    → after_lines (suc n) cs ≡ after_lines 1 (after_lines n cs)
    → after_lines (suc (suc n)) cs ≡ after_lines 1 (after_lines (suc n) cs)
    → cond b (after_lines (suc n) cs) (after_lines (suc (suc n)) cs)
    ≡ after_lines 1 (cond b (after_lines n cs) (after_lines (suc n) cs))
after_step n cs true x y = x
after_step n cs false x y = y

after_lines-suc : (bytes : List ℕ) (n : ℕ)
    → after_lines (suc n) bytes ≡ after_lines 1 (after_lines n bytes)
after_lines-suc [] zero = refl
after_lines-suc [] (suc n) = refl
after_lines-suc (c ∷ cs) zero = refl
after_lines-suc (c ∷ cs) (suc n) =
    after_step n cs (is_line_end c) (after_lines-suc cs n) (after_lines-suc cs (suc n))

after_next : (n : ℕ) (bytes : List ℕ)
    → after_lines (n + 1) bytes ≡ after_lines 1 (after_lines n bytes)
after_next n bytes =
    let e : n + 1 ≡ suc n = omega arith in ap (λ k. after_lines k bytes) e ∙ after_lines-suc bytes n

-- a byte is no LF
abbrev IsNoEnd : ℕ → Type 0
IsNoEnd c = not (is_line_end c) ≡ true

-- after one line and its LF
after_one : (text bytes : List ℕ) → IsOneLine text → after_lines 1 (text ++ 10 ∷ bytes) ≡ bytes
after_one [] bytes one = refl
after_one (c ∷ cs) bytes one =
    let e : is_line_end c ≡ false = not-true (is_line_end c) (All-head IsNoEnd c cs one) in
    rw e (after_one cs bytes (All-tail IsNoEnd c cs one))

-- after one line without LF
after_none : (text : List ℕ) → IsOneLine text → after_lines 1 text ≡ []
after_none [] one = refl
after_none (c ∷ cs) one =
    let e : is_line_end c ≡ false = not-true (is_line_end c) (All-head IsNoEnd c cs one) in
    rw e (after_none cs (All-tail IsNoEnd c cs one))

after_less : (n : ℕ) (cs : List ℕ) (b : Bool) → length (after_lines n cs) ≤ length cs
    → length (after_lines (suc n) cs) ≤ length cs
    → length (cond b (after_lines n cs) (after_lines (suc n) cs)) ≤ suc (length cs)
after_less n cs true x y = omega arith
after_less n cs false x y = omega arith

pub length-after_lines : (bytes : List ℕ) (n : ℕ) → length (after_lines n bytes) ≤ length bytes
length-after_lines [] zero = omega arith
length-after_lines [] (suc n) = omega arith
length-after_lines (c ∷ cs) zero = omega arith
length-after_lines (c ∷ cs) (suc n) =
    after_less n cs (is_line_end c) (length-after_lines cs n) (length-after_lines cs (suc n))

pub after_fewer : (n : ℕ) (bytes : List ℕ)
    → length (after_lines (n + 1) bytes) ≤ length (after_lines n bytes)
after_fewer n bytes = rw (after_next n bytes) (length-after_lines (after_lines n bytes) 1)

-- ---- the split

-- what may follow: nothing, where the end was seen
abbrev pub Goes : Held → List ℕ → Bool → Type 0
Goes held more ended = held.ended ≡ true → (more ≡ []) × (ended ≡ true)

-- the first k lines of the bytes taken, whatever follows, and what is held after them
pub record Split (k : ℕ) (lines : List (List ℕ)) (taken : List ℕ) (held : Held) : Type 0 where
  pub count : length lines ≡ k
  pub lines_of : (more : List ℕ) (ended : Bool) → Goes held more ended
      → script_lines (taken ++ more) ended ≡ lines ++ lines_from k (held.bytes ++ more) ended
  pub beyond : (more : List ℕ) (ended : Bool) → Goes held more ended
      → after_lines k (taken ++ more) ≡ held.bytes ++ more

abbrev pub nothing_held : Held
nothing_held = record { bytes = []; ended = false; line = [] }

pub split_begins : Split 0 [] [] nothing_held
split_begins =
    record { count = refl; lines_of = λ more ended goes. refl; beyond = λ more ended goes. refl }

-- what a call of the reader took and left
pub record Stepped (end : LineEnd) (old new : Held) (before now : Option (List ℕ)) : Type 0 where
  pub taken : List ℕ
  pub consumed : TakenByNext end before now taken
  pub after : AfterNext end (old.bytes ++ taken) new
  pub goes : old.ended ≡ true → (taken ≡ []) × (new.ended ≡ true)

stays : (o : Option (List ℕ)) → KeepsWhereKnown o o
stays None = tt
stays (Some xs) = refl

nothing_taken : (end : LineEnd) (o : Option (List ℕ)) → TakenByNext end o o []
nothing_taken line.Line o = Consumes-nil o
nothing_taken line.End o = Consumes-nil o
nothing_taken line.Long o = Consumes-nil o
nothing_taken line.Failed o = record { left = o; consumed = Consumes-nil o; kept = stays o }

pub stepped : {S : Type 0} (left : S → Option (List ℕ)) (end : LineEnd) (old new : Held) (s t : S)
    → Next end old new (left s) (left t) → (t ≡ s) ⊎ WantsMore old
    → NextOfHeld end old new ⊎ WantsMore old
    → Stepped end old new (left s) (left t)
stepped left end old new s t n (inr more) held =
    record { taken = n.taken; consumed = n.consumed; after = n.after; goes = λ e. let f = more.open_end in absurd (cc) }
stepped left end old new s t n (inl same) (inr more) =
    record { taken = n.taken; consumed = n.consumed; after = n.after; goes = λ e. let f = more.open_end in absurd (cc) }
stepped left end old new s t n (inl same) (inl held) = record {
  taken = [];
  consumed = subst (λ o. TakenByNext end (left s) o []) (sym (ap left same))
      (nothing_taken end (left s));
  after = subst (λ bytes. AfterNext end bytes new) (sym (append-nil old.bytes)) held.0;
  goes = λ e. (refl, held.1 ∙ e);
}

-- what a call of `any` took and left
pub record AnyStepped (end : AnyEnd) (old new : Held) (before now : Option (List ℕ)) : Type 0 where
  pub taken : List ℕ
  pub consumed : TakenByAny end before now taken
  pub after : AfterAny end (old.bytes ++ taken) new
  pub goes : old.ended ≡ true → (taken ≡ []) × (new.ended ≡ true)

none_taken : (end : AnyEnd) (o : Option (List ℕ)) → TakenByAny end o o []
none_taken any.Some o = Consumes-nil o
none_taken any.End o = Consumes-nil o
none_taken any.Failed o = record { left = o; consumed = Consumes-nil o; kept = stays o }

pub any_stepped : {S : Type 0} (left : S
    → Option (List ℕ)) (end : AnyEnd) (old new : Held) (s t : S) → Any end old new (left s) (left t)
    → (t ≡ s) ⊎ ((old.bytes ≡ []) × (old.ended ≡ false))
    → AnyOfHeld end old new ⊎ ((old.bytes ≡ []) × (old.ended ≡ false))
    → AnyStepped end old new (left s) (left t)
any_stepped left end old new s t n (inr more) held =
    record {
      taken = n.taken;
      consumed = n.consumed;
      after = n.after;
      goes = λ e. let f = more.1 in
          absurd (cc);
    }
any_stepped left end old new s t n (inl same) (inr more) =
    record {
      taken = n.taken;
      consumed = n.consumed;
      after = n.after;
      goes = λ e. let f = more.1 in
          absurd (cc);
    }
any_stepped left end old new s t n (inl same) (inl held) = record {
  taken = [];
  consumed = subst (λ o. TakenByAny end (left s) o []) (sym (ap left same))
      (none_taken end (left s));
  after = subst (λ bytes. AfterAny end bytes new) (sym (append-nil old.bytes)) held.0;
  goes = λ e. (refl, held.1 ∙ e);
}

-- the lines when one more is given
pub given_first : (k : ℕ) (held : Held) (bytes more : List ℕ) (ended : Bool) → IsOneLine held.line
    → GivesFirst bytes held → Goes held more ended
    → (lines_from k (bytes ++ more) ended
    ≡ held.line ∷ lines_from (k + 1) (held.bytes ++ more) ended)
    × (after_lines 1 (bytes ++ more) ≡ held.bytes ++ more)
given_first k held bytes more ended one (inl first) goes =
    let e : bytes ++ more ≡ held.line ++ 10 ∷ (held.bytes ++ more) = ap (λ bs. bs ++ more) first
    ∙ append_assoc held.line (10 ∷ held.bytes) more in (
      ap (λ bs. lines_from k bs ended) e
          ∙ lines_from-cons held.line k (held.bytes ++ more) ended one,
      ap (after_lines 1) e
          ∙ after_one held.line (held.bytes ++ more) one,
    )
given_first k held bytes more ended one (inr last) goes =
    let g = goes last.0 in
    let e : bytes ++ more ≡ held.line = ap (λ m. bytes ++ m) g.0 ∙ append-nil bytes ∙ last.1 in
    let rest : held.bytes ++ more ≡ [] = ap (λ m. held.bytes ++ m) g.0 ∙ append-nil held.bytes
    ∙ last.3 in (
      ap (λ bs. lines_from k bs ended) e ∙ ap (λ b. lines_from k held.line b) g.1
          ∙ lines_from-last k held.line one last.2
          ∙ sym (ap (λ bs. held.line ∷ lines_from (k + 1) bs ended) rest),
      ap (after_lines 1) e
          ∙ after_none held.line one ∙ sym rest,
    )

pub more_goes : (old new : Held) (taken more : List ℕ) (ended : Bool)
    → (old.ended ≡ true → (taken ≡ []) × (new.ended ≡ true)) → Goes new more ended
    → Goes old (taken ++ more) ended
more_goes old new taken more ended goes next e =
    let g = goes e in
    let n = next g.1 in
    (ap (λ t. t ++ more) g.0 ∙ n.0, n.1)

-- one line more is given
pub split_line : (k : ℕ) (lines : List (List ℕ)) (taken : List ℕ) (old new : Held)
    (before now : Option (List ℕ)) → Split k lines taken old
    → (s : Stepped line.Line old new before now)
    → Split (k + 1) (lines ++ new.line ∷ []) (taken ++ s.taken) new
split_line k lines taken old new before now split s = record {
  count = length-append lines (new.line ∷ []) ∙ ap (λ n. n + 1) split.count;
  lines_of = λ more ended goes.
      let g = given_first k new (old.bytes ++ s.taken) more ended s.after.0 s.after.2 goes in
      ap (λ bs. script_lines bs ended) (append_assoc taken s.taken more)
      ∙ split.lines_of (s.taken ++ more) ended (more_goes old new s.taken more ended s.goes goes)
      ∙ ap (λ bs. lines ++ lines_from k bs ended) (sym (append_assoc old.bytes s.taken more))
      ∙ ap (λ ls. lines ++ ls) g.0
      ∙ sym (append_assoc lines (new.line ∷ []) (lines_from (k + 1) (new.bytes ++ more) ended));
  beyond = λ more ended goes.
      let g = given_first k new (old.bytes ++ s.taken) more ended s.after.0 s.after.2 goes in
      after_next k ((taken ++ s.taken) ++ more)
      ∙ ap (after_lines 1) (ap (after_lines k) (append_assoc taken s.taken more)
      ∙ split.beyond (s.taken ++ more) ended (more_goes old new s.taken more ended s.goes goes)
      ∙ sym (append_assoc old.bytes s.taken more))
      ∙ g.1;
}

-- the same bytes, all of them after the lines
pub split_all : (k : ℕ) (lines : List (List ℕ)) (taken more : List ℕ) (held : Held) (ended : Bool)
    → Split k lines taken held → Goes held more ended
    → (script_lines (taken ++ more) ended ≡ lines ++ lines_from k (held.bytes ++ more) ended)
    × (after_lines k (taken ++ more) ≡ held.bytes ++ more)
split_all k lines taken more held ended split goes =
    (split.lines_of more ended goes, split.beyond more ended goes)

-- nothing that is held makes a line yet
pub open_rest : (k : ℕ) (held : Held) → k < MOST_LINES → WantsMore held
    → lines_from k held.bytes false ≡ []
open_rest k held few wants =
    let a : counts k held.bytes false ≡ false = open_counts held.bytes k few wants.short in
    lines_from-one k held.bytes false wants.one ∙ ap (λ b. cond b (held.bytes ∷ []) []) a
  where
    open_counts : (bytes : List ℕ) (k : ℕ) → k < MOST_LINES → length bytes ≤ LONGEST_LINE
        → counts k bytes false ≡ false
    open_counts [] k few short = refl
    open_counts (c ∷ cs) k few short = grind (arith, nat_tests)
