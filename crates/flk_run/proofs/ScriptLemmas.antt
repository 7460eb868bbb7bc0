-- Scripts, transcripts and platforms, one part after another.
use Rattle.std.proofs.Common.{◌≡◌, ℕ, suc, ◌+◌, ◌<◌, ◌≤◌, true, false, List, [], ◌∷◌, ◌++◌, length, refl, sym, ap, ◌∙◌, append_assoc, append-nil, arith}
use Rattle.std.specs.Prelude.{Some, None, Result, Ok, Err, nat_lt}
use Rattle.std.proofs.lemmas.Bool.Decides.{nat_tests}
use Rattle.script_text.specs.Grammar.{Request}
use Rattle.script_text.specs.declared.line.TheConstants.{LONGEST_LINE, MOST_LINES}
use Rattle.script_text.specs.Reading.{judged, reading}
use Rattle.script_text.specs.declared.line.BadLine.{BadLine}
use Rattle.script_text.specs.declared.line.BadLine.TheVariants.{Faulty, TooMany}
use Rattle.script_text.specs.declared.line.LineFault.TheVariants as fault
use Rattle.seal_device.specs.Rules.{Rules}
use Rattle.flk_run.specs.Platform.{Platform}
use Rattle.flk_run.specs.Events.{after, transcript_line, transcript, after_all}
use Rattle.flk_run.specs.Script.{before_others, good_requests, bad_or, first_bad}

-- ---- lines

good_step : (n : ℕ) (xs ys : List (List ℕ)) (r : Result Request BadLine)
    → bad_or n r (first_bad (n + 1) xs) ≡ None
    → (first_bad (n + 1) xs ≡ None → good_requests (n + 1) (xs ++ ys)
    ≡ good_requests (n + 1) xs ++ good_requests (n + 1 + length xs) ys)
    → before_others r (good_requests (n + 1) (xs ++ ys))
    ≡ before_others r (good_requests (n + 1) xs) ++ good_requests (n + suc (length xs)) ys
good_step n xs ys (Ok request) h more =
    let e : n + 1 + length xs ≡ n + suc (length xs) = omega arith in
    ap (λ rs. request ∷ rs) (more h ∙ ap (λ k. good_requests (n + 1) xs ++ good_requests k ys) e)
good_step n xs ys (Err bad) h more = absurd (cc)

-- after good lines come the requests of the others
pub good-append : (n : ℕ) (xs ys : List (List ℕ)) → first_bad n xs ≡ None
    → good_requests n (xs ++ ys) ≡ good_requests n xs ++ good_requests (n + length xs) ys
good-append n [] ys h = let e : n ≡ n + 0 = omega arith in ap (λ k. good_requests k ys) e
good-append n (x ∷ xs) ys h =
    good_step n xs ys (judged n x) h (λ later. good-append (n + 1) xs ys later)

bad_step : (n : ℕ) (xs ys : List (List ℕ)) (r : Result Request BadLine)
    → bad_or n r (first_bad (n + 1) xs) ≡ None
    → (first_bad (n + 1) xs ≡ None → first_bad (n + 1) (xs ++ ys)
    ≡ first_bad (n + 1 + length xs) ys)
    → bad_or n r (first_bad (n + 1) (xs ++ ys)) ≡ first_bad (n + suc (length xs)) ys
bad_step n xs ys (Ok request) h more =
    let e : n + 1 + length xs ≡ n + suc (length xs) = omega arith in more h
    ∙ ap (λ k. first_bad k ys) e
bad_step n xs ys (Err bad) h more = absurd (cc)

-- the first bad line after good ones is that of the others
pub bad-append : (n : ℕ) (xs ys : List (List ℕ)) → first_bad n xs ≡ None
    → first_bad n (xs ++ ys) ≡ first_bad (n + length xs) ys
bad-append n [] ys h = let e : n ≡ n + 0 = omega arith in ap (λ k. first_bad k ys) e
bad-append n (x ∷ xs) ys h =
    bad_step n xs ys (judged n x) h (λ later. bad-append (n + 1) xs ys later)

count_step : (n : ℕ) (xs : List (List ℕ)) (r : Result Request BadLine)
    → bad_or n r (first_bad (n + 1) xs) ≡ None
    → (first_bad (n + 1) xs ≡ None → length (good_requests (n + 1) xs) ≡ length xs)
    → length (before_others r (good_requests (n + 1) xs)) ≡ suc (length xs)
count_step n xs (Ok request) h more = ap (λ k. suc k) (more h)
count_step n xs (Err bad) h more = absurd (cc)

-- each good line has a request
pub length-good : (n : ℕ) (xs : List (List ℕ)) → first_bad n xs ≡ None
    → length (good_requests n xs) ≡ length xs
length-good n [] h = refl
length-good n (x ∷ xs) h = count_step n xs (judged n x) h (λ later. length-good (n + 1) xs later)

-- what good lines, then a bad one, ask for
pub record BadBehind (k : ℕ) (lines : List (List ℕ)) (line : List ℕ) (more : List (List ℕ))
    (bad : BadLine) : Type 0 where
  pub first : first_bad 1 (lines ++ line ∷ more) ≡ Some (record { line = k + 1; bad = bad })
  pub good : good_requests 1 (lines ++ line ∷ more) ≡ good_requests 1 lines

pub bad_behind : (k : ℕ) (lines : List (List ℕ)) (line : List ℕ) (more : List (List ℕ))
    (bad : BadLine) → length lines ≡ k → first_bad 1 lines ≡ None → judged (k + 1) line ≡ Err bad
    → BadBehind k lines line more bad
bad_behind k lines line more bad count none h =
    let n : 1 + length lines ≡ k + 1 = omega arith in
    record {
      first = bad-append 1 lines (line ∷ more) none ∙ ap (λ i. first_bad i (line ∷ more)) n
          ∙ rw h refl;
      good =
          good-append 1 lines (line ∷ more) none
          ∙ ap (λ i. good_requests 1 lines ++ good_requests i (line ∷ more)) n
          ∙ ap (λ r. good_requests 1 lines ++ before_others r (good_requests (k + 1 + 1) more)) h
          ∙ append-nil (good_requests 1 lines);
    }

-- what good lines, then a good one, ask for
pub record GoodBehind (k : ℕ) (lines : List (List ℕ)) (line : List ℕ) (more : List (List ℕ))
    (request : Request) : Type 0 where
  pub good : good_requests 1 (lines ++ line ∷ more)
      ≡ good_requests 1 lines ++ request ∷ good_requests (k + 1 + 1) more

pub good_behind : (k : ℕ) (lines : List (List ℕ)) (line : List ℕ) (more : List (List ℕ))
    (request : Request) → length lines ≡ k → first_bad 1 lines ≡ None
    → judged (k + 1) line ≡ Ok request
    → GoodBehind k lines line more request
good_behind k lines line more request count none h =
    let n : 1 + length lines ≡ k + 1 = omega arith in
    record {
      good =
          good-append 1 lines (line ∷ more) none
          ∙ ap (λ i. good_requests 1 lines ++ good_requests i (line ∷ more)) n
          ∙ ap (λ r. good_requests 1 lines ++ before_others r (good_requests (k + 1 + 1) more)) h;
    }

-- one good line more
pub one_more : (k : ℕ) (lines : List (List ℕ)) (line : List ℕ) (request : Request)
    → length lines ≡ k → first_bad 1 lines ≡ None → judged (k + 1) line ≡ Ok request
    → first_bad 1 (lines ++ line ∷ []) ≡ None
one_more k lines line request count none h =
    let n : 1 + length lines ≡ k + 1 = omega arith in
    bad-append 1 lines (line ∷ []) none ∙ ap (λ i. first_bad i (line ∷ [])) n ∙ rw h refl

-- ---- transcripts

pub transcript-append : {H M : Type 0} (R : Rules H M) (n : ℕ) (rs qs : List Request) (p : Platform H M)
    → transcript R n (rs ++ qs) p ≡ transcript R n rs p
    ++ transcript R (n + length rs) qs (after_all R rs p)
transcript-append R n [] qs p = let e : n ≡ n + 0 = omega arith in ap (λ k. transcript R k qs p) e
transcript-append R n (r ∷ rs) qs p =
    let e : n + 1 + length rs ≡ n + suc (length rs) = omega arith in
    ap (λ t. transcript_line R n r p ++ t)
    (transcript-append R (n + 1) rs qs (after R r p)
    ∙ ap (λ k. transcript R (n + 1) rs (after R r p)
    ++ transcript R k qs (after_all R rs (after R r p))) e)
    ∙ sym (append_assoc (transcript_line R n r p) (transcript R (n + 1) rs (after R r p))
    (transcript R (n + suc (length rs)) qs (after_all R rs (after R r p))))

pub after_all-append : {H M : Type 0} (R : Rules H M) (rs qs : List Request) (p : Platform H M)
    → after_all R (rs ++ qs) p ≡ after_all R qs (after_all R rs p)
after_all-append R [] qs p = refl
after_all-append R (r ∷ rs) qs p = after_all-append R rs qs (after R r p)

-- ---- good and bad lines

-- a line that is read is good, where it is not one too many
pub judged_good : (n : ℕ) (line : List ℕ) (request : Request) → n ≤ MOST_LINES
    → reading line ≡ Ok request → judged n line ≡ Ok request
judged_good n line request few h =
    let a : nat_lt MOST_LINES n ≡ false = grind (arith, nat_tests) in rw (a, h) refl

-- a line that is too long
pub judged_long : (n : ℕ) (line : List ℕ) → n ≤ MOST_LINES → LONGEST_LINE < length line
    → judged n line ≡ Err (Faulty fault.LongLine)
judged_long n line few long =
    let a : nat_lt MOST_LINES n ≡ false = grind (arith, nat_tests) in
    let b : nat_lt LONGEST_LINE (length line) ≡ true = grind (arith, nat_tests) in
    rw (a, b) refl

-- a line after the last that there may be
pub judged_many : (n : ℕ) (line : List ℕ) → MOST_LINES < n → judged n line ≡ Err TooMany
judged_many n line many = let a : nat_lt MOST_LINES n ≡ true = grind (arith, nat_tests) in rw a refl
