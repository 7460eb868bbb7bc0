use Rattle.std.proofs.Common.{◌≡◌, ℕ, zero, suc, ◌+◌, ◌<◌, List, [], ◌∷◌, ◌++◌, length, take, get_or, sym, ap, ◌∙◌, arith}
use Rattle.std.specs.Prelude.{codes, decimal}
use Rattle.std.proofs.lemmas.List.{append_assoc, append-nil, take_all}
use Rattle.flk_run.specs.Answers.{spaced}
use Rattle.flk_run.proofs.answers.put_registers.Goals as goal

-- one number more
spaced_more : (values : List ℕ) (i : ℕ) → i < length values
    → spaced (take (suc i) values) ≡ spaced (take i values) ++ codes " " ++ decimal (get_or values i 0)
spaced_more [] i few = absurd (omega arith)
spaced_more (x ∷ xs) zero few = append-nil (codes " " ++ decimal x)
spaced_more (x ∷ xs) (suc i) few =
    let first : List ℕ = codes " " ++ decimal x in
    let so_far = spaced (take i xs) in
    let last = decimal (get_or xs i 0) in
    ap (λ (rest : List ℕ). first ++ rest) (spaced_more xs i (omega arith))
    ∙ sym (append_assoc first (so_far ++ codes " ") last)
    ∙ ap (λ (most : List ℕ). most ++ last) (sym (append_assoc first so_far (codes " ")))

-- the pieces of a line
regroup : (before number space word rest end : List ℕ)
    → before ++ number ++ space ++ word ++ rest ++ end ≡ before ++ (number ++ space ++ (word ++ rest) ++ end)
regroup before number space word rest end =
    ap (λ (most : List ℕ). most ++ end) (append_assoc (before ++ number ++ space) word rest)
    ∙ ap (λ (most : List ℕ). most ++ (word ++ rest) ++ end) (append_assoc before number space)
    ∙ ap (λ (most : List ℕ). most ++ end) (append_assoc before (number ++ space) (word ++ rest))
    ∙ append_assoc before (number ++ space ++ (word ++ rest)) end

pub loop-value-init : goal.loop-value-init
loop-value-init c = record { bytes = sym (append-nil _); spare = omega arith }

pub put_word-requires : goal.put_word-requires
put_word-requires c =
    let asked = c.requires in
    let numbered = c.put_number.ensures.spare in
    let worded = c.put.ensures.spare in
    let so_far = c.loop-value.invariant.spare in
    let more = c.loop-value-test.true in
    omega arith

pub loop-value-preserved : goal.loop-value-preserved
loop-value-preserved c =
    let i = c.loop-value.value-index in
    let values = c.args.values.now in
    let more = c.loop-value-test.true in
    let count = c.told-values in
    let so_far = c.loop-value.invariant.spare in
    let next = c.put_word.ensures.spare in
    let before = c.put.new.self.bytes in
    let shown = spaced (take i values) in
    let last = decimal (get_or values i 0) in
    let step : suc i ≡ i + 1 = omega arith in
    record {
      bytes = c.put_word.ensures.bytes
          ∙ ap (λ (bytes : List ℕ). bytes ++ codes " " ++ last) c.loop-value.invariant.bytes
          ∙ ap (λ (most : List ℕ). most ++ last) (append_assoc before shown (codes " "))
          ∙ append_assoc before (shown ++ codes " ") last
          ∙ ap (λ (rest : List ℕ). before ++ rest) (sym (spaced_more values i (omega (arith, count))))
          ∙ ap (λ (k : ℕ). before ++ spaced (take k values)) step;
      spare = omega arith;
    }

pub put-requires-2 : goal.put-requires-2
put-requires-2 c =
    let asked = c.requires in
    let numbered = c.put_number.ensures.spare in
    let worded = c.put.ensures.spare in
    let so_far = c.loop-value.invariant.spare in
    let most = c.loop-value.auto.value-index-end in
    omega arith

pub returns : goal.returns
returns c =
    let values = c.args.values.now in
    let all : take c.loop-value.value-index values ≡ values =
    take_all c.loop-value.value-index values (omega (arith, c.told-values, c.loop-value-test.false)) in
    c.put-2.ensures.bytes
    ∙ ap (λ (bytes : List ℕ). bytes ++ codes "\n") (c.loop-value.invariant.bytes
    ∙ ap (λ (shown : List ℕ). c.put.new.self.bytes ++ spaced shown) all
    ∙ ap (λ (bytes : List ℕ). bytes ++ spaced values) (c.put.ensures.bytes
    ∙ ap (λ (bytes : List ℕ). bytes ++ codes "ok") c.put_number.ensures.bytes))
    ∙ regroup c.args.out.now.bytes (decimal c.args.number) (codes " ") (codes "ok") (spaced values) (codes "\n")
