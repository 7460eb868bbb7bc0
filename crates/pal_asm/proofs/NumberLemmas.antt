-- Values of digits, read so that all that is larger counts as 2 ^ 33.
use Rattle.std.proofs.Common.{◌≡◌, ℕ, ◌+◌, ◌*◌, ◌^◌, ◌<◌, ◌≤◌, ◌⊎◌, inl, inr, List, [], ◌∷◌, length, get_or, drop, refl, sym, ap, ◌∙◌, arith, mul-le-mul_left}
use Rattle.std.specs.Prelude.{Option, Some, None, option_map, option_and_then}
use Rattle.std.proofs.lemmas.List.{drop_more, drop_all}
use Rattle.pal_asm.specs.Numbers.{digit_in, digits_value}
use Rattle.pal_asm.specs.Seen.{read_as}

grown : (radix value d : ℕ) → 2 ≤ radix → value ≤ value * radix + d
grown radix value d h = omega (arith, mul-le-mul_left value h)

large : (n : ℕ) → 2 ^ 33 ≤ n → read_as n ≡ 2 ^ 33
large n h = omega arith

small : (n : ℕ) → n ≤ 2 ^ 33 → read_as n ≡ n
small n h = omega arith

either : (n : ℕ) → (n ≤ 2 ^ 33) ⊎ (2 ^ 33 ≤ n)
either n = grind arith

again_by : (radix value d : ℕ) → 2 ≤ radix → (value ≤ 2 ^ 33) ⊎ (2 ^ 33 ≤ value)
    → read_as (read_as value * radix + d) ≡ read_as (value * radix + d)
again_by radix value d h (inl l) = ap (λ n. read_as (n * radix + d)) (small value l)
again_by radix value d h (inr l) =
    let a : 2 ^ 33 ≤ value * radix + d = omega (arith, grown radix value d h) in
    let b : 2 ^ 33 ≤ read_as value * radix + d =
    omega (arith, grown radix (read_as value) d h, large value l) in
    large _ b ∙ sym (large _ a)

-- what is too large stays so
pub again : (radix value d : ℕ) → 2 ≤ radix
    → read_as (read_as value * radix + d) ≡ read_as (value * radix + d)
again radix value d h = again_by radix value d h (either value)

read_by : (radix a b : ℕ) (cs : List ℕ) (o : Option ℕ)
    → ((d : ℕ) → option_map read_as (digits_value radix (a * radix + d) cs)
    ≡ option_map read_as (digits_value radix (b * radix + d) cs))
    → option_map read_as (option_and_then (λ d. digits_value radix (a * radix + d) cs) o)
    ≡ option_map read_as (option_and_then (λ d. digits_value radix (b * radix + d) cs) o)
read_by radix a b cs None h = refl
read_by radix a b cs (Some d) h = h d

-- values that are read as one are read as one after more digits
pub same_read : (radix a b : ℕ) (cs : List ℕ) → 2 ≤ radix → read_as a ≡ read_as b
    → option_map read_as (digits_value radix a cs) ≡ option_map read_as (digits_value radix b cs)
same_read radix a b [] h e = ap Some e
same_read radix a b (c ∷ cs) h e =
    read_by radix a b cs (digit_in radix c)
    (λ d. same_read radix (a * radix + d) (b * radix + d) cs h
    (sym (again radix a d h) ∙ ap (λ n. read_as (n * radix + d)) e ∙ again radix b d h))

pub step : (radix value i d next : ℕ) (xs : List ℕ) → 2 ≤ radix → i < length xs
    → Some d ≡ digit_in radix (get_or xs i 0) → next ≡ read_as (value * radix + d)
    → option_map read_as (digits_value radix next (drop (i + 1) xs))
    ≡ option_map read_as (digits_value radix value (drop i xs))
step radix value i d next xs h l e n =
    let whole : option_map read_as (digits_value radix value (drop i xs))
    ≡ option_map read_as (digits_value radix (value * radix + d) (drop (i + 1) xs)) =
    rw (drop_more xs i 0 l, ← e) refl in
    let twice : read_as next ≡ read_as (value * radix + d) = omega (arith, n) in
    same_read radix next (value * radix + d) (drop (i + 1) xs) h twice ∙ sym whole

pub at_end : (radix value i : ℕ) (xs : List ℕ) → length xs ≤ i → value ≤ 2 ^ 33
    → option_map read_as (digits_value radix value (drop i xs)) ≡ Some value
at_end radix value i xs l v = rw (drop_all i xs l) (ap Some (small value v))
