use Rattle.std.proofs.Common.{◌≡◌, ◌/◌, ◌%◌, length, false, true, ap, sym, ◌∙◌, arith}
use Rattle.std.specs.Prelude.{Ok}
use Rattle.std.specs.List.{list_all}
use Rattle.hex.specs.Hex.{is_hex_digit}
use Rattle.flk_filters.specs.Filters.{without_spaces}
use Rattle.flk_filters.specs.Seen.{size_of}
use Rattle.flk_filters.proofs.HexLemmas.{no_digits, odd_digits, even_digits}
use Rattle.flk_filters.proofs.hexadecimal.spelled_size.Goals as goal

pub returns-then-count-eq1 : goal.returns-then-count-eq1
returns-then-count-eq1 c =
    let odd : length (without_spaces c.args.text.now) % 2 ≡ 1 = cc in
    sym (ap size_of (odd_digits (without_spaces c.args.text.now) odd))

pub returns-then-not-has_only_digits : goal.returns-then-not-has_only_digits
returns-then-not-has_only_digits c =
    let bad : list_all is_hex_digit (without_spaces c.args.text.now) ≡ false = cc in
    sym (ap size_of (no_digits (without_spaces c.args.text.now) bad))

pub returns : goal.returns
returns c =
    let digits = without_spaces c.args.text.now in
    let all : list_all is_hex_digit digits ≡ true = cc in
    let even : length digits % 2 ≡ 0 = omega arith in
    ap (λ n. Ok (n / 2)) c.digit_count-count.ensures ∙ sym (even_digits digits all even)
