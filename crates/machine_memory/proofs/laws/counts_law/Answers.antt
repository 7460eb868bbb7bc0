use Rattle.std.proofs.Common.{◌≡◌, ℕ, ◌+◌, List, [], ◌∷◌, length, count_by, refl, arith, cond, Bool}
use Rattle.std.proofs.Common.{Option, Some, None}
use Rattle.std.proofs.lemmas.List.Sums.{sum_by-cons}
use Rattle.machine_memory.specs.declared.device.DevEnd.{DevEnd}
use Rattle.machine_memory.specs.declared.device.DevEnd.TheVariants.{Done, Blocked}
use Rattle.machine_memory.specs.ArmedWrites.{Armed, is_waiting, is_done, is_blocked}
use Rattle.machine_memory.proofs.laws.counts_law.Goals as goal

-- 1 where the test holds
abbrev one_if : Bool → ℕ
one_if test = cond test 1 0

-- each way of ending passes one of the three tests
one_test : (ended : Option DevEnd)
    → one_if (is_done ended) + one_if (is_blocked ended) + one_if (is_waiting ended) ≡ 1
one_test None = refl
one_test (Some Done) = refl
one_test (Some Blocked) = refl

counted : (writes : List Armed)
    → count_by (λ write. is_done write.ended) writes + count_by (λ write. is_blocked write.ended)
    writes + count_by (λ write. is_waiting write.ended) writes ≡ length writes
counted [] = refl
counted (write ∷ writes) =
    let done = sum_by-cons (λ w. one_if (is_done w.ended)) write writes in
    let blocked = sum_by-cons (λ w. one_if (is_blocked w.ended)) write writes in
    let waiting = sum_by-cons (λ w. one_if (is_waiting w.ended)) write writes in
    let one = one_test write.ended in
    let rest = counted writes in
    omega arith

pub returns : goal.returns
returns c = counted c.args.dma.now
