use Rattle.std.proofs.Common.{sym, refl, arith}
use Rattle.i386_profile.proofs.Decoded.{is_found, is_only, is_none}
use Rattle.i386_profile.proofs.decoding.first.Goals as goal

pub overflow_sub-result : goal.overflow_sub-result
overflow_sub-result c =
    (is_found c.args.bytes.now c.in-Some.rest.now c.in-Some.ins
    (λ i. omega (arith, c.type_inv.bytes i)) (sym c.in-Some.ensures)).shorter

pub returns-in-Some-clause-found : goal.returns-in-Some-clause-found
returns-in-Some-clause-found c =
    (is_found c.args.bytes.now c.in-Some.rest.now c.in-Some.ins
    (λ i. omega (arith, c.type_inv.bytes i)) (sym c.in-Some.ensures)).begins

pub returns-in-Some-clause-only : goal.returns-in-Some-clause-only
returns-in-Some-clause-only c ins n h =
    let same =
    is_only c.args.bytes.now c.in-Some.rest.now c.in-Some.ins ins n (sym c.in-Some.ensures) h in
    let one = same.0 in
    let two = same.1 in
    cc

pub returns-in-Some-clause-undecoded : goal.returns-in-Some-clause-undecoded
returns-in-Some-clause-undecoded c =
    let found =
    is_found c.args.bytes.now c.in-Some.rest.now c.in-Some.ins
    (λ i. omega (arith, c.type_inv.bytes i)) (sym c.in-Some.ensures) in
    (λ not_err. cc, λ none. absurd (none c.in-Some.ins _ found.begins))

pub returns-in-Some-clause-least : goal.returns-in-Some-clause-least
returns-in-Some-clause-least c =
    (is_found c.args.bytes.now c.in-Some.rest.now c.in-Some.ins
    (λ i. omega (arith, c.type_inv.bytes i)) (sym c.in-Some.ensures)).least

pub returns-in-Some-clause-most : goal.returns-in-Some-clause-most
returns-in-Some-clause-most c =
    (is_found c.args.bytes.now c.in-Some.rest.now c.in-Some.ins
    (λ i. omega (arith, c.type_inv.bytes i)) (sym c.in-Some.ensures)).most

pub returns-in-None-clause-only : goal.returns-in-None-clause-only
returns-in-None-clause-only c ins n h =
    absurd (is_none c.args.bytes.now (sym c.in-None.ensures) ins n h)

pub returns-in-None-clause-undecoded : goal.returns-in-None-clause-undecoded
returns-in-None-clause-undecoded c =
    (λ _. is_none c.args.bytes.now (sym c.in-None.ensures), λ _. refl)
