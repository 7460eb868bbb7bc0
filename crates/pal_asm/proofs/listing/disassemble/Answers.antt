use Rattle.std.proofs.Common.{◌≡◌, length, arith}
use Rattle.pal_asm.proofs.ListingLemmas.{grows, whole}
use Rattle.pal_asm.proofs.listing.disassemble.Goals as goal

pub loop-at-preserved : goal.loop-at-preserved
loop-at-preserved c = (
  omega (arith, c.in_ok-at.ensures.within),
  grows c.loop-at.at c.in_ok-at.field-0 c.args.code.now _ _ (omega arith) c.in_ok-at.ensures.put
      c.loop-at.invariant.1,
)

pub returns-clause-listing : goal.returns-clause-listing
returns-clause-listing c =
    let done : c.loop-at.at ≡ length c.args.code.now = omega arith in
    rw c.into_bytes.ensures (whole c.loop-at.at c.args.code.now c.loop-at.text.bytes.bytes done
    c.loop-at.invariant.1)
