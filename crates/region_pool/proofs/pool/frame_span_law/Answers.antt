use Rattle.std.proofs.Common.{ℕ, List, Option, Some, None, IfSome, IfNone}
use Rattle.region_pool.specs.declared.mark.Mark.{Mark}
use Rattle.region_pool.specs.Marks.{IsTaken}
use Rattle.region_pool.specs.Spans.{IsSpanAt, LiesInOneSpan}
use Rattle.region_pool.proofs.FrameSpans.{one_span-span_at}
use Rattle.region_pool.proofs.pool.frame_span_law.Goals as goal

one_span-found : (marks : List Mark) (frame : ℕ) (found : Option (ℕ × ℕ))
    → IfSome found (λ x. IsSpanAt marks frame x.0 x.1) → IfNone found (¬ IsTaken marks frame)
    → IsTaken marks frame → LiesInOneSpan marks frame
one_span-found marks frame None some none taken = absurd (none taken)
one_span-found marks frame (Some x) some none taken = one_span-span_at marks frame x.0 x.1 some

pub returns : goal.returns
returns c = one_span-found _ _ c.span_at.result c.span_at.ensures.found c.span_at.ensures.none
    c.requires
