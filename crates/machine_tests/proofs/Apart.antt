-- Spans that are apart differ.
use Rattle.std.proofs.Common.{◌≡◌, ◌≢◌, ℕ, ◌≤◌, inl, inr, ap, arith}
use Rattle.region_pool.specs.Spans.{Span, IsDisjoint}

pub differ_from_apart : (one other : Span) → 1 ≤ one.frames → IsDisjoint one other → other ≢ one
differ_from_apart one other some apart same =
    let first = ap (λ (s : Span). s.first) same in
    let frames = ap (λ (s : Span). s.frames) same in
    elim apart [
      | inl l ↦ absurd (omega arith)
      | inr l ↦ absurd (omega arith)
    ]
