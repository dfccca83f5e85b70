use Rattle.std.proofs.Common.{◌≡◌, ◌<◌, ℕ, slice_get}
use Rattle.rept_span.specs.Filled.{entry_at}
use Rattle.rept_span.proofs.spans.Spans.is_kept.Given as goal

abbrev pub invariant-loop-number : goal.invariant-loop-number
invariant-loop-number g l = record {
  same : (r : ℕ) → r < l.number → entry_at l.self l.point r ≡ slice_get l.kept r;
}
