use Rattle.std.proofs.Common.{◌≡◌, ◌+◌, ◌<◌, ◌-◌, ℕ, true}
use Rattle.rept_moments.specs.Several.{seen_of}
use Rattle.rept_timeline.proofs.strips.first_other.Given as goal

abbrev pub invariant-loop-row : goal.invariant-loop-row
invariant-loop-row l = record {
  own : (i : ℕ) → i < l.from → (seen_of l.many).moments.may_act i l.number (l.number + 1) ≡ true → (seen_of l.many).moments.before i ≡ l.number;
}

abbrev pub decreases-loop-row : goal.decreases-loop-row
decreases-loop-row l = (seen_of l.many).legs.count - l.from
