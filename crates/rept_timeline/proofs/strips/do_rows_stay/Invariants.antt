use Rattle.std.proofs.Common.{◌≡◌, ◌+◌, ◌<◌, ◌-◌, ℕ, true, false}
use Rattle.rept_moments.specs.Several.{seen_of}
use Rattle.rept_timeline.proofs.strips.do_rows_stay.Given as goal

abbrev pub invariant-loop-row : goal.invariant-loop-row
invariant-loop-row l = record {
  clear : (i : ℕ) → i < l.from → (seen_of l.many).moments.may_act i l.pause (l.pause + 1) ≡ true → (seen_of l.many).moments.past i l.number ≡ false;
}

abbrev pub decreases-loop-row : goal.decreases-loop-row
decreases-loop-row l = (seen_of l.many).legs.count - l.from
