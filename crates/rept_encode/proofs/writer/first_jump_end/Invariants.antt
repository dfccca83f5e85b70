use Rattle.std.proofs.Common.{ℕ, ◌≤◌}
use Rattle.rept_encode.specs.Walkable.{IsJumpEnd}
use Rattle.rept_encode.proofs.writer.first_jump_end.Given as goal

abbrev pub invariant-loop-i : goal.invariant-loop-i
invariant-loop-i l = (j : ℕ) → IsJumpEnd l.rows j → l.i ≤ j
