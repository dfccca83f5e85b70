use Rattle.std.proofs.Common.{◌≡◌, ◌+◌, ◌-◌, length, take}
use Rattle.std.specs.Prelude.{nat_le}
use Rattle.std.specs.List.{find, range_with_len}
use Rattle.rept_questions.specs.Calls.{depth_at}
use Rattle.rept_questions.specs.Frames.Frames.{frames_of}
use Rattle.rept_questions.proofs.calls.return_of.Given as goal

abbrev pub invariant-loop-point : goal.invariant-loop-point
invariant-loop-point l = record {
  frames : l.frames.items ≡ frames_of (take l.point l.rows);
  same : find (λ p. nat_le (depth_at l.rows p) (depth_at l.rows l.step)) (range_with_len (l.step + 1) (length l.rows - l.step)) ≡ find (λ p. nat_le (depth_at l.rows p) (depth_at l.rows l.step)) (range_with_len (l.point + 1) (length l.rows - l.point));
}
