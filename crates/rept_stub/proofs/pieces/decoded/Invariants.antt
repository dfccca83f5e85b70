use Rattle.std.proofs.Common.{◌≡◌, ◌≤◌, ◌-◌, ◌++◌, length, drop}
use Rattle.std.specs.Prelude.{option_map}
use Rattle.rept_stub.specs.Replies.{decoded}
use Rattle.rept_stub.proofs.pieces.decoded.Given as goal

abbrev pub invariant-loop-place : goal.invariant-loop-place
invariant-loop-place l = record {
  within : l.place ≤ length l.digits;
  value : decoded l.digits ≡ option_map (λ rest. l.bytes.items ++ rest) (decoded (drop l.place l.digits));
}

abbrev pub decreases-loop-place : goal.decreases-loop-place
decreases-loop-place l = length l.digits - l.place
