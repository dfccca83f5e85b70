use Rattle.std.proofs.Common.{◌≡◌, ◌++◌, ◌+◌, ◌<◌, ◌^◌, ℕ, map, take}
use Rattle.rept_steps.specs.Course.{TakeRows}
use Rattle.rept_streams.specs.Runs.Calls.{later_by}
use Rattle.rept_streams.proofs.runs.calls.add_slices.Given as goal

abbrev pub invariant-loop-slice : goal.invariant-loop-slice
invariant-loop-slice l = (n : ℕ) → TakeRows 0 l.own n → n + l.places < 2 ^ 32 → l.slices ≡ l.fn.slices ++ map (later_by l.places) (take l.slice-index l.own)
