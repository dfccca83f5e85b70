use Rattle.std.proofs.Common.{◌≡◌, ◌<◌, ◌^◌, drop}
use Rattle.rept_steps.specs.Tested.{takes}
use Rattle.rept_steps.proofs.sound.slices.take_rows.Given as goal

-- the slices that are left decide
abbrev pub invariant-loop-slice : goal.invariant-loop-slice
invariant-loop-slice l = (takes 0 l.slices l.rows ≡ takes l.from (drop l.slice-index l.slices) l.rows) × (l.from < 2 ^ 34)
