use Rattle.std.proofs.Common.{◌≡◌, drop}
use Rattle.rept_steps.specs.Course.{slice_of}
use Rattle.rept_steps.proofs.sound.slices.slice_holding.Given as goal

-- the slices that are left decide
abbrev pub invariant-loop-slice : goal.invariant-loop-slice
invariant-loop-slice l = slice_of l.slices l.step ≡ slice_of (drop l.slice-index l.slices) l.step
