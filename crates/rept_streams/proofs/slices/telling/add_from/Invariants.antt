use Rattle.std.proofs.Common.{◌≡◌, drop}
use Rattle.rept_streams.specs.Slices.Entries.{entries_from}
use Rattle.rept_streams.proofs.slices.telling.add_from.Given as goal

abbrev pub invariant-loop-i : goal.invariant-loop-i
invariant-loop-i l = (l.entries.items ≡ l.fn.entries.items) × (entries_from l.time l.slices ≡ entries_from l.time (drop l.i l.slices))
