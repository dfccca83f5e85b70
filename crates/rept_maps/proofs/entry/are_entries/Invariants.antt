use Rattle.std.proofs.Common.{◌≡◌, ℕ, ◌<◌, drop}
use Rattle.rept_maps.specs.FileMap.{IsEntry, entry_at, names, parts}
use Rattle.rept_maps.proofs.entry.are_entries.Given as goal

-- the rest has the names that are left, and the entries so far are entries
abbrev pub invariant-loop-i : goal.invariant-loop-i
invariant-loop-i l = record {
  left : drop l.i (names l.desc) ≡ parts l.rest;
  each : (k : ℕ) → k < l.i → IsEntry (entry_at l.desc k);
}
