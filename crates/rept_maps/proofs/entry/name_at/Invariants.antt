use Rattle.std.proofs.Common.{◌≡◌, ◌≤◌, drop}
use Rattle.rept_maps.specs.FileMap.{names, parts}
use Rattle.rept_maps.proofs.entry.name_at.Given as goal

-- the rest has the names that are left, that of the index among them
abbrev pub invariant-loop-k : goal.invariant-loop-k
invariant-loop-k l = record {
  left : drop l.k (names l.desc) ≡ parts l.rest;
  before : l.k ≤ l.i;
}
