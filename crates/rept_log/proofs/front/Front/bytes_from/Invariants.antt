use Rattle.std.proofs.Common.{◌≡◌}
use Rattle.rept_log.specs.Fronts.{basis_of, front_of, seen_in}
use Rattle.rept_log.specs.RowBytes.{bytes_from}
use Rattle.rept_log.proofs.front.Front.bytes_from.Given as goal

abbrev pub invariant-loop-k : goal.invariant-loop-k
invariant-loop-k g l = l.bytes.items ≡ bytes_from (seen_in (front_of g.W.Partial.sets g.W.Transfer.moves g.R.RowRules.rules (basis_of l.self)) l.i) l.base l.k
