use Rattle.std.proofs.Common.{ℕ, List, sym, subst}
use Rattle.std.specs.List.Sorted.{IsNonDecreasingBy}
use Rattle.rept_timeline.proofs.Lists.{up_to}
use Rattle.rept_timeline.proofs.storing.Storing.new.Goals as goal

pub invariant_of-result : goal.invariant_of-result
invariant_of-result c = subst (λ (xs : List ℕ). IsNonDecreasingBy (λ (i : ℕ). i) xs) (sym c.loop-row.invariant.list) (up_to c.args.many.now c.loop-row.row)
