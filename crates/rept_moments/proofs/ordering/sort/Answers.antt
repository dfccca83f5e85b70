use Rattle.std.proofs.Common.{rules}
use Rattle.std.proofs.lemmas.List.Sorted.{IsNonDecreasingBy-from_sort_by_key}
use Rattle.rept_moments.specs.declared.side.Timed.{Timed}
use Rattle.rept_moments.proofs.Sorting.{sorted_is, stable_from}
use Rattle.rept_moments.proofs.ordering.sort.Goals as goal

pub returns : goal.returns
returns c = sorted_is c.args.list.now.items c.sort_by_key.new.self.items (IsNonDecreasingBy-from_sort_by_key (λ (x : Timed). x.time) _ c.in_ok-sort_by_key.ensures.sorted (λ a r q k. search rules)) (stable_from (λ (x : Timed). x.time) _ _ c.in_ok-sort_by_key.ensures.stable (λ a r q k. search rules))
