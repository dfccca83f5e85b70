use Rattle.std.proofs.Common.{rules, ℕ}
use Rattle.std.proofs.lemmas.List.Sorted.{IsPermutation-trans, IsNonDecreasingBy-from_sort_by_key, answers_always}
use Rattle.rept_streams.specs.Slices.Stamps.{clock_of, context_of}
use Rattle.rept_streams.specs.declared.threads.walks.Walked.{Walked}
use Rattle.rept_streams.proofs.SlicesLemmas.Sorting.{sorted_twice}
use Rattle.rept_streams.proofs.threads.walks.sort_slices.Goals as goal

pub returns-clause-permutation : goal.returns-clause-permutation
returns-clause-permutation c = IsPermutation-trans _ _ _ c.sort_by_key.ensures.permutation c.sort_by_key-2.ensures.permutation

pub returns-clause-processes : goal.returns-clause-processes
returns-clause-processes c = IsNonDecreasingBy-from_sort_by_key (λ (w : Walked). context_of w.slice.start) _ c.in_default-sort_by_key.ensures.sorted (λ a r q k. search rules)

pub returns-clause-times : goal.returns-clause-times
returns-clause-times c = λ process.
    let time : Walked → ℕ = λ w. clock_of w.slice.start in
    let owner : Walked → ℕ = λ w. context_of w.slice.start in
    sorted_twice time owner process c.args.slices.now.items c.sort_by_key.new.self.items c.sort_by_key-2.new.self.items
    (IsNonDecreasingBy-from_sort_by_key time _ c.in_default.ensures.sorted (λ a r q k. search rules))
    (c.in_default.ensures.stable time (answers_always _ _ _ (λ f a r g h. search rules)))
    (c.in_default-sort_by_key.ensures.stable owner (answers_always _ _ _ (λ f a r g h. search rules)))
