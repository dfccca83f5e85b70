use Rattle.std.proofs.Common.{◌≡◌, ◌-◌, ℕ, List, length, take, drop, rules, sym, subst}
use Rattle.std.specs.Prelude.{nat_le, nat_lt}
use Rattle.std.specs.List.Sorted.{IsNonDecreasingBy}
use Rattle.std.proofs.lemmas.List.Sorted.{IsPartitionedBy-leb, IsPartitionedBy-ltb, IsPartitionPoint-from_clause, IsNonDecreasingBy-drop}
use Rattle.rept_streams.specs.Slices.Stamps.{context_of}
use Rattle.rept_streams.specs.declared.threads.walks.Walked.{Walked}
use Rattle.rept_streams.proofs.ThreadsLemmas.MeetLemmas.{rest_whole}
use Rattle.rept_streams.proofs.ThreadsLemmas.Ranges.{range_of}
use Rattle.rept_streams.proofs.threads.walks.of_thread.Goals as goal

pub returns : goal.returns
returns c =
    let n : Walked → ℕ = λ w. context_of w.slice.start in
    let ws = c.args.slices.now in
    let p = c.args.process in
    let from = c.partition_point-from.result in
    let rest : List Walked = take (length ws - from) (drop from ws) in
    let whole : rest ≡ drop from ws = rest_whole ws from in
    let up : IsNonDecreasingBy n rest = subst (λ (xs : List Walked). IsNonDecreasingBy n xs) (sym whole) (IsNonDecreasingBy-drop n from ws c.requires) in
    let a = IsPartitionPoint-from_clause (λ (w : Walked). nat_lt (context_of w.slice.start) p) ws from c.partition_point-from.ensures.partitioned (IsPartitionedBy-ltb n ws p c.requires) (λ a r q k. search rules) in
    let b = IsPartitionPoint-from_clause (λ (w : Walked). nat_le (context_of w.slice.start) p) rest c.partition_point-count.result c.partition_point-count.ensures.partitioned (IsPartitionedBy-leb n rest p up) (λ a r q k. search rules) in
    range_of n p ws rest from c.partition_point-count.result c.partition_point-from.ensures.bound whole c.partition_point-count.ensures.bound a b
