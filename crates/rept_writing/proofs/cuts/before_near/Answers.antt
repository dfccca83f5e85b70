use Rattle.std.proofs.Common.{nat_lt, rules}
use Rattle.std.proofs.lemmas.List.Sorted.{IsPartitionPoint-from_clause, IsPartitionedBy-ltb}
use Rattle.rept_writing.specs.declared.list.Writing.{Writing}
use Rattle.rept_writing.proofs.Numbers.{cut_at, split_at}
use Rattle.rept_writing.proofs.cuts.before_near.Goals as goal

pub returns-clause-split : goal.returns-clause-split
returns-clause-split c up =
    let list = c.args.list.now in
    let k = c.partition_point-at.result in
    let parts = IsPartitionPoint-from_clause (λ (w : Writing). nat_lt w.at c.args.number) list k c.partition_point-at.ensures.partitioned (IsPartitionedBy-ltb (λ (w : Writing). w.at) list c.args.number up) (λ a r f h. search rules) in
    split_at list c.args.number k (cut_at list c.args.number k c.partition_point-at.ensures.bound parts)
