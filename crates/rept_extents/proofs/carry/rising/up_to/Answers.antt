use Rattle.std.proofs.Common.{ℕ, rules, arith, leb}
use Rattle.std.proofs.lemmas.List.Sorted.{IsPartitionPoint-from_clause, IsPartitionedBy-leb}
use Rattle.std.proofs.lemmas.Bool.Decides.{nat_tests}
use Rattle.rept_extents.proofs.carry.rising.up_to.Goals as goal

pub returns : goal.returns
returns c =
    let parts = IsPartitionPoint-from_clause (λ (y : ℕ). leb y c.args.number) c.args.list.now c.partition_point.result c.partition_point.ensures.partitioned (IsPartitionedBy-leb (λ (y : ℕ). y) c.args.list.now c.args.number c.requires) (λ a r f h. search rules) in
    record {
      bound = c.partition_point.ensures.bound;
      below = λ m lt. let e = parts.0 m 0 (omega arith) lt in grind (arith, nat_tests, e);
      above = λ m low high. let e = parts.1 m 0 low high in grind (arith, nat_tests, e);
    }
