use Rattle.std.proofs.Common.{◌≡◌, ◌<◌, ◌≤◌, List, leb, get_or, length, sym, ◌∙◌, subst, rules, arith}
use Rattle.std.specs.List.Sorted.{IsNonDecreasingBy}
use Rattle.std.proofs.lemmas.Bool.Decides.{nat_tests}
use Rattle.std.proofs.lemmas.List.Sorted.{IsPartitionPoint-from_clause, IsPartitionedBy-leb}
use Rattle.rept_order.specs.declared.crossing.writer.TimedWriter.{TimedWriter}
use Rattle.rept_order.specs.Crossing.Writers.{no_writer}
use Rattle.rept_order.proofs.crossing.writers.Writers.begun_by.Goals as goal

pub returns-clause-before : goal.returns-clause-before
returns-clause-before c = λ k less.
    let same : c.as_slice-list.result.now ≡ c.args.self.now = c.as_slice-list.ensures.value ∙ c.self.view_is in
    let up : IsNonDecreasingBy (λ (x : TimedWriter). x.begin) c.as_slice-list.result.now = subst (λ (xs : List TimedWriter). IsNonDecreasingBy (λ (x : TimedWriter). x.begin) xs) (sym c.as_slice-list.ensures.value) c.self.invariant.0 in
    let parts = IsPartitionPoint-from_clause (λ (x : TimedWriter). leb x.begin c.args.time) c.as_slice-list.result.now c.partition_point.result c.partition_point.ensures.partitioned (IsPartitionedBy-leb (λ (x : TimedWriter). x.begin) c.as_slice-list.result.now c.args.time up) (λ a r f h. search rules) in
    let e = parts.0 k no_writer (omega arith) less in
    let at : (get_or c.as_slice-list.result.now k no_writer).begin ≤ c.args.time = grind (arith, nat_tests, e) in
    subst (λ (xs : List TimedWriter). (get_or xs k no_writer).begin ≤ c.args.time) same at

pub returns-clause-after : goal.returns-clause-after
returns-clause-after c = λ k order less.
    let same : c.as_slice-list.result.now ≡ c.args.self.now = c.as_slice-list.ensures.value ∙ c.self.view_is in
    let up : IsNonDecreasingBy (λ (x : TimedWriter). x.begin) c.as_slice-list.result.now = subst (λ (xs : List TimedWriter). IsNonDecreasingBy (λ (x : TimedWriter). x.begin) xs) (sym c.as_slice-list.ensures.value) c.self.invariant.0 in
    let parts = IsPartitionPoint-from_clause (λ (x : TimedWriter). leb x.begin c.args.time) c.as_slice-list.result.now c.partition_point.result c.partition_point.ensures.partitioned (IsPartitionedBy-leb (λ (x : TimedWriter). x.begin) c.as_slice-list.result.now c.args.time up) (λ a r f h. search rules) in
    let e = parts.1 k no_writer order (subst (λ (xs : List TimedWriter). k < length xs) (sym same) less) in
    let at : c.args.time < (get_or c.as_slice-list.result.now k no_writer).begin = grind (arith, nat_tests, e) in
    subst (λ (xs : List TimedWriter). c.args.time < (get_or xs k no_writer).begin) same at
