use Rattle.std.proofs.Common.{◌≡◌, List, Some, leb, slice_get, sym, ap, ◌∙◌, subst, rules, arith}
use Rattle.std.specs.List.Sorted.{IsNonDecreasingBy}
use Rattle.std.proofs.lemmas.Bool.Decides.{nat_tests}
use Rattle.std.proofs.lemmas.List.Sorted.{IsPartitionPoint-from_clause, IsPartitionedBy-leb}
use Rattle.std.proofs.lemmas.Option.{slice_get_within, get_or_from_slice_get}
use Rattle.rept_moments.specs.declared.begins.SliceStart.{SliceStart}
use Rattle.rept_moments.proofs.begins.Begins.begun_by.Goals as goal

pub returns-clause-before : goal.returns-clause-before
returns-clause-before c = λ k b less there.
    let same : c.as_slice-list.result.now ≡ c.args.self.now = c.as_slice-list.ensures.value ∙ c.self.view_is in
    let up : IsNonDecreasingBy (λ (x : SliceStart). x.begin) c.as_slice-list.result.now = subst (λ (xs : List SliceStart). IsNonDecreasingBy (λ (x : SliceStart). x.begin) xs) (sym c.as_slice-list.ensures.value) c.self.invariant in
    let parts = IsPartitionPoint-from_clause (λ (x : SliceStart). leb x.begin c.args.time) c.as_slice-list.result.now c.partition_point.result c.partition_point.ensures.partitioned (IsPartitionedBy-leb (λ (x : SliceStart). x.begin) c.as_slice-list.result.now c.args.time up) (λ a r f h. search rules) in
    let here = subst (λ (xs : List SliceStart). slice_get xs k ≡ Some b) (sym same) there in
    let read = ap (λ (x : SliceStart). x.begin) (get_or_from_slice_get c.as_slice-list.result.now k b b here) in
    let e = parts.0 k b (omega arith) less in
    grind (arith, nat_tests, e, read)

pub returns-clause-after : goal.returns-clause-after
returns-clause-after c = λ k b order there.
    let same : c.as_slice-list.result.now ≡ c.args.self.now = c.as_slice-list.ensures.value ∙ c.self.view_is in
    let up : IsNonDecreasingBy (λ (x : SliceStart). x.begin) c.as_slice-list.result.now = subst (λ (xs : List SliceStart). IsNonDecreasingBy (λ (x : SliceStart). x.begin) xs) (sym c.as_slice-list.ensures.value) c.self.invariant in
    let parts = IsPartitionPoint-from_clause (λ (x : SliceStart). leb x.begin c.args.time) c.as_slice-list.result.now c.partition_point.result c.partition_point.ensures.partitioned (IsPartitionedBy-leb (λ (x : SliceStart). x.begin) c.as_slice-list.result.now c.args.time up) (λ a r f h. search rules) in
    let here = subst (λ (xs : List SliceStart). slice_get xs k ≡ Some b) (sym same) there in
    let read = ap (λ (x : SliceStart). x.begin) (get_or_from_slice_get c.as_slice-list.result.now k b b here) in
    let e = parts.1 k b order (slice_get_within c.as_slice-list.result.now k b here) in
    grind (arith, nat_tests, e, read)
