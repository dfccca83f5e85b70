use Rattle.rept_timeline.specs.Paths.{timeline}
use Rattle.std.proofs.Common.{◌≡◌, ℕ, sym, subst, arith}
use Rattle.rept_facts.specs.Sums.{sum_to}
use Rattle.rept_facts.specs.Room.{places_of}
use Rattle.rept_facts.proofs.Counting.{sum_none, sum_next}
use Rattle.rept_facts.proofs.facts.access_bytes.Goals as goal

pub loop-point-init : goal.loop-point-init
loop-point-init g c = record { few = omega arith; sum = sym (sum_none (λ (i : ℕ). places_of g.R.RowRules.rules ((timeline c.args.paths.now).legs.row i))) }

pub loop-point-preserved : goal.loop-point-preserved
loop-point-preserved g c =
    let f : ℕ → ℕ = λ (i : ℕ). places_of g.R.RowRules.rules ((timeline c.args.paths.now).legs.row i) in
    let next = sum_next f c.loop-point.point in
    let was = c.loop-point.invariant.sum in
    let most = c.loop-point.invariant.few in
    let value = c.row_places-sum.ensures.value in
    let few = c.row_places-sum.ensures.few in
    record { few = omega (arith, most, few); sum = omega (arith, next, was, value) }

pub returns-clause-sum : goal.returns-clause-sum
returns-clause-sum g c =
    let last = c.last_point-point-end.ensures in
    let e : c.loop-point.point ≡ (timeline c.args.paths.now).legs.count = omega (arith, last) in
    subst (λ (n : ℕ). c.loop-point.sum ≡ sum_to (λ (i : ℕ). places_of g.R.RowRules.rules ((timeline c.args.paths.now).legs.row i)) n) e c.loop-point.invariant.sum
