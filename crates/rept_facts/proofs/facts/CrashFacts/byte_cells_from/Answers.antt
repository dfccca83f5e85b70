use Rattle.rept_timeline.specs.Paths.{timeline}
use Rattle.std.proofs.Common.{◌≡◌, ℕ, subst, sym, arith}
use Rattle.rept_isa.specs.Numbers.{beside}
use Rattle.rept_log.specs.Around.{around}
use Rattle.rept_log.specs.Known.{known_of}
use Rattle.rept_facts.specs.Cells.{byte_known, bytes_from}
use Rattle.rept_facts.proofs.Counting.{sum_none, sum_next}
use Rattle.rept_facts.proofs.facts.CrashFacts.byte_cells_from.Goals as goal

pub loop-k-init : goal.loop-k-init
loop-k-init g c = record { value = sym (sum_none (λ (k : ℕ). byte_known (around (timeline c.args.self.now.paths).moments (known_of g.B.ByteFacts.store c.args.self.now.known) c.args.i) (beside c.args.start k))); few = omega arith }

pub loop-k-preserved : goal.loop-k-preserved
loop-k-preserved g c =
    let f : ℕ → ℕ = λ (k : ℕ). byte_known (around (timeline c.args.self.now.paths).moments (known_of g.B.ByteFacts.store c.args.self.now.known) c.args.i) (beside c.args.start k) in
    let next = sum_next f c.loop-k.k in
    let was = c.loop-k.invariant.value in
    let here = c.byte_cells-sum.ensures.value in
    let most = c.loop-k.invariant.few in
    let few = c.byte_cells-sum.ensures.few in
    record { value = omega (arith, next, was, here); few = omega (arith, most, few) }

pub returns-clause-value : goal.returns-clause-value
returns-clause-value g c =
    let e : c.loop-k.k ≡ c.args.count = let four = c.requires.four in omega arith in
    subst (λ (n : ℕ). c.loop-k.sum ≡ bytes_from (around (timeline c.args.self.now.paths).moments (known_of g.B.ByteFacts.store c.args.self.now.known) c.args.i) c.args.start n) e c.loop-k.invariant.value
