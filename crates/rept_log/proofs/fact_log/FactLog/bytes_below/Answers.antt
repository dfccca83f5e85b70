use Rattle.std.proofs.Common.{◌≡◌, ℕ, subst, arith}
use Rattle.rept_report.specs.Log.{oldest}
use Rattle.rept_log.specs.Bytes.{AreTold}
use Rattle.rept_log.proofs.Telling.{told_nothing}
use Rattle.rept_log.proofs.fact_log.FactLog.bytes_below.Goals as goal

pub loop-place-init : goal.loop-place-init
loop-place-init g c = told_nothing c.args.self.now.log c.args.end c.args.a c.in_ok-bytes.bytes.items c.in_ok-bytes.ensures

pub returns : goal.returns
returns g c =
    let past = c.loop-place-test.false in
    let most = c.loop-place.auto.place-end in
    let same : c.loop-place.place ≡ c.args.limit = omega arith in
    subst (λ (n : ℕ). AreTold (oldest n c.args.self.now.log) c.args.end c.args.a c.loop-place.bytes.items) same c.loop-place.invariant
