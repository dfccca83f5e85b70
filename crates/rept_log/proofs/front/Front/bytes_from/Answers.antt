use Rattle.std.proofs.Common.{◌≡◌, ◌∙◌, ℕ, ap, arith}
use Rattle.rept_log.specs.Fronts.{basis_of, front_of, seen_in}
use Rattle.rept_log.specs.RowBytes.{bytes_from}
use Rattle.rept_log.proofs.front.Front.bytes_from.Goals as goal

pub returns : goal.returns
returns g c =
    let past = c.loop-k-test.false in
    let most = c.loop-k.auto.k-end in
    let same : c.loop-k.k ≡ c.args.count = omega arith in
    c.loop-k.invariant ∙ ap (λ (n : ℕ). bytes_from (seen_in (front_of g.W.Partial.sets g.W.Transfer.moves g.R.RowRules.rules (basis_of c.args.self.now)) c.args.i) c.args.base n) same
