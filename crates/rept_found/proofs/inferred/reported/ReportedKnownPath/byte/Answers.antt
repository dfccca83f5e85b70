use Rattle.std.proofs.Common.{◌≡◌, ◌∙◌, ◌<◌, ℕ, None, ap, sym, subst}
use Rattle.std.specs.Prelude.{nat_lt}
use Rattle.std.proofs.lemmas.Bool.{cond-true, lt-ltb}
use Rattle.rept_known.specs.Both.{both_sets}
use Rattle.rept_known.specs.BothMoves.{both_moves}
use Rattle.rept_found.specs.Crash.{means}
use Rattle.rept_found.specs.Inferred.Known.{shown_in}
use Rattle.rept_found.proofs.inferred.reported.ReportedKnownPath.byte.Goals as goal

pub returns-then-point-points : goal.returns-then-point-points
returns-then-point-points g c =
    let s = shown_in (means both_sets both_moves g.R.RowRules.rules) c.args.self.now.found.now in
    let low : c.args.point < s.points = subst (λ (n : ℕ). c.args.point < n) c.points.ensures.value c.if-point-points.true in
    c.byte.ensures ∙ ap (λ (k : ℕ). s.byte k c.args.address) c.moment.ensures.value
    ∙ sym (cond-true (nat_lt c.args.point s.points) (s.byte (s.moment c.args.point) c.args.address) None (lt-ltb c.args.point s.points low))
