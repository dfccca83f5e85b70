use Rattle.rept_timeline.specs.Paths.{timeline, lawful}
use Rattle.std.proofs.Common.{◌<◌, ℕ, IsSome, subst, arith}
use Rattle.rept_report.specs.Setting.{HasLaws}
use Rattle.rept_log.specs.Fronts.{Stored, basis_of, front_of, setting_in}
use Rattle.rept_log.proofs.Fronts.{row_inside}
use Rattle.rept_log.proofs.registers.RegisterFront.count.Goals as goal

pub returns-clause-few : goal.returns-clause-few
returns-clause-few g c =
    let few = (lawful c.self.inside.paths.now).points in
    let value = c.last_point.ensures in
    omega (arith, few, value)

pub returns-clause-inside : goal.returns-clause-inside
returns-clause-inside g c = subst (λ (b : Stored). (i : ℕ) → IsSome ((timeline b.paths).legs.row i) → i < c.last_point.result) c.self.view_is (λ i there. let inside = row_inside (timeline c.self.inside.paths.now).legs (lawful c.self.inside.paths.now).legs i there in let value = c.last_point.ensures in omega (arith, inside, value))

pub returns-clause-laws : goal.returns-clause-laws
returns-clause-laws g c = subst (λ (b : Stored). HasLaws (setting_in (front_of g.W.Partial.sets g.W.Transfer.moves g.R.RowRules.rules (basis_of b)))) c.self.view_is (record {
  sets = g.met.W.Partial.lawful;
  moves = g.met.W.Transfer.covers;
  rules = g.met.R.RowRules.lawful;
  legs = (lawful c.self.inside.paths.now).legs;
  moments = (lawful c.self.inside.paths.now).moments;
})
