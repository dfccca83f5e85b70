use Rattle.rept_timeline.specs.Paths.{lawful}
use Rattle.std.proofs.Common.{◌≡◌, ◌≤◌, ℕ, Some, subst, arith}
use Rattle.rept_reason.specs.declared.fact.Cell.TheVariants.{Byte}
use Rattle.rept_reason.specs.Facts.{told}
use Rattle.rept_log.specs.Fronts.{Stored, basis_of, front_of, HasByte}
use Rattle.rept_log.proofs.front.Front.end.Goals as goal

pub returns-clause-few : goal.returns-clause-few
returns-clause-few g c =
    let few = (lawful c.self.inside.paths.now).numbers in
    let value = c.end.ensures in
    omega (arith, few, value)

pub returns-clause-early : goal.returns-clause-early
returns-clause-early g c = subst (λ (b : Stored). (m a v : ℕ) → told b.facts m (Byte a) ≡ Some v → m ≤ c.end.result) c.self.view_is (λ m a v e. let early = c.self.invariant.1.early m a v e in let value = c.end.ensures in omega (arith, early, value))

pub returns-clause-single : goal.returns-clause-single
returns-clause-single g c = subst (λ (b : Stored). (m a v w : ℕ) → HasByte (front_of g.W.Partial.sets g.W.Transfer.moves g.R.RowRules.rules (basis_of b)) m a v → HasByte (front_of g.W.Partial.sets g.W.Transfer.moves g.R.RowRules.rules (basis_of b)) m a w → v ≡ w) c.self.view_is c.self.invariant.1.single
