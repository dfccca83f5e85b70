use Rattle.std.proofs.lemmas.Result.{IfOk-weaker}
use Rattle.rept_log.specs.Fronts.{basis_of, front_of}
use Rattle.rept_log.proofs.Reasoning.{none_after, not_after_none, not_after_one}
use Rattle.rept_log.proofs.front.Front.inferred_after.Goals as goal

pub returns-in-None-clause-none : goal.returns-in-None-clause-none
returns-in-None-clause-none g c = not_after_none (front_of g.W.Partial.sets g.W.Transfer.moves g.R.RowRules.rules (basis_of c.args.self.now)) c.args.fact.now c.in-None.ensures

pub returns-in-Some-clause-none : goal.returns-in-Some-clause-none
returns-in-Some-clause-none g c =
    let f = front_of g.W.Partial.sets g.W.Transfer.moves g.R.RowRules.rules (basis_of c.args.self.now) in
    IfOk-weaker c.inferred_at.result _ _ (λ found h. none_after _ _ found (λ none. not_after_one f c.args.fact.now c.in-Some.i c.in-Some.ensures.2 none) h) c.inferred_at.ensures.none
