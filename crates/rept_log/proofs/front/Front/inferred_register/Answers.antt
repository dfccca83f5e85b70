use Rattle.std.proofs.Common.{◌-◌, ◌<◌, sym, ◌∙◌}
use Rattle.std.proofs.lemmas.Result.{IfOk-weaker}
use Rattle.rept_log.specs.Fronts.{basis_of, front_of, IsNotInferredBy}
use Rattle.rept_log.proofs.Reasoning.{if_none, none_after, not_inferred_register}
use Rattle.rept_log.proofs.front.Front.inferred_register.Goals as goal

pub returns-clause-none : goal.returns-clause-none
returns-clause-none g c =
    let f = front_of g.W.Partial.sets g.W.Transfer.moves g.R.RowRules.rules (basis_of c.args.self.now) in
    let before = if_none (0 < c.args.fact.now.point → IsNotInferredBy f (c.args.fact.now.point - 1) c.args.fact.now) c.in_ok-found.found (sym c.is_some.ensures ∙ c.if-is_some.false) c.in_ok-found.ensures.none in
    IfOk-weaker c.inferred_at.result _ _ (λ found h. none_after _ _ found (λ after. not_inferred_register f c.args.fact.now c.args.r c.requires before after) h) c.inferred_at.ensures.none
