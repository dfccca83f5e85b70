use Rattle.rept_timeline.specs.Paths.{timeline}
use Rattle.std.proofs.Common.{subst}
use Rattle.rept_log.specs.Fronts.{Stored, basis_of, front_of, told_by}
use Rattle.rept_log.specs.Concluding.{seen_row, bare_in, IsConcluded}
use Rattle.rept_log.proofs.Reasoning.{some_after, inferred_bare}
use Rattle.rept_log.proofs.registers.RegisterFront.inferred_by.Goals as goal

pub returns-clause-found : goal.returns-clause-found
returns-clause-found g c =
    let f = front_of g.W.Partial.sets g.W.Transfer.moves g.R.RowRules.rules (basis_of c.args.self.now) in
    some_after _ _ c.concluded.result
    (λ reason by. inferred_bare f g.met.R.RowRules.lawful c.count-count.ensures.words c.args.i c.args.fact.now c.args.row.now c.requires (c.is_bare.ensures c.if-not-is_bare.false) (told_by reason) (subst (λ (b : Stored). IsConcluded g.R.RowRules.rules (seen_row (timeline b.paths).moments c.args.i c.args.row.now (bare_in f c.args.i)) c.args.fact.now (told_by reason)) c.self.view_is by))
    c.concluded.ensures.found
