use Rattle.rept_log.specs.Fronts.{basis_of, front_of, told_by}
use Rattle.rept_log.proofs.Carrying.{onward_because, back_because}
use Rattle.rept_log.proofs.front.Front.carried_by.Goals as goal

pub returns-in-Onward-clause-told : goal.returns-in-Onward-clause-told
returns-in-Onward-clause-told g c = onward_because (front_of g.W.Partial.sets g.W.Transfer.moves g.R.RowRules.rules (basis_of c.args.self.now)) c.args.fact.now c.args.a c.requires.cell c.count-count.ensures.laws c.args.step c.in-Onward.is c.requires.step c.fact_at.result c.fact_at.ensures c.looked_between-ranges.result.items (c.looked_between-ranges.ensures.looked c.args.a) (told_by c.across.result) c.across.ensures.told

pub returns-in-Back-clause-told : goal.returns-in-Back-clause-told
returns-in-Back-clause-told g c = back_because (front_of g.W.Partial.sets g.W.Transfer.moves g.R.RowRules.rules (basis_of c.args.self.now)) c.args.fact.now c.args.a c.requires.cell c.count-count.ensures.laws c.args.step c.in-Back.is c.requires.step c.fact_at-in-Back.result c.fact_at-in-Back.ensures c.looked_between-ranges-in-Back.result.items (c.looked_between-ranges-in-Back.ensures.looked c.args.a) (told_by c.across-in-Back.result) c.across-in-Back.ensures.told
