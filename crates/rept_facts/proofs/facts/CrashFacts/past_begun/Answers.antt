use Rattle.rept_timeline.specs.Paths.{timeline}
use Rattle.std.proofs.Common.{ℕ, Option, subst, arith}
use Rattle.rept_report.specs.Timeline.{IsBegun, IsGreatestTo}
use Rattle.rept_facts.specs.State.{AnalysisState, state_of}
use Rattle.rept_facts.proofs.Last.{none_begun, none_past_begun}
use Rattle.rept_facts.proofs.facts.CrashFacts.past_begun.Goals as goal

pub returns-in-None : goal.returns-in-None
returns-in-None g c =
    let s : AnalysisState g.row.W.Denot = state_of g.W.Partial.sets g.W.Transfer.moves g.R.RowRules.rules g.B.ByteFacts.store c.args.self.now in
    none_begun s c.requires.settled c.args.a (omega arith) c.args.moment c.last_begun.result c.last_begun.ensures.row c.in-None.is

pub returns-in-Some : goal.returns-in-Some
returns-in-Some g c =
    let s : AnalysisState g.row.W.Denot = state_of g.W.Partial.sets g.W.Transfer.moves g.R.RowRules.rules g.B.ByteFacts.store c.args.self.now in
    let row = subst (λ (o : Option ℕ). IsGreatestTo (IsBegun (timeline c.args.self.now.paths) c.args.moment) (timeline c.args.self.now.paths).legs.count o) c.in-Some.is c.last_begun.ensures.row in
    none_past_begun s c.requires.settled c.args.a (omega arith) c.args.moment c.in-Some.row c.past_writer.result row c.past_writer.ensures
