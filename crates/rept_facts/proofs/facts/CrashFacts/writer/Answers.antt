use Rattle.rept_timeline.specs.Paths.{timeline, lawful}
use Rattle.std.proofs.Common.{◌<◌, subst, arith}
use Rattle.rept_report.specs.Timeline.{IsBegun}
use Rattle.rept_report.specs.Last.Latest.{IsPossibleWriter}
use Rattle.rept_facts.specs.State.{AnalysisState, Whole, state_of}
use Rattle.rept_facts.proofs.Along.{there_inside}
use Rattle.rept_facts.proofs.Answering.{writer_answers}
use Rattle.rept_facts.proofs.facts.CrashFacts.writer.Goals as goal

pub returns-then-ended-clause-ended : goal.returns-then-ended-clause-ended
returns-then-ended-clause-ended g c = λ complete.
    let s : AnalysisState g.row.W.Denot = state_of g.W.Partial.sets g.W.Transfer.moves g.R.RowRules.rules g.B.ByteFacts.store c.args.self.now in
    writer_answers s ((c.ended.ensures.kept).finished complete).settled c.args.moment c.args.a c.settled_writer.result c.settled_writer.ensures

pub returns-clause-open : goal.returns-clause-open
returns-clause-open g c = λ unfinished.
    subst (λ (x : Whole g.row.B.Denot g.row.W.Denot g.row.R.Denot). IsPossibleWriter (timeline x.paths).moments (IsBegun (timeline x.paths) c.args.moment) c.possible_writer.result) c.self.view_is c.possible_writer.ensures

pub possible_writer-requires-clause-none : goal.possible_writer-requires-clause-none
possible_writer-requires-clause-none g c = λ k out h.
    let its = there_inside (timeline c.self.inside.paths.now) (lawful c.self.inside.paths.now).legs k h.row in
    let inside = subst (λ (x : Whole g.row.B.Denot g.row.W.Denot g.row.R.Denot). k < (timeline x.paths).legs.count) c.self.view_is its in
    omega (arith, inside, out, c.count-end.ensures.value)
