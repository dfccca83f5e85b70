use Rattle.std.proofs.Common.{arith}
use Rattle.rept_facts.specs.State.{AnalysisState, state_of}
use Rattle.rept_facts.proofs.Last.{all_passed}
use Rattle.rept_facts.proofs.facts.CrashFacts.past_writer.Goals as goal

pub returns : goal.returns
returns g c =
    let s : AnalysisState g.row.W.Denot = state_of g.W.Partial.sets g.W.Transfer.moves g.R.RowRules.rules g.B.ByteFacts.store c.args.self.now in
    all_passed s c.requires.settled c.args.a (omega arith) c.requires.equal c.args.number c.past_hit-past.result c.number_past.result c.number_past.ensures.value (c.past_hit-past.ensures.past c.requires.settled.writings.barriers.order)
