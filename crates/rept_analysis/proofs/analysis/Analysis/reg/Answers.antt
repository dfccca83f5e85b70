use Rattle.rept_timeline.specs.Paths.{lawful}
use Rattle.std.proofs.Common.{sym, ◌∙◌}
use Rattle.rept_facts.specs.State.{state_of}
use Rattle.rept_facts.specs.Kept.{register_answer}
use Rattle.rept_facts.proofs.Following.{flat_known}
use Rattle.rept_analysis.proofs.Refining.{answer_sound}
use Rattle.rept_facts.proofs.Stopping.{answered}
use Rattle.rept_analysis.proofs.analysis.Analysis.reg.Goals as goal

pub returns-clause-derived : goal.returns-clause-derived
returns-clause-derived g c =
    let s = state_of g.W.Partial.sets g.W.Transfer.moves g.R.RowRules.rules g.B.ByteFacts.store c.args.self.now.propagation.facts in
    λ v is named. answered s (record { sets = g.met.W.Partial.lawful; moves = g.met.W.Transfer.covers; rules = g.met.R.RowRules.lawful; legs = (lawful c.args.self.now.propagation.facts.paths).legs; moments = (lawful c.args.self.now.propagation.facts.paths).moments }) c.held.ensures c.args.point c.args.r v (flat_known (register_answer s c.args.point c.args.r) v (sym c.shown_below.ensures ∙ is)) named

pub returns-clause-sound : goal.returns-clause-sound
returns-clause-sound g c =
    let s = state_of g.W.Partial.sets g.W.Transfer.moves g.R.RowRules.rules g.B.ByteFacts.store c.args.self.now.propagation.facts in
    λ v is. answer_sound s (record { sets = g.met.W.Partial.lawful; moves = g.met.W.Transfer.covers; rules = g.met.R.RowRules.lawful; legs = (lawful c.args.self.now.propagation.facts.paths).legs; moments = (lawful c.args.self.now.propagation.facts.paths).moments }) c.held.ensures c.args.point c.args.r v c.requires.point (flat_known (register_answer s c.args.point c.args.r) v (sym c.shown_below.ensures ∙ is))
