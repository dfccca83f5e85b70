use Rattle.rept_timeline.specs.Paths.{lawful}
use Rattle.rept_facts.specs.State.{state_of}
use Rattle.rept_analysis.proofs.Refining.{path_of, kept_of, report_of, complete_of, consistent_of, stopped_of, sound_of, impossible_of, exact_of, refused_of, more_of, paused_of}
use Rattle.rept_analysis.proofs.analysis.Analysis.refine.Goals as goal

pub returns-clause-path : goal.returns-clause-path
returns-clause-path g c = path_of (state_of g.W.Partial.sets g.W.Transfer.moves g.R.RowRules.rules g.B.ByteFacts.store c.args.self.now.propagation.facts) (state_of g.W.Partial.sets g.W.Transfer.moves g.R.RowRules.rules g.B.ByteFacts.store c.outcome-outcome.new.self.propagation.facts) c.outcome-outcome.result c.outcome-outcome.ensures.outcome

pub returns-clause-kept : goal.returns-clause-kept
returns-clause-kept g c = kept_of (state_of g.W.Partial.sets g.W.Transfer.moves g.R.RowRules.rules g.B.ByteFacts.store c.args.self.now.propagation.facts) (state_of g.W.Partial.sets g.W.Transfer.moves g.R.RowRules.rules g.B.ByteFacts.store c.outcome-outcome.new.self.propagation.facts) c.outcome-outcome.result c.outcome-outcome.ensures.outcome

pub returns-clause-more : goal.returns-clause-more
returns-clause-more g c = more_of (state_of g.W.Partial.sets g.W.Transfer.moves g.R.RowRules.rules g.B.ByteFacts.store c.args.self.now.propagation.facts) (state_of g.W.Partial.sets g.W.Transfer.moves g.R.RowRules.rules g.B.ByteFacts.store c.outcome-outcome.new.self.propagation.facts) c.outcome-outcome.result c.outcome-outcome.ensures.outcome

pub returns-clause-whole : goal.returns-clause-whole
returns-clause-whole g c = λ e. (paused_of (state_of g.W.Partial.sets g.W.Transfer.moves g.R.RowRules.rules g.B.ByteFacts.store c.args.self.now.propagation.facts) (state_of g.W.Partial.sets g.W.Transfer.moves g.R.RowRules.rules g.B.ByteFacts.store c.outcome-outcome.new.self.propagation.facts) c.outcome-outcome.result c.outcome-outcome.ensures.outcome e).whole

pub returns-clause-shown : goal.returns-clause-shown
returns-clause-shown g c = λ calm kind e. (stopped_of (state_of g.W.Partial.sets g.W.Transfer.moves g.R.RowRules.rules g.B.ByteFacts.store c.args.self.now.propagation.facts) (state_of g.W.Partial.sets g.W.Transfer.moves g.R.RowRules.rules g.B.ByteFacts.store c.outcome-outcome.new.self.propagation.facts) c.outcome-outcome.result kind c.outcome-outcome.ensures.outcome e).shown calm

pub returns-clause-report : goal.returns-clause-report
returns-clause-report g c = report_of (state_of g.W.Partial.sets g.W.Transfer.moves g.R.RowRules.rules g.B.ByteFacts.store c.args.self.now.propagation.facts) (state_of g.W.Partial.sets g.W.Transfer.moves g.R.RowRules.rules g.B.ByteFacts.store c.outcome-outcome.new.self.propagation.facts) c.outcome-outcome.result c.outcome-outcome.ensures.outcome

pub returns-clause-complete : goal.returns-clause-complete
returns-clause-complete g c = complete_of (state_of g.W.Partial.sets g.W.Transfer.moves g.R.RowRules.rules g.B.ByteFacts.store c.args.self.now.propagation.facts) (state_of g.W.Partial.sets g.W.Transfer.moves g.R.RowRules.rules g.B.ByteFacts.store c.outcome-outcome.new.self.propagation.facts) c.outcome-outcome.result c.outcome-outcome.ensures.outcome

pub returns-clause-consistent : goal.returns-clause-consistent
returns-clause-consistent g c = consistent_of (state_of g.W.Partial.sets g.W.Transfer.moves g.R.RowRules.rules g.B.ByteFacts.store c.args.self.now.propagation.facts) (state_of g.W.Partial.sets g.W.Transfer.moves g.R.RowRules.rules g.B.ByteFacts.store c.outcome-outcome.new.self.propagation.facts) c.outcome-outcome.result c.outcome-outcome.ensures.outcome

pub returns-clause-conflict : goal.returns-clause-conflict
returns-clause-conflict g c = λ kind e. (stopped_of (state_of g.W.Partial.sets g.W.Transfer.moves g.R.RowRules.rules g.B.ByteFacts.store c.args.self.now.propagation.facts) (state_of g.W.Partial.sets g.W.Transfer.moves g.R.RowRules.rules g.B.ByteFacts.store c.outcome-outcome.new.self.propagation.facts) c.outcome-outcome.result kind c.outcome-outcome.ensures.outcome e).has

pub returns-clause-recorded : goal.returns-clause-recorded
returns-clause-recorded g c = λ kind e. (stopped_of (state_of g.W.Partial.sets g.W.Transfer.moves g.R.RowRules.rules g.B.ByteFacts.store c.args.self.now.propagation.facts) (state_of g.W.Partial.sets g.W.Transfer.moves g.R.RowRules.rules g.B.ByteFacts.store c.outcome-outcome.new.self.propagation.facts) c.outcome-outcome.result kind c.outcome-outcome.ensures.outcome e).recorded

pub returns-clause-sound : goal.returns-clause-sound
returns-clause-sound g c = sound_of (state_of g.W.Partial.sets g.W.Transfer.moves g.R.RowRules.rules g.B.ByteFacts.store c.args.self.now.propagation.facts) (state_of g.W.Partial.sets g.W.Transfer.moves g.R.RowRules.rules g.B.ByteFacts.store c.outcome-outcome.new.self.propagation.facts) (record { sets = g.met.W.Partial.lawful; moves = g.met.W.Transfer.covers; rules = g.met.R.RowRules.lawful; legs = (lawful c.outcome-outcome.new.self.propagation.facts.paths).legs; moments = (lawful c.outcome-outcome.new.self.propagation.facts.paths).moments }) c.outcome-outcome.result c.outcome-outcome.ensures.outcome

pub returns-clause-impossible : goal.returns-clause-impossible
returns-clause-impossible g c = λ kind e. impossible_of (state_of g.W.Partial.sets g.W.Transfer.moves g.R.RowRules.rules g.B.ByteFacts.store c.args.self.now.propagation.facts) (state_of g.W.Partial.sets g.W.Transfer.moves g.R.RowRules.rules g.B.ByteFacts.store c.outcome-outcome.new.self.propagation.facts) (record { sets = g.met.W.Partial.lawful; moves = g.met.W.Transfer.covers; rules = g.met.R.RowRules.lawful; legs = (lawful c.args.self.now.propagation.facts.paths).legs; moments = (lawful c.args.self.now.propagation.facts.paths).moments }) c.outcome-outcome.result kind c.outcome-outcome.ensures.outcome e

pub returns-clause-joins : goal.returns-clause-joins
returns-clause-joins g c = λ joins lined e. c.outcome-outcome.ensures.plain e joins lined

pub returns-clause-exact : goal.returns-clause-exact
returns-clause-exact g c = λ joins lined. exact_of (state_of g.W.Partial.sets g.W.Transfer.moves g.R.RowRules.rules g.B.ByteFacts.store c.args.self.now.propagation.facts) (state_of g.W.Partial.sets g.W.Transfer.moves g.R.RowRules.rules g.B.ByteFacts.store c.outcome-outcome.new.self.propagation.facts) c.outcome-outcome.result c.outcome-outcome.ensures.outcome (λ e. c.outcome-outcome.ensures.plain e joins lined)

pub returns-clause-refused : goal.returns-clause-refused
returns-clause-refused g c = λ joins lined. refused_of (state_of g.W.Partial.sets g.W.Transfer.moves g.R.RowRules.rules g.B.ByteFacts.store c.args.self.now.propagation.facts) (state_of g.W.Partial.sets g.W.Transfer.moves g.R.RowRules.rules g.B.ByteFacts.store c.outcome-outcome.new.self.propagation.facts) c.outcome-outcome.result c.outcome-outcome.ensures.outcome (λ e. c.outcome-outcome.ensures.plain e joins lined)

pub returns-clause-begins : goal.returns-clause-begins
returns-clause-begins g c = c.outcome-outcome.ensures.begins

pub returns-clause-ends : goal.returns-clause-ends
returns-clause-ends g c = c.outcome-outcome.ensures.ends
