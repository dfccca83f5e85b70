use Rattle.rept_timeline.specs.Paths.{lawful}
use Rattle.std.proofs.Common.{ℕ, IfNone, subst, arith}
use Rattle.std.proofs.lemmas.Result.{IfOk-weaker}
use Rattle.rept_report.specs.Why.{Because, IsInferredBecause}
use Rattle.rept_report.specs.Why.IsReason.{of_inferred_byte}
use Rattle.rept_report.proofs.Reasons.{entry_within}
use Rattle.rept_log.specs.Fronts.{setting_in, stands}
use Rattle.rept_log.proofs.Reasoning.{none_after, some_after}
use Rattle.rept_report.specs.Log.{oldest}
use Rattle.rept_facts.specs.Reasoned.{AreSetsOf, front_below}
use Rattle.rept_facts.specs.State.{setting_of, state_of}
use Rattle.rept_facts.proofs.Explaining.{front_finds}
use Rattle.rept_facts.proofs.Fronts.{no_inferred}
use Rattle.rept_analysis.proofs.analysis.Analysis.why_inferred.Goals as goal

pub inferred_below-requires-clause-within : goal.inferred_below-requires-clause-within
inferred_below-requires-clause-within g c = let below = entry_within c.args.self.now.propagation.facts.known.log c.args.place c.args.fact.now c.requires.entry in omega (arith, below)

pub inferred_below-requires-clause-sets : goal.inferred_below-requires-clause-sets
inferred_below-requires-clause-sets g c = subst (λ (t : ℕ). AreSetsOf (setting_of g.W.Partial.sets g.W.Transfer.moves g.R.RowRules.rules c.args.self.now.propagation.facts) (oldest t c.args.self.now.propagation.facts.known.log) c.fill_to.new.sets.spans) c.fill_to.ensures.limit c.fill_to.ensures.sets

pub returns-clause-none : goal.returns-clause-none
returns-clause-none g c =
    let s = state_of g.W.Partial.sets g.W.Transfer.moves g.R.RowRules.rules g.B.ByteFacts.store c.args.self.now.propagation.facts in
    let front = front_below g.W.Partial.sets g.W.Transfer.moves g.R.RowRules.rules c.args.self.now.propagation.facts c.args.place in
    let None' : Type 0 = (why : Because) → IsInferredBecause (setting_in front) (stands front) c.args.fact.now why → ⊥ in
    IfOk-weaker c.inferred_below.result (λ found. IfNone found None') _ (λ found h. none_after None' _ found
    (no_inferred s (record { sets = g.met.W.Partial.lawful; moves = g.met.W.Transfer.covers; rules = g.met.R.RowRules.lawful; legs = (lawful c.args.self.now.propagation.facts.paths).legs; moments = (lawful c.args.self.now.propagation.facts.paths).moments }) c.held.ensures (c.held.ensures.finished c.requires.complete) c.args.fact.now c.args.a c.args.place c.requires.cell c.requires.least c.requires.entry) h)
    c.inferred_below.ensures.none

pub returns-clause-reason : goal.returns-clause-reason
returns-clause-reason g c = IfOk-weaker c.inferred_below.result _ _ (λ found h. some_after _ _ found (λ reason by. of_inferred_byte c.args.place c.args.a _ (front_finds (state_of g.W.Partial.sets g.W.Transfer.moves g.R.RowRules.rules g.B.ByteFacts.store c.args.self.now.propagation.facts) (record { sets = g.met.W.Partial.lawful; moves = g.met.W.Transfer.covers; rules = g.met.R.RowRules.lawful; legs = (lawful c.args.self.now.propagation.facts.paths).legs; moments = (lawful c.args.self.now.propagation.facts.paths).moments }) c.held.ensures (c.held.ensures.finished c.requires.complete) c.args.place) c.requires.cell c.requires.least c.requires.entry by) h) c.inferred_below.ensures.found
