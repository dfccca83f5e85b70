use Rattle.rept_timeline.specs.Paths.{lawful}
use Rattle.std.proofs.Common.{IfNone, arith}
use Rattle.std.proofs.lemmas.Result.{IfOk-weaker}
use Rattle.rept_report.specs.Why.{Because, IsKnownBecause}
use Rattle.rept_report.specs.Why.IsReason.{of_register}
use Rattle.rept_report.proofs.Reasons.{entry_within}
use Rattle.rept_log.specs.Fronts.{setting_in, stands}
use Rattle.rept_log.proofs.Reasoning.{none_after, some_after}
use Rattle.rept_facts.specs.Reasoned.{front_below}
use Rattle.rept_facts.specs.State.{state_of}
use Rattle.rept_facts.proofs.Explaining.{front_finds}
use Rattle.rept_facts.proofs.Fronts.{no_known}
use Rattle.rept_analysis.proofs.analysis.Analysis.why_register.Goals as goal

pub known_below-requires-clause-within : goal.known_below-requires-clause-within
known_below-requires-clause-within g c = let below = entry_within c.args.self.now.propagation.facts.known.log c.in-Some.place c.args.fact.now c.in-Some.ensures.found in omega (arith, below)

pub returns-in-Some-clause-none : goal.returns-in-Some-clause-none
returns-in-Some-clause-none g c =
    let s = state_of g.W.Partial.sets g.W.Transfer.moves g.R.RowRules.rules g.B.ByteFacts.store c.args.self.now.propagation.facts in
    let front = front_below g.W.Partial.sets g.W.Transfer.moves g.R.RowRules.rules c.args.self.now.propagation.facts c.in-Some.place in
    let None' : Type 0 = (why : Because) → IsKnownBecause (setting_in front) (stands front) c.args.fact.now why → ⊥ in
    IfOk-weaker c.known_below.result (λ found. IfNone found None') _ (λ found h. none_after None' _ found
    (no_known s (record { sets = g.met.W.Partial.lawful; moves = g.met.W.Transfer.covers; rules = g.met.R.RowRules.lawful; legs = (lawful c.args.self.now.propagation.facts.paths).legs; moments = (lawful c.args.self.now.propagation.facts.paths).moments }) c.held.ensures (c.held.ensures.finished c.requires.complete) c.args.fact.now c.args.r c.in-Some.place c.requires.cell c.in-Some.ensures.found) h)
    c.known_below.ensures.none

pub returns-in-Some-clause-reason : goal.returns-in-Some-clause-reason
returns-in-Some-clause-reason g c = IfOk-weaker c.known_below.result _ _ (λ found h. some_after _ _ found (λ reason by. of_register c.in-Some.place c.args.r _ (front_finds (state_of g.W.Partial.sets g.W.Transfer.moves g.R.RowRules.rules g.B.ByteFacts.store c.args.self.now.propagation.facts) (record { sets = g.met.W.Partial.lawful; moves = g.met.W.Transfer.covers; rules = g.met.R.RowRules.lawful; legs = (lawful c.args.self.now.propagation.facts.paths).legs; moments = (lawful c.args.self.now.propagation.facts.paths).moments }) c.held.ensures (c.held.ensures.finished c.requires.complete) c.in-Some.place) c.requires.cell c.in-Some.ensures.found by) h) c.known_below.ensures.found
