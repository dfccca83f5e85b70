use Rattle.rept_timeline.specs.Paths.{lawful}
use Rattle.std.proofs.Common.{◌<◌, ◌^◌, arith, sym, ◌∙◌}
use Rattle.rept_reason.specs.declared.fact.Cell.TheVariants.{Byte}
use Rattle.rept_facts.specs.State.{AnalysisState, state_of}
use Rattle.rept_facts.proofs.Answering.{byte_known, byte_implied, implied_answers, answers_derived}
use Rattle.rept_analysis.proofs.Refining.{byte_sound, closure_holds}
use Rattle.rept_facts.proofs.Stopping.{byte_answered}
use Rattle.rept_report.specs.Why.{fact_of}
use Rattle.rept_analysis.proofs.analysis.Analysis.byte.Goals as goal

pub returns-then-not-ended-clause-derived : goal.returns-then-not-ended-clause-derived
returns-then-not-ended-clause-derived g c = λ has v e.
    let small : c.args.a < 2 ^ 32 = omega arith in
    byte_answered (state_of g.W.Partial.sets g.W.Transfer.moves g.R.RowRules.rules g.B.ByteFacts.store c.args.self.now.propagation.facts) (record { sets = g.met.W.Partial.lawful; moves = g.met.W.Transfer.covers; rules = g.met.R.RowRules.lawful; legs = (lawful c.args.self.now.propagation.facts.paths).legs; moments = (lawful c.args.self.now.propagation.facts.paths).moments }) c.ended.ensures.kept (sym c.ended.ensures.value ∙ c.if-not-ended.true) has c.args.point c.args.a v small (sym c.shown_byte.ensures ∙ e)

pub returns-then-not-ended-clause-sound : goal.returns-then-not-ended-clause-sound
returns-then-not-ended-clause-sound g c = λ v e.
    byte_sound (state_of g.W.Partial.sets g.W.Transfer.moves g.R.RowRules.rules g.B.ByteFacts.store c.args.self.now.propagation.facts) (record { sets = g.met.W.Partial.lawful; moves = g.met.W.Transfer.covers; rules = g.met.R.RowRules.lawful; legs = (lawful c.args.self.now.propagation.facts.paths).legs; moments = (lawful c.args.self.now.propagation.facts.paths).moments }) c.ended.ensures.kept c.args.point c.args.a v (sym c.shown_byte.ensures ∙ e)

pub returns-in-Some-clause-ended : goal.returns-in-Some-clause-ended
returns-in-Some-clause-ended g c = λ complete.
    let s : AnalysisState g.row.W.Denot = state_of g.W.Partial.sets g.W.Transfer.moves g.R.RowRules.rules g.B.ByteFacts.store c.args.self.now.propagation.facts in
    byte_known s ((c.ended.ensures.kept).finished complete).settled c.ended.ensures.kept.listed c.args.point c.args.a c.in-Some.v (sym c.known_byte.ensures ∙ c.in-Some.is)

pub returns-in-Some-clause-derived : goal.returns-in-Some-clause-derived
returns-in-Some-clause-derived g c = λ _ v e.
    let s : AnalysisState g.row.W.Denot = state_of g.W.Partial.sets g.W.Transfer.moves g.R.RowRules.rules g.B.ByteFacts.store c.args.self.now.propagation.facts in
    let complete = sym c.ended.ensures.value ∙ c.if-not-ended.false in
    let finished = (c.ended.ensures.kept).finished complete in
    answers_derived s finished c.args.point (Byte c.args.a) v (sym (byte_known s finished.settled c.ended.ensures.kept.listed c.args.point c.args.a c.in-Some.v (sym c.known_byte.ensures ∙ c.in-Some.is)) ∙ e)

pub returns-in-Some-clause-sound : goal.returns-in-Some-clause-sound
returns-in-Some-clause-sound g c = λ v e.
    let s : AnalysisState g.row.W.Denot = state_of g.W.Partial.sets g.W.Transfer.moves g.R.RowRules.rules g.B.ByteFacts.store c.args.self.now.propagation.facts in
    let complete = sym c.ended.ensures.value ∙ c.if-not-ended.false in
    let finished = (c.ended.ensures.kept).finished complete in
    let derived = answers_derived s finished c.args.point (Byte c.args.a) v (sym (byte_known s finished.settled c.ended.ensures.kept.listed c.args.point c.args.a c.in-Some.v (sym c.known_byte.ensures ∙ c.in-Some.is)) ∙ e) in
    closure_holds s (record { sets = g.met.W.Partial.lawful; moves = g.met.W.Transfer.covers; rules = g.met.R.RowRules.lawful; legs = (lawful c.args.self.now.propagation.facts.paths).legs; moments = (lawful c.args.self.now.propagation.facts.paths).moments }) (fact_of c.args.point (Byte c.args.a) v) derived

pub returns-in-None-clause-ended : goal.returns-in-None-clause-ended
returns-in-None-clause-ended g c = λ complete.
    let s : AnalysisState g.row.W.Denot = state_of g.W.Partial.sets g.W.Transfer.moves g.R.RowRules.rules g.B.ByteFacts.store c.args.self.now.propagation.facts in
    let settled = ((c.ended.ensures.kept).finished complete).settled in
    c.implied.ensures ∙ implied_answers s settled c.args.point c.args.a ∙ byte_implied s settled (record { sets = g.met.W.Partial.lawful; moves = g.met.W.Transfer.covers; rules = g.met.R.RowRules.lawful; legs = (lawful c.args.self.now.propagation.facts.paths).legs; moments = (lawful c.args.self.now.propagation.facts.paths).moments }) c.args.point c.args.a (sym c.known_byte.ensures ∙ c.in-None.is)

pub returns-in-None-clause-derived : goal.returns-in-None-clause-derived
returns-in-None-clause-derived g c = λ _ v e.
    let s : AnalysisState g.row.W.Denot = state_of g.W.Partial.sets g.W.Transfer.moves g.R.RowRules.rules g.B.ByteFacts.store c.args.self.now.propagation.facts in
    let complete = sym c.ended.ensures.value ∙ c.if-not-ended.false in
    let finished = (c.ended.ensures.kept).finished complete in
    let is = c.implied.ensures ∙ implied_answers s finished.settled c.args.point c.args.a ∙ byte_implied s finished.settled (record { sets = g.met.W.Partial.lawful; moves = g.met.W.Transfer.covers; rules = g.met.R.RowRules.lawful; legs = (lawful c.args.self.now.propagation.facts.paths).legs; moments = (lawful c.args.self.now.propagation.facts.paths).moments }) c.args.point c.args.a (sym c.known_byte.ensures ∙ c.in-None.is) in
    answers_derived s finished c.args.point (Byte c.args.a) v (sym is ∙ e)

pub returns-in-None-clause-sound : goal.returns-in-None-clause-sound
returns-in-None-clause-sound g c = λ v e.
    let s : AnalysisState g.row.W.Denot = state_of g.W.Partial.sets g.W.Transfer.moves g.R.RowRules.rules g.B.ByteFacts.store c.args.self.now.propagation.facts in
    let complete = sym c.ended.ensures.value ∙ c.if-not-ended.false in
    let finished = (c.ended.ensures.kept).finished complete in
    let is = c.implied.ensures ∙ implied_answers s finished.settled c.args.point c.args.a ∙ byte_implied s finished.settled (record { sets = g.met.W.Partial.lawful; moves = g.met.W.Transfer.covers; rules = g.met.R.RowRules.lawful; legs = (lawful c.args.self.now.propagation.facts.paths).legs; moments = (lawful c.args.self.now.propagation.facts.paths).moments }) c.args.point c.args.a (sym c.known_byte.ensures ∙ c.in-None.is) in
    let derived = answers_derived s finished c.args.point (Byte c.args.a) v (sym is ∙ e) in
    closure_holds s (record { sets = g.met.W.Partial.lawful; moves = g.met.W.Transfer.covers; rules = g.met.R.RowRules.lawful; legs = (lawful c.args.self.now.propagation.facts.paths).legs; moments = (lawful c.args.self.now.propagation.facts.paths).moments }) (fact_of c.args.point (Byte c.args.a) v) derived
