use Rattle.std.proofs.Common.{◌∙◌, ◌≤◌, Bool, IfOk, sym, subst}
use Rattle.rept_facts.specs.State.{AnalysisState, Subject, state_of}
use Rattle.rept_facts.specs.Inferring.{HasInferred}
use Rattle.rept_facts.proofs.Conclusion.{Grows_trans}
use Rattle.rept_propagate.proofs.propagation.Propagation.carry_over.Goals as goal

pub carry_from-requires-clause-inside : goal.carry_from-requires-clause-inside
carry_from-requires-clause-inside g c = subst (λ (P : Subject g.row.W.Denot). c.args.m ≤ P.given.moments.end) (sym (c.in_ok-open.ensures.grows.path)) c.requires.inside

pub carry_from-requires-clause-tracked : goal.carry_from-requires-clause-tracked
carry_from-requires-clause-tracked g c = c.in_ok-open.ensures.grows.tracked c.args.a c.requires.tracked

pub carry_from-requires-clause-writings : goal.carry_from-requires-clause-writings
carry_from-requires-clause-writings g c = c.in_ok-open.ensures.grows.writing c.requires.writings

pub carry_from-requires-clause-open : goal.carry_from-requires-clause-open
carry_from-requires-clause-open g c = c.in_ok-open.ensures.grows.complete ∙ c.requires.open

pub returns-then-open-clause-grows : goal.returns-then-open-clause-grows
returns-then-open-clause-grows g c = c.in_ok-open.ensures.grows

pub returns-then-open-clause-inferred : goal.returns-then-open-clause-inferred
returns-then-open-clause-inferred g c = c.in_ok-open.ensures.inferred

pub returns-clause-grows : goal.returns-clause-grows
returns-clause-grows g c = Grows_trans (state_of g.W.Partial.sets g.W.Transfer.moves g.R.RowRules.rules g.B.ByteFacts.store c.args.self.now.facts) (state_of g.W.Partial.sets g.W.Transfer.moves g.R.RowRules.rules g.B.ByteFacts.store c.carry_open.new.self.facts) (state_of g.W.Partial.sets g.W.Transfer.moves g.R.RowRules.rules g.B.ByteFacts.store c.carry_from.new.self.facts) c.in_ok-open.ensures.grows c.carry_from.ensures.grows

pub returns-clause-inferred : goal.returns-clause-inferred
returns-clause-inferred g c = subst (λ (x : AnalysisState g.row.W.Denot). IfOk c.carry_from.result (λ (learnt : Bool). HasInferred x (state_of g.W.Partial.sets g.W.Transfer.moves g.R.RowRules.rules g.B.ByteFacts.store c.carry_from.new.self.facts) learnt (λ (x : AnalysisState g.row.W.Denot). Unit {0}))) (c.in_ok-open.ensures.inferred.unchanged c.if-open.false) c.carry_from.ensures.inferred
