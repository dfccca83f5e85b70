use Rattle.std.proofs.Common.{arith}
use Rattle.rept_facts.specs.State.{AnalysisState, state_of}
use Rattle.rept_facts.proofs.Conclusion.{HasInferred_both, HasInferred_same, Grows_itself, Grows_trans}
use Rattle.rept_propagate.proofs.Going.{strip_at, strip_after}
use Rattle.rept_propagate.proofs.propagation.Propagation.carry_beyond.Goals as goal

pub carry_down-requires-clause-strip : goal.carry_down-requires-clause-strip
carry_down-requires-clause-strip g c =
    let its = c.requires.strip in
    let from = its.from in
    let to = its.to in
    strip_at _ c.args.number c.args.strip.first c.args.strip its (omega arith) (omega (arith, from, to))

pub carry_up-requires-clause-strip : goal.carry_up-requires-clause-strip
carry_up-requires-clause-strip g c =
    let its = c.requires.strip in
    let from = its.from in
    let to = its.to in
    strip_after (state_of g.W.Partial.sets g.W.Transfer.moves g.R.RowRules.rules g.B.ByteFacts.store c.args.self.now.facts) (state_of g.W.Partial.sets g.W.Transfer.moves g.R.RowRules.rules g.B.ByteFacts.store c.carry_down.new.self.facts) c.in_ok-down.ensures.grows c.args.strip.first c.args.strip (strip_at _ c.args.number c.args.strip.first c.args.strip its (omega arith) (omega (arith, from, to)))

pub carry_up-requires-clause-inside : goal.carry_up-requires-clause-inside
carry_up-requires-clause-inside g c =
    let least = c.since_hit-from.ensures in
    let reaches = (rw c.in-Some.is at c.stretch.ensures).reaches in
    omega (arith, least, reaches)

pub carry_up-requires-clause-writings : goal.carry_up-requires-clause-writings
carry_up-requires-clause-writings g c = c.in_ok-down.ensures.grows.writing c.requires.writings

pub returns-in_err-up-clause-grows : goal.returns-in_err-up-clause-grows
returns-in_err-up-clause-grows g c = Grows_trans _ _ _ c.in_ok-down.ensures.grows c.carry_up.ensures.grows

pub returns-clause-grows : goal.returns-clause-grows
returns-clause-grows g c = Grows_trans _ _ _ c.in_ok-down.ensures.grows c.in_ok-up.ensures.grows

pub returns-clause-inferred : goal.returns-clause-inferred
returns-clause-inferred g c = HasInferred_both (state_of g.W.Partial.sets g.W.Transfer.moves g.R.RowRules.rules g.B.ByteFacts.store c.args.self.now.facts) (state_of g.W.Partial.sets g.W.Transfer.moves g.R.RowRules.rules g.B.ByteFacts.store c.carry_down.new.self.facts) (state_of g.W.Partial.sets g.W.Transfer.moves g.R.RowRules.rules g.B.ByteFacts.store c.carry_up.new.self.facts) c.in_ok-down.down c.in_ok-up.up (λ (x : AnalysisState g.row.W.Denot). Unit {0}) (λ (x : AnalysisState g.row.W.Denot). Unit {0}) (λ (x : AnalysisState g.row.W.Denot). Unit {0}) c.in_ok-down.ensures.grows c.in_ok-up.ensures.grows c.in_ok-down.ensures.inferred c.in_ok-up.ensures.inferred (λ p q. tt)

pub returns-in_default-clause-grows : goal.returns-in_default-clause-grows
returns-in_default-clause-grows g c = Grows_itself (state_of g.W.Partial.sets g.W.Transfer.moves g.R.RowRules.rules g.B.ByteFacts.store c.args.self.now.facts)

pub returns-in_default-clause-inferred : goal.returns-in_default-clause-inferred
returns-in_default-clause-inferred g c = HasInferred_same (state_of g.W.Partial.sets g.W.Transfer.moves g.R.RowRules.rules g.B.ByteFacts.store c.args.self.now.facts) (λ (x : AnalysisState g.row.W.Denot). Unit {0}) tt

pub returns-then-stretch-strip-clause-grows : goal.returns-then-stretch-strip-clause-grows
returns-then-stretch-strip-clause-grows g c = Grows_itself (state_of g.W.Partial.sets g.W.Transfer.moves g.R.RowRules.rules g.B.ByteFacts.store c.args.self.now.facts)

pub returns-then-stretch-strip-clause-inferred : goal.returns-then-stretch-strip-clause-inferred
returns-then-stretch-strip-clause-inferred g c = HasInferred_same (state_of g.W.Partial.sets g.W.Transfer.moves g.R.RowRules.rules g.B.ByteFacts.store c.args.self.now.facts) (λ (x : AnalysisState g.row.W.Denot). Unit {0}) tt
