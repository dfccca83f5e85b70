use Rattle.std.proofs.Common.{Bool, sym, subst}
use Rattle.rept_facts.specs.State.{AnalysisState, state_of}
use Rattle.rept_facts.specs.Inferring.{HasInferred, AllCarried}
use Rattle.rept_propagate.specs.Likeness.{IsCurrent}
use Rattle.rept_facts.proofs.Conclusion.{HasInferred_second, Grows_trans}
use Rattle.rept_facts.proofs.Listing.{writings_after}
use Rattle.rept_analysis.proofs.analysis.Analysis.sweep_since.Goals as goal

pub returns-then-fresh-clause-inferred : goal.returns-then-fresh-clause-inferred
returns-then-fresh-clause-inferred g c =
    let U : AnalysisState g.row.W.Denot → Type 0 = λ x. Unit {0} in
    subst (λ (x : Bool). HasInferred (state_of g.W.Partial.sets g.W.Transfer.moves g.R.RowRules.rules g.B.ByteFacts.store c.args.self.now.propagation.facts) (state_of g.W.Partial.sets g.W.Transfer.moves g.R.RowRules.rules g.B.ByteFacts.store c.sweep_fresh_since.new.self.propagation.facts) x U) c.if-fresh.true c.in_ok-fresh.ensures.inferred

pub carry_through-requires-clause-writings : goal.carry_through-requires-clause-writings
carry_through-requires-clause-writings g c = writings_after (state_of g.W.Partial.sets g.W.Transfer.moves g.R.RowRules.rules g.B.ByteFacts.store c.args.self.now.propagation.facts) (state_of g.W.Partial.sets g.W.Transfer.moves g.R.RowRules.rules g.B.ByteFacts.store c.sweep_fresh_since.new.self.propagation.facts) c.in_ok-fresh.ensures.grows c.requires.writings

pub carry_through-requires-clause-current : goal.carry_through-requires-clause-current
carry_through-requires-clause-current g c = subst (λ (x : AnalysisState g.row.W.Denot). IsCurrent x) (sym (c.in_ok-fresh.ensures.inferred.unchanged c.if-fresh.false)) c.requires.current

pub carry_through-requires-clause-uncut : goal.carry_through-requires-clause-uncut
carry_through-requires-clause-uncut g c = c.in_ok-fresh.ensures.inferred.uncut c.requires.uncut

pub returns-in_err-carried-clause-grows : goal.returns-in_err-carried-clause-grows
returns-in_err-carried-clause-grows g c = Grows_trans _ _ _ c.in_ok-fresh.ensures.grows c.carry_through.ensures.grows

pub returns-then-carried-clause-grows : goal.returns-then-carried-clause-grows
returns-then-carried-clause-grows g c = Grows_trans _ _ _ c.in_ok-fresh.ensures.grows c.in_ok-carried.ensures.grows

pub returns-then-carried-clause-inferred : goal.returns-then-carried-clause-inferred
returns-then-carried-clause-inferred g c =
    let U : AnalysisState g.row.W.Denot → Type 0 = λ x. Unit {0} in
    let both = HasInferred_second (state_of g.W.Partial.sets g.W.Transfer.moves g.R.RowRules.rules g.B.ByteFacts.store c.args.self.now.propagation.facts) (state_of g.W.Partial.sets g.W.Transfer.moves g.R.RowRules.rules g.B.ByteFacts.store c.sweep_fresh_since.new.self.propagation.facts) (state_of g.W.Partial.sets g.W.Transfer.moves g.R.RowRules.rules g.B.ByteFacts.store c.carry_through.new.self.propagation.facts) c.in_ok-fresh.fresh c.in_ok-carried.carried U AllCarried U c.if-fresh.false c.in_ok-fresh.ensures.grows c.in_ok-fresh.ensures.inferred c.in_ok-carried.ensures.inferred (λ p q. tt) in
    subst (λ (x : Bool). HasInferred (state_of g.W.Partial.sets g.W.Transfer.moves g.R.RowRules.rules g.B.ByteFacts.store c.args.self.now.propagation.facts) (state_of g.W.Partial.sets g.W.Transfer.moves g.R.RowRules.rules g.B.ByteFacts.store c.carry_through.new.self.propagation.facts) x U) c.if-carried.true both

pub infer_late_back-requires-clause-writings : goal.infer_late_back-requires-clause-writings
infer_late_back-requires-clause-writings g c = writings_after (state_of g.W.Partial.sets g.W.Transfer.moves g.R.RowRules.rules g.B.ByteFacts.store c.args.self.now.propagation.facts) (state_of g.W.Partial.sets g.W.Transfer.moves g.R.RowRules.rules g.B.ByteFacts.store c.carry_through.new.self.propagation.facts) (Grows_trans _ _ _ c.in_ok-fresh.ensures.grows c.in_ok-carried.ensures.grows) c.requires.writings

pub infer_late_back-requires-clause-uncut : goal.infer_late_back-requires-clause-uncut
infer_late_back-requires-clause-uncut g c = c.in_ok-carried.ensures.inferred.uncut (c.in_ok-fresh.ensures.inferred.uncut c.requires.uncut)

pub returns-in_err-rows-clause-grows : goal.returns-in_err-rows-clause-grows
returns-in_err-rows-clause-grows g c = Grows_trans _ _ _ c.in_ok-fresh.ensures.grows (Grows_trans _ _ _ c.in_ok-carried.ensures.grows c.infer_late_back.ensures.grows)

pub returns-clause-grows : goal.returns-clause-grows
returns-clause-grows g c = Grows_trans _ _ _ c.in_ok-fresh.ensures.grows (Grows_trans _ _ _ c.in_ok-carried.ensures.grows c.in_ok-rows.ensures.grows)

pub returns-clause-inferred : goal.returns-clause-inferred
returns-clause-inferred g c =
    let U : AnalysisState g.row.W.Denot → Type 0 = λ x. Unit {0} in
    let both = HasInferred_second (state_of g.W.Partial.sets g.W.Transfer.moves g.R.RowRules.rules g.B.ByteFacts.store c.args.self.now.propagation.facts) (state_of g.W.Partial.sets g.W.Transfer.moves g.R.RowRules.rules g.B.ByteFacts.store c.sweep_fresh_since.new.self.propagation.facts) (state_of g.W.Partial.sets g.W.Transfer.moves g.R.RowRules.rules g.B.ByteFacts.store c.carry_through.new.self.propagation.facts) c.in_ok-fresh.fresh c.in_ok-carried.carried U AllCarried U c.if-fresh.false c.in_ok-fresh.ensures.grows c.in_ok-fresh.ensures.inferred c.in_ok-carried.ensures.inferred (λ p q. tt) in
    HasInferred_second (state_of g.W.Partial.sets g.W.Transfer.moves g.R.RowRules.rules g.B.ByteFacts.store c.args.self.now.propagation.facts) (state_of g.W.Partial.sets g.W.Transfer.moves g.R.RowRules.rules g.B.ByteFacts.store c.carry_through.new.self.propagation.facts) (state_of g.W.Partial.sets g.W.Transfer.moves g.R.RowRules.rules g.B.ByteFacts.store c.infer_late_back.new.self.propagation.facts) c.in_ok-carried.carried c.in_ok-rows.rows U U U c.if-carried.false (Grows_trans _ _ _ c.in_ok-fresh.ensures.grows c.in_ok-carried.ensures.grows) both c.in_ok-rows.ensures.inferred (λ p q. tt)
