use Rattle.std.proofs.Common.{ap, sym, subst, ◌∙◌}
use Rattle.rept_facts.specs.State.{AnalysisState, Whole, state_of}
use Rattle.rept_facts.specs.Inferring.{SameFacts, AreWritings}
use Rattle.rept_propagate.specs.Likeness.{IsCurrent}
use Rattle.rept_facts.proofs.Ending.{Same_trans}
use Rattle.rept_facts.proofs.Listing.{listed_same}
use Rattle.rept_analysis.specs.Since.{IsFilledQuiet}
use Rattle.rept_analysis.proofs.Since.{quiet_filled, current_filled, filled_all}
use Rattle.rept_analysis.proofs.analysis.Analysis.ready_since.Goals as goal

pub list_since-requires-clause-writings : goal.list_since-requires-clause-writings
list_since-requires-clause-writings g c = c.is_quiet_since-quiet.ensures.writings c.if-not-quiet.false

pub returns-clause-same : goal.returns-clause-same
returns-clause-same g c = subst (λ (x : Whole g.row.B.Denot g.row.W.Denot g.row.R.Denot). SameFacts (state_of g.W.Partial.sets g.W.Transfer.moves g.R.RowRules.rules g.B.ByteFacts.store c.args.self.now.propagation.facts) (state_of g.W.Partial.sets g.W.Transfer.moves g.R.RowRules.rules g.B.ByteFacts.store x)) (sym c.mark_all_late.ensures) (Same_trans (state_of g.W.Partial.sets g.W.Transfer.moves g.R.RowRules.rules g.B.ByteFacts.store c.args.self.now.propagation.facts) (state_of g.W.Partial.sets g.W.Transfer.moves g.R.RowRules.rules g.B.ByteFacts.store c.is_quiet_since-quiet.new.self) (state_of g.W.Partial.sets g.W.Transfer.moves g.R.RowRules.rules g.B.ByteFacts.store c.list_since.new.self) c.is_quiet_since-quiet.ensures.same (listed_same (state_of g.W.Partial.sets g.W.Transfer.moves g.R.RowRules.rules g.B.ByteFacts.store c.is_quiet_since-quiet.new.self) (state_of g.W.Partial.sets g.W.Transfer.moves g.R.RowRules.rules g.B.ByteFacts.store c.list_since.new.self) _ c.list_since.ensures.same))

pub returns-clause-writings : goal.returns-clause-writings
returns-clause-writings g c = λ _. subst (λ (x : Whole g.row.B.Denot g.row.W.Denot g.row.R.Denot). AreWritings (state_of g.W.Partial.sets g.W.Transfer.moves g.R.RowRules.rules g.B.ByteFacts.store x)) (sym c.mark_all_late.ensures) c.list_since.ensures.listed

pub returns-clause-quiet : goal.returns-clause-quiet
returns-clause-quiet g c =
    let same = Same_trans (state_of g.W.Partial.sets g.W.Transfer.moves g.R.RowRules.rules g.B.ByteFacts.store c.args.self.now.propagation.facts) (state_of g.W.Partial.sets g.W.Transfer.moves g.R.RowRules.rules g.B.ByteFacts.store c.is_quiet_since-quiet.new.self) (state_of g.W.Partial.sets g.W.Transfer.moves g.R.RowRules.rules g.B.ByteFacts.store c.list_since.new.self) c.is_quiet_since-quiet.ensures.same (listed_same (state_of g.W.Partial.sets g.W.Transfer.moves g.R.RowRules.rules g.B.ByteFacts.store c.is_quiet_since-quiet.new.self) (state_of g.W.Partial.sets g.W.Transfer.moves g.R.RowRules.rules g.B.ByteFacts.store c.list_since.new.self) _ c.list_since.ensures.same) in
    let filled = ap (λ (x : AnalysisState g.row.W.Denot). x.filled) c.list_since.ensures.same ∙ c.is_quiet_since-quiet.ensures.limit in
    λ _. subst (λ (x : Whole g.row.B.Denot g.row.W.Denot g.row.R.Denot). IsFilledQuiet (state_of g.W.Partial.sets g.W.Transfer.moves g.R.RowRules.rules g.B.ByteFacts.store x)) (sym c.mark_all_late.ensures) (quiet_filled (state_of g.W.Partial.sets g.W.Transfer.moves g.R.RowRules.rules g.B.ByteFacts.store c.args.self.now.propagation.facts) (state_of g.W.Partial.sets g.W.Transfer.moves g.R.RowRules.rules g.B.ByteFacts.store c.list_since.new.self) c.len-len.result same filled (c.is_quiet_since-quiet.ensures.quiet c.if-not-quiet.false))

pub returns-clause-current : goal.returns-clause-current
returns-clause-current g c =
    let same = Same_trans (state_of g.W.Partial.sets g.W.Transfer.moves g.R.RowRules.rules g.B.ByteFacts.store c.args.self.now.propagation.facts) (state_of g.W.Partial.sets g.W.Transfer.moves g.R.RowRules.rules g.B.ByteFacts.store c.is_quiet_since-quiet.new.self) (state_of g.W.Partial.sets g.W.Transfer.moves g.R.RowRules.rules g.B.ByteFacts.store c.list_since.new.self) c.is_quiet_since-quiet.ensures.same (listed_same (state_of g.W.Partial.sets g.W.Transfer.moves g.R.RowRules.rules g.B.ByteFacts.store c.is_quiet_since-quiet.new.self) (state_of g.W.Partial.sets g.W.Transfer.moves g.R.RowRules.rules g.B.ByteFacts.store c.list_since.new.self) _ c.list_since.ensures.same) in
    let filled = ap (λ (x : AnalysisState g.row.W.Denot). x.filled) c.list_since.ensures.same ∙ c.is_quiet_since-quiet.ensures.limit in
    λ _. subst (λ (x : Whole g.row.B.Denot g.row.W.Denot g.row.R.Denot). IsCurrent (state_of g.W.Partial.sets g.W.Transfer.moves g.R.RowRules.rules g.B.ByteFacts.store x)) (sym c.mark_all_late.ensures) (current_filled (state_of g.W.Partial.sets g.W.Transfer.moves g.R.RowRules.rules g.B.ByteFacts.store c.list_since.new.self) (filled_all (state_of g.W.Partial.sets g.W.Transfer.moves g.R.RowRules.rules g.B.ByteFacts.store c.args.self.now.propagation.facts) (state_of g.W.Partial.sets g.W.Transfer.moves g.R.RowRules.rules g.B.ByteFacts.store c.list_since.new.self) c.len-len.result same filled c.len-len.ensures.value) (quiet_filled (state_of g.W.Partial.sets g.W.Transfer.moves g.R.RowRules.rules g.B.ByteFacts.store c.args.self.now.propagation.facts) (state_of g.W.Partial.sets g.W.Transfer.moves g.R.RowRules.rules g.B.ByteFacts.store c.list_since.new.self) c.len-len.result same filled (c.is_quiet_since-quiet.ensures.quiet c.if-not-quiet.false)))
