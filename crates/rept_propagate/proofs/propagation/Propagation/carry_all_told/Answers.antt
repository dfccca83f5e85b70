use Rattle.std.proofs.Common.{◌≡◌, ap}
use Rattle.rept_facts.specs.State.{Whole, AnalysisState, state_of}
use Rattle.rept_facts.proofs.Conclusion.{HasInferred_both, HasInferred_none, Grows_same, Grows_trans}
use Rattle.rept_propagate.proofs.propagation.Propagation.carry_all_told.Goals as goal

pub loop-k-init : goal.loop-k-init
loop-k-init g c =
    let s = (state_of g.W.Partial.sets g.W.Transfer.moves g.R.RowRules.rules g.B.ByteFacts.store c.args.self.now.facts) in
    let t = (state_of g.W.Partial.sets g.W.Transfer.moves g.R.RowRules.rules g.B.ByteFacts.store c.note_carrying.new.self.facts) in
    let same : t ≡ s = ap (λ (x : Whole g.row.B.Denot g.row.W.Denot g.row.R.Denot). (state_of g.W.Partial.sets g.W.Transfer.moves g.R.RowRules.rules g.B.ByteFacts.store x)) c.note_carrying.ensures in
    record { grows = Grows_same s t same; inferred = HasInferred_none s t (λ (x : AnalysisState g.row.W.Denot). Unit {0}) same tt; count = c.tracked_count-count.ensures }

pub carry_told-requires-clause-writings : goal.carry_told-requires-clause-writings
carry_told-requires-clause-writings g c = c.loop-k.invariant.grows.writing c.requires.writings

pub returns-in_err-new-clause-grows : goal.returns-in_err-new-clause-grows
returns-in_err-new-clause-grows g c = Grows_trans _ _ _ c.loop-k.invariant.grows c.carry_told.ensures.grows

pub loop-k-preserved : goal.loop-k-preserved
loop-k-preserved g c =
    let s = (state_of g.W.Partial.sets g.W.Transfer.moves g.R.RowRules.rules g.B.ByteFacts.store c.args.self.now.facts) in
    let t = (state_of g.W.Partial.sets g.W.Transfer.moves g.R.RowRules.rules g.B.ByteFacts.store c.loop-k.self.facts) in
    let u = (state_of g.W.Partial.sets g.W.Transfer.moves g.R.RowRules.rules g.B.ByteFacts.store c.carry_told.new.self.facts) in
    record {
      grows = Grows_trans s t u c.loop-k.invariant.grows c.in_ok-new.ensures.grows;
      inferred = HasInferred_both s t u c.loop-k.learnt c.in_ok-new.new (λ (x : AnalysisState g.row.W.Denot). Unit {0}) (λ (x : AnalysisState g.row.W.Denot). Unit {0}) (λ (x : AnalysisState g.row.W.Denot). Unit {0}) c.loop-k.invariant.grows c.in_ok-new.ensures.grows c.loop-k.invariant.inferred c.in_ok-new.ensures.inferred (λ p q. tt);
      count = c.loop-k.invariant.count;
    }
