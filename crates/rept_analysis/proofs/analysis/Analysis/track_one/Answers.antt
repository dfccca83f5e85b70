use Rattle.std.proofs.Common.{true}
use Rattle.rept_facts.specs.State.{AnalysisState, state_of}
use Rattle.rept_facts.specs.Inferring.{IsTracked}
use Rattle.rept_facts.proofs.Conclusion.{HasInferred_new, HasInferred_both, Grows_same, Grows_trans}
use Rattle.rept_facts.proofs.Listing.{writings_after}
use Rattle.rept_analysis.proofs.analysis.Analysis.track_one.Goals as goal

pub infer_dump-requires-clause-tracked : goal.infer_dump-requires-clause-tracked
infer_dump-requires-clause-tracked g c = let told = rw c.in-Ok-true.field-0-test at c.in-Ok-true.ensures in told.2

pub infer_dump-requires-clause-writings : goal.infer_dump-requires-clause-writings
infer_dump-requires-clause-writings g c = let told = rw c.in-Ok-true.field-0-test at c.in-Ok-true.ensures in writings_after (state_of g.W.Partial.sets g.W.Transfer.moves g.R.RowRules.rules g.B.ByteFacts.store c.args.self.now.propagation.facts) (state_of g.W.Partial.sets g.W.Transfer.moves g.R.RowRules.rules g.B.ByteFacts.store c.track.new.self) told.0 c.requires.writings

pub returns-in_err-_told-in-Ok-true-clause-grows : goal.returns-in_err-_told-in-Ok-true-clause-grows
returns-in_err-_told-in-Ok-true-clause-grows g c = let told = rw c.in-Ok-true.field-0-test at c.in-Ok-true.ensures in Grows_trans _ _ _ told.0 c.infer_dump.ensures.grows

pub returns-in_ok-_told-in-Ok-true-clause-grows : goal.returns-in_ok-_told-in-Ok-true-clause-grows
returns-in_ok-_told-in-Ok-true-clause-grows g c = let told = rw c.in-Ok-true.field-0-test at c.in-Ok-true.ensures in Grows_trans _ _ _ told.0 c.in_ok-_told-in-Ok-true.ensures.grows

pub returns-in_ok-_told-in-Ok-true-clause-inferred : goal.returns-in_ok-_told-in-Ok-true-clause-inferred
returns-in_ok-_told-in-Ok-true-clause-inferred g c =
    let told = rw c.in-Ok-true.field-0-test at c.in-Ok-true.ensures in
    let a = (state_of g.W.Partial.sets g.W.Transfer.moves g.R.RowRules.rules g.B.ByteFacts.store c.args.self.now.propagation.facts) in
    let b = (state_of g.W.Partial.sets g.W.Transfer.moves g.R.RowRules.rules g.B.ByteFacts.store c.track.new.self) in
    HasInferred_both a b (state_of g.W.Partial.sets g.W.Transfer.moves g.R.RowRules.rules g.B.ByteFacts.store c.infer_dump.new.self.propagation.facts) true c.in_ok-_told-in-Ok-true._told (IsTracked c.args.a) (λ (x : AnalysisState g.row.W.Denot). Unit {0}) (IsTracked c.args.a) told.0 c.in_ok-_told-in-Ok-true.ensures.grows (HasInferred_new a b (IsTracked c.args.a) told.1 told.5) c.in_ok-_told-in-Ok-true.ensures.inferred (λ p q. p)

pub returns-in_ok-_told-in-Ok-true-clause-tracked : goal.returns-in_ok-_told-in-Ok-true-clause-tracked
returns-in_ok-_told-in-Ok-true-clause-tracked g c = let told = rw c.in-Ok-true.field-0-test at c.in-Ok-true.ensures in c.in_ok-_told-in-Ok-true.ensures.grows.tracked c.args.a told.2

pub returns-in-Ok-false-clause-grows : goal.returns-in-Ok-false-clause-grows
returns-in-Ok-false-clause-grows g c = let told = rw c.in-Ok-false.field-0-test at c.in-Ok-false.ensures in Grows_same _ _ told.0

pub returns-in-Err-clause-grows : goal.returns-in-Err-clause-grows
returns-in-Err-clause-grows g c = Grows_same _ _ c.in-Err.ensures.0
