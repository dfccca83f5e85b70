use Rattle.std.proofs.Common.{◌||◌}
use Rattle.rept_facts.specs.State.{AnalysisState, state_of}
use Rattle.rept_facts.specs.Inferring.{AllCarried, LastBytesKnown}
use Rattle.rept_facts.proofs.Conclusion.{HasInferred_both, Grows_trans}
use Rattle.rept_analysis.proofs.analysis.Analysis.carry_through.Goals as goal

pub infer_through-requires-clause-writings : goal.infer_through-requires-clause-writings
infer_through-requires-clause-writings g c = c.in_ok-carried.ensures.grows.writing c.requires.writings

pub infer_through-requires-clause-uncut : goal.infer_through-requires-clause-uncut
infer_through-requires-clause-uncut g c = c.in_ok-carried.ensures.inferred.uncut c.requires.uncut

pub carry_by_turns-requires-clause-writings : goal.carry_by_turns-requires-clause-writings
carry_by_turns-requires-clause-writings g c = c.in_ok-rows.ensures.grows.writing (c.in_ok-carried.ensures.grows.writing c.requires.writings)

pub carry_by_turns-requires-clause-uncut : goal.carry_by_turns-requires-clause-uncut
carry_by_turns-requires-clause-uncut g c = c.in_ok-rows.ensures.inferred.uncut (c.in_ok-carried.ensures.inferred.uncut c.requires.uncut)

pub returns-in_err-rows-clause-grows : goal.returns-in_err-rows-clause-grows
returns-in_err-rows-clause-grows g c = Grows_trans _ _ _ c.in_ok-carried.ensures.grows c.infer_through.ensures.grows

pub returns-in_err-bytes-clause-grows : goal.returns-in_err-bytes-clause-grows
returns-in_err-bytes-clause-grows g c = Grows_trans _ _ _ (Grows_trans _ _ _ c.in_ok-carried.ensures.grows c.in_ok-rows.ensures.grows) c.carry_by_turns.ensures.grows

pub returns-clause-grows : goal.returns-clause-grows
returns-clause-grows g c = Grows_trans _ _ _ (Grows_trans _ _ _ c.in_ok-carried.ensures.grows c.in_ok-rows.ensures.grows) c.in_ok-bytes.ensures.grows

pub returns-clause-inferred : goal.returns-clause-inferred
returns-clause-inferred g c =
    let st = state_of g.W.Partial.sets g.W.Transfer.moves g.R.RowRules.rules g.B.ByteFacts.store in
    let s = st c.args.self.now.propagation.facts in
    let t = st c.carry_tracked.new.self.facts in
    let u = st c.infer_through.new.self.propagation.facts in
    let v = st c.carry_by_turns.new.self.propagation.facts in
    let U : AnalysisState g.row.W.Denot → Type 0 = λ x. Unit {0} in
    let rows = HasInferred_both s t u c.in_ok-carried.carried c.in_ok-rows.rows AllCarried U AllCarried c.in_ok-carried.ensures.grows c.in_ok-rows.ensures.grows c.in_ok-carried.ensures.inferred c.in_ok-rows.ensures.inferred (λ p q. p) in
    HasInferred_both s u v (c.in_ok-carried.carried || c.in_ok-rows.rows) c.in_ok-bytes.bytes AllCarried LastBytesKnown AllCarried (Grows_trans s t u c.in_ok-carried.ensures.grows c.in_ok-rows.ensures.grows) c.in_ok-bytes.ensures.grows rows c.in_ok-bytes.ensures.inferred (λ p q. p)
