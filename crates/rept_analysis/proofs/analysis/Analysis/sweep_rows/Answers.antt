use Rattle.std.proofs.Common.{◌≡◌, ◌||◌, false}
use Rattle.std.proofs.lemmas.Bool.{or_parts}
use Rattle.rept_facts.specs.State.{AnalysisState, state_of}
use Rattle.rept_facts.specs.Inferring.{LastKnownBelow, LastBytesKnown}
use Rattle.rept_facts.proofs.Begun.{begun_after}
use Rattle.rept_facts.proofs.Conclusion.{HasInferred_both, Grows_trans}
use Rattle.rept_facts.proofs.Listing.{writings_after}
use Rattle.rept_analysis.proofs.analysis.Analysis.sweep_rows.Goals as goal

pub infer_through-requires-clause-writings : goal.infer_through-requires-clause-writings
infer_through-requires-clause-writings g c = writings_after (state_of g.W.Partial.sets g.W.Transfer.moves g.R.RowRules.rules g.B.ByteFacts.store c.args.self.now.propagation.facts) (state_of g.W.Partial.sets g.W.Transfer.moves g.R.RowRules.rules g.B.ByteFacts.store c.infer_all_last.new.self.propagation.facts) c.in_ok-last.ensures.grows c.requires.writings

pub infer_through-requires-clause-uncut : goal.infer_through-requires-clause-uncut
infer_through-requires-clause-uncut g c = c.in_ok-last.ensures.inferred.uncut c.requires.uncut

pub returns-in_err-rows-clause-grows : goal.returns-in_err-rows-clause-grows
returns-in_err-rows-clause-grows g c = Grows_trans _ _ _ c.in_ok-last.ensures.grows c.infer_through.ensures.grows

pub carry_rest-requires-clause-writings : goal.carry_rest-requires-clause-writings
carry_rest-requires-clause-writings g c = writings_after (state_of g.W.Partial.sets g.W.Transfer.moves g.R.RowRules.rules g.B.ByteFacts.store c.args.self.now.propagation.facts) (state_of g.W.Partial.sets g.W.Transfer.moves g.R.RowRules.rules g.B.ByteFacts.store c.infer_through.new.self.propagation.facts) (Grows_trans _ _ _ c.in_ok-last.ensures.grows c.in_ok-rows.ensures.grows) c.requires.writings

pub carry_rest-requires-clause-uncut : goal.carry_rest-requires-clause-uncut
carry_rest-requires-clause-uncut g c = c.in_ok-rows.ensures.inferred.uncut (c.in_ok-last.ensures.inferred.uncut c.requires.uncut)

pub returns-in_err-bytes-clause-grows : goal.returns-in_err-bytes-clause-grows
returns-in_err-bytes-clause-grows g c = Grows_trans _ _ _ c.in_ok-last.ensures.grows (Grows_trans _ _ _ c.in_ok-rows.ensures.grows c.carry_rest.ensures.grows)

pub returns-in_err-rows-clause-begun : goal.returns-in_err-rows-clause-begun
returns-in_err-rows-clause-begun g c = λ h. begun_after (state_of g.W.Partial.sets g.W.Transfer.moves g.R.RowRules.rules g.B.ByteFacts.store c.infer_all_last.new.self.propagation.facts) (state_of g.W.Partial.sets g.W.Transfer.moves g.R.RowRules.rules g.B.ByteFacts.store c.infer_through.new.self.propagation.facts) c.infer_through.ensures.grows (c.in_ok-last.ensures.begun h)

pub returns-in_err-bytes-clause-begun : goal.returns-in_err-bytes-clause-begun
returns-in_err-bytes-clause-begun g c = λ h. begun_after (state_of g.W.Partial.sets g.W.Transfer.moves g.R.RowRules.rules g.B.ByteFacts.store c.infer_all_last.new.self.propagation.facts) (state_of g.W.Partial.sets g.W.Transfer.moves g.R.RowRules.rules g.B.ByteFacts.store c.carry_rest.new.self.propagation.facts) (Grows_trans _ _ _ c.in_ok-rows.ensures.grows c.carry_rest.ensures.grows) (c.in_ok-last.ensures.begun h)

pub returns-clause-grows : goal.returns-clause-grows
returns-clause-grows g c = Grows_trans _ _ _ c.in_ok-last.ensures.grows (Grows_trans _ _ _ c.in_ok-rows.ensures.grows c.in_ok-bytes.ensures.grows)

pub returns-clause-inferred : goal.returns-clause-inferred
returns-clause-inferred g c =
    let a = (state_of g.W.Partial.sets g.W.Transfer.moves g.R.RowRules.rules g.B.ByteFacts.store c.args.self.now.propagation.facts) in
    let b1 = (state_of g.W.Partial.sets g.W.Transfer.moves g.R.RowRules.rules g.B.ByteFacts.store c.infer_all_last.new.self.propagation.facts) in
    let b2 = (state_of g.W.Partial.sets g.W.Transfer.moves g.R.RowRules.rules g.B.ByteFacts.store c.infer_through.new.self.propagation.facts) in
    let b3 = (state_of g.W.Partial.sets g.W.Transfer.moves g.R.RowRules.rules g.B.ByteFacts.store c.carry_rest.new.self.propagation.facts) in
    let news = c.in_ok-last.last || c.in_ok-rows.rows in
    let U : AnalysisState g.row.W.Denot → Type 0 = λ x. Unit {0} in
    let P : AnalysisState g.row.W.Denot → Type 0 = LastKnownBelow 32 in
    let Q : AnalysisState g.row.W.Denot → Type 0 = λ x. news ≡ false → LastBytesKnown x in
    let g1 = c.in_ok-last.ensures.grows in
    let g2 = Grows_trans a b1 b2 g1 c.in_ok-rows.ensures.grows in
    let d2 = HasInferred_both a b1 b2 c.in_ok-last.last c.in_ok-rows.rows P U P g1 c.in_ok-rows.ensures.grows c.in_ok-last.ensures.inferred c.in_ok-rows.ensures.inferred (λ p q. p) in
    let both = HasInferred_both a b2 b3 news c.in_ok-bytes.bytes P Q (λ x. P x × Q x) g2 c.in_ok-bytes.ensures.grows d2 c.in_ok-bytes.ensures.inferred (λ p q. (p, q)) in
    record {
      news = both.news;
      unchanged = both.unchanged;
      closed = λ e. let all = both.closed e in (all.0, all.1 (or_parts news c.in_ok-bytes.bytes e).0);
      uncut = both.uncut;
    }

pub returns-clause-begun : goal.returns-clause-begun
returns-clause-begun g c = λ h. begun_after (state_of g.W.Partial.sets g.W.Transfer.moves g.R.RowRules.rules g.B.ByteFacts.store c.infer_all_last.new.self.propagation.facts) (state_of g.W.Partial.sets g.W.Transfer.moves g.R.RowRules.rules g.B.ByteFacts.store c.carry_rest.new.self.propagation.facts) (Grows_trans _ _ _ c.in_ok-rows.ensures.grows c.in_ok-bytes.ensures.grows) (c.in_ok-last.ensures.begun h)
