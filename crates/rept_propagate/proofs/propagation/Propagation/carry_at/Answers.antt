use Rattle.std.proofs.Common.{◌||◌}
use Rattle.rept_facts.specs.State.{AnalysisState, state_of}
use Rattle.rept_facts.specs.Inferring.{IsCarriedIn, AreLinks}
use Rattle.rept_facts.proofs.Conclusion.{HasInferred_both, Grows_trans}
use Rattle.rept_propagate.proofs.propagation.Propagation.carry_at.Goals as goal

pub returns-in_err-up-clause-grows : goal.returns-in_err-up-clause-grows
returns-in_err-up-clause-grows g c = Grows_trans _ _ _ c.in_ok-inside.ensures.grows c.leap_end.ensures.grows

pub returns-in_err-links-clause-grows : goal.returns-in_err-links-clause-grows
returns-in_err-links-clause-grows g c = Grows_trans _ _ _ (Grows_trans _ _ _ c.in_ok-inside.ensures.grows c.in_ok-up.ensures.grows) c.carry_links.ensures.grows

pub returns-clause-grows : goal.returns-clause-grows
returns-clause-grows g c = Grows_trans _ _ _ (Grows_trans _ _ _ c.in_ok-inside.ensures.grows c.in_ok-up.ensures.grows) c.in_ok-links.ensures.grows

pub returns-clause-inferred : goal.returns-clause-inferred
returns-clause-inferred g c =
    let s = state_of g.W.Partial.sets g.W.Transfer.moves g.R.RowRules.rules g.B.ByteFacts.store c.args.self.now.facts in
    let t = state_of g.W.Partial.sets g.W.Transfer.moves g.R.RowRules.rules g.B.ByteFacts.store c.carry_strip.new.self.facts in
    let u = state_of g.W.Partial.sets g.W.Transfer.moves g.R.RowRules.rules g.B.ByteFacts.store c.leap_end.new.self.facts in
    let v = state_of g.W.Partial.sets g.W.Transfer.moves g.R.RowRules.rules g.B.ByteFacts.store c.carry_links.new.self.facts in
    let P : AnalysisState g.row.W.Denot → Type 0 = λ x. Unit {0} in
    let to = Grows_trans s t u c.in_ok-inside.ensures.grows c.in_ok-up.ensures.grows in
    let up = HasInferred_both s t u c.in_ok-inside.inside c.in_ok-up.up (IsCarriedIn c.args.a c.strip-strip.result) P P c.in_ok-inside.ensures.grows c.in_ok-up.ensures.grows c.in_ok-inside.ensures.inferred c.in_ok-up.ensures.inferred (λ p q. tt) in
    HasInferred_both s u v (c.in_ok-inside.inside || c.in_ok-up.up) c.in_ok-links.links P (AreLinks c.args.a c.strip-strip.result.last) P to c.in_ok-links.ensures.grows up c.in_ok-links.ensures.inferred (λ p q. tt)
