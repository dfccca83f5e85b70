use Rattle.std.proofs.Common.{◌||◌, arith, ◌∙◌, ◌≤◌, sym, subst}
use Rattle.rept_facts.specs.State.{AnalysisState, state_of, Subject}
use Rattle.rept_facts.specs.Inferring.{IsCarriedIn}
use Rattle.rept_facts.proofs.Conclusion.{HasInferred_both, Grows_trans}
use Rattle.rept_propagate.proofs.Going.{strip_at}
use Rattle.rept_propagate.proofs.propagation.Propagation.carry_later.Goals as goal

pub carry_strip-requires-clause-strip : goal.carry_strip-requires-clause-strip
carry_strip-requires-clause-strip g c =
    let its = c.strip-later.ensures in
    let low = its.from in
    let high = its.to in
    strip_at _ c.args.first c.strip-later.result.first c.strip-later.result its (omega arith) (omega (arith, low, high))

pub returns-in_err-up-clause-grows : goal.returns-in_err-up-clause-grows
returns-in_err-up-clause-grows g c = Grows_trans _ _ _ c.in_ok-inside.ensures.grows c.leap_up.ensures.grows

pub returns-in_err-links-clause-grows : goal.returns-in_err-links-clause-grows
returns-in_err-links-clause-grows g c = Grows_trans _ _ _ (Grows_trans _ _ _ c.in_ok-inside.ensures.grows c.in_ok-up.ensures.grows) c.carry_links_on.ensures.grows

pub returns-clause-grows : goal.returns-clause-grows
returns-clause-grows g c = Grows_trans _ _ _ (Grows_trans _ _ _ c.in_ok-inside.ensures.grows c.in_ok-up.ensures.grows) c.in_ok-links.ensures.grows

pub returns-clause-inferred : goal.returns-clause-inferred
returns-clause-inferred g c =
    let inside = HasInferred_both (state_of g.W.Partial.sets g.W.Transfer.moves g.R.RowRules.rules g.B.ByteFacts.store c.args.self.now.facts) (state_of g.W.Partial.sets g.W.Transfer.moves g.R.RowRules.rules g.B.ByteFacts.store c.carry_strip.new.self.facts) (state_of g.W.Partial.sets g.W.Transfer.moves g.R.RowRules.rules g.B.ByteFacts.store c.leap_up.new.self.facts) c.in_ok-inside.inside c.in_ok-up.up.0 (IsCarriedIn c.args.a c.strip-later.result) (λ (x : AnalysisState g.row.W.Denot). Unit {0}) (λ (x : AnalysisState g.row.W.Denot). Unit {0}) c.in_ok-inside.ensures.grows c.in_ok-up.ensures.grows c.in_ok-inside.ensures.inferred c.in_ok-up.ensures.inferred (λ p q. tt) in
    HasInferred_both (state_of g.W.Partial.sets g.W.Transfer.moves g.R.RowRules.rules g.B.ByteFacts.store c.args.self.now.facts) (state_of g.W.Partial.sets g.W.Transfer.moves g.R.RowRules.rules g.B.ByteFacts.store c.leap_up.new.self.facts) (state_of g.W.Partial.sets g.W.Transfer.moves g.R.RowRules.rules g.B.ByteFacts.store c.carry_links_on.new.self.facts) (c.in_ok-inside.inside || c.in_ok-up.up.0) c.in_ok-links.links (λ (x : AnalysisState g.row.W.Denot). Unit {0}) (λ (x : AnalysisState g.row.W.Denot). Unit {0}) (λ (x : AnalysisState g.row.W.Denot). Unit {0}) (Grows_trans (state_of g.W.Partial.sets g.W.Transfer.moves g.R.RowRules.rules g.B.ByteFacts.store c.args.self.now.facts) (state_of g.W.Partial.sets g.W.Transfer.moves g.R.RowRules.rules g.B.ByteFacts.store c.carry_strip.new.self.facts) (state_of g.W.Partial.sets g.W.Transfer.moves g.R.RowRules.rules g.B.ByteFacts.store c.leap_up.new.self.facts) c.in_ok-inside.ensures.grows c.in_ok-up.ensures.grows) c.in_ok-links.ensures.grows inside c.in_ok-links.ensures.inferred (λ p q. tt)

pub leap_up-requires-clause-inside : goal.leap_up-requires-clause-inside
leap_up-requires-clause-inside g c = subst (λ (P : Subject g.row.W.Denot). c.strip-later.result.last ≤ P.given.moments.end) (sym (c.in_ok-inside.ensures.grows.path)) c.strip-later.ensures.inside

pub leap_up-requires-clause-writings : goal.leap_up-requires-clause-writings
leap_up-requires-clause-writings g c = c.in_ok-inside.ensures.grows.writing c.requires.writings

pub leap_up-requires-clause-open : goal.leap_up-requires-clause-open
leap_up-requires-clause-open g c = c.in_ok-inside.ensures.grows.complete ∙ c.requires.open

pub strip-number-requires : goal.strip-number-requires
strip-number-requires g c = subst (λ (P : Subject g.row.W.Denot). c.in_ok-up.up.1 ≤ P.given.moments.end) (sym c.in_ok-up.ensures.grows.path) c.in_ok-up.ensures.up.1

pub carry_links_on-requires-clause-inside : goal.carry_links_on-requires-clause-inside
carry_links_on-requires-clause-inside g c = c.strip-number.ensures.inside

pub carry_links_on-requires-clause-tracked : goal.carry_links_on-requires-clause-tracked
carry_links_on-requires-clause-tracked g c = c.in_ok-up.ensures.grows.tracked c.args.a (c.in_ok-inside.ensures.grows.tracked c.args.a c.requires.tracked)

pub carry_links_on-requires-clause-writings : goal.carry_links_on-requires-clause-writings
carry_links_on-requires-clause-writings g c = c.in_ok-up.ensures.grows.writing (c.in_ok-inside.ensures.grows.writing c.requires.writings)

pub carry_links_on-requires-clause-open : goal.carry_links_on-requires-clause-open
carry_links_on-requires-clause-open g c = c.in_ok-up.ensures.grows.complete ∙ (c.in_ok-inside.ensures.grows.complete ∙ c.requires.open)

pub returns-clause-up : goal.returns-clause-up
returns-clause-up g c =
    let later = c.strip-later.ensures.to in
    let up = c.in_ok-up.ensures.up.0 in
    let number = c.strip-number.ensures.to in
    (omega (arith, later, up, number), subst (λ (P : Subject g.row.W.Denot). c.strip-number.result.last ≤ P.given.moments.end) (c.in_ok-up.ensures.grows.path ∙ c.in_ok-inside.ensures.grows.path) c.strip-number.ensures.inside)
