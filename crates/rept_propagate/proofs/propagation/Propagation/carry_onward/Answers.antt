use Rattle.rept_timeline.specs.Paths.{lawful}
use Rattle.std.proofs.Common.{◌+◌, ◌||◌, false, refl, ap, arith}
use Rattle.rept_facts.specs.State.{Subject, AnalysisState, timeline_of, state_of}
use Rattle.rept_report.specs.Timeline.{IsStrip}
use Rattle.rept_facts.specs.Inferring.{IsCarriedIn, AreLinks, IsCarriedUpTo, IsCarriedAlong}
use Rattle.rept_facts.proofs.Conclusion.{HasInferred_as, HasInferred_both, HasInferred_first, HasInferred_same, Grows_itself, Grows_trans}
use Rattle.rept_propagate.proofs.Going.{strip_at, up_to_none, up_to_more, up_to_all}
use Rattle.rept_propagate.proofs.propagation.Propagation.carry_onward.Goals as goal

pub loop-from-init : goal.loop-from-init
loop-from-init g c = record { grows = Grows_itself _; inferred = HasInferred_same _ _ (up_to_none _ c.args.a); end_is = c.end-end.ensures.value }

pub carry_strip-requires-clause-strip : goal.carry_strip-requires-clause-strip
carry_strip-requires-clause-strip g c = let its = c.strip-strip.ensures in strip_at _ c.loop-from.from c.strip-strip.result.first c.strip-strip.result its (omega arith) (let low = its.from in let high = its.to in omega (arith, low, high))

pub carry_strip-requires-clause-writings : goal.carry_strip-requires-clause-writings
carry_strip-requires-clause-writings g c = c.loop-from.invariant.grows.writing c.requires.writings

pub leap_end-requires-clause-inside : goal.leap_end-requires-clause-inside
leap_end-requires-clause-inside g c =
    let inside = c.strip-strip.ensures.inside in
    let end = ap (λ (P : Subject g.row.W.Denot). P.given.moments.end) c.in_ok-inside.ensures.grows.path in
    omega (arith, inside, end)

pub leap_end-requires-clause-writings : goal.leap_end-requires-clause-writings
leap_end-requires-clause-writings g c = c.in_ok-inside.ensures.grows.writing (c.loop-from.invariant.grows.writing c.requires.writings)

pub carry_links-requires-clause-inside : goal.carry_links-requires-clause-inside
carry_links-requires-clause-inside g c =
    let inside = c.strip-strip.ensures.inside in
    let end = ap (λ (P : Subject g.row.W.Denot). P.given.moments.end) c.in_ok-inside.ensures.grows.path in
    let same = ap (λ (P : Subject g.row.W.Denot). P.given.moments.end) c.in_ok-up.ensures.grows.path in
    omega (arith, inside, end, same)

pub carry_links-requires-clause-writings : goal.carry_links-requires-clause-writings
carry_links-requires-clause-writings g c = c.in_ok-up.ensures.grows.writing (c.in_ok-inside.ensures.grows.writing (c.loop-from.invariant.grows.writing c.requires.writings))

pub carry_links-requires-clause-tracked : goal.carry_links-requires-clause-tracked
carry_links-requires-clause-tracked g c = c.in_ok-up.ensures.grows.tracked c.args.a (c.in_ok-inside.ensures.grows.tracked c.args.a (c.loop-from.invariant.grows.tracked c.args.a c.requires.tracked))

pub uneven_from-from-requires : goal.uneven_from-from-requires
uneven_from-from-requires g c = record { writings = c.in_ok-others.ensures.grows.writing (c.in_ok-links.ensures.grows.writing (c.in_ok-up.ensures.grows.writing (c.in_ok-inside.ensures.grows.writing (c.loop-from.invariant.grows.writing c.requires.writings)))) }

pub follow_if-requires-clause-within : goal.follow_if-requires-clause-within
follow_if-requires-clause-within g c =
    let its = c.strip-strip.ensures in
    let low = its.from in
    let high = its.to in
    let inside = its.inside in
    let end = ap (λ (P : Subject g.row.W.Denot). P.given.moments.end) c.in_ok-inside.ensures.grows.path in
    let same = ap (λ (P : Subject g.row.W.Denot). P.given.moments.end) c.in_ok-up.ensures.grows.path in
    let still = ap (λ (P : Subject g.row.W.Denot). P.given.moments.end) c.in_ok-links.ensures.grows.path in
    omega (arith, low, high, inside, end, same, still)

pub follow_if-requires-clause-writings : goal.follow_if-requires-clause-writings
follow_if-requires-clause-writings g c = c.in_ok-links.ensures.grows.writing (c.in_ok-up.ensures.grows.writing (c.in_ok-inside.ensures.grows.writing (c.loop-from.invariant.grows.writing c.requires.writings)))

pub returns-in_err-inside-clause-grows : goal.returns-in_err-inside-clause-grows
returns-in_err-inside-clause-grows g c = Grows_trans _ _ _ c.loop-from.invariant.grows c.carry_strip.ensures.grows

pub returns-in_err-up-clause-grows : goal.returns-in_err-up-clause-grows
returns-in_err-up-clause-grows g c = Grows_trans _ _ _ (Grows_trans _ _ _ c.loop-from.invariant.grows c.in_ok-inside.ensures.grows) c.leap_end.ensures.grows

pub returns-in_err-links-clause-grows : goal.returns-in_err-links-clause-grows
returns-in_err-links-clause-grows g c = Grows_trans _ _ _ (Grows_trans _ _ _ (Grows_trans _ _ _ c.loop-from.invariant.grows c.in_ok-inside.ensures.grows) c.in_ok-up.ensures.grows) c.carry_links.ensures.grows

pub returns-in_err-others-clause-grows : goal.returns-in_err-others-clause-grows
returns-in_err-others-clause-grows g c = Grows_trans _ _ _ (Grows_trans _ _ _ (Grows_trans _ _ _ (Grows_trans _ _ _ c.loop-from.invariant.grows c.in_ok-inside.ensures.grows) c.in_ok-up.ensures.grows) c.in_ok-links.ensures.grows) c.follow_if.ensures.grows

pub loop-from-preserved : goal.loop-from-preserved
loop-from-preserved g c =
    let s = (state_of g.W.Partial.sets g.W.Transfer.moves g.R.RowRules.rules g.B.ByteFacts.store c.args.self.now.facts) in
    let t = (state_of g.W.Partial.sets g.W.Transfer.moves g.R.RowRules.rules g.B.ByteFacts.store c.loop-from.self.facts) in
    let u = (state_of g.W.Partial.sets g.W.Transfer.moves g.R.RowRules.rules g.B.ByteFacts.store c.carry_strip.new.self.facts) in
    let x = (state_of g.W.Partial.sets g.W.Transfer.moves g.R.RowRules.rules g.B.ByteFacts.store c.leap_end.new.self.facts) in
    let v = (state_of g.W.Partial.sets g.W.Transfer.moves g.R.RowRules.rules g.B.ByteFacts.store c.carry_links.new.self.facts) in
    let w = (state_of g.W.Partial.sets g.W.Transfer.moves g.R.RowRules.rules g.B.ByteFacts.store c.follow_if.new.self.facts) in
    let a = c.args.a in
    let from = c.loop-from.from in
    let strip = c.strip-strip.result in
    let i = c.loop-from.invariant in
    let P : AnalysisState g.row.W.Denot → Type 0 = λ y. IsStrip (timeline_of y) from strip × IsCarriedIn a strip y in
    let R : AnalysisState g.row.W.Denot → Type 0 = λ y. IsCarriedUpTo a from y × P y in
    let to = Grows_trans s t u i.grows c.in_ok-inside.ensures.grows in
    let further = Grows_trans s u x to c.in_ok-up.ensures.grows in
    let inside = HasInferred_both s t u c.loop-from.learnt c.in_ok-inside.inside (IsCarriedUpTo a from) P R i.grows c.in_ok-inside.ensures.grows i.inferred
    (HasInferred_as t u c.in_ok-inside.inside (IsCarriedIn a strip) P c.in_ok-inside.ensures.inferred (λ h. (c.strip-strip.ensures, h))) (λ p q. (p, q)) in
    let up = HasInferred_both s u x (c.loop-from.learnt || c.in_ok-inside.inside) c.in_ok-up.up R (λ (y : AnalysisState g.row.W.Denot). Unit {0}) R to c.in_ok-up.ensures.grows inside c.in_ok-up.ensures.inferred (λ p q. p) in
    let links = HasInferred_both s x v (c.loop-from.learnt || c.in_ok-inside.inside || c.in_ok-up.up) c.in_ok-links.links R (AreLinks a strip.last) (IsCarriedUpTo a (strip.last + 1)) further c.in_ok-links.ensures.grows up c.in_ok-links.ensures.inferred
    (λ p q. up_to_more s a from from strip p.1.0 (p.1.0).from p.0 p.1.1 q) in
    let Q : AnalysisState g.row.W.Denot → Type 0 = λ y. IsCarriedUpTo a (strip.last + 1) y → IsCarriedUpTo a c.uneven_from-from.result y in
    let reached = Grows_trans s x v further c.in_ok-links.ensures.grows in
    let others = HasInferred_both s v w (c.loop-from.learnt || c.in_ok-inside.inside || c.in_ok-up.up || c.in_ok-links.links) c.in_ok-others.others (IsCarriedUpTo a (strip.last + 1)) (λ (y : AnalysisState g.row.W.Denot). Unit {0}) (IsCarriedUpTo a (strip.last + 1)) reached c.in_ok-others.ensures.grows links c.in_ok-others.ensures.inferred (λ p q. p) in
    record {
      grows = Grows_trans s v w reached c.in_ok-others.ensures.grows;
      inferred = HasInferred_first s w w (c.loop-from.learnt || c.in_ok-inside.inside || c.in_ok-up.up || c.in_ok-links.links || c.in_ok-others.others) false (IsCarriedUpTo a (strip.last + 1)) Q (IsCarriedUpTo a c.uneven_from-from.result) (Grows_itself w) refl others (HasInferred_same w Q c.uneven_from-from.ensures.up) (λ p q. q p);
      end_is = i.end_is;
    }

pub returns-clause-inferred : goal.returns-clause-inferred
returns-clause-inferred g c =
    let s = (state_of g.W.Partial.sets g.W.Transfer.moves g.R.RowRules.rules g.B.ByteFacts.store c.args.self.now.facts) in
    let t = (state_of g.W.Partial.sets g.W.Transfer.moves g.R.RowRules.rules g.B.ByteFacts.store c.loop-from.self.facts) in
    let end = c.loop-from.invariant.end_is in
    let ended = c.loop-from-test.false in
    HasInferred_as s t c.loop-from.learnt (IsCarriedUpTo c.args.a c.loop-from.from) (IsCarriedAlong c.args.a) c.loop-from.invariant.inferred (λ p. up_to_all s c.args.a c.loop-from.from (lawful c.args.self.now.facts.paths).moments.inside (omega (arith, end, ended)) p)
