use Rattle.std.proofs.Common.{◌+◌, None, Some, sym, subst, arith}
use Rattle.rept_report.specs.Timeline.{IsLastFrom}
use Rattle.rept_facts.specs.State.{Subject, state_of}
use Rattle.rept_facts.specs.Inferring.{LastPointKnown, LastKnownBelow}
use Rattle.rept_facts.proofs.Begun.{begun_by, begun_unless, lasts_grow}
use Rattle.rept_facts.proofs.Conclusion.{HasInferred_both, HasInferred_as, HasInferred_same, Grows_itself, Grows_trans}
use Rattle.rept_facts.proofs.Following.{LastsBelow, last_none, lasts_all, lasts_more}
use Rattle.rept_analysis.proofs.analysis.Analysis.infer_all_last.Goals as goal

pub loop-point-init : goal.loop-point-init
loop-point-init g c = record { grows = Grows_itself _; inferred = HasInferred_same _ _ (λ p less last. absurd (omega (arith, less))); known = λ p less last. absurd (omega (arith, less)); ends = λ h. h }

pub returns-in_default-clause-inferred : goal.returns-in_default-clause-inferred
returns-in_default-clause-inferred g c =
    let s = state_of g.W.Partial.sets g.W.Transfer.moves g.R.RowRules.rules g.B.ByteFacts.store c.args.self.now.propagation.facts in
    let t = state_of g.W.Partial.sets g.W.Transfer.moves g.R.RowRules.rules g.B.ByteFacts.store c.loop-point.self.propagation.facts in
    let none = last_none t.path.given.legs c.loop-point.least c.next_last.result c.in_default.not-Some c.next_last.ensures.last in
    HasInferred_as s t c.loop-point.learnt (LastsBelow c.loop-point.least) (LastKnownBelow 32) c.loop-point.invariant.inferred (λ h. lasts_all s c.loop-point.least (subst (λ (P : Subject g.row.W.Denot). IsLastFrom P.given.legs c.loop-point.least None) c.loop-point.invariant.grows.path none) h)

pub infer_last_point-requires-clause-point : goal.infer_last_point-requires-clause-point
infer_last_point-requires-clause-point g c = let next = rw c.in-Some.is at c.next_last.ensures.last in (next.1, next.2)

pub returns-in_err-new-clause-grows : goal.returns-in_err-new-clause-grows
returns-in_err-new-clause-grows g c = Grows_trans _ _ _ c.loop-point.invariant.grows c.infer_last_point.ensures.grows

pub loop-point-preserved : goal.loop-point-preserved
loop-point-preserved g c =
    let s = state_of g.W.Partial.sets g.W.Transfer.moves g.R.RowRules.rules g.B.ByteFacts.store c.args.self.now.propagation.facts in
    let t = state_of g.W.Partial.sets g.W.Transfer.moves g.R.RowRules.rules g.B.ByteFacts.store c.loop-point.self.propagation.facts in
    let u = state_of g.W.Partial.sets g.W.Transfer.moves g.R.RowRules.rules g.B.ByteFacts.store c.infer_last_point.new.self.propagation.facts in
    let i = c.loop-point.invariant in
    let here = rw c.in-Some.is at c.next_last.ensures.last in
    let next = subst (λ (P : Subject g.row.W.Denot). IsLastFrom P.given.legs c.loop-point.least (Some c.in-Some.point)) i.grows.path here in
    record {
      grows = Grows_trans s t u i.grows c.in_ok-new.ensures.grows;
      inferred = HasInferred_both s t u c.loop-point.learnt c.in_ok-new.new (LastsBelow c.loop-point.least) (LastPointKnown 32 c.in-Some.point) (LastsBelow (c.in-Some.point + 1)) i.grows c.in_ok-new.ensures.grows i.inferred c.in_ok-new.ensures.inferred (λ p q. lasts_more s c.loop-point.least c.in-Some.point next p q);
      known = let after = subst (λ (P : Subject g.row.W.Denot). IsLastFrom P.given.legs c.loop-point.least (Some c.in-Some.point)) (sym c.in_ok-new.ensures.grows.path) here in lasts_more u c.loop-point.least c.in-Some.point after (lasts_grow t u c.in_ok-new.ensures.grows c.loop-point.least i.known) c.in_ok-new.ensures.known;
      ends = λ h. c.in_ok-new.ensures.ends (i.ends h);
    }

pub returns-in_default-clause-begun : goal.returns-in_default-clause-begun
returns-in_default-clause-begun g c =
    let s = (state_of g.W.Partial.sets g.W.Transfer.moves g.R.RowRules.rules g.B.ByteFacts.store c.args.self.now.propagation.facts) in
    let t = (state_of g.W.Partial.sets g.W.Transfer.moves g.R.RowRules.rules g.B.ByteFacts.store c.loop-point.self.propagation.facts) in
    let none = last_none t.path.given.legs c.loop-point.least c.next_last.result c.in_default.not-Some c.next_last.ensures.last in
    begun_by s t c.loop-point.invariant.grows c.held.ensures (lasts_all t c.loop-point.least none c.loop-point.invariant.known) c.loop-point.invariant.ends

pub returns-in_err-new-clause-begun : goal.returns-in_err-new-clause-begun
returns-in_err-new-clause-begun g c =
    let s = (state_of g.W.Partial.sets g.W.Transfer.moves g.R.RowRules.rules g.B.ByteFacts.store c.args.self.now.propagation.facts) in
    let u = (state_of g.W.Partial.sets g.W.Transfer.moves g.R.RowRules.rules g.B.ByteFacts.store c.infer_last_point.new.self.propagation.facts) in
    begun_unless s u (Grows_trans _ _ _ c.loop-point.invariant.grows c.infer_last_point.ensures.grows) (λ h. c.in_err-new.ensures.calm (c.loop-point.invariant.ends h))
