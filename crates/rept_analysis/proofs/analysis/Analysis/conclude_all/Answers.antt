use Rattle.rept_timeline.specs.Paths.{lawful}
use Rattle.std.proofs.Common.{◌∙◌, ◌+◌, ◌<◌, ◌≤◌, length, sym, subst, arith}
use Rattle.rept_report.specs.Views.{instant_of}
use Rattle.rept_facts.specs.State.{Subject, state_of}
use Rattle.rept_facts.specs.Inferring.{Knows, KnowsInferred, InferredBelow}
use Rattle.rept_facts.proofs.Conclusion.{HasInferred_both, HasInferred_as, Grows_trans, inferred_more}
use Rattle.rept_facts.proofs.Learning.{known_words}
use Rattle.rept_facts.proofs.Following.{conclusion_more, slice_read}
use Rattle.rept_analysis.proofs.analysis.Analysis.conclude_all.Goals as goal

pub conclude-requires-clause-conclusion : goal.conclude-requires-clause-conclusion
conclude-requires-clause-conclusion g c =
    let s = state_of g.W.Partial.sets g.W.Transfer.moves g.R.RowRules.rules g.B.ByteFacts.store c.args.self.now.propagation.facts in
    let t = state_of g.W.Partial.sets g.W.Transfer.moves g.R.RowRules.rules g.B.ByteFacts.store c.loop-inferred.self.propagation.facts in
    let grows = c.loop-inferred.invariant.grows in
    let words = grows.words (known_words s c.held.ensures) in
    let below : c.loop-inferred.inferred-index < length c.args.list.now = omega arith in
    conclusion_more s t (record { sets = g.met.W.Partial.lawful; moves = g.met.W.Transfer.covers; rules = g.met.R.RowRules.lawful; legs = (lawful c.args.self.now.propagation.facts.paths).legs; moments = (lawful c.args.self.now.propagation.facts.paths).moments }) grows words c.args.i c.inferred-item.result (c.requires.conclusions c.loop-inferred.inferred-index c.inferred-item.result (slice_read c.args.list.now c.loop-inferred.inferred-index c.inferred-item.result below c.inferred-item.is))

pub returns-in_err-new-clause-grows : goal.returns-in_err-new-clause-grows
returns-in_err-new-clause-grows g c = Grows_trans _ _ _ c.loop-inferred.invariant.grows c.conclude.ensures.grows

pub loop-inferred-preserved : goal.loop-inferred-preserved
loop-inferred-preserved g c =
    let k = c.loop-inferred.inferred-index in
    let list = c.args.list.now in
    let below : k < length list = omega arith in
    let at = slice_read list k c.inferred-item.result below c.inferred-item.is in
    let u = state_of g.W.Partial.sets g.W.Transfer.moves g.R.RowRules.rules g.B.ByteFacts.store c.conclude.new.self.propagation.facts in
    record {
      grows = Grows_trans _ _ _ c.loop-inferred.invariant.grows c.in_ok-new.ensures.grows;
      inferred = HasInferred_both _ _ _ c.loop-inferred.learnt c.in_ok-new.new (InferredBelow k list c.args.i) (KnowsInferred c.args.i c.inferred-item.result) (InferredBelow (k + 1) list c.args.i)
          c.loop-inferred.invariant.grows c.in_ok-new.ensures.grows c.loop-inferred.invariant.inferred c.in_ok-new.ensures.inferred
          (λ p q. inferred_more (state_of g.W.Partial.sets g.W.Transfer.moves g.R.RowRules.rules g.B.ByteFacts.store c.args.self.now.propagation.facts) c.args.i list k c.inferred-item.result at p q);
      known = inferred_more u c.args.i list k c.inferred-item.result at (λ j d lt is. subst (λ (P : Subject g.row.W.Denot). Knows (instant_of P.given.moments c.args.i d.when d.cell) d.cell d.value u) (sym c.in_ok-new.ensures.grows.path) (c.in_ok-new.ensures.grows.more _ _ _ (c.loop-inferred.invariant.known j d lt is))) c.in_ok-new.ensures.known;
      still = c.in_ok-new.ensures.still ∙ c.loop-inferred.invariant.still;
    }

pub returns-clause-inferred : goal.returns-clause-inferred
returns-clause-inferred g c =
    let passed : length c.args.list.now ≤ c.loop-inferred.inferred-index = omega arith in
    HasInferred_as _ _ c.loop-inferred.learnt (InferredBelow c.loop-inferred.inferred-index c.args.list.now c.args.i) (InferredBelow (length c.args.list.now) c.args.list.now c.args.i) c.loop-inferred.invariant.inferred (λ h k d lt at. h k d (omega (arith, passed, lt)) at)

pub returns-in_err-new-clause-still : goal.returns-in_err-new-clause-still
returns-in_err-new-clause-still g c = c.conclude.ensures.still ∙ c.loop-inferred.invariant.still

pub returns-clause-known : goal.returns-clause-known
returns-clause-known g c =
    let passed : length c.args.list.now ≤ c.loop-inferred.inferred-index = omega arith in
    λ k d lt at. c.loop-inferred.invariant.known k d (omega (arith, passed, lt)) at

pub returns-clause-still : goal.returns-clause-still
returns-clause-still g c = c.loop-inferred.invariant.still
