use Rattle.rept_timeline.specs.Paths.{lawful}
use Rattle.std.proofs.Common.{ℕ, ◌+◌, ◌<◌, ◌≤◌, Some, None, refl, false, sym, subst, arith}
use Rattle.rept_report.specs.Timeline.{IsNextFrom}
use Rattle.rept_report.specs.Spots.{passage}
use Rattle.rept_facts.specs.State.{AnalysisState, Whole, state_of}
use Rattle.rept_facts.specs.Inferring.{Grows, HasInferred, IsCarriedIf, AreBlocked, AreLinksBelow, AreLinks}
use Rattle.rept_facts.proofs.Conclusion.{HasInferred_as, HasInferred_both, HasInferred_first, HasInferred_same, Grows_itself, Grows_trans}
use Rattle.rept_propagate.proofs.Going.{next_none, links_first, links_far, links_none, links_end, links_blocked}
use Rattle.rept_propagate.proofs.propagation.Propagation.carry_links.Goals as goal

pub loop-least-init : goal.loop-least-init
loop-least-init g c = record { grows = Grows_itself _; inferred = HasInferred_same _ _ (links_first _ c.args.a c.args.m); end_is = c.end-end.ensures.value }

pub returns-in_default-clause-inferred : goal.returns-in_default-clause-inferred
returns-in_default-clause-inferred g c =
    let s = (state_of g.W.Partial.sets g.W.Transfer.moves g.R.RowRules.rules g.B.ByteFacts.store c.args.self.now.facts) in
    let t = (state_of g.W.Partial.sets g.W.Transfer.moves g.R.RowRules.rules g.B.ByteFacts.store c.loop-least.self.facts) in
    let least = c.loop-least.least in
    let from = c.idle_to-from.result in
    let a = c.args.a in
    let m = c.args.m in
    let Q : AnalysisState g.row.W.Denot → Type 0 = λ x. (AreLinksBelow a m least x → AreLinksBelow a m from x) × IsNextFrom x.path.given.moments m from None in
    HasInferred_first s t t c.loop-least.has_news false (AreLinksBelow c.args.a c.args.m least) Q (AreLinks c.args.a c.args.m) (Grows_itself t) refl c.loop-least.invariant.inferred (HasInferred_same t Q (c.idle_to-from.ensures.below, next_none t.path.given.moments m from c.next_from.result c.in_default.not-Some c.next_from.ensures)) (λ p q. links_none s a m from (q.0 p) q.1)

pub carry_next-requires-clause-next : goal.carry_next-requires-clause-next
carry_next-requires-clause-next g c = (rw c.in-Some.is at c.next_from.ensures).0

pub carry_next-requires-clause-writings : goal.carry_next-requires-clause-writings
carry_next-requires-clause-writings g c = c.loop-least.invariant.grows.writing c.requires.writings

pub returns-in_err-done-clause-grows : goal.returns-in_err-done-clause-grows
returns-in_err-done-clause-grows g c = Grows_trans _ _ _ c.loop-least.invariant.grows c.carry_next.ensures.grows

pub loop-least-preserved : goal.loop-least-preserved
loop-least-preserved g c =
    let s = (state_of g.W.Partial.sets g.W.Transfer.moves g.R.RowRules.rules g.B.ByteFacts.store c.args.self.now.facts) in
    let t = (state_of g.W.Partial.sets g.W.Transfer.moves g.R.RowRules.rules g.B.ByteFacts.store c.loop-least.self.facts) in
    let u = (state_of g.W.Partial.sets g.W.Transfer.moves g.R.RowRules.rules g.B.ByteFacts.store c.carry_next.new.self.facts) in
    let a = c.args.a in
    let m = c.args.m in
    let least = c.loop-least.least in
    let next = c.in-Some.next in
    let n = c.in_ok-done.done.1 in
    let i = c.loop-least.invariant in
    let e = c.in_ok-done.ensures in
    let from = c.idle_to-from.result in
    let its = rw c.in-Some.is at c.next_from.ensures in
    let Q : AnalysisState g.row.W.Denot → Type 0 = λ x. (w : ℕ) → next ≤ w → w < n → IsCarriedIf (passage a m w) x in
    let P : AnalysisState g.row.W.Denot → Type 0 = λ x. (AreLinksBelow a m least x → AreLinksBelow a m from x) × IsNextFrom x.path.given.moments m from (Some next) × Q x in
    record {
      grows = Grows_trans s t u i.grows e.grows;
      inferred = HasInferred_both s t u c.loop-least.has_news c.in_ok-done.done.0.has_news (AreLinksBelow a m least) P (AreLinksBelow a m n) i.grows e.grows i.inferred
          (HasInferred_as t u c.in_ok-done.done.0.has_news Q P e.inferred (λ h. (c.idle_to-from.ensures.below, its, h)))
          (λ p q. links_far s a m from (q.0 p) next n q.1 q.2);
      end_is = i.end_is;
    }

pub returns-clause-inferred : goal.returns-clause-inferred
returns-clause-inferred g c =
    let s = (state_of g.W.Partial.sets g.W.Transfer.moves g.R.RowRules.rules g.B.ByteFacts.store c.args.self.now.facts) in
    let t = (state_of g.W.Partial.sets g.W.Transfer.moves g.R.RowRules.rules g.B.ByteFacts.store c.loop-least.self.facts) in
    let end = c.loop-least.invariant.end_is in
    let ended = c.loop-least-test.false in
    HasInferred_as s t c.loop-least.has_news (AreLinksBelow c.args.a c.args.m c.loop-least.least) (AreLinks c.args.a c.args.m) c.loop-least.invariant.inferred (λ p. links_end s c.args.a c.args.m c.loop-least.least p (lawful c.args.self.now.facts.paths).moments.inside (omega (arith, end, ended)))

pub is_blocked-requires : goal.is_blocked-requires
is_blocked-requires g c = record { writings = c.loop-least.invariant.grows.writing c.requires.writings }

pub returns-then-is_blocked-clause-grows : goal.returns-then-is_blocked-clause-grows
returns-then-is_blocked-clause-grows g c =
    let st = state_of g.W.Partial.sets g.W.Transfer.moves g.R.RowRules.rules g.B.ByteFacts.store in
    subst (λ (x : Whole g.row.B.Denot g.row.W.Denot g.row.R.Denot). Grows (st c.args.self.now.facts) (st x)) (sym c.note_wall.ensures) c.loop-least.invariant.grows

pub returns-then-is_blocked-clause-inferred : goal.returns-then-is_blocked-clause-inferred
returns-then-is_blocked-clause-inferred g c =
    let st = state_of g.W.Partial.sets g.W.Transfer.moves g.R.RowRules.rules g.B.ByteFacts.store in
    let s = st c.args.self.now.facts in
    let t = st c.loop-least.self.facts in
    let Q : AnalysisState g.row.W.Denot → Type 0 = AreBlocked c.args.a c.args.m in
    subst (λ (x : Whole g.row.B.Denot g.row.W.Denot g.row.R.Denot). HasInferred s (st x) c.loop-least.has_news (AreLinks c.args.a c.args.m)) (sym c.note_wall.ensures)
    (HasInferred_first s t t c.loop-least.has_news false (AreLinksBelow c.args.a c.args.m c.loop-least.least) Q (AreLinks c.args.a c.args.m) (Grows_itself t) refl c.loop-least.invariant.inferred (HasInferred_same t Q (c.is_blocked.ensures c.if-is_blocked.true)) (λ p q. links_blocked s c.args.a c.args.m q))

pub idle_to-from-requires-clause-writings : goal.idle_to-from-requires-clause-writings
idle_to-from-requires-clause-writings g c = c.loop-least.invariant.grows.writing c.requires.writings
