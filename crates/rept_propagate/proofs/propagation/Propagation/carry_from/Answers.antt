use Rattle.std.proofs.Common.{ℕ, ◌||◌, ◌<◌, ◌≤◌, sym, subst}
use Rattle.rept_report.specs.Spots.{passage}
use Rattle.rept_facts.specs.State.{AnalysisState, Whole, state_of}
use Rattle.rept_facts.specs.Inferring.{Grows, HasInferred, IsCarriedIf}
use Rattle.rept_facts.proofs.Conclusion.{HasInferred_both, HasInferred_same, Grows_itself, Grows_trans}
use Rattle.rept_propagate.proofs.propagation.Propagation.carry_from.Goals as goal

pub loop-least-init : goal.loop-least-init
loop-least-init g c = record { grows = Grows_itself _; inferred = HasInferred_same _ (λ (x : AnalysisState g.row.W.Denot). Unit {0}) tt }

pub carry_next-requires-clause-next : goal.carry_next-requires-clause-next
carry_next-requires-clause-next g c = (rw c.in-Some.is at c.next_from.ensures).0

pub carry_next-requires-clause-writings : goal.carry_next-requires-clause-writings
carry_next-requires-clause-writings g c = c.loop-least.invariant.grows.writing c.requires.writings

pub returns-in_err-done-clause-grows : goal.returns-in_err-done-clause-grows
returns-in_err-done-clause-grows g c = Grows_trans _ _ _ c.loop-least.invariant.grows c.carry_next.ensures.grows

pub loop-least-preserved : goal.loop-least-preserved
loop-least-preserved g c =
    let s = (state_of g.W.Partial.sets g.W.Transfer.moves g.R.RowRules.rules g.B.ByteFacts.store c.args.self.now.facts) in
    let t = (state_of g.W.Partial.sets g.W.Transfer.moves g.R.RowRules.rules g.B.ByteFacts.store c.loop-least.self.facts) in
    let u = (state_of g.W.Partial.sets g.W.Transfer.moves g.R.RowRules.rules g.B.ByteFacts.store c.carry_next.new.self.facts) in
    let P : AnalysisState g.row.W.Denot → Type 0 = λ x. (w : ℕ) → c.in-Some.next ≤ w → w < c.in_ok-done.done.1 → IsCarriedIf (passage c.args.a c.args.m w) x in
    record {
      grows = Grows_trans s t u c.loop-least.invariant.grows c.in_ok-done.ensures.grows;
      inferred = HasInferred_both s t u c.loop-least.learnt c.in_ok-done.done.0.has_news (λ (x : AnalysisState g.row.W.Denot). Unit {0}) P (λ (x : AnalysisState g.row.W.Denot). Unit {0}) c.loop-least.invariant.grows c.in_ok-done.ensures.grows c.loop-least.invariant.inferred c.in_ok-done.ensures.inferred (λ p q. tt);
    }

pub returns-then-learnt-clause-grows : goal.returns-then-learnt-clause-grows
returns-then-learnt-clause-grows g c =
    let st = state_of g.W.Partial.sets g.W.Transfer.moves g.R.RowRules.rules g.B.ByteFacts.store in
    subst (λ (x : Whole g.row.B.Denot g.row.W.Denot g.row.R.Denot). Grows (st c.args.self.now.facts) (st x)) (sym c.note_open.ensures)
    (Grows_trans (st c.args.self.now.facts) (st c.loop-least.self.facts) (st c.carry_next.new.self.facts) c.loop-least.invariant.grows c.in_ok-done.ensures.grows)

pub returns-then-learnt-clause-inferred : goal.returns-then-learnt-clause-inferred
returns-then-learnt-clause-inferred g c =
    let st = state_of g.W.Partial.sets g.W.Transfer.moves g.R.RowRules.rules g.B.ByteFacts.store in
    let s = st c.args.self.now.facts in
    let t = st c.loop-least.self.facts in
    let u = st c.carry_next.new.self.facts in
    let P : AnalysisState g.row.W.Denot → Type 0 = λ x. (w : ℕ) → c.in-Some.next ≤ w → w < c.in_ok-done.done.1 → IsCarriedIf (passage c.args.a c.args.m w) x in
    subst (λ (x : Whole g.row.B.Denot g.row.W.Denot g.row.R.Denot). HasInferred s (st x) (c.loop-least.learnt || c.in_ok-done.done.0.has_news) (λ (y : AnalysisState g.row.W.Denot). Unit {0})) (sym c.note_open.ensures)
    (HasInferred_both s t u c.loop-least.learnt c.in_ok-done.done.0.has_news (λ (x : AnalysisState g.row.W.Denot). Unit {0}) P (λ (x : AnalysisState g.row.W.Denot). Unit {0}) c.loop-least.invariant.grows c.in_ok-done.ensures.grows c.loop-least.invariant.inferred c.in_ok-done.ensures.inferred (λ p q. tt))
