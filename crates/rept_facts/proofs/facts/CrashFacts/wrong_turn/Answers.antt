use Rattle.rept_timeline.specs.Paths.{timeline, lawful}
use Rattle.std.proofs.Common.{◌<◌, arith, ◌≡◌, ℕ, Some, None, sym, subst}
use Rattle.rept_report.specs.declared.conflict.ConflictKind.{ConflictKind}
use Rattle.rept_reason.specs.Facts.{told}
use Rattle.rept_report.specs.Log.{oldest}
use Rattle.rept_report.specs.Conflicts.{IsWrongTurn, Shows}
use Rattle.rept_facts.specs.State.{setting_of}
use Rattle.rept_facts.proofs.Conclusion.{one_more}
use Rattle.rept_facts.proofs.facts.CrashFacts.wrong_turn.Goals as goal

pub returns-clause-none : goal.returns-clause-none
returns-clause-none g c =
    λ _ i h.
    let inside : i < (timeline c.args.self.now.paths).legs.count = (lawful c.args.self.now.paths).legs.inside i h.row h.is_row in
    let count = c.loop-step.invariant.count in
    c.loop-step.invariant.right i (omega (arith, inside, count)) h

some_none : {x : ConflictKind} → Some x ≡ None → ⊥
some_none e = cc

same_kind : {x y : ConflictKind} → Some x ≡ Some y → x ≡ y
same_kind e = cc

pub loop-step-init : goal.loop-step-init
loop-step-init g c = record { right = λ i lt. absurd (omega (arith, lt)); count = c.count-count.ensures.value }

pub loop-step-preserved : goal.loop-step-preserved
loop-step-preserved g c = record {
  right = one_more (λ (i : ℕ). IsWrongTurn (setting_of g.W.Partial.sets g.W.Transfer.moves g.R.RowRules.rules c.args.self.now) (told (oldest c.args.limit c.args.self.now.known.log)) i → ⊥) c.loop-step.step c.loop-step.invariant.right (c.is_wrong-wrong.ensures.right c.if-wrong.false);
  count = c.loop-step.invariant.count;
}

pub returns-then-wrong-clause-none : goal.returns-then-wrong-clause-none
returns-then-wrong-clause-none g c = λ e i h. some_none e

pub returns-then-wrong-clause-some : goal.returns-then-wrong-clause-some
returns-then-wrong-clause-some g c = λ kind is.
    subst (λ (k : ConflictKind). Shows (setting_of g.W.Partial.sets g.W.Transfer.moves g.R.RowRules.rules c.args.self.now) (told (oldest c.args.limit c.args.self.now.known.log)) k) (same_kind is) (c.is_wrong-wrong.ensures.wrong c.if-wrong.true)

pub returns-clause-some : goal.returns-clause-some
returns-clause-some g c = λ kind is. absurd (some_none (sym is))

pub is_wrong-wrong-requires : goal.is_wrong-wrong-requires
is_wrong-wrong-requires g c =
    let count = c.loop-step.invariant.count in
    omega (arith, count)
