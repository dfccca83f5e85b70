use Rattle.std.proofs.Common.{◌≢◌, ℕ, ◌+◌, ◌<◌, ◌≤◌, Some, ap, arith}
use Rattle.rept_isa.specs.Operands.{written_by}
use Rattle.rept_log.specs.Compared.{IsFirstDiffering}
use Rattle.rept_facts.specs.State.{AnalysisState, state_of}
use Rattle.rept_facts.specs.Inferring.{IsKeptAt, KeptBelow}
use Rattle.rept_facts.proofs.Conclusion.{HasInferred_both, HasInferred_as, HasInferred_since, Grows_trans, one_more}
use Rattle.rept_facts.proofs.Following.{kept_to, none_differs}
use Rattle.rept_analysis.proofs.analysis.Analysis.carry_all.Goals as goal

pub returns-in_default-clause-inferred : goal.returns-in_default-clause-inferred
returns-in_default-clause-inferred g c =
    let now = state_of g.W.Partial.sets g.W.Transfer.moves g.R.RowRules.rules g.B.ByteFacts.store c.loop-least.self.propagation.facts in
    let row = c.args.row.now in
    let i = c.args.i in
    let least = c.loop-least.least in
    HasInferred_since _ now c.loop-least.learnt (KeptBelow least row i) (KeptBelow 32 row i) c.loop-least.invariant.inferred (kept_to now row i least 32 (none_differs now.known.log i least c.next_differing.result c.in_default.not-Some c.next_differing.ensures))

pub returns-in_err-new-clause-grows : goal.returns-in_err-new-clause-grows
returns-in_err-new-clause-grows g c = Grows_trans _ _ _ c.loop-least.invariant.grows c.carry.ensures.grows

pub loop-least-preserved : goal.loop-least-preserved
loop-least-preserved g c =
    let st = state_of g.W.Partial.sets g.W.Transfer.moves g.R.RowRules.rules g.B.ByteFacts.store in
    let now = st c.loop-least.self.propagation.facts in
    let row = c.args.row.now in
    let i = c.args.i in
    let r = c.in-Some.r in
    let C : AnalysisState g.row.W.Denot → ℕ → Type 0 = λ a s. 0 < s → written_by row.instr ≢ Some s → IsKeptAt i s a in
    let next : IsFirstDiffering now.known.log i c.loop-least.least r = c.in-Some.ensures in
    let below = HasInferred_since _ now c.loop-least.learnt (KeptBelow c.loop-least.least row i) (KeptBelow r row i) c.loop-least.invariant.inferred (kept_to now row i c.loop-least.least r next.same_below) in
    rw (c.number-least.ensures.value) (record {
      named = omega arith;
      grows = Grows_trans _ _ _ c.loop-least.invariant.grows c.in_ok-new.ensures.grows;
      inferred = HasInferred_both _ _ _ c.loop-least.learnt c.in_ok-new.new (KeptBelow r row i) (λ a. C a r) (KeptBelow (r + 1) row i)
          c.loop-least.invariant.grows c.in_ok-new.ensures.grows below c.in_ok-new.ensures.inferred
          (λ before at_r s named inside kept. one_more (C (st c.args.self.now.propagation.facts)) r (λ q lt n k. before q n lt k) at_r s inside named kept);
    })

pub returns-clause-inferred : goal.returns-clause-inferred
returns-clause-inferred g c =
    let passed : 32 ≤ c.loop-least.least = omega arith in
    HasInferred_as _ _ c.loop-least.learnt (KeptBelow c.loop-least.least c.args.row.now c.args.i) (KeptBelow 32 c.args.row.now c.args.i) c.loop-least.invariant.inferred (λ h r named inside kept. h r named (omega (arith, passed, inside)) kept)
