use Rattle.std.proofs.Common.{◌≢◌, ◌<◌, ◌+◌, ℕ, Some, refl}
use Rattle.rept_isa.specs.Operands.{written_by}
use Rattle.rept_reason.specs.declared.fact.Cell.TheVariants.{Register}
use Rattle.rept_facts.specs.State.{state_of}
use Rattle.rept_facts.specs.Inferring.{Knows, IsLearntAt, IsKeptAt}
use Rattle.rept_facts.proofs.Conclusion.{HasInferred_both, HasInferred_as, Grows_trans, row_after}
use Rattle.rept_facts.proofs.Following.{onward_follows, back_follows, kept_at, back_known}
use Rattle.rept_analysis.proofs.analysis.Analysis.carry.Goals as goal

pub learn_if-requires-clause-follows : goal.learn_if-requires-clause-follows
learn_if-requires-clause-follows g c =
    let kept : written_by c.args.row.now.instr ≢ Some c.args.r = c.if-not-keeps.ensures.0 refl in
    λ v is named in_file small. onward_follows (state_of g.W.Partial.sets g.W.Transfer.moves g.R.RowRules.rules g.B.ByteFacts.store c.args.self.now.propagation.facts) c.args.i c.args.row.now c.requires.row c.requires.inside c.args.r v named in_file small kept c.known-before.result c.known-before.ensures.value is

pub learn_if-requires-2-clause-follows : goal.learn_if-requires-2-clause-follows
learn_if-requires-2-clause-follows g c =
    let kept : written_by c.args.row.now.instr ≢ Some c.args.r = c.if-not-keeps.ensures.0 refl in
    let b = state_of g.W.Partial.sets g.W.Transfer.moves g.R.RowRules.rules g.B.ByteFacts.store c.learn_if.new.self in
    let grows = c.in_ok-onward.ensures.grows in
    let inside : c.args.i < b.path.given.legs.count = rw grows.count c.requires.inside in
    λ v is named in_file small. back_follows b c.args.i c.args.row.now (row_after _ b c.args.i c.args.row.now grows c.requires.row) inside c.args.r v named in_file small kept c.known-after.result c.known-after.ensures.value is

pub returns-in_err-back-clause-grows : goal.returns-in_err-back-clause-grows
returns-in_err-back-clause-grows g c = Grows_trans _ _ _ c.in_ok-onward.ensures.grows c.learn_if-2.ensures.grows

pub returns-clause-inferred : goal.returns-clause-inferred
returns-clause-inferred g c =
    let b = state_of g.W.Partial.sets g.W.Transfer.moves g.R.RowRules.rules g.B.ByteFacts.store c.learn_if.new.self in
    let i = c.args.i in
    let r = c.args.r in
    let back = HasInferred_as b _ c.in_ok-back.back (IsLearntAt i r c.known-after.result) (λ s. (v : ℕ) → 0 < r → Knows (i + 1) (Register r) v s → Knows i (Register r) v s) c.in_ok-back.ensures.inferred (λ h. back_known b i r c.known-after.result c.known-after.ensures.value h) in
    HasInferred_both _ b _ c.in_ok-onward.onward c.in_ok-back.back (IsLearntAt (i + 1) r c.known-before.result) (λ s. (v : ℕ) → 0 < r → Knows (i + 1) (Register r) v s → Knows i (Register r) v s) (λ s. 0 < r → written_by c.args.row.now.instr ≢ Some r → IsKeptAt i r s)
    c.in_ok-onward.ensures.grows c.in_ok-back.ensures.grows c.in_ok-onward.ensures.inferred back
    (λ p q named kept. kept_at _ i r c.known-before.result c.known-before.ensures.value named p q)

pub returns-clause-grows : goal.returns-clause-grows
returns-clause-grows g c = Grows_trans _ _ _ c.in_ok-onward.ensures.grows c.in_ok-back.ensures.grows
