use Rattle.rept_timeline.specs.Paths.{timeline}
use Rattle.std.proofs.Common.{ℕ, Bool, sym, ◌∙◌, arith}
use Rattle.std.specs.Option.{is_some}
use Rattle.rept_facts.proofs.Counting.{count_none, counted_yes, counted_no}
use Rattle.rept_analysis.proofs.analysis.Analysis.steps.Goals.{then-is_row, else-is_row}
use Rattle.rept_analysis.proofs.analysis.Analysis.steps.Goals as goal

pub loop-i-init : goal.loop-i-init
loop-i-init g c = record { value = sym (count_none (λ (i : ℕ). is_some ((timeline c.args.self.now.propagation.facts.paths).legs.row i))); few = omega arith; count = c.count-count.ensures.value }

pub loop-i-preserved : goal.loop-i-preserved
loop-i-preserved g c =
    let P : ℕ → Bool = λ (i : ℕ). is_some ((timeline c.args.self.now.propagation.facts.paths).legs.row i) in
    elim c.if-is_row.branch [
      | then-is_row w ↦
          let both = counted_yes P c.loop-i.i c.loop-i.sum c.if-is_row.sum (sym c.is_row.ensures ∙ w.if-is_row.true) c.loop-i.invariant.value c.loop-i.invariant.few w.sum-is in
          record { value = both.0; few = both.1; count = c.count-count.ensures.value }
      | else-is_row w ↦
          let both = counted_no P c.loop-i.i c.loop-i.sum c.if-is_row.sum (sym c.is_row.ensures ∙ w.if-is_row.false) c.loop-i.invariant.value c.loop-i.invariant.few w.sum-is in
          record { value = both.0; few = both.1; count = c.count-count.ensures.value }
    ]
