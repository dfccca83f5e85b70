use Rattle.std.proofs.Common.{ℕ, Bool, is_some, sym, ◌∙◌, arith}
use Rattle.rept_reason.specs.Facts.{told, register_fact}
use Rattle.rept_report.specs.Log.{oldest}
use Rattle.rept_facts.proofs.Counting.{count_none, counted_yes, counted_no}
use Rattle.rept_analysis.proofs.analysis.Analysis.told_at.Goals.{then-is_told, else-is_told}
use Rattle.rept_analysis.proofs.analysis.Analysis.told_at.Goals as goal

pub loop-r-init : goal.loop-r-init
loop-r-init g c = record { value = sym (count_none (λ (r : ℕ). is_some (register_fact (told (oldest c.args.self.now.propagation.facts.shown c.args.self.now.propagation.facts.known.log)) c.args.point r))); few = omega arith }

pub loop-r-preserved : goal.loop-r-preserved
loop-r-preserved g c =
    let P : ℕ → Bool = λ (r : ℕ). is_some (register_fact (told (oldest c.args.self.now.propagation.facts.shown c.args.self.now.propagation.facts.known.log)) c.args.point r) in
    elim c.if-is_told.branch [
      | then-is_told w ↦
          let both = counted_yes P c.loop-r.r c.loop-r.sum c.if-is_told.sum (rw (← c.register.ensures) (sym c.is_told.ensures ∙ w.if-is_told.true)) c.loop-r.invariant.value c.loop-r.invariant.few w.sum-is in
          record { value = both.0; few = both.1 }
      | else-is_told w ↦
          let both = counted_no P c.loop-r.r c.loop-r.sum c.if-is_told.sum (rw (← c.register.ensures) (sym c.is_told.ensures ∙ w.if-is_told.false)) c.loop-r.invariant.value c.loop-r.invariant.few w.sum-is in
          record { value = both.0; few = both.1 }
    ]
