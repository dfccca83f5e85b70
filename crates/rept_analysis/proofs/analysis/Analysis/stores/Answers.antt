use Rattle.rept_timeline.specs.Paths.{timeline}
use Rattle.std.proofs.Common.{ℕ, Bool, sym, ◌∙◌, arith}
use Rattle.rept_reason.specs.Facts.{told}
use Rattle.rept_report.specs.Log.{oldest}
use Rattle.rept_facts.specs.Counts.{is_store, row_is}
use Rattle.rept_facts.proofs.Counting.{count_none, counted_yes, counted_no}
use Rattle.rept_analysis.proofs.analysis.Analysis.stores.Goals.{then-is_store, else-is_store}
use Rattle.rept_analysis.proofs.analysis.Analysis.stores.Goals as goal

pub loop-i-init : goal.loop-i-init
loop-i-init g c = record { value = sym (count_none (λ (i : ℕ). row_is ((timeline c.args.self.now.propagation.facts.paths).legs.row i) (is_store c.args.known (told (oldest c.args.self.now.propagation.facts.shown c.args.self.now.propagation.facts.known.log)) i))); few = omega arith; count = c.count-count.ensures.value }

pub loop-i-preserved : goal.loop-i-preserved
loop-i-preserved g c =
    let P : ℕ → Bool = λ (i : ℕ). row_is ((timeline c.args.self.now.propagation.facts.paths).legs.row i) (is_store c.args.known (told (oldest c.args.self.now.propagation.facts.shown c.args.self.now.propagation.facts.known.log)) i) in
    elim c.if-is_store.branch [
      | then-is_store w ↦
          let both = counted_yes P c.loop-i.i c.loop-i.sum c.if-is_store.sum (sym c.is_store.ensures ∙ w.if-is_store.true) c.loop-i.invariant.value c.loop-i.invariant.few w.sum-is in
          record { value = both.0; few = both.1; count = c.count-count.ensures.value }
      | else-is_store w ↦
          let both = counted_no P c.loop-i.i c.loop-i.sum c.if-is_store.sum (sym c.is_store.ensures ∙ w.if-is_store.false) c.loop-i.invariant.value c.loop-i.invariant.few w.sum-is in
          record { value = both.0; few = both.1; count = c.count-count.ensures.value }
    ]
