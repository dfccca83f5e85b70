use Rattle.std.proofs.Common.{ℕ, Bool, sym, ◌+◌, ◌∙◌, slice_get, arith}
use Rattle.rept_infer.specs.Path.{path_reader, told_in}
use Rattle.rept_found.specs.Inferred.Writing.{row_stores}
use Rattle.rept_facts.proofs.Counting.{count_none, counted_yes, counted_no}
use Rattle.rept_found.proofs.inferred.writing.PossibleWriters.stores.Goals.{then-is_store, else-is_store}
use Rattle.rept_found.proofs.inferred.writing.PossibleWriters.stores.Goals as goal

pub loop-index-init : goal.loop-index-init
loop-index-init g c = record { value = sym (count_none (λ (j : ℕ). row_stores c.args.known (told_in (path_reader g.K.KnownPath.set g.K.KnownPath.byte g.P.PathPremises.premises) c.args.self.now.inferred.now) (g.F.Findings.shown c.args.self.now.found.now) ((g.F.Findings.shown c.args.self.now.found.now).first 0 + j) (slice_get ((g.F.Findings.shown c.args.self.now.found.now).rows 0) j))); few = omega arith; steps = c.steps-steps.ensures.value }

pub loop-index-preserved : goal.loop-index-preserved
loop-index-preserved g c =
    let P : ℕ → Bool = λ (j : ℕ). row_stores c.args.known (told_in (path_reader g.K.KnownPath.set g.K.KnownPath.byte g.P.PathPremises.premises) c.args.self.now.inferred.now) (g.F.Findings.shown c.args.self.now.found.now) ((g.F.Findings.shown c.args.self.now.found.now).first 0 + j) (slice_get ((g.F.Findings.shown c.args.self.now.found.now).rows 0) j) in
    elim c.if-is_store.branch [
      | then-is_store w ↦
          let both = counted_yes P c.loop-index.index c.loop-index.sum c.if-is_store.sum (sym c.is_store.ensures ∙ w.if-is_store.true) c.loop-index.invariant.value c.loop-index.invariant.few w.sum-is in
          record { value = both.0; few = both.1; steps = c.steps-steps.ensures.value }
      | else-is_store w ↦
          let both = counted_no P c.loop-index.index c.loop-index.sum c.if-is_store.sum (sym c.is_store.ensures ∙ w.if-is_store.false) c.loop-index.invariant.value c.loop-index.invariant.few w.sum-is in
          record { value = both.0; few = both.1; steps = c.steps-steps.ensures.value }
    ]
