use Rattle.std.proofs.Common.{ℕ, Bool, sym, ◌∙◌, arith}
use Rattle.rept_infer.specs.Path.{path_reader, told_in}
use Rattle.rept_isa.specs.Numbers.{beside}
use Rattle.rept_found.specs.Inferred.Added.{is_byte_added}
use Rattle.rept_facts.proofs.Counting.{count_none, counted_yes, counted_no}
use Rattle.rept_found.proofs.inferred.overlay.InferredCrash.loaded_bytes.Goals.{then-is_byte_added, else-is_byte_added}
use Rattle.rept_found.proofs.inferred.overlay.InferredCrash.loaded_bytes.Goals as goal

pub loop-k-init : goal.loop-k-init
loop-k-init g c = record { value = sym (count_none (λ (k : ℕ). is_byte_added (told_in (path_reader g.K.KnownPath.set g.K.KnownPath.byte g.P.PathPremises.premises) c.args.self.now.inferred) (g.F.Findings.shown c.args.self.now.found.now) c.args.moment (beside c.args.address k))); few = omega arith }

pub loop-k-preserved : goal.loop-k-preserved
loop-k-preserved g c =
    let P : ℕ → Bool = λ (k : ℕ). is_byte_added (told_in (path_reader g.K.KnownPath.set g.K.KnownPath.byte g.P.PathPremises.premises) c.args.self.now.inferred) (g.F.Findings.shown c.args.self.now.found.now) c.args.moment (beside c.args.address k) in
    elim c.if-is_byte_added.branch [
      | then-is_byte_added w ↦
          let both = counted_yes P c.loop-k.k c.loop-k.sum c.if-is_byte_added.sum (sym c.is_byte_added.ensures ∙ w.if-is_byte_added.true) c.loop-k.invariant.value c.loop-k.invariant.few w.sum-is in
          record { value = both.0; few = both.1 }
      | else-is_byte_added w ↦
          let both = counted_no P c.loop-k.k c.loop-k.sum c.if-is_byte_added.sum (sym c.is_byte_added.ensures ∙ w.if-is_byte_added.false) c.loop-k.invariant.value c.loop-k.invariant.few w.sum-is in
          record { value = both.0; few = both.1 }
    ]
