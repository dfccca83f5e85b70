use Rattle.std.proofs.Common.{ℕ, Bool, sym, ap, ◌∙◌, arith}
use Rattle.rept_infer.specs.Path.{path_reader, told_in}
use Rattle.rept_found.specs.Inferred.Added.{is_added}
use Rattle.rept_facts.proofs.Counting.{count_none, counted_yes, counted_no}
use Rattle.rept_found.proofs.inferred.overlay.InferredCrash.values_at.Goals.{then-is_value_added, else-is_value_added}
use Rattle.rept_found.proofs.inferred.overlay.InferredCrash.values_at.Goals as goal

pub loop-r-init : goal.loop-r-init
loop-r-init g c = record { value = sym (count_none (λ (r : ℕ). is_added ((g.F.Findings.shown c.args.self.now.found.now).register c.args.point r) ((told_in (path_reader g.K.KnownPath.set g.K.KnownPath.byte g.P.PathPremises.premises) c.args.self.now.inferred).set c.args.point r))); few = omega arith }

pub loop-r-preserved : goal.loop-r-preserved
loop-r-preserved g c =
    let P : ℕ → Bool = λ (r : ℕ). is_added ((g.F.Findings.shown c.args.self.now.found.now).register c.args.point r) ((told_in (path_reader g.K.KnownPath.set g.K.KnownPath.byte g.P.PathPremises.premises) c.args.self.now.inferred).set c.args.point r) in
    elim c.if-is_value_added.branch [
      | then-is_value_added w ↦
          let both = counted_yes P c.loop-r.r c.loop-r.sum c.if-is_value_added.sum (ap (λ (r : ℕ). is_added ((g.F.Findings.shown c.args.self.now.found.now).register c.args.point r) ((told_in (path_reader g.K.KnownPath.set g.K.KnownPath.byte g.P.PathPremises.premises) c.args.self.now.inferred).set c.args.point r)) (sym c.register.ensures) ∙ sym c.is_value_added.ensures ∙ w.if-is_value_added.true) c.loop-r.invariant.value c.loop-r.invariant.few w.sum-is in
          record { value = both.0; few = both.1 }
      | else-is_value_added w ↦
          let both = counted_no P c.loop-r.r c.loop-r.sum c.if-is_value_added.sum (ap (λ (r : ℕ). is_added ((g.F.Findings.shown c.args.self.now.found.now).register c.args.point r) ((told_in (path_reader g.K.KnownPath.set g.K.KnownPath.byte g.P.PathPremises.premises) c.args.self.now.inferred).set c.args.point r)) (sym c.register.ensures) ∙ sym c.is_value_added.ensures ∙ w.if-is_value_added.false) c.loop-r.invariant.value c.loop-r.invariant.few w.sum-is in
          record { value = both.0; few = both.1 }
    ]
