use Rattle.std.proofs.Common.{◌≡◌, ap, sym, subst, ◌∙◌}
use Rattle.std.specs.List.{insert}
use Rattle.rept_versions.specs.declared.span.Span.{Span}
use Rattle.rept_versions.specs.Line.{IsRising}
use Rattle.rept_versions.proofs.Lines.{rising_inserted}
use Rattle.rept_versions.proofs.line.SpanLine.add.Goals as goal

pub invariant_of-self : goal.invariant_of-self
invariant_of-self c =
    let s : Span = record { low = c.args.k; high = c.args.k; value = c.args.value } in
    let spans : c.insert.new.self.spans ≡ insert c.args.self.now.spans c.args.i s = c.insert.ensures.spans ∙ ap (λ l. insert l.spans c.args.i s) c.self.view_is in
    subst IsRising (sym spans) (rising_inserted c.args.self.now.spans (subst (λ l. IsRising l.spans) c.self.view_is c.self.invariant) c.args.i c.args.k c.args.value c.requires.at.parts c.requires.at.below)

pub returns-clause-rising : goal.returns-clause-rising
returns-clause-rising c =
    let s : Span = record { low = c.args.k; high = c.args.k; value = c.args.value } in
    let spans : c.insert.new.self.spans ≡ insert c.args.self.now.spans c.args.i s = c.insert.ensures.spans ∙ ap (λ l. insert l.spans c.args.i s) c.self.view_is in
    subst IsRising (sym spans) (rising_inserted c.args.self.now.spans (subst (λ l. IsRising l.spans) c.self.view_is c.self.invariant) c.args.i c.args.k c.args.value c.requires.at.parts c.requires.at.below)
