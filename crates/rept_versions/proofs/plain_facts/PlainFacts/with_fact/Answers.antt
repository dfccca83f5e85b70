use Rattle.std.proofs.Common.{◌≡◌, Some, slice_get, subst, sym, ap, ◌∙◌}
use Rattle.rept_versions.specs.Listed.{LeastOf, listed}
use Rattle.rept_versions.proofs.Least.{least_first, least_less}
use Rattle.rept_versions.proofs.plain_facts.PlainFacts.with_fact.Goals as goal

pub returns-in-None-least : goal.returns-in-None-least
returns-in-None-least c =
    let at : slice_get c.args.self.now.entries c.args.i ≡ Some (c.in-Some.k.now, c.in-Some.field-0-1.now) = sym (ap (λ p. slice_get p.entries c.args.i) c.self.view_is) ∙ sym c.in-Some.ensures.entry in
    let has : listed c.args.self.now.entries c.in-Some.k.now ≡ Some c.in-Some.field-0-1.now = sym (ap (λ p. listed p.entries c.in-Some.k.now) c.self.view_is) ∙ c.in-Some.ensures.value in
    least_first c.args.self.now.entries c.args.i c.args.low c.args.high c.in-Some.k.now c.in-Some.field-0-1.now at has c.if-k-low.false c.if-high-k.false (subst (LeastOf c.args.self.now.entries c.args.i c.args.low c.args.high) c.in-None-least.is c.requires.before)

pub returns-else-l-k : goal.returns-else-l-k
returns-else-l-k c =
    let at : slice_get c.args.self.now.entries c.args.i ≡ Some (c.in-Some.k.now, c.in-Some.field-0-1.now) = sym (ap (λ p. slice_get p.entries c.args.i) c.self.view_is) ∙ sym c.in-Some.ensures.entry in
    let has : listed c.args.self.now.entries c.in-Some.k.now ≡ Some c.in-Some.field-0-1.now = sym (ap (λ p. listed p.entries c.in-Some.k.now) c.self.view_is) ∙ c.in-Some.ensures.value in
    least_less c.args.self.now.entries c.args.i c.args.low c.args.high c.in-Some.k.now c.in-Some.field-0-1.now at c.in-Some-least.l has c.if-k-low.false c.if-high-k.false c.if-l-k.false (subst (LeastOf c.args.self.now.entries c.args.i c.args.low c.args.high) c.in-Some-least.is c.requires.before)
