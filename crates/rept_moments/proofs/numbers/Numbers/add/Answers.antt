use Rattle.std.proofs.Common.{◌<◌, ◌∙◌, ℕ, List, Option, length, reverse, ap, refl, sym, subst}
use Rattle.std.proofs.lemmas.List.{length-set}
use Rattle.rept_moments.specs.declared.side.PointSide.{PointSide}
use Rattle.rept_moments.specs.Numbering.{Numbered, AreNumbered}
use Rattle.rept_moments.proofs.Numbering.{added_after, added_before, view_pushed}
use Rattle.rept_moments.proofs.numbers.Numbers.add.Goals as goal

pub invariant_of-self-then-side : goal.invariant_of-self-then-side
invariant_of-self-then-side c =
    let here : c.args.side.point < length c.self.inside.before.items = subst (λ (n : ℕ). c.args.side.point < n) (sym (ap (λ (n : Numbered). n.points) c.self.view_is)) c.requires.inside in
    subst (λ (xs : List (Option ℕ)). AreNumbered c.self.inside.before.items xs (reverse c.push.new.self.items)) (sym c.put.ensures) (added_after c.self.inside.before.items c.self.inside.after.items c.self.inside.list.items c.push.new.self.items c.args.side _ c.if-side.true here (ap (λ (xs : List PointSide). length xs) c.as_slice.ensures.value) c.in_ok-push.ensures.items c.self.invariant)

pub invariant_of-self-else-side : goal.invariant_of-self-else-side
invariant_of-self-else-side c =
    let here : c.args.side.point < length c.self.inside.before.items = subst (λ (n : ℕ). c.args.side.point < n) (sym (ap (λ (n : Numbered). n.points) c.self.view_is)) c.requires.inside in
    subst (λ (xs : List (Option ℕ)). AreNumbered xs c.self.inside.after.items (reverse c.push.new.self.items)) (sym c.put-else-side.ensures) (added_before c.self.inside.before.items c.self.inside.after.items c.self.inside.list.items c.push.new.self.items c.args.side _ c.if-side.false here (ap (λ (xs : List PointSide). length xs) c.as_slice.ensures.value) c.in_ok-push.ensures.items c.self.invariant)

pub returns-then-side : goal.returns-then-side
returns-then-side c = view_pushed _ (length c.self.inside.before.items) c.self.inside.list.items c.push.new.self.items c.args.side _ c.self.view_is refl c.in_ok-push.ensures.items

pub returns-else-side : goal.returns-else-side
returns-else-side c = view_pushed _ (length c.self.inside.before.items) c.self.inside.list.items c.push.new.self.items c.args.side _ c.self.view_is (ap (λ (xs : List (Option ℕ)). length xs) c.put-else-side.ensures ∙ length-set c.self.inside.before.items c.args.side.point _) c.in_ok-push.ensures.items
