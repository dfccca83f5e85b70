use Rattle.std.proofs.Common.{ℕ, List, Option, None, length, reverse, ap, ◌∙◌}
use Rattle.rept_moments.specs.declared.side.PointSide.{PointSide}
use Rattle.rept_moments.specs.Numbering.{Numbered}
use Rattle.rept_moments.proofs.Places.{by_point_length}
use Rattle.rept_moments.proofs.Numbering.{none_numbered}
use Rattle.rept_moments.proofs.numbers.Numbers.new.Goals as goal

as_numbered : ℕ → List PointSide → Numbered
as_numbered n list = record { points = n; list = list }

pub invariant_of-result : goal.invariant_of-result
invariant_of-result c = none_numbered c.args.points _ _ _ c.in_ok-blank.ensures c.in_ok-blank-2.ensures c.new.ensures.items

pub returns : goal.returns
unfolding as_numbered
returns c = ap (λ (n : ℕ). as_numbered n (reverse c.new.result.items)) (ap (λ (xs : List (Option ℕ)). length xs) c.in_ok-blank.ensures ∙ by_point_length {A = Option ℕ} (λ (g : ℕ). None) c.args.points) ∙ ap (λ (xs : List PointSide). as_numbered c.args.points (reverse xs)) c.new.ensures.items
