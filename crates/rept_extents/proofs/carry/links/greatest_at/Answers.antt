use Rattle.std.proofs.Common.{◌≡◌, ℕ, List, [], ◌∙◌, subst}
use Rattle.std.specs.List.{Contains}
use Rattle.std.proofs.lemmas.List.{get_or_default}
use Rattle.rept_report.specs.Timeline.{IsGreatestTo}
use Rattle.rept_extents.specs.Carry.Links.{listed}
use Rattle.rept_extents.proofs.carry.links.greatest_at.Goals as goal

pub returns-in-Some : goal.returns-in-Some
returns-in-Some c =
    let same : c.in-Some.list.now ≡ listed c.args.lists.now c.args.at = c.in-Some.ensures.lookup.1 ∙ get_or_default c.args.lists.now c.args.at c.in-Some.list.now [] c.in-Some.ensures.lookup.3.0 in
    subst (λ (xs : List ℕ). IsGreatestTo (Contains xs) c.args.most c.to.result) same c.to.ensures
