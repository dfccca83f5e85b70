use Rattle.std.proofs.Common.{ℕ, List, [], sym, subst}
use Rattle.rept_moments.specs.Courses.{seen_in}
use Rattle.rept_moments.specs.Seen.{AddsNexts}
use Rattle.rept_extents.proofs.CarryLemmas.Linking.{nexts_added, nexts_inside}
use Rattle.rept_extents.proofs.carry.links.Links.add_nexts.Goals as goal

pub add_all-requires-clause-to : goal.add_all-requires-clause-to
add_all-requires-clause-to c =
    let M = (seen_in c.args.course.now).moments in
    let nexts : AddsNexts M c.args.from [] c.as_slice.result.now =
    subst (λ (xs : List ℕ). AddsNexts M c.args.from [] xs) (sym c.as_slice.ensures.value) (subst (λ (xs : List ℕ). AddsNexts M c.args.from xs c.add_nexts.new.list.items) c.clear.ensures.items c.in_ok-add_nexts.ensures) in
    nexts_inside (seen_in c.args.course.now).legs M c.args.from _ c.as_slice.result.now c.requires.laws nexts c.requires.room.back

pub returns-clause-adds : goal.returns-clause-adds
returns-clause-adds c =
    let M = (seen_in c.args.course.now).moments in
    let nexts : AddsNexts M c.args.from [] c.as_slice.result.now =
    subst (λ (xs : List ℕ). AddsNexts M c.args.from [] xs) (sym c.as_slice.ensures.value) (subst (λ (xs : List ℕ). AddsNexts M c.args.from xs c.add_nexts.new.list.items) c.clear.ensures.items c.in_ok-add_nexts.ensures) in
    nexts_added M c.args.from c.as_slice.result.now c.args.self.now c.add_all.new.self nexts c.in_ok-add_all.ensures.adds
