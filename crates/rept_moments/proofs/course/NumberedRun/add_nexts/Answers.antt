use Rattle.std.proofs.Common.{ℕ, subst, sym}
use Rattle.std.proofs.lemmas.Result.{on_ok_weaker}
use Rattle.rept_report.specs.Moments.{points_of}
use Rattle.rept_moments.specs.declared.course.NumberedRun.{NumberedRun}
use Rattle.rept_moments.specs.Courses.{seen_in}
use Rattle.rept_moments.specs.Seen.{AddsNexts}
use Rattle.rept_moments.proofs.course.NumberedRun.add_nexts.Goals as goal

pub returns-in-One : goal.returns-in-One
returns-in-One c =
    on_ok_weaker c.add_following.result
    (λ its. subst (λ (x : NumberedRun). AddsNexts (seen_in x).moments c.args.number c.args.list.now.items c.add_following.new.list.items) (sym c.in-One.is)
    (subst (λ (n : ℕ). AddsNexts (points_of n) c.args.number c.args.list.now.items c.add_following.new.list.items) c.len.ensures.value its))
    c.add_following.ensures

pub returns-in-Many : goal.returns-in-Many
returns-in-Many c = on_ok_weaker c.add_nexts.result (λ its. subst (λ (x : NumberedRun). AddsNexts (seen_in x).moments c.args.number c.args.list.now.items c.add_nexts.new.list.items) (sym c.in-Many.is) its) c.add_nexts.ensures
