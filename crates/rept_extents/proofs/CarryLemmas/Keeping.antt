-- What is kept beside a course: the links of several threads.
use Rattle.std.proofs.Common.{◌≡◌, ◌↔◌, ℕ, true, Option, Some, sym, subst}
use Rattle.std.specs.List.{Contains}
use Rattle.rept_report.specs.Moments.{Moments}
use Rattle.rept_report.specs.Timeline.{IsLeastFrom, IsGreatestTo}
use Rattle.rept_moments.specs.declared.course.NumberedRun.{NumberedRun}
use Rattle.rept_moments.specs.declared.course.NumberedRun as courses
use Rattle.rept_moments.specs.Courses.{seen_in}
use Rattle.rept_extents.specs.declared.carry.links.Links.{Links}
use Rattle.rept_extents.specs.Carry.Links.{listed, AreLinks, IsNextFrom, IsNextTo, IsPreviousFrom, IsPreviousTo}
use Rattle.rept_extents.specs.Carry.Course.{AreWays}
use Rattle.rept_extents.proofs.CarryLemmas.Carrying.{least_same, greatest_same}

pub are_ways : (course : NumberedRun) (links : Links) → AreLinks (seen_in course).moments links → AreWays course links
are_ways (courses.TheVariants.One steps) links known = tt
are_ways (courses.TheVariants.Many many) links known = known

pub are_kept : (course : NumberedRun) (many : Rattle.rept_steps.specs.Course.Course) (links : Links) → course ≡ courses.TheVariants.Many many → AreWays course links → AreLinks (seen_in course).moments links
are_kept course many links same ways = subst (λ (x : NumberedRun). AreWays x links → AreLinks (seen_in x).moments links) (sym same) (λ known. known) ways

-- what is linked is what is next
module _ (M : Moments) (links : Links) (known : AreLinks M links) (number bound : ℕ) (r : Option ℕ) where
  pub linked_from : IsLeastFrom (Contains (listed links.onward.items number)) bound r → IsNextFrom M number bound r
  linked_from = least_same (Contains (listed links.onward.items number)) (λ w. M.next number w ≡ true) (λ w h. (known.onward number w).0 h) (λ w e. (known.onward number w).1 e) bound r

  pub linked_to : IsGreatestTo (Contains (listed links.onward.items number)) bound r → IsNextTo M number bound r
  linked_to = greatest_same (Contains (listed links.onward.items number)) (λ w. M.next number w ≡ true) (λ w h. (known.onward number w).0 h) (λ w e. (known.onward number w).1 e) bound r

  pub linked_back_from : IsLeastFrom (Contains (listed links.back.items number)) bound r → IsPreviousFrom M number bound r
  linked_back_from = least_same (Contains (listed links.back.items number)) (λ m. M.next m number ≡ true) (λ m h. (known.back m number).0 h) (λ m e. (known.back m number).1 e) bound r

  pub linked_back_to : IsGreatestTo (Contains (listed links.back.items number)) bound r → IsPreviousTo M number bound r
  linked_back_to = greatest_same (Contains (listed links.back.items number)) (λ m. M.next m number ≡ true) (λ m h. (known.back m number).0 h) (λ m e. (known.back m number).1 e) bound r

-- so is the one number of one thread
module _ (M : Moments) (number bound : ℕ) (one r : Option ℕ) where
  pub only_from : ((w : ℕ) → (M.next number w ≡ true) ↔ (one ≡ Some w)) → IsLeastFrom (λ w. one ≡ Some w) bound r → IsNextFrom M number bound r
  only_from is = least_same (λ w. one ≡ Some w) (λ w. M.next number w ≡ true) (λ w h. (is w).1 h) (λ w e. (is w).0 e) bound r

  pub only_to : ((w : ℕ) → (M.next number w ≡ true) ↔ (one ≡ Some w)) → IsGreatestTo (λ w. one ≡ Some w) bound r → IsNextTo M number bound r
  only_to is = greatest_same (λ w. one ≡ Some w) (λ w. M.next number w ≡ true) (λ w h. (is w).1 h) (λ w e. (is w).0 e) bound r

  pub only_back_from : ((m : ℕ) → (M.next m number ≡ true) ↔ (one ≡ Some m)) → IsLeastFrom (λ m. one ≡ Some m) bound r → IsPreviousFrom M number bound r
  only_back_from is = least_same (λ m. one ≡ Some m) (λ m. M.next m number ≡ true) (λ m h. (is m).1 h) (λ m e. (is m).0 e) bound r

  pub only_back_to : ((m : ℕ) → (M.next m number ≡ true) ↔ (one ≡ Some m)) → IsGreatestTo (λ m. one ≡ Some m) bound r → IsPreviousTo M number bound r
  only_back_to is = greatest_same (λ m. one ≡ Some m) (λ m. M.next m number ≡ true) (λ m h. (is m).1 h) (λ m e. (is m).0 e) bound r
