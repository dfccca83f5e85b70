-- Names and numbers of points and moments.
use Rattle.rept_timeline.proofs.Only.{is_only}
use Rattle.std.proofs.Common.{◌≡◌, ℕ, suc, ◌-◌, ◌<◌, ◌≤◌, List, [], ◌∷◌, length, Option, Some, None, refl, sym, ap, ◌∙◌, arith}
use Rattle.std.proofs.lemmas.Bool.{lt-ltb}
use Rattle.std.proofs.lemmas.Option.{slice_get_past}
use Rattle.rept_isa.specs.declared.row.StepRow.{StepRow}
use Rattle.rept_steps.specs.declared.slice.Slice.{Slice}
use Rattle.rept_steps.specs.declared.threads.ThreadRows.{ThreadRows}
use Rattle.rept_steps.specs.Course.{Course, Row, row_of, rows_of, row_at, IsRow}
use Rattle.rept_order.specs.Moments.Moment.{before, after}
use Rattle.rept_order.specs.Moments.ArePause.{last}
use Rattle.rept_order.specs.Legs.{point_of_thread, points_before, point_in, number_of, leg_row, row_from}
use Rattle.rept_order.proofs.Legs.{point_number, thread_inside}
use Rattle.rept_moments.specs.Naming.Names.{MomentNames}
use Rattle.rept_moments.specs.Naming.Numbered.{row_on, legs_on}
use Rattle.rept_moments.proofs.NamingLemmas.Naming.{some_is, are_legs}
use Rattle.rept_moments.specs.declared.course.NumberedRun as courses
use Rattle.rept_moments.specs.Numbers.{numbers_of, numbered}
use Rattle.rept_report.specs.Timeline.{moment_by}
use Rattle.rept_moments.specs.Seen.{seen_many, alone_by, rows_in, moment_in}
use Rattle.rept_moments.specs.Courses.{threads_in, IsCourseOf}
use Rattle.rept_moments.proofs.Places.{row_there}

some_same : {x y : List StepRow} → Some x ≡ Some y → x ≡ y
some_same e = cc

none_some : {x : List StepRow} → None ≡ Some x → ⊥
none_some e = cc

-- what a course's code has is what its run has
module _ (C : Course) where
  pub threads_same : (c : courses.NumberedRun) → IsCourseOf C c → threads_in c ≡ length C.threads
  threads_same (courses.TheVariants.One steps) its = sym (ap (λ (xs : List ThreadRows). length xs) (is_only C.threads C.untraced steps.now its).is)
  threads_same (courses.TheVariants.Many many) its = ap (λ (D : Course). length D.threads) its.0

no_row : (o : Option StepRow) (g n : ℕ) → ((row : StepRow) → o ≡ Some row → g < n) → n ≤ g → o ≡ None
no_row None g n inside past = refl
no_row (Some row) g n inside past = absurd (let less = inside row refl in omega arith)

module _ (C : Course) where
  -- the row at the number of its point
  pub row_here : (t p : ℕ) → t < length C.threads → p ≤ length (rows_of C t) → row_on C (number_of C t p) ≡ row_of t p
  row_here t p below few = ap row_from (point_number C t p below few)

  is_there : (t i : ℕ) → IsRow C (row_of t i) → (row : StepRow) × (leg_row C (number_of C t i) ≡ Some row)
  is_there t i is =
      let found = some_is (row_at C (row_of t i)) (row_there C (row_of t i) is) in
      (found.0, ap (row_at C) (row_here t i (thread_inside C (row_of t i) is) (omega arith)) ∙ found.1)

  -- the moment at a point of several threads
  pub before_number : (t i : ℕ) → IsRow C (row_of t i) → moment_in (seen_many C) (number_of C t i) ≡ (numbers_of C).name (before (row_of t i))
  before_number t i is =
      ap (λ (o : Option StepRow). moment_by (numbered C) o (number_of C t i)) (is_there t i is).1
      ∙ ap (λ (r : Row). (numbers_of C).name (before r)) (row_here t i (thread_inside C (row_of t i) is) (omega arith))

  pub after_number : (t i : ℕ) → IsRow C (row_of t i) → (numbered C).after (number_of C t i) ≡ (numbers_of C).name (after (row_of t i))
  after_number t i is = ap (λ (r : Row). (numbers_of C).name (after r)) (row_here t i (thread_inside C (row_of t i) is) (omega arith))

  pub last_number : (t : ℕ) → t < length C.threads → moment_in (seen_many C) (number_of C t (length (rows_of C t))) ≡ (numbers_of C).end
  last_number t below =
      ap (λ (o : Option StepRow). moment_by (numbered C) o (number_of C t (length (rows_of C t))))
      (ap (row_at C) (row_here t (length (rows_of C t)) below (omega arith)) ∙ slice_get_past (rows_of C t) (length (rows_of C t)) (omega arith))

  pub last_of_all : (g : ℕ) → (legs_on C).count ≤ g → moment_in (seen_many C) g ≡ (numbers_of C).end
  last_of_all g past = ap (λ (o : Option StepRow). moment_by (numbered C) o g) (no_row (leg_row C g) g (legs_on C).count (λ row is. (are_legs C).inside g row is) past)
