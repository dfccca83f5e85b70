-- What the calls answer, by the course of a run.
use Rattle.std.proofs.Common.{◌≡◌, ◌≢◌, ℕ, suc, ◌+◌, ◌-◌, ◌<◌, ◌≤◌, List, [], ◌∷◌, length, sym, ap, ◌∙◌, arith}
use Rattle.rept_isa.specs.declared.row.StepRow.{StepRow}
use Rattle.rept_steps.specs.declared.threads.ThreadRows.{ThreadRows}
use Rattle.rept_steps.specs.Course.{Course}
use Rattle.rept_order.specs.Legs.{Point, points_before}
use Rattle.rept_moments.specs.declared.course.NumberedRun as courses
use Rattle.rept_moments.specs.Courses.{seen_in, threads_in, count_in, IsCourseOf}
use Rattle.rept_moments.proofs.Places.{few_threads}
use Rattle.rept_found.specs.Places.Places.{thread_point, point_on}
use Rattle.rept_found.proofs.PlacesLemmas.Naming.{threads_same}
use Rattle.rept_timeline.proofs.Only.{is_only, past_points}

-- a point up to the last one is a point of the course
pub inside : (c : courses.NumberedRun) (number last : ℕ) → last ≡ (seen_in c).legs.count → threads_in c ≢ 0 → number ≤ last → number < count_in c
inside (courses.TheVariants.One steps) number last e some few = omega arith
inside (courses.TheVariants.Many many) number last e some few =
    let each = few_threads many.threads in
    let one : 0 < length many.threads = omega (arith, some) in
    omega arith

module _ (C : Course) where
  -- the last point of all
  last_is : (c : courses.NumberedRun) → IsCourseOf C c → threads_in c ≢ 0 → suc (seen_in c).legs.count ≡ points_before C.threads (length C.threads)
  last_is (courses.TheVariants.One steps) its some =
      let only = is_only C.threads C.untraced steps.now its in
      let own : length only.only.steps ≡ length steps.now = ap (λ (xs : List StepRow). length xs) only.own in
      let all : points_before (only.only ∷ []) 1 ≡ suc (length only.only.steps) = omega arith in
      ap suc (sym own) ∙ sym all ∙ ap (λ (xs : List ThreadRows). points_before xs (length xs)) (sym only.is)
  last_is (courses.TheVariants.Many many) its some =
      let each = few_threads many.threads in
      let one : 0 < length many.threads = omega (arith, some) in
      let whole : suc (points_before many.threads (length many.threads) - 1) ≡ points_before many.threads (length many.threads) = omega arith in
      whole ∙ ap (λ (D : Course). points_before D.threads (length D.threads)) its.0

  pub past_point : (c : courses.NumberedRun) (number last threads : ℕ) → IsCourseOf C c → last ≡ (seen_in c).legs.count → threads ≡ threads_in c → threads ≢ 0 → last < number → thread_point threads (number - last - 1) ≡ point_on C number
  past_point c number last threads its e same some past =
      let count = threads_same C c its in
      let all = last_is c its (λ none. some (same ∙ none)) in
      let here = past_points C.threads number (omega arith) in
      let thread : threads ≡ length C.threads = same ∙ count in
      let left : number - last - 1 ≡ number - points_before C.threads (length C.threads) = omega arith in
      ap (λ (t : ℕ). thread_point t (number - last - 1)) thread ∙ ap (thread_point (length C.threads)) left ∙ ap (λ (x : Point). thread_point x.thread x.number) (sym here)
