-- What a course has of the run that it is of.
use Rattle.std.proofs.Common.{◌≡◌, ℕ, ◌<◌, ◌≤◌, true, List, length, ◌+◌, Option, Some, None, slice_get, inl, inr, refl, sym, ap, ◌∙◌, subst, arith}
use Rattle.std.specs.Option.{is_some, IsSome}
use Rattle.std.proofs.lemmas.Bool.{false≢true, le-ltb, ltb-false, eqb-true}
use Rattle.std.proofs.lemmas.Option.{slice_get_cases}
use Rattle.rept_isa.specs.declared.row.StepRow.{StepRow}
use Rattle.rept_steps.specs.Course.{IsSoundCourse}
use Rattle.rept_steps.specs.Course as runs
use Rattle.rept_report.specs.Timeline.{Timeline, IsTimeline}
use Rattle.rept_moments.specs.Seen.{SeenMoments, seen, alone_by, seen_alone}
use Rattle.rept_moments.specs.declared.course.NumberedRun.{NumberedRun}
use Rattle.rept_moments.specs.declared.course.NumberedRun as courses
use Rattle.rept_moments.specs.Courses.{seen_in, is_one, IsCourseOf}
use Rattle.rept_moments.proofs.Places.{some_below}
use Rattle.rept_report.specs.Timeline.{IsLeastFrom}
use Rattle.rept_extents.proofs.CarryLemmas.Carrying.{least_same}
use Rattle.rept_timeline.specs.Small.{IsSmall}
use Rattle.rept_report.specs.Timeline.{IsOpen, IsClose, IsAlike, IsStrip}
use Rattle.rept_report.specs.declared.paths.Strip.{Strip}
use Rattle.rept_report.proofs.Line.{next_is, is_next}
use Rattle.rept_extents.specs.Timelines.{as_timeline, time_of, IsOpenFrom, IsCloseFrom}
use Rattle.rept_timeline.specs.Listed.{AreStoring, AreListed, AreLinesOf}
use Rattle.rept_extents.specs.Timelines.{IsSoundIn}
use Rattle.rept_timeline.specs.Strips.{AreStripsOf, AreManyStrips}
use Rattle.rept_extents.specs.declared.carry.lines.Lines.{Lines}
use Rattle.rept_moments.specs.Several.{seen_of}
use Rattle.rept_timeline.proofs.Counting.{is_timeline}

pub sound_in : (C : runs.Course) (c : NumberedRun) → IsSoundCourse C → IsCourseOf C c → IsSoundIn c
sound_in C (courses.TheVariants.One steps) sound its = tt
sound_in C (courses.TheVariants.Many many) sound its = subst (λ (D : runs.Course). IsSoundCourse D) (sym its.0) sound

pub one_of : (C : runs.Course) (c : NumberedRun) → IsCourseOf C c → IsSome (alone_by C.threads C.untraced) → is_one c ≡ true
one_of C (courses.TheVariants.One steps) its some = refl
one_of C (courses.TheVariants.Many many) its some = absurd (false≢true (sym (ap is_some its.1) ∙ some))

pub timeline_in : (C : runs.Course) (c : NumberedRun) → IsSoundCourse C → IsSmall C → seen_in c ≡ seen C → IsTimeline (time_of c)
timeline_in C c sound small same = subst (λ (s : SeenMoments). IsTimeline (as_timeline s)) (sym same) (is_timeline C sound small)

-- the list of several threads
pub many_storing : (c : NumberedRun) (many : runs.Course) (list : List ℕ) → c ≡ courses.TheVariants.Many many → ∥ AreListed c list ∥₁ → ∥ AreStoring many list ∥₁
many_storing c many list e t = subst (λ (d : NumberedRun). ∥ AreListed d list ∥₁) e t

-- the strips of several threads
pub many_strips : (c : NumberedRun) (many : runs.Course) (list : List Strip) → c ≡ courses.TheVariants.Many many → ∥ AreStripsOf c list ∥₁ → ∥ AreManyStrips many list ∥₁
many_strips c many list e t = subst (λ (d : NumberedRun). ∥ AreStripsOf d list ∥₁) e t

-- and its lines
pub many_lines : (c : NumberedRun) (many : runs.Course) (lines : Lines) → c ≡ courses.TheVariants.Many many → AreLinesOf (time_of c).moments lines → AreLinesOf (seen_of many).moments lines
many_lines c many lines e h = subst (λ (d : NumberedRun). AreLinesOf (time_of d).moments lines) e h

none_is : {p : ℕ} → None ≡ Some p → ⊥
none_is e = cc

-- of one thread alone
module _ (rows : List StepRow) where
  abbrev T : Timeline
  T = as_timeline (seen_alone rows)

  row_there : (i : ℕ) → i < length rows → IsSome (slice_get rows i)
  row_there i less =
      elim ((slice_get_cases rows i).1) [
        | inl found ↦ ap is_some found.2
        | inr past ↦ absurd (let far = past.0 in omega arith)
      ]

  pub open_alone : (m least : ℕ) (r : Option ℕ) → IsLeastFrom (λ (i : ℕ). (i < length rows) × (m ≤ i)) least r → IsOpenFrom T m least r
  open_alone m least r its =
      least_same (λ (i : ℕ). (i < length rows) × (m ≤ i)) (λ (i : ℕ). IsOpen T m i)
      (λ i is. record { row = row_there i is.0; open_at = le-ltb i m is.1 })
      (λ i o. (some_below rows i o.row, ltb-false i m o.open_at)) least r its

  pub close_alone : (j least : ℕ) (r : Option ℕ) → IsLeastFrom (λ (i : ℕ). (i < length rows) × (j ≤ i)) least r → IsCloseFrom T j least r
  close_alone j least r its =
      least_same (λ (i : ℕ). (i < length rows) × (j ≤ i)) (λ (i : ℕ). IsClose T j i)
      (λ i is. record { row = row_there i is.0; close_to = le-ltb i j is.1 })
      (λ i o. (some_below rows i o.row, ltb-false i j o.close_to)) least r its

  pub strip_alone : (m : ℕ) (strip : Strip) → strip.first ≡ 0 → strip.last ≡ length rows → strip.pause ≡ None → m ≤ length rows → IsStrip T m strip
  strip_alone m strip first last none few = record {
    from = omega arith;
    to = omega arith;
    inside = omega arith;
    joined = λ k low less. record { next = is_next (length rows) k (omega arith); only = λ w e. (next_is (length rows) k w e).1 };
    alike = λ k low less. subst (λ (o : Option ℕ). IsAlike T o k) (sym none) (record { light = refl; own = λ i e. eqb-true i k e });
    pause = λ p some. absurd (none_is (sym none ∙ some));
    ends = λ joined. let past = (next_is (length rows) strip.last (strip.last + 1) joined.next).0 in absurd (omega arith);
  }
