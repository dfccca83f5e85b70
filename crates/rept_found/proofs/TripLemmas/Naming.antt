-- The place by which a session names a number is the moment that the number stands for.
use Rattle.std.proofs.Common.{◌≡◌, ℕ, ◌<◌, ◌≤◌, ◌==◌, if◌then◌else◌, Bool, true, false, List, length, Option, Some, None, refl, arith}
use Rattle.std.proofs.lemmas.Bool.{eqb-true}
use Rattle.rept_isa.specs.declared.row.StepRow.{StepRow}
use Rattle.rept_steps.specs.Course.{Course, rows_of, IsSoundCourse}
use Rattle.rept_order.specs.Moments.{Moment, IsMoment}
use Rattle.rept_order.specs.Moments.Moment.{before, after, at_end}
use Rattle.rept_order.specs.Legs.{points_before}
use Rattle.rept_moments.proofs.NamingLemmas.Naming.{points_next}
use Rattle.rept_moments.specs.Seen.{seen, seen_by, alone_by}
use Rattle.rept_found.specs.Places.Places.{last_on, point_named, named_on, place_on}
use Rattle.rept_findings.specs.declared.place.Place.TheVariants as places
use Rattle.rept_found.specs.Trip.Executed.{moment_named}
use Rattle.rept_found.proofs.TripLemmas.Single.{count_is}
use Rattle.rept_found.proofs.TripLemmas.Telling.{told_by}
use Rattle.rept_found.proofs.TripLemmas.Pointing.{moment_inside, moment_last}

module _ (C : Course) (sound : IsSoundCourse C) where
  -- the first thread, if it is the only one, ends by the last point
  count_by : (o : Option (List StepRow)) → alone_by C.threads C.untraced ≡ o → length C.threads ≡ 1 → length (rows_of C 0) ≤ (seen_by C o).legs.count
  count_by (Some rows) e one = let all = count_is C rows e in omega arith
  count_by None e one =
      let some : 0 < length C.threads = omega arith in
      let next = points_next C.threads 0 (length (rows_of C 0)) some (omega arith) in
      let first : points_before C.threads 0 ≡ 0 = refl in
      omega arith

  end_named : (b : Bool) → (length C.threads == 1) ≡ b → moment_named C (if b then point_named 0 (seen C).legs.count else record { thread = 0; place = places.End }) ≡ at_end
  end_named true e = moment_last C 0 (seen C).legs.count (count_by (alone_by C.threads C.untraced) refl (eqb-true (length C.threads) 1 e))
  end_named false e = refl

  named : (x : Moment) → IsMoment C x → moment_named C (named_on C x) ≡ x
  named (before r) is = moment_inside C r.thread r.step is
  named (after r) is = refl
  named at_end is = end_named (length C.threads == 1) refl

  pub place_named : (m : ℕ) → m ≤ (seen C).moments.end → moment_named C (place_on C m) ≡ last_on C m
  place_named m few = named (last_on C m) ((told_by C sound (alone_by C.threads C.untraced) refl).moment m few)
