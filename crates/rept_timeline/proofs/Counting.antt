-- A small run has few points and moments.
use Rattle.std.proofs.Common.{◌≡◌, ℕ, zero, suc, ◌+◌, ◌*◌, ◌-◌, ◌<◌, ◌≤◌, cond, Bool, true, false, List, [], ◌∷◌, length, Option, Some, None, refl, ap, ◌∙◌, arith, length-append}
use Rattle.std.specs.Option.{is_some}
use Rattle.std.proofs.lemmas.Option.{slice_get_past}
use Rattle.rept_isa.specs.declared.row.StepRow.{StepRow}
use Rattle.rept_steps.specs.declared.slice.Slice.{Slice}
use Rattle.rept_steps.specs.declared.threads.ThreadRows.{ThreadRows}
use Rattle.rept_steps.specs.Course.{Course, rows_of, row_at, IsSoundCourse}
use Rattle.rept_order.specs.Moments.{Moment}
use Rattle.rept_order.specs.Legs.{points_before, number_of, leg_row, row_from}
use Rattle.rept_order.proofs.Legs.{point_number}
use Rattle.rept_report.specs.Timeline.{IsTimeline}
use Rattle.rept_moments.specs.Naming.Making.{lasts, keeps}
use Rattle.rept_moments.specs.declared.side.Timed.{Timed}
use Rattle.rept_moments.specs.Points.{points_in}
use Rattle.rept_moments.specs.Ordering.{side, timed, timed_at, timed_to, put, by_time, in_time, back, in_order, moment_at_side}
use Rattle.rept_moments.specs.Seen.{rows_in, alone_by, seen_by, seen}
use Rattle.rept_moments.proofs.Apart.{legs_seen, moments_seen}
use Rattle.rept_moments.proofs.Places.{next_thread}
use Rattle.rept_timeline.specs.Small as small
use Rattle.rept_timeline.specs.Small.{IsSmall}
use Rattle.rept_extents.specs.Timelines.{as_timeline}

-- each thread has one point more than rows
pub all_points : (threads : List ThreadRows) → points_before threads (length threads) ≡ small.rows_in threads + length threads
all_points [] = refl
all_points (thread ∷ threads) = let rest = all_points threads in omega arith

-- and the threads from one on have no fewer points than they are
points_left : (threads : List ThreadRows) (t : ℕ) → t ≤ length threads → points_before threads t + (length threads - t) ≤ points_before threads (length threads)
points_left [] zero few = omega arith
points_left [] (suc t) few = absurd (omega arith)
points_left (thread ∷ threads) zero few = let all = all_points (thread ∷ threads) in omega arith
points_left (thread ∷ threads) (suc t) few = let rest = points_left threads t (omega arith) in omega arith

module _ (C : Course) where
  pub rows_next : (t n rows : ℕ) → t < length C.threads → n ≡ length (rows_of C t) → rows + t ≡ points_before C.threads t → rows + n + (t + 1) ≡ points_before C.threads (t + 1)
  rows_next t n rows below its e =
      let next = next_thread C.threads t below in
      let same : points_before C.threads (t + 1) ≡ points_before C.threads (suc t) = let one : t + 1 ≡ suc t = omega arith in ap (points_before C.threads) one in
      omega arith

  pub rows_least : (t rows : ℕ) → t ≤ length C.threads → rows + t ≡ points_before C.threads t → rows ≤ small.rows_in C.threads
  rows_least t rows few e = let all = all_points C.threads in let left = points_left C.threads t few in omega arith

  pub rows_all : (t rows : ℕ) → t ≡ length C.threads → rows + t ≡ points_before C.threads t → small.rows_in C.threads ≡ rows
  rows_all t rows end e =
      let all = all_points C.threads in
      let same : points_before C.threads t ≡ points_before C.threads (length C.threads) = ap (points_before C.threads) end in
      omega arith

some_same : {x y : List StepRow} → Some x ≡ Some y → x ≡ y
some_same e = cc

none_some : {x : List StepRow} → None ≡ Some x → ⊥
none_some e = cc

alone_slices : (slices : List Slice) (own rows : List StepRow) → rows_in slices own ≡ Some rows → length rows ≤ length own
alone_slices [] own rows e = absurd (none_some e)
alone_slices (s ∷ []) own rows e = let same : length own ≡ length rows = ap (λ (xs : List StepRow). length xs) (some_same e) in omega arith
alone_slices (s ∷ u ∷ slices) own rows e = absurd (none_some e)

alone_few : (threads : List ThreadRows) (untraced : Option ℕ) (rows : List StepRow) → alone_by threads untraced ≡ Some rows → length rows ≤ small.rows_in threads
alone_few [] untraced rows e = absurd (none_some e)
alone_few (thread ∷ []) None rows e = let few = alone_slices thread.slices thread.steps rows e in omega arith
alone_few (thread ∷ []) (Some d) rows e = absurd (none_some e)
alone_few (thread ∷ other ∷ threads) untraced rows e = absurd (none_some e)

-- the moments of a list are no more than twice its rows
put_by_length : (b : Bool) (p q : Timed) (ps rest : List Timed) → length rest ≡ suc (length ps) → length (cond b (p ∷ q ∷ ps) (q ∷ rest)) ≡ suc (suc (length ps))
put_by_length true p q ps rest e = refl
put_by_length false p q ps rest e = ap suc e

put_length : (p : Timed) (ps : List Timed) → length (put p ps) ≡ suc (length ps)
put_length p [] = refl
put_length p (q ∷ ps) = put_by_length _ p q ps (put p ps) (put_length p ps)

sort_length : (ps : List Timed) → length (by_time ps) ≡ length ps
sort_length [] = refl
sort_length (p ∷ ps) = put_length p (by_time ps) ∙ ap suc (sort_length ps)

module _ (C : Course) where
  at_length : (c : Bool) (x y : Timed) → length (cond c (x ∷ y ∷ []) []) ≤ 2
  at_length true x y = omega arith
  at_length false x y = omega arith

  more_to : (n i : ℕ) → length (timed_to C (n + i)) ≤ length (timed_to C n) + 2 * i
  more_to n zero = let here : n + 0 ≡ n = omega arith in let same = ap (λ (k : ℕ). length (timed_to C k)) here in omega arith
  more_to n (suc i) =
      let up : n + suc i ≡ suc (n + i) = omega arith in
      let same = ap (λ (k : ℕ). length (timed_to C k)) up in
      let rest = more_to n i in
      let here = at_length (is_some (leg_row C (n + i))) (timed C (side (n + i) false)) (timed C (side (n + i) true)) in
      let all = length-append (timed_to C (n + i)) (timed_at C (n + i)) in
      omega arith

  -- no row leads from the last point of a thread
  no_leg : (t : ℕ) → t < length C.threads → leg_row C (number_of C t (length (rows_of C t))) ≡ None
  no_leg t below = ap (λ x. row_at C (row_from x)) (point_number C t (length (rows_of C t)) below (omega arith)) ∙ slice_get_past (rows_of C t) (length (rows_of C t)) (omega arith)

  no_moments : (t : ℕ) → t < length C.threads → length (timed_at C (number_of C t (length (rows_of C t)))) ≡ 0
  no_moments t below = ap (λ (o : Option StepRow). length (cond (is_some o) (timed C (side (number_of C t (length (rows_of C t))) false) ∷ timed C (side (number_of C t (length (rows_of C t))) true) ∷ []) [])) (no_leg t below)

  thread_to : (t : ℕ) → t ≤ length C.threads → length (timed_to C (points_before C.threads t)) + 2 * t ≤ 2 * points_before C.threads t
  thread_to zero few = omega arith
  thread_to (suc t) few =
      let rest = thread_to t (omega arith) in
      let next = next_thread C.threads t (omega arith) in
      let rows : points_before C.threads (suc t) ≡ suc (number_of C t (length (rows_of C t))) = omega arith in
      let same = ap (λ (k : ℕ). length (timed_to C k)) rows in
      let more = more_to (points_before C.threads t) (length (rows_of C t)) in
      let none = no_moments t (omega arith) in
      let all = length-append (timed_to C (number_of C t (length (rows_of C t)))) (timed_at C (number_of C t (length (rows_of C t)))) in
      omega arith

  back_length : (xs : List Timed) → length (back C xs) ≡ length xs
  back_length [] = refl
  back_length (x ∷ xs) = let rest = back_length xs in let all = length-append (back C xs) (moment_at_side C x.side ∷ []) in omega arith

  keep_length : (b : Bool) (x : Moment) (xs : List Moment) → length (cond b (x ∷ xs) xs) ≤ suc (length xs)
  keep_length true x xs = omega arith
  keep_length false x xs = omega arith

  lasts_length : (xs : List Moment) → length (lasts C xs) ≤ length xs
  lasts_length [] = omega arith
  lasts_length (x ∷ xs) = let rest = lasts_length xs in let here = keep_length (keeps C (lasts C xs) x) x (lasts C xs) in omega arith

  pub moments_few : length (lasts C (in_order C)) ≤ 2 * small.rows_in C.threads
  moments_few =
      let whole = thread_to (length C.threads) (omega arith) in
      let points = all_points C.threads in
      let sorted = sort_length (timed_to C (points_in C)) in
      let turned = back_length (in_time C) in
      let kept = lasts_length (in_order C) in
      omega arith

  points_by : IsSmall C → (o : Option (List StepRow)) → alone_by C.threads C.untraced ≡ o → (seen_by C o).legs.count ≤ 66560
  points_by its (Some rows) e = let few = alone_few C.threads C.untraced rows e in let rows = its.rows in omega arith
  points_by its None e = let all = all_points C.threads in let rows = its.rows in let threads = its.threads in omega arith

  numbers_by : IsSmall C → (o : Option (List StepRow)) → alone_by C.threads C.untraced ≡ o → (seen_by C o).moments.end ≤ 131072
  numbers_by its (Some rows) e = let few = alone_few C.threads C.untraced rows e in let rows = its.rows in omega arith
  numbers_by its None e = let all = moments_few in let rows = its.rows in omega arith

  pub few_points : IsSmall C → points_in C ≤ 66560
  few_points its = let all = all_points C.threads in let rows = its.rows in let threads = its.threads in omega arith

  pub is_timeline : IsSoundCourse C → IsSmall C → IsTimeline (as_timeline (seen C))
  is_timeline sound its = record {
    legs = legs_seen C;
    moments = moments_seen C sound;
    points = points_by its (alone_by C.threads C.untraced) refl;
    numbers = numbers_by its (alone_by C.threads C.untraced) refl;
  }
