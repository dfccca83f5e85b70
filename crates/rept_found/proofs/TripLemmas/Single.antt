-- A run of one thread in one slice, all of which is told.
use Rattle.std.proofs.Common.{◌≡◌, ℕ, ◌<◌, ◌≤◌, List, [], ◌∷◌, length, Option, Some, None, inl, inr, refl, sym, ap, ◌∙◌, subst, arith, zero-add}
use Rattle.std.proofs.lemmas.Bool.{cases_lt, lt-ltb, le-ltb}
use Rattle.std.proofs.lemmas.Option.{slice_get_cases}
use Rattle.rept_isa.specs.declared.row.StepRow.{StepRow}
use Rattle.rept_steps.specs.declared.slice.Slice.{Slice}
use Rattle.rept_steps.specs.declared.threads.ThreadRows.{ThreadRows}
use Rattle.rept_steps.specs.Course.{Course, Row, row_of, rows_of, IsRow, IsAlone}
use Rattle.rept_order.specs.Moments.{Moment, IsMoment}
use Rattle.rept_order.specs.Moments.Moment.{before, at_end}
use Rattle.rept_order.specs.Legs.{point_of_thread, point_at, row_from}
use Rattle.rept_order.proofs.Legs.{point_number, thread_inside}
use Rattle.rept_moments.specs.Naming.Numbered.{row_on}
use Rattle.rept_report.specs.Moments.{points_of}
use Rattle.rept_report.specs.Timeline.{moment_by}
use Rattle.rept_moments.specs.Seen.{seen_alone, alone_by, rows_in, moment_in}
use Rattle.rept_found.specs.Places.Places.{last_by}

same_rows : {x y : List StepRow} → Some x ≡ Some y → x ≡ y
same_rows e = cc

none_some : {x : List StepRow} → None ≡ Some x → ⊥
none_some e = cc

-- these threads, with no untraced prefix, are one thread in one slice with these rows
record IsSingle (threads : List ThreadRows) (untraced : Option ℕ) (rows : List StepRow) : Type 0 where
  thread : ThreadRows
  slice : Slice
  only : threads ≡ thread ∷ []
  whole : thread.slices ≡ slice ∷ []
  told : untraced ≡ None
  own : thread.steps ≡ rows

single_slice : (thread : ThreadRows) (rows : List StepRow) (slices : List Slice) → thread.slices ≡ slices → rows_in slices thread.steps ≡ Some rows → IsSingle (thread ∷ []) None rows
single_slice thread rows [] same e = absurd (none_some e)
single_slice thread rows (s ∷ []) same e = record { thread = thread; slice = s; only = refl; whole = same; told = refl; own = same_rows e }
single_slice thread rows (s ∷ u ∷ slices) same e = absurd (none_some e)

is_single : (threads : List ThreadRows) (untraced : Option ℕ) (rows : List StepRow) → alone_by threads untraced ≡ Some rows → IsSingle threads untraced rows
is_single [] untraced rows e = absurd (none_some e)
is_single (thread ∷ []) None rows e = single_slice thread rows thread.slices refl e
is_single (thread ∷ []) (Some d) rows e = absurd (none_some e)
is_single (thread ∷ other ∷ threads) untraced rows e = absurd (none_some e)

-- its moments are its points
pub moment_alone : (rows : List StepRow) (p : ℕ) → p ≤ length rows → moment_in (seen_alone rows) p ≡ p
moment_alone rows p few =
    elim (slice_get_cases rows p).1 [
      | inl found ↦ ap (λ (o : Option StepRow). moment_by (points_of (length rows)) o p) found.2
      | inr past ↦ ap (λ (o : Option StepRow). moment_by (points_of (length rows)) o p) past.1 ∙ (let far = past.0 in omega arith)
    ]

module _ (C : Course) (rows : List StepRow) (e : alone_by C.threads C.untraced ≡ Some rows) where
  single : IsSingle C.threads C.untraced rows
  single = is_single C.threads C.untraced rows e

  pub is_alone : IsAlone C
  is_alone = let s = single in record { thread = s.thread; slice = s.slice; only = s.only; whole = s.whole; told = s.told }

  pub one_thread : length C.threads ≡ 1
  one_thread = ap (λ (xs : List ThreadRows). length xs) single.only

  pub rows_are : rows_of C 0 ≡ rows
  rows_are = ap (λ (xs : List ThreadRows). rows_of (record { threads = xs; untraced = None }) 0) single.only ∙ single.own

  pub count_is : length (rows_of C 0) ≡ length rows
  count_is = ap (λ (xs : List StepRow). length xs) rows_are

  -- the point of a number is that of the thread
  pub point_here : (p : ℕ) → p ≤ length rows → point_at C p ≡ point_of_thread 0 p
  point_here p few =
      let some = one_thread in
      let all = count_is in
      ap (λ (g : ℕ). point_at C g) (sym (zero-add p)) ∙ point_number C 0 p (omega arith) (omega arith)

  pub row_here : (i : ℕ) → i ≤ length rows → row_on C i ≡ row_of 0 i
  row_here i few = ap row_from (point_here i few)

  pub is_row : (i : ℕ) → i < length rows → IsRow C (row_of 0 i)
  is_row i less = let all = count_is in omega arith

  -- each row is one of the thread
  pub own_row : (r : Row) → IsRow C r → (r ≡ row_of 0 r.step) × (r.step < length rows)
  own_row r is =
      let inside = thread_inside C r is in
      let some = one_thread in
      let first : r.thread ≡ 0 = omega arith in
      let here : r.step < length (rows_of C 0) = subst (λ (t : ℕ). r.step < length (rows_of C t)) first is in
      let all = count_is in
      (ap (λ (t : ℕ). row_of t r.step) first, omega arith)

  pub last_low : (m : ℕ) → m < length rows → last_by C (Some rows) m ≡ before (row_of 0 m)
  last_low m less = rw (lt-ltb m (length rows) less) refl

  pub last_high : (m : ℕ) → length rows ≤ m → last_by C (Some rows) m ≡ at_end
  last_high m past = rw (le-ltb m (length rows) past) refl

  pub is_moment : (m : ℕ) → IsMoment C (last_by C (Some rows) m)
  is_moment m =
      elim (cases_lt m (length rows)) [
        | inl less ↦ subst (λ (x : Moment). IsMoment C x) (sym (last_low m less)) (is_row m less)
        | inr past ↦ subst (λ (x : Moment). IsMoment C x) (sym (last_high m past)) tt
      ]
