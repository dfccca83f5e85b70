-- The last point of the thread that a point is of.
use Rattle.std.proofs.Common.{◌≡◌, ℕ, suc, ◌+◌, ◌-◌, ◌<◌, ◌≤◌, true, List, [], ◌∷◌, length, unwrap_or, Option, Some, None, slice_get, inl, inr, refl, sym, ap, ◌∙◌, subst, arith}
use Rattle.std.specs.Option.{is_some}
use Rattle.std.proofs.lemmas.Bool.{cases_lt, lt-ltb, le-ltb}
use Rattle.std.proofs.lemmas.Option.{slice_get_past, slice_get_cases}
use Rattle.rept_isa.specs.declared.row.StepRow.{StepRow}
use Rattle.rept_steps.specs.declared.threads.ThreadRows.{ThreadRows}
use Rattle.rept_steps.specs.Course.{Course, row_of, rows_of, no_thread, row_at}
use Rattle.rept_order.specs.Legs.{Point, point_of_thread, points_before, point_in, point_at, row_from, leg_row}
use Rattle.rept_order.proofs.Legs.{point_number, number_point}
use Rattle.rept_moments.specs.Naming.Numbered.{legs_on}
use Rattle.rept_moments.specs.Points.{points_in}
use Rattle.rept_span.specs.Ranges.{legs_of}
use Rattle.rept_moments.specs.Seen.{seen_alone, IsRowAt, IsLastFrom}
use Rattle.rept_moments.proofs.Places.{row_there, leg_below, some_below}

point_inside : (threads : List ThreadRows) (g : ℕ) → g < points_before threads (length threads) → ((point_in threads g).thread < length threads) × ((point_in threads g).number ≤ length (unwrap_or (slice_get threads (point_in threads g).thread) no_thread).steps)
point_inside [] g below = absurd (omega arith)
point_inside (thread ∷ threads) g below =
    elim (cases_lt (length thread.steps) g) [
      | inl past ↦
          let rest = point_inside threads (g - suc (length thread.steps)) (omega arith) in
          rw (lt-ltb (length thread.steps) g past) (let low = rest.0 in omega arith, rest.1)
      | inr early ↦ rw (le-ltb (length thread.steps) g early) (omega arith, early)
    ]

module _ (C : Course) where
  pub thread_of : (g : ℕ) → g < points_in C → (point_at C g).thread < length C.threads
  thread_of g below = (point_inside C.threads g below).0

  module _ (g : ℕ) (below : g < points_in C) where
    abbrev t : ℕ
    t = (point_at C g).thread

    abbrev n : ℕ
    n = length (rows_of C t)

    inside : (k : ℕ) → k ≤ n → point_at C (points_before C.threads t + k) ≡ point_of_thread t k
    inside k few = point_number C t k (thread_of g below) few

    seam : leg_row C (points_before C.threads t + n) ≡ None
    seam = ap (λ (x : Point). row_at C (row_from x)) (inside n (omega arith)) ∙ slice_get_past (rows_of C t) n (omega arith)

    between : (q : ℕ) → g ≤ q → q < points_before C.threads t + n → is_some (leg_row C q) ≡ true
    between q low less =
        let here : points_before C.threads t + (point_at C g).number ≡ g = number_point C g in
        let few : q - points_before C.threads t < n = omega arith in
        let same : points_before C.threads t + (q - points_before C.threads t) ≡ q = omega arith in
        ap (λ (p : ℕ). is_some (leg_row C p)) (sym same) ∙ ap (λ (x : Point). is_some (row_at C (row_from x))) (inside (q - points_before C.threads t) (omega arith)) ∙ row_there C (row_of t (q - points_before C.threads t)) few

    pub last_is : (r first rows : ℕ) → first ≡ points_before C.threads t → rows ≡ n → r ≡ first + rows → r < points_in C → IsLastFrom (legs_on C) g (Some r)
    last_is r first rows first_is rows_is sum early =
        let here : points_before C.threads t + (point_at C g).number ≡ g = number_point C g in
        let few = (point_inside C.threads g below).1 in
        let same : points_before C.threads t + n ≡ r = omega arith in
        (omega arith, omega arith, subst (λ (p : ℕ). leg_row C p ≡ None) same seam, λ q low less. between q low (omega arith))

-- of no thread there is one point
none_is : (o : Option StepRow) → (is_some o ≡ true → ⊥) → o ≡ None
none_is None out = refl
none_is (Some x) out = absurd (out refl)

pub last_of_none : (C : Course) (p : ℕ) → points_in C ≤ p → p ≤ points_in C - 1 → IsLastFrom (legs_on C) p (Some p)
last_of_none C p past low = (omega arith, low, none_is (leg_row C p) (λ there. let below = leg_below C p there in omega arith), λ q from less. absurd (omega arith))

-- of one thread, all of which is told
row_within : (rows : List StepRow) (m : ℕ) → m < length rows → is_some (slice_get rows m) ≡ true
row_within rows m below =
    elim (slice_get_cases rows m).1 [
      | inl found ↦ ap is_some found.2
      | inr past ↦ absurd (let far = past.0 in omega arith)
    ]

pub alone_row : (rows : List StepRow) (m : ℕ) → m < length rows → IsRowAt (seen_alone rows) m (Some m)
alone_row rows m below = (row_within rows m below, refl, λ j there same. same)

pub alone_no_row : (rows : List StepRow) (m : ℕ) → length rows ≤ m → IsRowAt (seen_alone rows) m None
alone_no_row rows m past i there same = let below = some_below rows i there in omega arith

pub alone_last : (rows : List StepRow) (p : ℕ) → p ≤ length rows → IsLastFrom (legs_of rows) p (Some (length rows))
alone_last rows p low = (low, omega arith, slice_get_past rows (length rows) (omega arith), λ q from less. row_within rows q less)
