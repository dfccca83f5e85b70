-- The one numbering of all points.
use Rattle.std.proofs.Common.{◌≡◌, ℕ, zero, suc, ◌+◌, ◌-◌, ◌<◌, ◌≤◌, true, false, List, [], ◌∷◌, length, Option, Some, slice_get, unwrap_or, inl, inr, refl, sym, ap, ◌∙◌, subst, arith}
use Rattle.std.proofs.lemmas.Bool.{cases_lt, lt-ltb, le-ltb}
use Rattle.std.proofs.lemmas.Option.{slice_get_within, slice_get_past}
use Rattle.rept_isa.specs.declared.row.StepRow.{StepRow}
use Rattle.rept_machine.specs.Step.{IsStep}
use Rattle.rept_steps.specs.declared.threads.ThreadRows.{ThreadRows}
use Rattle.rept_steps.specs.Course.{Course, Row, rows_of, no_thread, IsRow, row_at, calls}
use Rattle.rept_order.specs.Moments.Moment.{before, after}
use Rattle.rept_order.specs.History.{History, Ending, IsExecution}
use Rattle.rept_order.specs.Points.{thread_registers, memory_at, state_from}
use Rattle.rept_order.specs.Legs.{Point, point_of_thread, points_before, point_in, number_of, point_at, row_from, leg_row, registers_on}
use Rattle.rept_order.proofs.Points.{plain_step, call_step}

count_in : List ThreadRows → ℕ → ℕ
count_in threads t = length (unwrap_or (slice_get threads t) no_thread).steps

point_found : (threads : List ThreadRows) (t p : ℕ) → t < length threads → p ≤ count_in threads t → point_in threads (points_before threads t + p) ≡ point_of_thread t p
unfolding count_in
point_found [] t p below few = absurd (omega arith)
point_found (thread ∷ threads) zero p below few =
    let none : 0 + p ≡ p = omega arith in
    let early : 0 + p ≤ length thread.steps = omega arith in
    rw (le-ltb (length thread.steps) (0 + p) early, none) refl
point_found (thread ∷ threads) (suc t) p below few =
    let rest = point_found threads t p (omega arith) few in
    let past : length thread.steps < suc (length thread.steps) + points_before threads t + p = omega arith in
    let left : suc (length thread.steps) + points_before threads t + p - suc (length thread.steps) ≡ points_before threads t + p = omega arith in
    rw (lt-ltb (length thread.steps) (suc (length thread.steps) + points_before threads t + p) past, left, rest) refl

point_sums : (threads : List ThreadRows) (g : ℕ) → points_before threads (point_in threads g).thread + (point_in threads g).number ≡ g
point_sums [] g = omega arith
point_sums (thread ∷ threads) g =
    elim (cases_lt (length thread.steps) g) [
      | inl past ↦
          let rest = point_sums threads (g - suc (length thread.steps)) in
          rw (lt-ltb (length thread.steps) g past) (omega arith)
      | inr early ↦ rw (le-ltb (length thread.steps) g early) (omega arith)
    ]

module _ (C : Course) where
  -- points and their numbers
  pub point_number : (t p : ℕ) → t < length C.threads → p ≤ length (rows_of C t) → point_at C (number_of C t p) ≡ point_of_thread t p
  unfolding count_in
  point_number t p below few = point_found C.threads t p below few

  pub number_point : (g : ℕ) → number_of C (point_at C g).thread (point_at C g).number ≡ g
  number_point g = point_sums C.threads g

  row_inside : (r : Row) (its_row : StepRow) → row_at C r ≡ Some its_row → IsRow C r
  row_inside r its_row is = slice_get_within (rows_of C r.thread) r.step its_row is

  pub thread_inside : (r : Row) → IsRow C r → r.thread < length C.threads
  thread_inside r is =
      elim (cases_lt r.thread (length C.threads)) [
        | inl below ↦ below
        | inr past ↦
            let none : length (rows_of C r.thread) ≡ 0 = ap (λ (o : Option ThreadRows). length (unwrap_or o no_thread).steps) (slice_get_past C.threads r.thread past) in
            absurd (omega arith)
      ]

  -- a leg that is a row leads to the next point of its thread
  pub leg_leads : (g : ℕ) (its_row : StepRow) → leg_row C g ≡ Some its_row → point_at C (suc g) ≡ point_of_thread (point_at C g).thread (suc (point_at C g).number)
  leg_leads g its_row is =
      let x = point_at C g in
      let inside = row_inside (row_from (point_at C g)) its_row is in
      let here = number_point g in
      let next : suc g ≡ number_of C (point_at C g).thread (suc (point_at C g).number) = omega arith in
      ap (λ (k : ℕ). point_at C k) next ∙ point_number (point_at C g).thread (suc (point_at C g).number) (thread_inside (row_from (point_at C g)) inside) inside

  module _ (D : Ending) (h : History) (e : IsExecution C D h) where
    next_registers : (g : ℕ) (its_row : StepRow) → leg_row C g ≡ Some its_row → registers_on C h (suc g) ≡ thread_registers C h (point_at C g).thread (suc (point_at C g).number)
    next_registers g its_row is = ap (λ (x : Point). thread_registers C h x.thread x.number) (leg_leads g its_row is)

    -- a leg that is a row and no call is a step
    pub leg_step : (g : ℕ) (its_row : StepRow) → leg_row C g ≡ Some its_row → calls C (row_from (point_at C g)) ≡ false → IsStep D.image_end its_row (state_from (registers_on C h g) (memory_at C h (before (row_from (point_at C g))))) (state_from (registers_on C h (suc g)) (memory_at C h (after (row_from (point_at C g)))))
    leg_step g its_row is plain =
        let inside = row_inside (row_from (point_at C g)) its_row is in
        subst (λ (f : ℕ → ℕ). IsStep D.image_end its_row (state_from (registers_on C h g) (memory_at C h (before (row_from (point_at C g))))) (state_from f (memory_at C h (after (row_from (point_at C g)))))) (sym (next_registers g its_row is)) (plain_step C D h e (point_at C g).thread (point_at C g).number inside its_row is plain)

    -- a call is one with any memory, the same before and after
    pub leg_call : (g : ℕ) (its_row : StepRow) (memory : ℕ → ℕ) → leg_row C g ≡ Some its_row → calls C (row_from (point_at C g)) ≡ true → IsStep D.image_end its_row (state_from (registers_on C h g) memory) (state_from (registers_on C h (suc g)) memory)
    leg_call g its_row memory is call =
        let inside = row_inside (row_from (point_at C g)) its_row is in
        subst (λ (f : ℕ → ℕ). IsStep D.image_end its_row (state_from (registers_on C h g) memory) (state_from f memory)) (sym (next_registers g its_row is)) (call_step C D h e (point_at C g).thread (point_at C g).number inside its_row memory is call)
