-- The thread of a point, found thread by thread, and the values that registers have at the ends of
-- threads.
use Rattle.std.proofs.Common.{◌≡◌, ℕ, zero, suc, ◌+◌, ◌-◌, ◌<◌, ◌≤◌, nat_lt, List, [], ◌∷◌, ◌++◌, length, Option, Some, None, slice_get, unwrap_or, inl, inr, refl, sym, ap, ◌∙◌, subst, arith, length-append}
use Rattle.std.proofs.lemmas.Bool.{cases_lt, cases_order, cond-true, cond-false, lt-ltb, le-ltb}
use Rattle.std.proofs.lemmas.Option.{slice_get_within}
use Rattle.rept_isa.specs.declared.row.StepRow.{StepRow}
use Rattle.rept_dump.specs.Status.{IsStatus}
use Rattle.rept_dump.specs.declared.status.Status.{Status}
use Rattle.rept_steps.specs.declared.threads.ThreadRows.{ThreadRows}
use Rattle.rept_steps.specs.Course.{Course, no_thread, rows_of}
use Rattle.rept_order.specs.Legs.{Point, points_before, point_of_thread, number_of, point_at}
use Rattle.rept_order.proofs.Legs.{point_number}
use Rattle.rept_moments.proofs.NamingLemmas.Naming.{points_next}
use Rattle.rept_moments.specs.Seen.{alone_by}
use Rattle.rept_moments.proofs.Places.{get_end, get_before}
use Rattle.rept_timeline.proofs.Only.{is_only, past_points}
use Rattle.rept_timeline.specs.Ends.{left_by}
use Rattle.rept_timeline.specs.Ends.{thread_on, values_by}
use Rattle.rept_timeline.specs.Ends.{Ends, registers_in, last_values_in, AreEnds, AreNoted, AreWhole}

-- the first point of the next thread
pub points_step : (threads : List ThreadRows) (t : ℕ) → t < length threads → points_before threads (suc t) ≡ points_before threads t + length (unwrap_or (slice_get threads t) no_thread).steps + 1
points_step [] t below = absurd (omega arith)
points_step (thread ∷ threads) zero below = omega arith
points_step (thread ∷ threads) (suc t) below = let rest = points_step threads t (omega arith) in omega arith

module _ (C : Course) where
  -- a point within a thread is of that thread
  pub thread_within : (t p : ℕ) → t < length C.threads → points_before C.threads t ≤ p → p ≤ points_before C.threads t + length (rows_of C t) → thread_on C p ≡ t
  thread_within t p below low high =
      let number : number_of C t (p - points_before C.threads t) ≡ p = omega arith in
      let here : point_at C p ≡ point_of_thread t (p - points_before C.threads t) = ap (point_at C) (sym number) ∙ point_number C t (p - points_before C.threads t) below (omega arith) in
      let same : (point_at C p).thread ≡ t = ap (λ (x : Point). x.thread) here in
      cond-true (nat_lt (point_at C p).thread (length C.threads)) (point_at C p).thread 0 (lt-ltb (point_at C p).thread (length C.threads) (omega arith)) ∙ same

  -- a number past all points goes by the first thread
  pub thread_past : (p : ℕ) → points_before C.threads (length C.threads) ≤ p → thread_on C p ≡ 0
  thread_past p past =
      let here = past_points C.threads p past in
      let same : (point_at C p).thread ≡ length C.threads = ap (λ (x : Point). x.thread) here in
      cond-false (nat_lt (point_at C p).thread (length C.threads)) (point_at C p).thread 0 (le-ltb (point_at C p).thread (length C.threads) (omega arith))

  small_thread : (b : ℕ) → b < 1 → b ≡ 0
  small_thread b less = omega arith

  pub thread_inside : (p : ℕ) → 0 < length C.threads → thread_on C p < length C.threads
  thread_inside p some =
      elim (cases_lt (point_at C p).thread (length C.threads)) [
        | inl below ↦ let same = cond-true (nat_lt (point_at C p).thread (length C.threads)) (point_at C p).thread 0 (lt-ltb (point_at C p).thread (length C.threads) below) in omega arith
        | inr past ↦ let same = cond-false (nat_lt (point_at C p).thread (length C.threads)) (point_at C p).thread 0 (le-ltb (point_at C p).thread (length C.threads) past) in omega arith
      ]

  -- where there is one thread, each number goes by it
  pub values_same : (registers : ℕ → ℕ → Option ℕ) (p : ℕ) → 0 < length C.threads → values_by C registers (alone_by C.threads C.untraced) p ≡ registers (thread_on C p)
  values_same registers p some = by (alone_by C.threads C.untraced) refl
    where
      by : (o : Option (List StepRow)) → alone_by C.threads C.untraced ≡ o → values_by C registers o p ≡ registers (thread_on C p)
      by None e = refl
      by (Some rows) e =
          let one : length C.threads ≡ 1 = ap (λ (xs : List ThreadRows). length xs) (is_only C.threads C.untraced rows e).is in
          let inside = thread_inside p some in
          let first : 0 ≡ thread_on C p = omega arith in
          ap registers first

-- the value of a register at a point
module _ (e : Ends) (ends : AreEnds e) (some : 0 < length e.course.threads) where
  pub value_there : (p r : ℕ) (status : Status) → slice_get e.statuses (thread_on e.course p) ≡ Some status → left_by e.program status.pc status.regs r ≡ last_values_in e p r
  value_there p r status at =
      let here : registers_in e (thread_on e.course p) ≡ left_by e.program status.pc status.regs = ap (Rattle.rept_timeline.specs.Ends.registers_of_one e.program) at in
      sym (ap (λ (f : ℕ → Option ℕ). f r) (values_same e.course (registers_in e) p some ∙ here))

pub points_more : (C : Course) (t first rows : ℕ) → t < length C.threads → rows ≡ length (rows_of C t) → first ≡ points_before C.threads t → first + (rows + 1) ≡ points_before C.threads (t + 1)
points_more C t first rows below same here =
    let step : points_before C.threads (suc t) ≡ points_before C.threads t + length (rows_of C t) + 1 = points_step C.threads t below in
    let next : suc t ≡ t + 1 = omega arith in
    (let all : first + (rows + 1) ≡ points_before C.threads (suc t) = omega arith in all) ∙ ap (points_before C.threads) next

pub points_fit : (C : Course) (t first rows : ℕ) → t < length C.threads → rows ≡ length (rows_of C t) → first ≡ points_before C.threads t → first + rows < points_before C.threads (length C.threads)
points_fit C t first rows below same here = let next = points_next C.threads t rows below (omega arith) in omega arith

-- one more
whole_by : (xs : List Status) (x status : Status) (t : ℕ) → AreWhole xs → length x.regs ≡ 32 → slice_get (xs ++ x ∷ []) t ≡ Some status → length status.regs ≡ 32
whole_by xs x status t whole long at =
    elim (cases_order t (length xs)) [
      | inl same ↦ ap (λ (s : Status). length s.regs) (same_status (sym at ∙ ap (slice_get (xs ++ x ∷ [])) same ∙ get_end xs x)) ∙ long
      | inr (inl less) ↦ whole t status (sym (get_before xs x t less) ∙ at)
      | inr (inr more) ↦ absurd (let inside = slice_get_within (xs ++ x ∷ []) t status at in let all = length-append xs (x ∷ []) in omega arith)
    ]
  where
    same_status : {a b : Status} → Some a ≡ Some b → a ≡ b
    same_status e = cc

pub whole_more : (xs ys : List Status) (x : Status) → ys ≡ xs ++ x ∷ [] → AreWhole xs → length x.regs ≡ 32 → AreWhole ys
whole_more xs ys x same whole long = subst (λ (zs : List Status). AreWhole zs) (sym same) (λ t status at. whole_by xs x status t whole long at)

abbrev pub IsNotedAs : List (List ℕ) → ℕ → Status → Type 0
IsNotedAs descs t status = (desc : List ℕ) × (slice_get descs t ≡ Some desc) × IsStatus desc status

noted_by : (descs : List (List ℕ)) (xs : List Status) (x status : Status) (t : ℕ) → AreNoted descs xs → IsNotedAs descs (length xs) x → slice_get (xs ++ x ∷ []) t ≡ Some status → IsNotedAs descs t status
noted_by descs xs x status t noted its at =
    elim (cases_order t (length xs)) [
      | inl same ↦ subst (λ (s : Status). IsNotedAs descs t s) (sym (same_status (sym at ∙ ap (slice_get (xs ++ x ∷ [])) same ∙ get_end xs x))) (subst (λ (k : ℕ). IsNotedAs descs k x) (sym same) its)
      | inr (inl less) ↦ noted.each t status (sym (get_before xs x t less) ∙ at)
      | inr (inr more) ↦ absurd (let inside = slice_get_within (xs ++ x ∷ []) t status at in let all = length-append xs (x ∷ []) in omega arith)
    ]
  where
    same_status : {a b : Status} → Some a ≡ Some b → a ≡ b
    same_status e = cc

pub noted_more : (descs : List (List ℕ)) (xs ys : List Status) (x : Status) (t : ℕ) → ys ≡ xs ++ x ∷ [] → length xs ≡ t → AreNoted descs xs → IsNotedAs descs t x → AreNoted descs ys
noted_more descs xs ys x t same long noted its = subst (λ (zs : List Status). AreNoted descs zs) (sym same) (record { each = λ k status at. noted_by descs xs x status k noted (subst (λ (j : ℕ). IsNotedAs descs j x) (sym long) its) at })
