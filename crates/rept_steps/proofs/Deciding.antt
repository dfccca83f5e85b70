-- A course is sound exactly where the truth values say so.
use Rattle.std.proofs.Common.{◌≡◌, ◌≢◌, ℕ, zero, suc, ◌+◌, ◌<◌, ◌≤◌, ◌⊎◌, ◌↔◌, ◌&&◌, ◌||◌, not, eqb, nat_le, Bool, true, false, List, [], ◌∷◌, length, unwrap_or, slice_get, Option, Some, None, inl, inr, refl, sym, ap, ◌∙◌, subst, arith}
use Rattle.std.proofs.lemmas.Bool.{false≢true, cases_Bool, cases_lt, and_parts, and_from, or_cases, or_left, or_right, eq-eqb, ne_eqb, eqb-true, leb-true, le-leb}
use Rattle.std.proofs.lemmas.Option.{slice_get_past}
use Rattle.rept_steps.specs.declared.slice.Slice.{Slice}
use Rattle.rept_steps.specs.declared.threads.ThreadRows.{ThreadRows}
use Rattle.rept_steps.specs.Course.{Course, no_thread, thread_at, rows_of, slices_of, is_call_row, slice_of, first_slice, TakeRows, BeginsFrom, KeepTime, CallsEnd, IsAlone, IsSoundCourse}
use Rattle.rept_steps.specs.Tested.{takes, begins_from, in_time, keeps_to, ends_after, call_ends, calls_end_to, calls_end, fits, fit_to, end_to, is_one, is_told, is_alone, is_sound}

-- rows
pub taken_true : (from : ℕ) (slices : List Slice) (to : ℕ) → takes from slices to ≡ true → TakeRows from slices to
taken_true from [] to e = sym (eqb-true from to e)
taken_true from (s ∷ slices) to e =
    let parts = and_parts (eqb s.first from) (takes (from + s.count) slices to) e in
    (eqb-true s.first from parts.0, taken_true (from + s.count) slices to parts.1)

pub taken_from : (from : ℕ) (slices : List Slice) (to : ℕ) → TakeRows from slices to → takes from slices to ≡ true
taken_from from [] to e = eq-eqb from to (sym e)
taken_from from (s ∷ slices) to e = and_from (eqb s.first from) (takes (from + s.count) slices to) (eq-eqb s.first from e.0) (taken_from (from + s.count) slices to e.1)

-- slices that begin past the last row don't
pub too_far : (from : ℕ) (slices : List Slice) (to : ℕ) → to < from → takes from slices to ≡ false
too_far from [] to past = let other : from ≢ to = omega arith in ne_eqb from to other
too_far from (s ∷ slices) to past =
    elim (cases_Bool (eqb s.first from)) [
      | inl here ↦ rw here (too_far (from + s.count) slices to (omega arith))
      | inr other ↦ rw other refl
    ]

-- times
begins_true : (time : ℕ) (o : Option Slice) → begins_from time o ≡ true → BeginsFrom time o
begins_true time None e = tt
begins_true time (Some s) e = leb-true time s.begin e

begins_back : (time : ℕ) (o : Option Slice) → BeginsFrom time o → begins_from time o ≡ true
begins_back time None h = refl
begins_back time (Some s) h = le-leb time s.begin h

first_is : (slices : List Slice) → first_slice slices ≡ slice_get slices 0
first_is [] = refl
first_is (s ∷ slices) = refl

-- of a list without its first one the same is so one place further
keeps_rest : (s : Slice) (slices : List Slice) (n : ℕ) → keeps_to (s ∷ slices) (suc n) ≡ (in_time (Some s) (slice_get slices 0) && keeps_to slices n)
keeps_rest s slices zero = and_one (in_time (Some s) (slice_get slices 0))
  where
    and_one : (b : Bool) → (true && b) ≡ (b && true)
    and_one true = refl
    and_one false = refl
keeps_rest s slices (suc n) =
    ap (λ (b : Bool). b && in_time (slice_get slices n) (slice_get slices (suc n))) (keeps_rest s slices n)
    ∙ grouped (in_time (Some s) (slice_get slices 0)) (keeps_to slices n) (in_time (slice_get slices n) (slice_get slices (suc n)))
  where
    grouped : (a b c : Bool) → ((a && b) && c) ≡ (a && (b && c))
    grouped true b c = refl
    grouped false b c = refl

pub keeps_true : (slices : List Slice) → keeps_to slices (length slices) ≡ true → KeepTime slices
keeps_true [] e = tt
keeps_true (s ∷ slices) e =
    let parts = and_parts (in_time (Some s) (slice_get slices 0)) (keeps_to slices (length slices)) (sym (keeps_rest s slices (length slices)) ∙ e) in
    let here = and_parts (nat_le s.begin s.end) (begins_from s.end (slice_get slices 0)) parts.0 in
    (leb-true s.begin s.end here.0, subst (λ (o : Option Slice). BeginsFrom s.end o) (sym (first_is slices)) (begins_true s.end (slice_get slices 0) here.1), keeps_true slices parts.1)

pub keeps_back : (slices : List Slice) → KeepTime slices → keeps_to slices (length slices) ≡ true
keeps_back [] h = refl
keeps_back (s ∷ slices) h =
    keeps_rest s slices (length slices)
    ∙ and_from (in_time (Some s) (slice_get slices 0)) (keeps_to slices (length slices))
    (and_from (nat_le s.begin s.end) (begins_from s.end (slice_get slices 0)) (le-leb s.begin s.end h.0) (begins_back s.end (slice_get slices 0) (subst (λ (o : Option Slice). BeginsFrom s.end o) (first_is slices) h.1)))
    (keeps_back slices h.2)

-- a test of each of so many numbers
all_true : (to : ℕ → Bool) (at : ℕ → Bool) → ((k : ℕ) → to (suc k) ≡ (to k && at k)) → (n : ℕ) → to n ≡ true → (k : ℕ) → k < n → at k ≡ true
all_true to at step zero e k less = absurd (omega arith)
all_true to at step (suc n) e k less =
    let parts = and_parts (to n) (at n) (sym (step n) ∙ e) in
    elim (cases_lt k n) [
      | inl low ↦ all_true to at step n parts.0 k low
      | inr past ↦ let same : k ≡ n = omega arith in ap at same ∙ parts.1
    ]

all_back : (to : ℕ → Bool) (at : ℕ → Bool) → to 0 ≡ true → ((k : ℕ) → to (suc k) ≡ (to k && at k)) → (n : ℕ) → ((k : ℕ) → k < n → at k ≡ true) → to n ≡ true
all_back to at start step zero each = start
all_back to at start step (suc n) each = step n ∙ and_from (to n) (at n) (all_back to at start step n (λ k less. each k (omega arith))) (each n (omega arith))

-- calls
EndsAfter : Option Slice → ℕ → Type 0
EndsAfter o i = (s : Slice) → o ≡ Some s → s.first + s.count ≡ suc i

some_same : {x y : Slice} → Some x ≡ Some y → x ≡ y
some_same e = cc

none_some : {x : Slice} → None ≡ Some x → ⊥
none_some e = cc

after_true : (o : Option Slice) (i : ℕ) → ends_after o i ≡ true → (s : Slice) → o ≡ Some s → s.first + s.count ≡ suc i
after_true None i e s is = absurd (none_some is)
after_true (Some x) i e s is = ap (λ (y : Slice). y.first + y.count) (sym (some_same is)) ∙ eqb-true (x.first + x.count) (suc i) e

after_back : (o : Option Slice) (i : ℕ) → ((s : Slice) → o ≡ Some s → s.first + s.count ≡ suc i) → ends_after o i ≡ true
after_back None i h = refl
after_back (Some x) i h = eq-eqb (x.first + x.count) (suc i) (h x refl)

call_true : (thread : ThreadRows) (i : ℕ) → call_ends thread i ≡ true → is_call_row (slice_get thread.steps i) ≡ true → (s : Slice) → slice_of thread.slices i ≡ Some s → s.first + s.count ≡ suc i
call_true thread i e call s is = after_true (slice_of thread.slices i) i (sym (ap (λ (b : Bool). not b || ends_after (slice_of thread.slices i) i) call) ∙ e) s is

call_back : (thread : ThreadRows) (i : ℕ) → (is_call_row (slice_get thread.steps i) ≡ true → (s : Slice) → slice_of thread.slices i ≡ Some s → s.first + s.count ≡ suc i) → call_ends thread i ≡ true
call_back thread i h =
    elim (cases_Bool (is_call_row (slice_get thread.steps i))) [
      | inl call ↦ or_right (not (is_call_row (slice_get thread.steps i))) (ends_after (slice_of thread.slices i) i) (after_back (slice_of thread.slices i) i (h call))
      | inr plain ↦ ap (λ (b : Bool). not b || ends_after (slice_of thread.slices i) i) plain
    ]

-- past the last row there is no call
past_call : (thread : ThreadRows) (i : ℕ) → length thread.steps ≤ i → is_call_row (slice_get thread.steps i) ≡ true → ⊥
past_call thread i past e = false≢true (sym (ap is_call_row (slice_get_past thread.steps i past)) ∙ e)

calls_true : (thread : ThreadRows) → calls_end thread ≡ true → (i : ℕ) → is_call_row (slice_get thread.steps i) ≡ true → (s : Slice) → slice_of thread.slices i ≡ Some s → s.first + s.count ≡ suc i
calls_true thread e i call s is =
    elim (cases_lt i (length thread.steps)) [
      | inl less ↦ call_true thread i (all_true (calls_end_to thread) (call_ends thread) (λ k. refl) (length thread.steps) e i less) call s is
      | inr past ↦ absurd (past_call thread i past call)
    ]

calls_back : (thread : ThreadRows) → ((i : ℕ) → is_call_row (slice_get thread.steps i) ≡ true → (s : Slice) → slice_of thread.slices i ≡ Some s → s.first + s.count ≡ suc i) → calls_end thread ≡ true
calls_back thread h = all_back (calls_end_to thread) (call_ends thread) refl (λ k. refl) (length thread.steps) (λ i less. call_back thread i (h i))

module _ (C : Course) where
  -- past the last thread there is nothing
  past_thread : (t : ℕ) → length C.threads ≤ t → thread_at C t ≡ no_thread
  past_thread t past = ap (λ (o : Option ThreadRows). unwrap_or o no_thread) (slice_get_past C.threads t past)

  by_thread : (P : ThreadRows → Type 0) → P no_thread → ((t : ℕ) → t < length C.threads → P (thread_at C t)) → (t : ℕ) → P (thread_at C t)
  by_thread P none each t =
      elim (cases_lt t (length C.threads)) [
        | inl less ↦ each t less
        | inr past ↦ subst P (sym (past_thread t past)) none
      ]

  fit_at : (n t : ℕ) → fit_to C n ≡ true → t < n → fits (thread_at C t) ≡ true
  fit_at n t e less = all_true (fit_to C) (λ (k : ℕ). fits (thread_at C k)) (λ k. refl) n e t less

  taken_all : fit_to C (length C.threads) ≡ true → (t : ℕ) → TakeRows 0 (slices_of C t) (length (rows_of C t))
  taken_all e = by_thread (λ (x : ThreadRows). TakeRows 0 x.slices (length x.steps)) refl (λ t less. taken_true 0 (slices_of C t) (length (rows_of C t)) (and_parts (takes 0 (slices_of C t) (length (rows_of C t))) (keeps_to (slices_of C t) (length (slices_of C t))) (fit_at (length C.threads) t e less)).0)

  kept_all : fit_to C (length C.threads) ≡ true → (t : ℕ) → KeepTime (slices_of C t)
  kept_all e = by_thread (λ (x : ThreadRows). KeepTime x.slices) tt (λ t less. keeps_true (slices_of C t) (and_parts (takes 0 (slices_of C t) (length (rows_of C t))) (keeps_to (slices_of C t) (length (slices_of C t))) (fit_at (length C.threads) t e less)).1)

  fit_back : ((t : ℕ) → TakeRows 0 (slices_of C t) (length (rows_of C t))) → ((t : ℕ) → KeepTime (slices_of C t)) → fit_to C (length C.threads) ≡ true
  fit_back taken kept = all_back (fit_to C) (λ (k : ℕ). fits (thread_at C k)) refl (λ k. refl) (length C.threads) (λ t less. and_from (takes 0 (slices_of C t) (length (rows_of C t))) (keeps_to (slices_of C t) (length (slices_of C t))) (taken_from 0 (slices_of C t) (length (rows_of C t)) (taken t)) (keeps_back (slices_of C t) (kept t)))

  abbrev EndsIn : ThreadRows → Type 0
  EndsIn x = (i : ℕ) → is_call_row (slice_get x.steps i) ≡ true → (s : Slice) → slice_of x.slices i ≡ Some s → s.first + s.count ≡ suc i

  ends_all : end_to C (length C.threads) ≡ true → CallsEnd C
  ends_all e r s call is = by_thread EndsIn (λ i k. absurd (past_call no_thread i (omega arith) k)) (λ t less. calls_true (thread_at C t) (all_true (end_to C) (λ (k : ℕ). calls_end (thread_at C k)) (λ k. refl) (length C.threads) e t less)) r.thread r.step call s is

  ends_back : CallsEnd C → end_to C (length C.threads) ≡ true
  ends_back h = all_back (end_to C) (λ (k : ℕ). calls_end (thread_at C k)) refl (λ k. refl) (length C.threads) (λ t less. calls_back (thread_at C t) (λ i call s is. h (record { thread = t; step = i }) s call is))

-- one thread in one slice
told_true : (o : Option ℕ) → is_told o ≡ true → o ≡ None
told_true None e = refl
told_true (Some d) e = absurd (false≢true e)

one_true : {A : Type 0} (xs : List A) → is_one xs ≡ true → (x : A) × (xs ≡ x ∷ [])
one_true [] e = absurd (false≢true e)
one_true (x ∷ []) e = (x, refl)
one_true (x ∷ y ∷ xs) e = absurd (false≢true e)

alone_true : (C : Course) → is_alone C ≡ true → IsAlone C
alone_true C e =
    let parts = and_parts (is_told C.untraced) (is_one C.threads && is_one (thread_at C 0).slices) e in
    let ones = and_parts (is_one C.threads) (is_one (thread_at C 0).slices) parts.1 in
    let thread = one_true C.threads ones.0 in
    let same : thread_at C 0 ≡ thread.0 = ap (λ (ts : List ThreadRows). unwrap_or (slice_get ts 0) no_thread) thread.1 in
    let slice = one_true thread.0.slices (sym (ap (λ (x : ThreadRows). is_one x.slices) same) ∙ ones.1) in
    record { thread = thread.0; slice = slice.0; only = thread.1; whole = slice.1; told = told_true C.untraced parts.0 }

alone_back : (C : Course) → IsAlone C → is_alone C ≡ true
alone_back C its =
    let same : thread_at C 0 ≡ its.thread = ap (λ (ts : List ThreadRows). unwrap_or (slice_get ts 0) no_thread) its.only in
    and_from (is_told C.untraced) (is_one C.threads && is_one (thread_at C 0).slices) (ap is_told its.told)
    (and_from (is_one C.threads) (is_one (thread_at C 0).slices) (ap (λ (ts : List ThreadRows). is_one ts) its.only) (ap (λ (x : ThreadRows). is_one x.slices) same ∙ ap (λ (ss : List Slice). is_one ss) its.whole))

sound_true : (C : Course) → is_sound C ≡ true → IsSoundCourse C
sound_true C e =
    let parts = and_parts (fit_to C (length C.threads)) (is_alone C || end_to C (length C.threads)) e in
    record {
      taken = taken_all C parts.0;
      in_time = kept_all C parts.0;
      calls =
          elim (or_cases (is_alone C) (end_to C (length C.threads)) parts.1) [
            | inl alone ↦ inl (alone_true C alone)
            | inr ends ↦ inr (ends_all C ends)
          ];
    }

sound_back : (C : Course) → IsSoundCourse C → is_sound C ≡ true
sound_back C its = and_from (fit_to C (length C.threads)) (is_alone C || end_to C (length C.threads)) (fit_back C its.taken its.in_time) (calls_by its.calls)
  where
    calls_by : IsAlone C ⊎ CallsEnd C → (is_alone C || end_to C (length C.threads)) ≡ true
    calls_by (inl alone) = or_left (is_alone C) (end_to C (length C.threads)) (alone_back C alone)
    calls_by (inr ends) = or_right (is_alone C) (end_to C (length C.threads)) (ends_back C ends)

-- both
pub decided : (C : Course) (b : Bool) → b ≡ is_sound C → (b ≡ true) ↔ IsSoundCourse C
decided C b is = (λ e. sound_true C (sym is ∙ e), λ h. is ∙ sound_back C h)
