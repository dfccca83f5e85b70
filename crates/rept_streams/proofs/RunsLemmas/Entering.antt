-- A run to which calls were added is as sound and as small as it was.
use Rattle.std.proofs.Common.{◌<◌, ◌≡◌, inl, inr, map, ℕ, suc, zero, ◌+◌, ◌-◌, ◌≤◌, nat_le, nat_lt, List, [], ◌∷◌, length, Bool, true, false, cond, ◌&&◌, ◌||◌, Option, Some, None, refl, sym, ◌∙◌, ap, subst, arith}
use Rattle.std.specs.Prelude.{option_map, unwrap_or, slice_get, is_some}
use Rattle.std.proofs.lemmas.Bool.Decides.{leb_tells}
use Rattle.rept_isa.specs.declared.row.StepRow.{StepRow}
use Rattle.rept_isa.specs.Operands.{is_call}
use Rattle.rept_path.specs.Code.{Code, look, calls_there}
use Rattle.rept_path.specs.Gap.{call_row}
use Rattle.rept_steps.specs.Course.{row_of, no_thread, thread_at, is_call_row, slice_of, first_slice, TakeRows, BeginsFrom, KeepTime, IsAlone, IsSoundCourse}
use Rattle.rept_steps.specs.Runs.{course_of}
use Rattle.rept_steps.specs.declared.run.Run.{Run}
use Rattle.rept_steps.specs.declared.slice.Slice.{Slice}
use Rattle.rept_steps.specs.declared.threads.ThreadRows.{ThreadRows}
use Rattle.rept_moments.specs.Seen.{alone_by}
use Rattle.rept_timeline.specs.Small.{rows_in, IsSmall}
use Rattle.rept_streams.specs.Runs.Calls.{call_before, begin_address, entry_slice, later_by, with_row, with_entry, with_all, with_calls, is_shared, entered}

-- a row that is added is a call
abbrev pub IsEntry : Option StepRow → Type 0
IsEntry None = Unit {0}
IsEntry (Some row) = is_call row.instr ≡ true

entry_calls : (code : Code) (a : ℕ) → IsEntry (call_before code a)
entry_calls code a = go (nat_le 4 a && calls_there (look code (a - 4))) where
  go : (b : Bool) → IsEntry (cond b (Some (call_row code (a - 4) a)) None)
  go true = refl
  go false = tt

-- a thread of them
record Added (old new : ThreadRows) : Type 0 where
  entry : Option StepRow
  calls : IsEntry entry
  same : new ≡ with_entry entry old

unchanged : (th : ThreadRows) → Added th th
unchanged th = record { entry = None; calls = tt; same = refl }

added_at : (code : Code) (pcs : List ℕ) (ths : List ThreadRows) (t : ℕ) → Added (unwrap_or (slice_get ths t) no_thread) (unwrap_or (slice_get (with_calls code pcs ths) t) no_thread)
added_at code pcs [] t = unchanged no_thread
added_at code [] (th ∷ ths) t = unchanged (unwrap_or (slice_get (th ∷ ths) t) no_thread)
added_at code (pc ∷ pcs) (th ∷ ths) zero = record { entry = call_before code (begin_address th.steps pc); calls = entry_calls code (begin_address th.steps pc); same = refl }
added_at code (pc ∷ pcs) (th ∷ ths) (suc t) = added_at code pcs ths t

-- slices whose rows stand one place later
take_later : (from to : ℕ) (ss : List Slice) → TakeRows from ss to → TakeRows (from + 1) (map (later_by 1) ss) (to + 1)
take_later from to [] h = ap (λ (n : ℕ). n + 1) h
take_later from to (s ∷ ss) h =
    let sum : from + s.count + 1 ≡ from + 1 + s.count = omega arith in
    (ap (λ (n : ℕ). n + 1) h.0, subst (λ (n : ℕ). TakeRows n (map (later_by 1) ss) (to + 1)) sum (take_later (from + s.count) to ss h.1))

begins_later : (time : ℕ) (ss : List Slice) → BeginsFrom time (first_slice ss) → BeginsFrom time (first_slice (map (later_by 1) ss))
begins_later time [] h = tt
begins_later time (s ∷ ss) h = h

times_later : (ss : List Slice) → KeepTime ss → KeepTime (map (later_by 1) ss)
times_later [] h = tt
times_later (s ∷ ss) h = (h.0, begins_later s.end ss h.1, times_later ss h.2)

from_zero : (ss : List Slice) → BeginsFrom 0 (first_slice ss)
from_zero [] = tt
from_zero (s ∷ ss) = omega arith

lt_suc : (j n m : ℕ) → m ≡ n + 1 → nat_lt (suc j) m ≡ nat_lt j n
lt_suc j n m e = elim (leb_tells (suc j) n) [
  | inl x ↦ elim (leb_tells (suc (suc j)) m) [ inl y ↦ (y.0 ∙ sym x.0) | inr y ↦ absurd (let lt = x.1 in let ge = y.1 in omega (arith, e, lt, ge)) ]
  | inr x ↦ elim (leb_tells (suc (suc j)) m) [ inl y ↦ absurd (let ge = x.1 in let lt = y.1 in omega (arith, e, ge, lt)) | inr y ↦ (y.0 ∙ sym x.0) ]
]

slice_later : (ss : List Slice) (j : ℕ) → slice_of (map (later_by 1) ss) (suc j) ≡ option_map (later_by 1) (slice_of ss j)
slice_later [] j = refl
slice_later (s ∷ ss) j =
    let same = lt_suc j (s.first + s.count) (s.first + 1 + s.count) (omega arith) in
    ap (λ (b : Bool). cond b (Some (later_by 1 s)) (slice_of (map (later_by 1) ss) (suc j))) same ∙ go (nat_lt j (s.first + s.count)) (slice_later ss j)
  where
    go : (b : Bool) → slice_of (map (later_by 1) ss) (suc j) ≡ option_map (later_by 1) (slice_of ss j) → cond b (Some (later_by 1 s)) (slice_of (map (later_by 1) ss) (suc j)) ≡ option_map (later_by 1) (cond b (Some s) (slice_of ss j))
    go true h = refl
    go false h = h

-- in this thread a call is the last row of its slice
abbrev CallsIn : ThreadRows → Type 0
CallsIn th = (i : ℕ) (s : Slice) → is_call_row (slice_get th.steps i) ≡ true → slice_of th.slices i ≡ Some s → s.first + s.count ≡ suc i

some_slice : {a b : Slice} → Some a ≡ Some b → a ≡ b
some_slice e = cc

calls_added : (row : StepRow) (th : ThreadRows) → CallsIn th → CallsIn (with_row row th)
calls_added row th h zero s call is = let e : entry_slice ≡ s = some_slice is in let n : entry_slice.first + entry_slice.count ≡ s.first + s.count = ap (λ (x : Slice). x.first + x.count) e in sym n
calls_added row th h (suc j) s call is = go (slice_of th.slices j) refl (sym (slice_later th.slices j) ∙ sym past ∙ is) where
  past : slice_of (with_row row th).slices (suc j) ≡ slice_of (map (later_by 1) th.slices) (suc j)
  past = elim (leb_tells (suc (suc j)) 1) [
    | inl x ↦ absurd (let le = x.1 in omega (arith, le))
    | inr x ↦ ap (λ (b : Bool). cond b (Some entry_slice) (slice_of (map (later_by 1) th.slices) (suc j))) x.0
  ]

  go : (o : Option Slice) → slice_of th.slices j ≡ o → option_map (later_by 1) o ≡ Some s → s.first + s.count ≡ suc (suc j)
  go None e k = absurd (let n : None ≡ Some s = k in cc)
  go (Some u) e k =
      let n : u.first + u.count ≡ suc j = h j u call e in
      let m : u.first + 1 + u.count ≡ s.first + s.count = ap (λ (x : Slice). x.first + x.count) (some_slice k) in
      omega (arith, n, m)

-- a thread
module _ (old new : ThreadRows) (a : Added old new) where
  takes : TakeRows 0 old.slices (length old.steps) → TakeRows 0 new.slices (length new.steps)
  takes h = subst (λ (th : ThreadRows). TakeRows 0 th.slices (length th.steps)) (sym a.same) (go a.entry) where
    go : (o : Option StepRow) → TakeRows 0 (with_entry o old).slices (length (with_entry o old).steps)
    go None = h
    go (Some row) =
        let n : length old.steps + 1 ≡ suc (length old.steps) = omega arith in
        (refl, subst (λ (m : ℕ). TakeRows 1 (map (later_by 1) old.slices) m) n (take_later 0 (length old.steps) old.slices h))

  keeps : KeepTime old.slices → KeepTime new.slices
  keeps h = subst (λ (th : ThreadRows). KeepTime th.slices) (sym a.same) (go a.entry) where
    go : (o : Option StepRow) → KeepTime (with_entry o old).slices
    go None = h
    go (Some row) = (omega arith, from_zero (map (later_by 1) old.slices), times_later old.slices h)

  ends : CallsIn old → CallsIn new
  ends h = subst CallsIn (sym a.same) (go a.entry) where
    go : (o : Option StepRow) → CallsIn (with_entry o old)
    go None = h
    go (Some row) = calls_added row old h

-- one thread, all of which is told, isn't changed
alone_stays : (run : Run) → IsAlone (course_of run) → is_shared run ≡ false
alone_stays run a =
    let n : nat_lt 1 (length run.threads) ≡ false = ap (λ (ths : List ThreadRows). nat_lt 1 (length ths)) a.only in
    let d : is_some run.untraced ≡ false = ap (λ (o : Option ℕ). is_some o) a.told in
    ap (λ (b : Bool). b || is_some run.untraced) n ∙ d

and_first : (a b : Bool) → (a && b) ≡ true → a ≡ true
and_first true b h = refl
and_first false b h = absurd (cc)

and_second : (a b : Bool) → (a && b) ≡ true → b ≡ true
and_second true b h = h
and_second false b h = absurd (cc)

module _ (code : Code) (pcs : List ℕ) (run : Run) where
  abbrev more : Run
  more = with_all code pcs run

  abbrev few : Bool
  few = nat_le (rows_in (with_calls code pcs run.threads)) 65536

  at : (t : ℕ) → Added (thread_at (course_of run) t) (thread_at (course_of more) t)
  at t = added_at code pcs run.threads t

  more_sound : is_shared run ≡ true → IsSoundCourse (course_of run) → IsSoundCourse (course_of more)
  more_sound shared s = record {
    taken = λ t. takes (thread_at (course_of run) t) (thread_at (course_of more) t) (at t) (s.taken t);
    in_time = λ t. keeps (thread_at (course_of run) t) (thread_at (course_of more) t) (at t) (s.in_time t);
    calls = elim s.calls [
      | inl alone ↦ absurd (let no = alone_stays run alone in cc)
      | inr end ↦ inr (λ r slice call is. ends (thread_at (course_of run) r.thread) (thread_at (course_of more) r.thread) (at r.thread) (λ i u c e. end (row_of r.thread i) u c e) r.step slice call is)
    ];
  }

  pub entered_sound : IsSoundCourse (course_of run) → IsSoundCourse (course_of (entered code pcs run))
  entered_sound s = go (is_shared run && few) refl where
    go : (b : Bool) → (is_shared run && few) ≡ b → IsSoundCourse (course_of (cond b more run))
    go true e = more_sound (and_first (is_shared run) few e) s
    go false e = s

added_count : (code : Code) (pcs : List ℕ) (ths : List ThreadRows) → length (with_calls code pcs ths) ≡ length ths
added_count code pcs [] = refl
added_count code [] (th ∷ ths) = refl
added_count code (pc ∷ pcs) (th ∷ ths) = ap suc (added_count code pcs ths)

pub entered_count : (code : Code) (pcs : List ℕ) (run : Run) → length (entered code pcs run).threads ≡ length run.threads
entered_count code pcs run = go (is_shared run && few code pcs run) where
  go : (b : Bool) → length (cond b (more code pcs run) run).threads ≡ length run.threads
  go true = added_count code pcs run.threads
  go false = refl

pub entered_small : (code : Code) (pcs : List ℕ) (run : Run) → IsSmall (course_of run) → IsSmall (course_of (entered code pcs run))
entered_small code pcs run s = go (is_shared run && few code pcs run) refl where
  go : (b : Bool) → (is_shared run && few code pcs run) ≡ b → IsSmall (course_of (cond b (more code pcs run) run))
  go false e = s
  go true e =
      let fits : few code pcs run ≡ true = and_second (is_shared run) (few code pcs run) e in
      let room : rows_in (with_calls code pcs run.threads) ≤ 65536 = elim (leb_tells (rows_in (with_calls code pcs run.threads)) 65536) [ inl x ↦ x.1 | inr x ↦ absurd (let no = x.0 in cc) ] in
      let count = added_count code pcs run.threads in
      let threads = s.threads in
      record { rows = room; threads = omega (arith, count, threads) }

-- a run that is one path is told so
pub entered_alone : (code : Code) (pcs : List ℕ) (run : Run) (rows : List StepRow) → alone_by (entered code pcs run).threads (entered code pcs run).untraced ≡ Some rows → entered code pcs run ≡ run
entered_alone code pcs run rows one = go (is_shared run && few code pcs run) refl one where
  never : (ths : List ThreadRows) (untraced : Option ℕ) → (nat_lt 1 (length ths) || is_some untraced) ≡ true → (ps : List ℕ) → alone_by (with_calls code ps ths) untraced ≡ Some rows → ⊥
  never [] None h ps e = cc
  never [] (Some d) h ps e = absurd (cc)
  never (th ∷ []) None h ps e = absurd (cc)
  never (th ∷ []) (Some d) h [] e = absurd (cc)
  never (th ∷ []) (Some d) h (p ∷ ps) e = absurd (cc)
  never (th ∷ u ∷ ths) untraced h [] e = absurd (cc)
  never (th ∷ u ∷ ths) untraced h (p ∷ []) e = absurd (cc)
  never (th ∷ u ∷ ths) untraced h (p ∷ q ∷ ps) e = absurd (cc)

  go : (b : Bool) → (is_shared run && few code pcs run) ≡ b → alone_by (cond b (more code pcs run) run).threads (cond b (more code pcs run) run).untraced ≡ Some rows → cond b (more code pcs run) run ≡ run
  go false e k = refl
  go true e k = absurd (never run.threads run.untraced (and_first (is_shared run) (few code pcs run) e) pcs k)

-- rows don't get fewer
grows : (code : Code) (pcs : List ℕ) (ths : List ThreadRows) → rows_in ths ≤ rows_in (with_calls code pcs ths)
grows code pcs [] = omega arith
grows code [] (th ∷ ths) = omega arith
grows code (pc ∷ pcs) (th ∷ ths) = let rest = grows code pcs ths in let one = here (call_before code (begin_address th.steps pc)) in omega (arith, rest, one) where
  here : (o : Option StepRow) → length th.steps ≤ length (with_entry o th).steps
  here None = omega arith
  here (Some row) = omega arith

-- where they don't get more, nothing is added
same_threads : (code : Code) (pcs : List ℕ) (ths : List ThreadRows) → rows_in (with_calls code pcs ths) ≤ rows_in ths → with_calls code pcs ths ≡ ths
same_threads code pcs [] le = refl
same_threads code [] (th ∷ ths) le = refl
same_threads code (pc ∷ pcs) (th ∷ ths) le = go (call_before code (begin_address th.steps pc)) (grows code pcs ths) (λ x. same_threads code pcs ths x) le where
  go : (o : Option StepRow) → rows_in ths ≤ rows_in (with_calls code pcs ths) → (rows_in (with_calls code pcs ths) ≤ rows_in ths → with_calls code pcs ths ≡ ths) → length (with_entry o th).steps + rows_in (with_calls code pcs ths) ≤ length th.steps + rows_in ths → with_entry o th ∷ with_calls code pcs ths ≡ th ∷ ths
  go None more rest few = ap (λ (xs : List ThreadRows). th ∷ xs) (rest (omega (arith, few)))
  go (Some row) more rest few = absurd (omega (arith, more, few))

-- a run that has 65,536 rows stays as it is
pub entered_full : (code : Code) (pcs : List ℕ) (run : Run) → nat_le (rows_in run.threads) 65535 ≡ false → run ≡ entered code pcs run
entered_full code pcs run full = go (is_shared run && few code pcs run) refl where
  many : 65535 < rows_in run.threads
  many = elim (leb_tells (rows_in run.threads) 65535) [ inl x ↦ absurd (let yes = x.0 in cc) | inr x ↦ x.1 ]

  go : (b : Bool) → (is_shared run && few code pcs run) ≡ b → run ≡ cond b (more code pcs run) run
  go false e = refl
  go true e =
      let fits : few code pcs run ≡ true = and_second (is_shared run) (few code pcs run) e in
      let room : rows_in (with_calls code pcs run.threads) ≤ 65536 = elim (leb_tells (rows_in (with_calls code pcs run.threads)) 65536) [ inl x ↦ x.1 | inr x ↦ absurd (let no = x.0 in cc) ] in
      let same = same_threads code pcs run.threads (omega (arith, many, room)) in
      λ i. record { threads = sym same i; untraced = run.untraced; skipped = run.skipped }
