-- The order says no more than what each arrangement of the events has: where it doesn't put an
-- event before another one, some arrangement has them the other way round.
use Rattle.std.proofs.Common.{◌≡◌, ℕ, zero, suc, ◌+◌, ◌*◌, ◌<◌, ◌≤◌, Bool, true, false, cond, List, [], ◌∷◌, length, Some, None, slice_get, unwrap_or, inl, inr, refl, sym, ap, ◌∙◌, subst, arith, mul-le-mul_right}
use Rattle.std.proofs.lemmas.Bool.{false≢true, cases_Bool, cases_order}
use Rattle.rept_steps.specs.declared.slice.Slice.{Slice}
use Rattle.rept_steps.specs.declared.threads.ThreadRows.{ThreadRows}
use Rattle.rept_steps.specs.Course.{Course, Row, row_of, slices_of, no_thread, calls, IsSoundCourse}
use Rattle.rept_order.specs.Events.{Part, Event, IsEvent, FitsRow, Chain, Precedes, PrecedesOrIs}
use Rattle.rept_order.specs.Events.Part.{whole, entry, return}
use Rattle.rept_order.specs.Times.{IsOwnBefore, begin_of, EndsBefore, Sooner, sooner_or_same}
use Rattle.rept_order.specs.Times.IsOwnBefore.{rows, call}
use Rattle.rept_order.specs.Legs.{points_before}
use Rattle.rept_order.specs.Arrangements.{IsArrangement}
use Rattle.rept_order.proofs.Sequence.{part_of, directly, or_or}
use Rattle.rept_order.proofs.Times.{begins, begin_mono, begin_is, slice_time, only_slice, precedes_sooner}
use Rattle.rept_order.proofs.Decide.{or_true, or_from_it}
use Rattle.rept_order.proofs.Legs.{thread_inside}

-- a digit behind a number
digit : ℕ → ℕ → ℕ → ℕ
digit m a b = a * m + b

digit_less : (m a b c d : ℕ) → a < c → b < m → digit m a b < digit m c d
unfolding digit
digit_less m a b c d less small =
    let e : suc a * m ≤ c * m = mul-le-mul_right m less in
    let f : suc a * m ≡ a * m + m = omega arith in
    omega arith

digit_next : (m a b c d : ℕ) → a ≤ c → b < d → b < m → digit m a b < digit m c d
unfolding digit
digit_next m a b c d least less small =
    elim (cases_order a c) [
      | inl same ↦ let e : a * m ≡ c * m = ap (λ (k : ℕ). k * m) same in omega arith
      | inr (inl below) ↦ digit_less m a b c d below small
      | inr (inr above) ↦ absurd (omega arith)
    ]

digit_same : (m a b c d : ℕ) → b < m → d < m → digit m a b ≡ digit m c d → (a ≡ c) × (b ≡ d)
unfolding digit
digit_same m a b c d small other e =
    elim (cases_order a c) [
      | inl same ↦ let k : a * m ≡ c * m = ap (λ (k : ℕ). k * m) same in (same, omega arith)
      | inr (inl below) ↦ let less : digit m a b < digit m c d = digit_less m a b c d below small in absurd (omega arith)
      | inr (inr above) ↦ let less : digit m c d < digit m a b = digit_less m c d a b above other in absurd (omega arith)
    ]

-- all begins of a thread's slices, and of all threads, together
begins_of : List Slice → ℕ
begins_of [] = 0
begins_of (s ∷ slices) = s.begin + begins_of slices

all_begins : List ThreadRows → ℕ
all_begins [] = 0
all_begins (thread ∷ threads) = begins_of thread.slices + all_begins threads

one_begin : (slices : List Slice) (k : ℕ) (s : Slice) → slice_get slices k ≡ Some s → s.begin ≤ begins_of slices
unfolding begins_of
one_begin [] k s is = absurd (none_slice is)
  where
    none_slice : None ≡ Some s → ⊥
    none_slice e = cc
one_begin (v ∷ slices) zero s is = let same : v ≡ s = same_slice is in let begin : v.begin ≡ s.begin = ap (λ (u : Slice). u.begin) same in omega arith
  where
    same_slice : Some v ≡ Some s → v ≡ s
    same_slice e = cc
one_begin (v ∷ slices) (suc k) s is = let rest = one_begin slices k s is in omega arith

thread_begins : (threads : List ThreadRows) (t : ℕ) → begins_of (unwrap_or (slice_get threads t) no_thread).slices ≤ all_begins threads
unfolding all_begins begins_of
thread_begins [] t = omega arith
thread_begins (thread ∷ threads) zero = omega arith
thread_begins (thread ∷ threads) (suc t) = let rest = thread_begins threads t in omega arith

rows_few : (threads : List ThreadRows) (t : ℕ) → length (unwrap_or (slice_get threads t) no_thread).steps ≤ points_before threads (length threads)
rows_few [] t = omega arith
rows_few (thread ∷ threads) zero = omega arith
rows_few (thread ∷ threads) (suc t) = let rest = rows_few threads t in omega arith

bit : Part → ℕ
bit whole = 0
bit entry = 0
bit return = 1

bit_small : (p : Part) → bit p < 2
unfolding bit
bit_small whole = omega arith
bit_small entry = omega arith
bit_small return = omega arith

part_by_bit : (b : Bool) (p q : Part) → FitsRow b p → FitsRow b q → bit p ≡ bit q → p ≡ q
unfolding bit
part_by_bit b whole whole f g e = refl
part_by_bit b entry entry f g e = refl
part_by_bit b return return f g e = refl
part_by_bit b whole entry f g e = absurd (false≢true (sym f ∙ g))
part_by_bit b whole return f g e = absurd (false≢true (sym f ∙ g))
part_by_bit b entry whole f g e = absurd (false≢true (sym g ∙ f))
part_by_bit b return whole f g e = absurd (false≢true (sym g ∙ f))
part_by_bit b entry return f g e = absurd (omega arith)
part_by_bit b return entry f g e = absurd (omega arith)

module _ (C : Course) where
  -- by the begin, then the thread, then the row, then the part
  first_key : Event → ℕ
  first_key e = digit (suc (length C.threads)) (begin_of C e) e.row.thread

  second_key : Event → ℕ
  second_key e = digit (suc (points_before C.threads (length C.threads))) (first_key e) e.row.step

  key : Event → ℕ
  key e = digit 2 (second_key e) (bit e.part)

  top : ℕ
  top = digit 2 (digit (suc (points_before C.threads (length C.threads))) (digit (suc (length C.threads)) (suc (all_begins C.threads)) 0) 0) 0

module _ (C : Course) (sound : IsSoundCourse C) where
  step_small : (e : Event) → IsEvent C e → e.row.step < suc (points_before C.threads (length C.threads))
  step_small e is = let few = rows_few C.threads e.row.thread in let inside = is.row in omega arith

  thread_small : (e : Event) → IsEvent C e → e.row.thread < suc (length C.threads)
  thread_small e is = let inside = thread_inside C e.row is.row in omega arith

  begin_small : (e : Event) → IsEvent C e → begin_of C e < suc (all_begins C.threads)
  begin_small e is =
      let b = begins C sound e is in
      let own = one_begin (slices_of C e.row.thread) b.place b.slice b.is in
      let all = thread_begins C.threads e.row.thread in
      let begin = b.begin in
      omega arith

  key_below : (e : Event) → IsEvent C e → key C e < top C
  unfolding first_key second_key key top
  key_below e is =
      digit_less 2 _ _ _ 0 (digit_less (suc (points_before C.threads (length C.threads))) _ _ _ 0 (digit_less (suc (length C.threads)) _ _ _ 0 (begin_small e is) (thread_small e is)) (step_small e is)) (bit_small e.part)

  -- within a thread nothing begins before what is earlier
  begin_least : (e f : Event) → IsEvent C e → IsEvent C f → e.row.thread ≡ f.row.thread → IsOwnBefore e f → begin_of C e ≤ begin_of C f
  begin_least e f is its same own =
      elim (sound.calls) [
        | inr ends ↦ begin_mono C sound ends e f is its same own
        | inl alone ↦
            let one = begins C sound e is in
            let other = begins C sound f its in
            let a = only_slice C sound alone e.row.thread one.place one.slice one.is in
            let b = only_slice C sound alone f.row.thread other.place other.slice other.is in
            let same_begin : one.slice.begin ≡ other.slice.begin = ap (λ (s : Slice). s.begin) (a ∙ sym b) in
            let first = one.begin in
            let second = other.begin in
            omega arith
      ]

  ends_less : (e f : Event) → EndsBefore C e f → begin_of C e < begin_of C f
  ends_less e f ends =
      let begin = begin_is C sound e ends.slice ends.in_slice in
      let time = slice_time C sound e ends.slice ends.in_slice in
      let less = ends.less in
      omega arith

  first_least : (e f : Event) → begin_of C e ≤ begin_of C f → e.row.thread ≡ f.row.thread → first_key C e ≤ first_key C f
  unfolding first_key digit
  first_least e f least same = let k : begin_of C e * suc (length C.threads) ≤ begin_of C f * suc (length C.threads) = mul-le-mul_right (suc (length C.threads)) least in omega arith

  second_least : (e f : Event) → first_key C e ≤ first_key C f → e.row.step ≡ f.row.step → second_key C e ≤ second_key C f
  unfolding second_key digit
  second_least e f least same = let k : first_key C e * suc (points_before C.threads (length C.threads)) ≤ first_key C f * suc (points_before C.threads (length C.threads)) = mul-le-mul_right (suc (points_before C.threads (length C.threads))) least in omega arith

  key_kept : (e f : Event) → IsEvent C e → IsEvent C f → Sooner C e f → key C e < key C f
  unfolding first_key second_key key bit
  key_kept e f is its (inl (same, rows less)) = digit_less 2 _ _ _ _ (digit_next (suc (points_before C.threads (length C.threads))) _ _ _ _ (first_least e f (begin_least e f is its same (rows less)) same) less (step_small e is)) (bit_small e.part)
  key_kept e f is its (inl (same, call row first second)) =
      let steps : e.row.step ≡ f.row.step = ap (λ (r : Row). r.step) row in
      let one : bit e.part ≡ 0 = ap bit first in
      let other : bit f.part ≡ 1 = ap bit second in
      digit_next 2 _ _ _ _ (second_least e f (first_least e f (begin_least e f is its same (call row first second)) same) steps) (omega arith) (bit_small e.part)
  key_kept e f is its (inr ends) = digit_less 2 _ _ _ _ (digit_less (suc (points_before C.threads (length C.threads))) _ _ _ _ (digit_less (suc (length C.threads)) _ _ _ _ (ends_less e f ends) (thread_small e is)) (step_small e is)) (bit_small e.part)

  key_same : (e f : Event) → IsEvent C e → IsEvent C f → key C e ≡ key C f → e ≡ f
  unfolding first_key second_key key
  key_same e f is its same =
      let last = digit_same 2 _ _ _ _ (bit_small e.part) (bit_small f.part) same in
      let middle = digit_same (suc (points_before C.threads (length C.threads))) _ _ _ _ (step_small e is) (step_small f its) last.0 in
      let front = digit_same (suc (length C.threads)) _ _ _ _ (thread_small e is) (thread_small f its) middle.0 in
      let named : e.row ≡ f.row = ap (λ (t : ℕ). row_of t e.row.step) front.1 ∙ ap (λ (i : ℕ). row_of f.row.thread i) middle.1 in
      let part : e.part ≡ f.part = part_by_bit (calls C e.row) e.part f.part is.part (subst (λ (r : Row). FitsRow (calls C r) f.part) (sym named) its.part) last.1 in
      ap (λ (r : Row). part_of r e.part) named ∙ ap (λ (p : Part). part_of f.row p) part

  module _ (e : Event) where
    -- all that is before e or is it, first
    half : Event → ℕ
    half x = cond (sooner_or_same C x e) 0 1

    place : Event → ℕ
    place x = digit (top C) (half x) (key C x)

    half_least : (x y : Event) → IsEvent C x → IsEvent C y → IsEvent C e → Precedes C x y → half x ≤ half y
    unfolding half
    half_least x y is its ie way =
        elim (cases_Bool (sooner_or_same C y e)) [
          | inl under ↦
              let also = or_from_it C sound x e (or_or C x y e (inr way) (or_true C sound y e its ie under)) in
              rw (also, under) (omega arith)
          | inr out ↦ rw out (small (sooner_or_same C x e))
        ]
      where
        small : (b : Bool) → cond b 0 1 ≤ 1
        small true = omega arith
        small false = omega arith

    arranged : IsEvent C e → IsArrangement C place
    unfolding place
    arranged ie = record {
      own = λ x y is its same. key_same x y is its ((digit_same (top C) _ _ _ _ (key_below x is) (key_below y its) same).1);
      ordered = λ x y k. digit_next (top C) _ _ _ _ (half_least x y k.first k.second ie (directly C x y k)) (key_kept x y k.first k.second (precedes_sooner C sound x y (directly C x y k))) (key_below x k.first);
    }

    placed : (f : Event) → IsEvent C e → IsEvent C f → (PrecedesOrIs C f e → ⊥) → place e < place f
    unfolding half place
    placed f ie jf out = digit_less (top C) _ _ _ _ halves (key_below e ie)
      where
        halves : cond (sooner_or_same C e e) 0 1 < cond (sooner_or_same C f e) 0 1
        halves =
            elim (cases_Bool (sooner_or_same C f e)) [
              | inl under ↦ absurd (out (or_true C sound f e jf ie under))
              | inr apart ↦ rw (or_from_it C sound e e (inl refl), apart) (omega arith)
            ]

  -- some arrangement has e before f, unless the order puts f before e
  pub some_arrangement : (e f : Event) → IsEvent C e → IsEvent C f → (PrecedesOrIs C f e → ⊥) → (at : Event → ℕ) × IsArrangement C at × (at e < at f)
  some_arrangement e f ie jf out = (place e, arranged e ie, placed e f ie jf out)

module _ (C : Course) (at : Event → ℕ) (a : IsArrangement C at) where
  chain_arranged : (e f : Event) (xs : List Event) → Chain C e xs f → at e < at f
  chain_arranged e f [] k = a.ordered e f k
  chain_arranged e f (x ∷ xs) k = let first = a.ordered e x k.0 in let rest = chain_arranged x f xs k.1 in omega arith

  -- what the order puts before another event comes before it
  pub arranged_precedes : (e f : Event) → Precedes C e f → at e < at f
  arranged_precedes e f (xs, k) = chain_arranged e f xs k
