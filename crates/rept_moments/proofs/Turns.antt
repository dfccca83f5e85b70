-- The moments of one thread come one after the other; of two threads the one is later whose slice
-- begins after that of the other ends.
use Rattle.std.proofs.Common.{◌≡◌, ◌≢◌, ℕ, zero, suc, ◌+◌, ◌-◌, ◌*◌, ◌<◌, ◌≤◌, ◌||◌, not, eqb, nat_lt, nat_le, cond, Bool, true, false, length, Option, Some, None, inl, inr, refl, sym, ap, ◌∙◌, subst, arith}
use Rattle.std.specs.Option.{is_some}
use Rattle.std.proofs.lemmas.Bool.{false≢true, cases_lt, cases_eq, cases_order, eq-eqb, ne_eqb, lt-ltb, le-ltb, leb-true, le-leb}
use Rattle.rept_steps.specs.declared.slice.Slice.{Slice}
use Rattle.rept_steps.specs.Course.{Course, Row, row_of, rows_of, IsRow, IsSoundCourse}
use Rattle.rept_order.specs.Events.{event_slice}
use Rattle.rept_order.specs.Moments.{Moment, IsMoment, NotLater, Earlier}
use Rattle.rept_order.specs.Moments.Moment.{before, after, at_end}
use Rattle.rept_order.specs.Times.{ends_by, not_later}
use Rattle.rept_order.specs.Runs.{beside_by}
use Rattle.rept_order.specs.Legs.{points_before, leg_row}
use Rattle.rept_order.proofs.Decide.{not_later_true, not_later_from}
use Rattle.rept_order.proofs.Legs.{number_point}
use Rattle.rept_order.proofs.Nexts.{earlier_trans}
use Rattle.rept_moments.specs.Naming.Numbered.{row_on}
use Rattle.rept_moments.specs.declared.side.PointSide.{PointSide}
use Rattle.rept_moments.specs.Ordering.{side, moment_at_side, event_at}
use Rattle.rept_moments.specs.Edges.{begin_at, end_at}
use Rattle.rept_moments.specs.Begins.{stands_by, former_at, following_at}
use Rattle.rept_moments.specs.Writers.{end_of}
use Rattle.rept_order.specs.Crossing.Writers.{not_past}
use Rattle.rept_moments.proofs.Places.{row_there, there_row, point_of_row, row_point, next_row}
use Rattle.rept_moments.proofs.Listing.{row_at_side}
use Rattle.rept_moments.proofs.Sooner.{sides_apart, sides_ended, rows_apart, row_apart}
use Rattle.rept_moments.proofs.Keeping.{begins_in_time}

not_so : (b : Bool) → (b ≡ true → ⊥) → b ≡ false
not_so true k = absurd (k refl)
not_so false k = refl

none_some : {A : Type 0} {x : A} → None ≡ Some x → ⊥
none_some e = cc

some_same : {A : Type 0} {x y : A} → Some x ≡ Some y → x ≡ y
some_same e = cc

-- two numbers for each point
abbrev pub turn_by : ℕ → Bool → ℕ
turn_by g false = 2 * g
turn_by g true = 2 * g + 1

abbrev pub turn : PointSide → ℕ
turn s = turn_by s.point s.is_after

same_by : (g h : ℕ) (x y : Bool) → turn_by g x ≡ turn_by h y → side g x ≡ side h y
same_by g h false false e = let same : g ≡ h = omega arith in ap (λ (k : ℕ). side k false) same
same_by g h true true e = let same : g ≡ h = omega arith in ap (λ (k : ℕ). side k true) same
same_by g h false true e = absurd (omega arith)
same_by g h true false e = absurd (omega arith)

pub turn_same : (a b : PointSide) → turn a ≡ turn b → a ≡ b
turn_same a b e = same_by a.point b.point a.is_after b.is_after e

-- whether the one stands by the other is told by these numbers
yes_by : (g h : ℕ) (x y : Bool) → turn_by g x ≤ turn_by h y → cond (eqb g h) (y || not x) (nat_lt g h) ≡ true
yes_by g h false false less =
    elim (cases_eq g h) [
      | inl same ↦ rw (eq-eqb g h same) refl
      | inr other ↦ rw (ne_eqb g h other) (lt-ltb g h (omega arith))
    ]
yes_by g h false true less =
    elim (cases_eq g h) [
      | inl same ↦ rw (eq-eqb g h same) refl
      | inr other ↦ rw (ne_eqb g h other) (lt-ltb g h (omega arith))
    ]
yes_by g h true false less = let other : g ≢ h = omega arith in rw (ne_eqb g h other) (lt-ltb g h (omega arith))
yes_by g h true true less =
    elim (cases_eq g h) [
      | inl same ↦ rw (eq-eqb g h same) refl
      | inr other ↦ rw (ne_eqb g h other) (lt-ltb g h (omega arith))
    ]

no_by : (g h : ℕ) (x y : Bool) → turn_by h y < turn_by g x → cond (eqb g h) (y || not x) (nat_lt g h) ≡ false
no_by g h false false less = let other : g ≢ h = omega arith in rw (ne_eqb g h other) (le-ltb g h (omega arith))
no_by g h false true less = let other : g ≢ h = omega arith in rw (ne_eqb g h other) (le-ltb g h (omega arith))
no_by g h true false less =
    elim (cases_eq g h) [
      | inl same ↦ rw (eq-eqb g h same) refl
      | inr other ↦ rw (ne_eqb g h other) (le-ltb g h (omega arith))
    ]
no_by g h true true less = let other : g ≢ h = omega arith in rw (ne_eqb g h other) (le-ltb g h (omega arith))

-- a time is past an end that is known
pub past_parts : (o : Option ℕ) (t : ℕ) → not_past o t ≡ false → (e : ℕ) × (o ≡ Some e) × (e < t)
past_parts None t k = absurd (false≢true (sym k))
past_parts (Some e) t k =
    elim (cases_lt e t) [
      | inl less ↦ (e, refl, less)
      | inr past ↦ absurd (false≢true (sym k ∙ le-leb t e past))
    ]

pub past_from : (o : Option ℕ) (t e : ℕ) → o ≡ Some e → e < t → not_past o t ≡ false
past_from None t e k less = absurd (none_some k)
past_from (Some d) t e k less = let same : d ≡ e = some_same k in not_so (nat_le t d) (λ j. let low = leb-true t d j in omega arith)

ends_past : (o : Option Slice) (t : ℕ) → not_past (end_of o) t ≡ false → ends_by o t ≡ true
ends_past None t k = absurd (false≢true (sym k))
ends_past (Some s) t k = let its = past_parts (Some s.end) t k in let less = its.2 in let same : s.end ≡ its.0 = some_same its.1 in lt-ltb s.end t (omega arith)

past_ends : (o : Option Slice) (t : ℕ) → ends_by o t ≡ true → not_past (end_of o) t ≡ false
past_ends None t k = absurd (false≢true k)
past_ends (Some s) t k =
    elim (cases_lt s.end t) [
      | inl less ↦ past_from (Some s.end) t s.end refl less
      | inr past ↦ absurd (false≢true (sym (le-ltb s.end t past) ∙ k))
    ]

end_slice : (o : Option Slice) (e : ℕ) → end_of o ≡ Some e → (s : Slice) × (o ≡ Some s) × (s.end ≡ e)
end_slice None e k = absurd (none_some k)
end_slice (Some s) e k = (s, refl, some_same k)

abbrev pub thread_in : Moment → ℕ
thread_in (before r) = r.thread
thread_in (after r) = r.thread
thread_in at_end = 0

pub thread_by : (r : Row) (b : Bool) → thread_in (beside_by r b) ≡ r.thread
thread_by r false = refl
thread_by r true = refl

module _ (C : Course) (sound : IsSoundCourse C) where
  pub is_moment : (s : PointSide) → IsRow C (row_on C s.point) → IsMoment C (moment_at_side C s)
  is_moment s is = row_at_side C s.is_after (row_on C s.point) is

  -- of two points of a thread
  pub steps_apart : (g h : ℕ) → (row_on C g).thread ≡ (row_on C h).thread → (row_on C g).step + h ≡ (row_on C h).step + g
  steps_apart g h same =
      let one : points_before C.threads (row_on C g).thread + (row_on C g).step ≡ g = number_point C g in
      let other : points_before C.threads (row_on C h).thread + (row_on C h).step ≡ h = number_point C h in
      let front : points_before C.threads (row_on C g).thread ≡ points_before C.threads (row_on C h).thread = ap (points_before C.threads) same in
      omega arith

  later_row : (g h : ℕ) (x y : Bool) → IsRow C (row_on C g) → IsRow C (row_on C h) → (row_on C g).thread ≡ (row_on C h).thread → g < h → Earlier C (beside_by (row_on C g) x) (beside_by (row_on C h) y)
  later_row g h x y is its same less = let steps = steps_apart g h same in rows_apart C (row_on C g) (row_on C h) x y is its same (omega arith)

  in_turn_by : (g h : ℕ) (x y : Bool) → IsRow C (row_on C g) → IsRow C (row_on C h) → (row_on C g).thread ≡ (row_on C h).thread → turn_by g x < turn_by h y → Earlier C (beside_by (row_on C g) x) (beside_by (row_on C h) y)
  in_turn_by g h false false is its same less = later_row g h false false is its same (omega arith)
  in_turn_by g h true false is its same less = later_row g h true false is its same (omega arith)
  in_turn_by g h true true is its same less = later_row g h true true is its same (omega arith)
  in_turn_by g h false true is its same less =
      elim (cases_lt g h) [
        | inl low ↦ later_row g h false true is its same low
        | inr past ↦ let one : g ≡ h = omega arith in subst (λ (k : ℕ). Earlier C (before (row_on C g)) (after (row_on C k))) one (row_apart C (row_on C g) is)
      ]

  -- the moments of a thread are in the order of these numbers
  pub in_turn : (a b : PointSide) → IsRow C (row_on C a.point) → IsRow C (row_on C b.point) → (row_on C a.point).thread ≡ (row_on C b.point).thread → turn a < turn b → Earlier C (moment_at_side C a) (moment_at_side C b)
  in_turn a b is its same less = in_turn_by a.point b.point a.is_after b.is_after is its same less

  pub never : (m w : Moment) → Earlier C m w → Earlier C w m → ⊥
  never m w one other = (earlier_trans C sound m w m one other).1 refl

  pub turn_order : (a b : PointSide) → IsRow C (row_on C a.point) → IsRow C (row_on C b.point) → (row_on C a.point).thread ≡ (row_on C b.point).thread → Earlier C (moment_at_side C a) (moment_at_side C b) → turn a < turn b
  turn_order a b is its same e =
      elim (cases_order (turn a) (turn b)) [
        | inl one ↦ absurd (e.1 (ap (moment_at_side C) (turn_same a b one)))
        | inr (inl less) ↦ less
        | inr (inr more) ↦ absurd (never (moment_at_side C a) (moment_at_side C b) e (in_turn b a its is (sym same) more))
      ]

  pub not_later_self : (m : Moment) → NotLater C m m
  not_later_self (before r) = inl refl
  not_later_self (after r) = inl refl
  not_later_self at_end = tt

  -- of one thread it is decided by places
  pub own_decided : (a b : PointSide) → IsRow C (row_on C a.point) → IsRow C (row_on C b.point) → (row_on C a.point).thread ≡ (row_on C b.point).thread → stands_by a b ≡ not_later C (moment_at_side C a) (moment_at_side C b)
  own_decided a b is its same =
      elim (cases_order (turn a) (turn b)) [
        | inl one ↦ yes_by a.point b.point a.is_after b.is_after (omega arith) ∙ sym (subst (λ (s : PointSide). not_later C (moment_at_side C a) (moment_at_side C s) ≡ true) (turn_same a b one) (not_later_from C sound (moment_at_side C a) (moment_at_side C a) (not_later_self (moment_at_side C a))))
        | inr (inl less) ↦ yes_by a.point b.point a.is_after b.is_after (omega arith) ∙ sym (not_later_from C sound (moment_at_side C a) (moment_at_side C b) (in_turn a b is its same less).0)
        | inr (inr more) ↦
            let back = in_turn b a its is (sym same) more in
            no_by a.point b.point a.is_after b.is_after more ∙ sym (not_so (not_later C (moment_at_side C a) (moment_at_side C b)) (λ e.
            let k = not_later_true C sound (moment_at_side C a) (moment_at_side C b) (is_moment a is) (is_moment b its) e in
            never (moment_at_side C b) (moment_at_side C a) back (k, λ one. back.1 (sym one))))
      ]

  -- a moment whose slice begins after that of another one ends is later
  pub late_earlier : (a b : PointSide) → IsRow C (row_on C a.point) → IsRow C (row_on C b.point) → not_past (end_at C a) (begin_at C b) ≡ false → Earlier C (moment_at_side C a) (moment_at_side C b)
  late_earlier a b is its late =
      let k = not_later_true C sound (moment_at_side C a) (moment_at_side C b) (is_moment a is) (is_moment b its) (sides_ended C a b (ends_past (event_slice C (event_at C a)) (begin_at C b) late)) in
      elim (cases_eq (row_on C a.point).thread (row_on C b.point).thread) [
        | inr other ↦ (k, λ e. other (sym (thread_by (row_on C a.point) a.is_after) ∙ ap thread_in e ∙ thread_by (row_on C b.point) b.is_after))
        | inl same ↦
            elim (cases_order (turn a) (turn b)) [
              | inl one ↦
                  let ended = past_parts (end_at C a) (begin_at C b) late in
                  let found = end_slice (event_slice C (event_at C a)) ended.0 ended.1 in
                  let kept = begins_in_time C sound (event_at C a) found.0 found.1 in
                  let begin : begin_at C a ≡ begin_at C b = ap (begin_at C) (turn_same a b one) in
                  let less = ended.2 in
                  let end = found.2 in
                  absurd (omega arith)
              | inr (inl less) ↦ in_turn a b is its same less
              | inr (inr more) ↦ let back = in_turn b a its is (sym same) more in (k, λ e. back.1 (sym e))
            ]
      ]

  -- and of two threads no other one is
  pub earlier_late : (a b : PointSide) → (row_on C a.point).thread ≢ (row_on C b.point).thread → Earlier C (moment_at_side C a) (moment_at_side C b) → not_past (end_at C a) (begin_at C b) ≡ false
  earlier_late a b other e = past_ends (event_slice C (event_at C a)) (begin_at C b) (sym (sides_apart C a b other) ∙ not_later_from C sound (moment_at_side C a) (moment_at_side C b) e.0)

  -- each moment but the end is one of a row that leads from a point
  pub side_from : (m : Moment) → IsMoment C m → at_end ≢ m → (s : PointSide) × IsRow C (row_on C s.point) × (moment_at_side C s ≡ m)
  side_from (before r) is other = (side (point_of_row C r) false, subst (λ (q : Row). IsRow C q) (sym (row_point C r is)) is, ap before (row_point C r is))
  side_from (after r) is other = (side (point_of_row C r) true, subst (λ (q : Row). IsRow C q) (sym (row_point C r is)) is, ap after (row_point C r is))
  side_from at_end is other = absurd (other refl)

  -- what comes next in the thread
  pub record IsDirect (a b : PointSide) : Type 0 where
    pub row : IsRow C (row_on C b.point)
    pub same : (row_on C a.point).thread ≡ (row_on C b.point).thread
    pub turn : turn b ≡ suc (turn a)

  on_by : (b : Bool) (g : ℕ) (u : PointSide) → is_some (leg_row C (suc g)) ≡ b → IsRow C (row_on C g) → cond b (Some (side (suc g) false)) None ≡ Some u → IsDirect (side g true) u
  on_by true g u e is k =
      let here : side (suc g) false ≡ u = some_same k in
      let next = next_row C g is in
      subst (λ (s : PointSide). IsDirect (side g true) s) here (record {
        row = there_row C (row_on C (suc g)) e;
        same = sym (ap (λ (r : Row). r.thread) next);
        turn = omega arith;
      })
  on_by false g u e is k = absurd (none_some k)

  follows_by : (b : Bool) (g : ℕ) (u : PointSide) → IsRow C (row_on C g) → following_at C (side g b) ≡ Some u → IsDirect (side g b) u
  follows_by true g u is k = on_by (is_some (leg_row C (suc g))) g u refl is k
  follows_by false g u is k = subst (λ (s : PointSide). IsDirect (side g false) s) (some_same k) (record { row = is; same = refl; turn = omega arith })

  pub following_is : (s u : PointSide) → IsRow C (row_on C s.point) → following_at C s ≡ Some u → IsDirect s u
  following_is s u is k = follows_by s.is_after s.point u is k

  -- a thread's later row has all rows before it
  row_under : (g h : ℕ) → IsRow C (row_on C g) → IsRow C (row_on C h) → (row_on C g).thread ≡ (row_on C h).thread → g < h → IsRow C (row_on C (suc g))
  row_under g h is its same less =
      let steps = steps_apart g h same in
      let inside : (row_on C h).step < length (rows_of C (row_on C g).thread) = subst (λ (t : ℕ). (row_on C h).step < length (rows_of C t)) (sym same) its in
      let low : suc (row_on C g).step < length (rows_of C (row_on C g).thread) = omega arith in
      subst (λ (q : Row). IsRow C q) (sym (next_row C g is)) low

  last_by : (b : Bool) (g : ℕ) (u : PointSide) → is_some (leg_row C (suc g)) ≡ b → IsRow C (row_on C g) → cond b (Some (side (suc g) false)) None ≡ None → IsRow C (row_on C u.point) → (row_on C g).thread ≡ (row_on C u.point).thread → g < u.point → ⊥
  last_by true g u e is k its same less = none_some (sym k)
  last_by false g u e is k its same less = false≢true (sym e ∙ row_there C (row_on C (suc g)) (row_under g u.point is its same less))

  over_by : (g h : ℕ) (y : Bool) → turn_by g true < turn_by h y → g < h
  over_by g h false less = omega arith
  over_by g h true less = omega arith

  none_by : (b : Bool) (g : ℕ) (u : PointSide) → IsRow C (row_on C g) → following_at C (side g b) ≡ None → IsRow C (row_on C u.point) → (row_on C g).thread ≡ (row_on C u.point).thread → turn_by g b < turn u → ⊥
  none_by true g u is k its same less = last_by (is_some (leg_row C (suc g))) g u refl is k its same (over_by g u.point u.is_after less)
  none_by false g u is k its same less = none_some (sym k)

  pub following_none : (s u : PointSide) → IsRow C (row_on C s.point) → following_at C s ≡ None → IsRow C (row_on C u.point) → (row_on C s.point).thread ≡ (row_on C u.point).thread → turn s < turn u → ⊥
  following_none s u is k its same less = none_by s.is_after s.point u is k its same less

  -- and what came before
  back_by : (b : Bool) (g : ℕ) (u : PointSide) → is_some (leg_row C g) ≡ b → IsRow C (row_on C (suc g)) → cond b (Some (side g true)) None ≡ Some u → IsDirect u (side (suc g) false)
  back_by true g u e is k =
      let here : side g true ≡ u = some_same k in
      let next = next_row C g (there_row C (row_on C g) e) in
      subst (λ (s : PointSide). IsDirect s (side (suc g) false)) here (record {
        row = is;
        same = sym (ap (λ (r : Row). r.thread) next);
        turn = omega arith;
      })
  back_by false g u e is k = absurd (none_some k)

  precedes_by : (b : Bool) (g : ℕ) (u : PointSide) → IsRow C (row_on C g) → former_at C (side g b) ≡ Some u → IsDirect u (side g b)
  precedes_by true g u is k = subst (λ (s : PointSide). IsDirect s (side g true)) (some_same k) (record { row = is; same = refl; turn = omega arith })
  precedes_by false zero u is k = absurd (none_some k)
  precedes_by false (suc g) u is k = back_by (is_some (leg_row C g)) g u refl is k

  pub former_is : (s u : PointSide) → IsRow C (row_on C s.point) → former_at C s ≡ Some u → IsDirect u s
  former_is s u is k = precedes_by s.is_after s.point u is k

  row_by : (b : Bool) (g : ℕ) (u : PointSide) → is_some (leg_row C g) ≡ b → cond b (Some (side g true)) None ≡ Some u → IsRow C (row_on C u.point)
  row_by true g u e k = subst (λ (s : PointSide). IsRow C (row_on C s.point)) (some_same k) (there_row C (row_on C g) e)
  row_by false g u e k = absurd (none_some k)

  former_row_by : (b : Bool) (g : ℕ) (u : PointSide) → IsRow C (row_on C g) → former_at C (side g b) ≡ Some u → IsRow C (row_on C u.point)
  former_row_by true g u is k = subst (λ (s : PointSide). IsRow C (row_on C s.point)) (some_same k) is
  former_row_by false zero u is k = absurd (none_some k)
  former_row_by false (suc g) u is k = row_by (is_some (leg_row C g)) g u refl k

  pub former_row : (s u : PointSide) → IsRow C (row_on C s.point) → former_at C s ≡ Some u → IsRow C (row_on C u.point)
  former_row s u is k = former_row_by s.is_after s.point u is k

  -- the row before one that isn't the first of its thread
  row_over : (g h : ℕ) → IsRow C (row_on C (suc g)) → (row_on C h).thread ≡ (row_on C (suc g)).thread → h ≤ g → IsRow C (row_on C g)
  row_over g h is same less =
      let steps = steps_apart h (suc g) same in
      let here : points_before C.threads (row_on C (suc g)).thread + (row_on C (suc g)).step ≡ suc g = number_point C (suc g) in
      let low : (row_on C (suc g)).step - 1 < length (rows_of C (row_on C (suc g)).thread) = omega arith in
      let place : points_before C.threads (row_on C (suc g)).thread + ((row_on C (suc g)).step - 1) ≡ g = omega arith in
      subst (λ (k : ℕ). IsRow C (row_on C k)) place (subst (λ (q : Row). IsRow C q) (sym (row_point C (row_of (row_on C (suc g)).thread ((row_on C (suc g)).step - 1)) low)) low)

  first_by : (b : Bool) (g h : ℕ) → is_some (leg_row C g) ≡ b → cond b (Some (side g true)) None ≡ None → IsRow C (row_on C (suc g)) → (row_on C h).thread ≡ (row_on C (suc g)).thread → h ≤ g → ⊥
  first_by true g h e k is same less = none_some (sym k)
  first_by false g h e k is same less = false≢true (sym e ∙ row_there C (row_on C g) (row_over g h is same less))

  under_by : (g h : ℕ) (y : Bool) → turn_by h y < turn_by (suc g) false → h ≤ g
  under_by g h false less = omega arith
  under_by g h true less = omega arith

  start_by : (b : Bool) (g : ℕ) (u : PointSide) → IsRow C (row_on C g) → former_at C (side g b) ≡ None → (row_on C u.point).thread ≡ (row_on C g).thread → turn u < turn_by g b → ⊥
  start_by true g u is k same less = none_some (sym k)
  start_by false zero u is k same less = omega arith
  start_by false (suc g) u is k same less = first_by (is_some (leg_row C g)) g u.point refl k is same (under_by g u.point u.is_after less)

  pub former_none : (s u : PointSide) → IsRow C (row_on C s.point) → former_at C s ≡ None → (row_on C u.point).thread ≡ (row_on C s.point).thread → turn u < turn s → ⊥
  former_none s u is k same less = start_by s.is_after s.point u is k same less
