-- A quiet stretch goes through moments each next to the one before.
use Rattle.std.proofs.Common.{◌≡◌, ℕ, zero, suc, ◌<◌, ◌≤◌, ◌⊎◌, Bool, List, [], ◌∷◌, ◌++◌, length, Option, unwrap_or, inl, inr, refl, sym, ap, subst, arith}
use Rattle.std.proofs.lemmas.Bool.{cases_lt, cases_order}
use Rattle.std.proofs.lemmas.Option.{slice_get_past}
use Rattle.rept_steps.specs.declared.threads.ThreadRows.{ThreadRows}
use Rattle.rept_steps.specs.Course.{Course, Row, row_of, rows_of, no_thread, IsRow, IsSoundCourse}
use Rattle.rept_order.specs.Events.{Event, last_event, PrecedesOrIs}
use Rattle.rept_order.specs.Moments.{Moment, IsMoment, NotLater, Earlier, stretch, IsUntouchedStep, Forth}
use Rattle.rept_order.specs.Moments.Moment.{before, after, at_end}
use Rattle.rept_order.specs.Links.{row_moments, all_moments}
use Rattle.rept_order.proofs.Sequence.{not_later_trans}
use Rattle.rept_order.proofs.Between.{quiet_front, quiet_back}
use Rattle.rept_order.proofs.Times.{precedes_irreflexive}
use Rattle.rept_order.proofs.Sequence.{or_after}
use Rattle.rept_order.proofs.Decide.{cases_earlier}

abbrev pub In : List Moment → Moment → Type 0
In [] m = ⊥
In (x ∷ xs) m = (x ≡ m) ⊎ In xs m

pub in_left : (xs ys : List Moment) (m : Moment) → In xs m → In (xs ++ ys) m
in_left [] ys m h = absurd h
in_left (x ∷ xs) ys m (inl same) = inl same
in_left (x ∷ xs) ys m (inr h) = inr (in_left xs ys m h)

in_right : (xs ys : List Moment) (m : Moment) → In ys m → In (xs ++ ys) m
in_right [] ys m h = h
in_right (x ∷ xs) ys m h = inr (in_right xs ys m h)

row_found : (t n i : ℕ) → i < n → In (row_moments t n) (before (row_of t i)) × In (row_moments t n) (after (row_of t i))
row_found t zero i below = absurd (omega arith)
row_found t (suc n) i below =
    elim (cases_order i n) [
      | inl same ↦ (inl (ap (λ (k : ℕ). before (row_of t k)) (sym same)), inr (inl (ap (λ (k : ℕ). after (row_of t k)) (sym same))))
      | inr (inl less) ↦ let rest = row_found t n i less in (inr (inr rest.0), inr (inr rest.1))
      | inr (inr more) ↦ absurd (omega arith)
    ]

thread_found : (C : Course) (n : ℕ) (r : Row) → r.thread < n → IsRow C r → In (all_moments C n) (before r) × In (all_moments C n) (after r)
thread_found C zero r below is = absurd (omega arith)
thread_found C (suc n) r below is =
    elim (cases_order r.thread n) [
      | inl same ↦
          let here = row_found r.thread (length (rows_of C r.thread)) r.step is in
          subst (λ (t : ℕ). In (row_moments t (length (rows_of C t)) ++ all_moments C n) (before r) × In (row_moments t (length (rows_of C t)) ++ all_moments C n) (after r)) same (in_left _ _ _ here.0, in_left _ _ _ here.1)
      | inr (inl less) ↦ let rest = thread_found C n r less is in (in_right (row_moments n (length (rows_of C n))) _ _ rest.0, in_right (row_moments n (length (rows_of C n))) _ _ rest.1)
      | inr (inr more) ↦ absurd (omega arith)
    ]

end_found : (C : Course) (n : ℕ) → In (all_moments C n) at_end
end_found C zero = inl refl
end_found C (suc n) = in_right (row_moments n (length (rows_of C n))) _ _ (end_found C n)

thread_inside : (C : Course) (r : Row) → IsRow C r → r.thread < length C.threads
thread_inside C r is =
    elim (cases_lt r.thread (length C.threads)) [
      | inl below ↦ below
      | inr past ↦
          let none : length (rows_of C r.thread) ≡ 0 = ap (λ (o : Option ThreadRows). length (unwrap_or o no_thread).steps) (slice_get_past C.threads r.thread past) in
          absurd (omega arith)
    ]

-- all moments of the course are listed
pub every : (C : Course) (m : Moment) → IsMoment C m → In (all_moments C (length C.threads)) m
every C (before r) is = (thread_found C (length C.threads) r (thread_inside C r is) is).0
every C (after r) is = (thread_found C (length C.threads) r (thread_inside C r is) is).1
every C at_end is = end_found C (length C.threads)

in_parts : (xs ys : List Moment) (m : Moment) → In (xs ++ ys) m → In xs m ⊎ In ys m
in_parts [] ys m h = inr h
in_parts (x ∷ xs) ys m (inl same) = inl (inl same)
in_parts (x ∷ xs) ys m (inr h) = onward (in_parts xs ys m h)
  where
    onward : In xs m ⊎ In ys m → In (x ∷ xs) m ⊎ In ys m
    onward (inl k) = inl (inr k)
    onward (inr k) = inr k

rows_listed : (C : Course) (t n : ℕ) → n ≤ length (rows_of C t) → (x : Moment) → In (row_moments t n) x → IsMoment C x
rows_listed C t zero few x h = absurd h
rows_listed C t (suc n) few x (inl same) = subst (λ (y : Moment). IsMoment C y) same few
rows_listed C t (suc n) few x (inr (inl same)) = subst (λ (y : Moment). IsMoment C y) same few
rows_listed C t (suc n) few x (inr (inr h)) = rows_listed C t n (omega arith) x h

pub listed : (C : Course) (n : ℕ) (x : Moment) → In (all_moments C n) x → IsMoment C x
listed C zero x (inl same) = subst (λ (y : Moment). IsMoment C y) same tt
listed C zero x (inr h) = absurd h
listed C (suc n) x h =
    elim (in_parts (row_moments n (length (rows_of C n))) (all_moments C n) x h) [
      | inl here ↦ rows_listed C n (length (rows_of C n)) (omega arith) x here
      | inr rest ↦ listed C n x rest
    ]

module _ (C : Course) (sound : IsSoundCourse C) where
  or_back : (e f : Event) → PrecedesOrIs C e f → PrecedesOrIs C f e → e ≡ f
  or_back e f (inl same) k = same
  or_back e f (inr less) k = absurd (precedes_irreflexive C sound e (or_after C e f e less k))

  -- moments of which neither is later are the same
  one_moment : (m w : Moment) → NotLater C m w → NotLater C w m → m ≡ w
  one_moment (before q) (before r) h k = ap (λ (e : Event). before e.row) (or_back _ _ h k)
  one_moment (after q) (after r) h k = ap (λ (e : Event). after e.row) (or_back _ _ h k)
  one_moment (before q) (after r) h k = absurd (precedes_irreflexive C sound (last_event C r) (or_after C _ _ _ k h))
  one_moment (after q) (before r) h k = absurd (precedes_irreflexive C sound (last_event C q) (or_after C _ _ _ h k))
  one_moment (before q) at_end h k = absurd k
  one_moment (after q) at_end h k = absurd k
  one_moment at_end (before r) h k = absurd h
  one_moment at_end (after r) h k = absurd h
  one_moment at_end at_end h k = refl

  pub earlier_trans : (m x w : Moment) → Earlier C m x → Earlier C x w → Earlier C m w
  earlier_trans m x w one other = (not_later_trans C m x w one.0 other.0, λ same. one.1 (one_moment m x one.0 (subst (λ (y : Moment). NotLater C x y) (sym same) other.0)))

  module _ (may : Row → ℕ → Bool) (a : ℕ) where
    -- none of these lies strictly between
    NoneOf : List Moment → Moment → Moment → Type 0
    NoneOf L m w = (x : Moment) → In L x → Earlier C m x → Earlier C x w → ⊥

    abbrev Fine : List Moment → Moment → List Moment → Moment → Type 0
    Fine L m [] w = m ≡ w
    Fine L m (x ∷ xs) w = IsUntouchedStep C may (stretch m x) a × NoneOf L m x × IsMoment C x × Fine L x xs w

    more : (L : List Moment) (y m x : Moment) → NoneOf L m x → (Earlier C m y → Earlier C y x → ⊥) → NoneOf (y ∷ L) m x
    unfolding NoneOf
    more L y m x none out z (inl same) from to = out (subst (λ (v : Moment). Earlier C m v) (sym same) from) (subst (λ (v : Moment). Earlier C v x) (sym same) to)
    more L y m x none out z (inr h) from to = none z h from to

    -- a stretch is parted at one more moment, if that lies in it
    parted : (L : List Moment) (y : Moment) (is : IsMoment C y) (m : Moment) (xs : List Moment) (w : Moment) → IsMoment C m → Fine L m xs w → (ys : List Moment) × Fine (y ∷ L) m ys w
    unfolding NoneOf
    parted L y is m [] w its h = ([], h)
    parted L y is m (x ∷ xs) w its h =
        let rest = parted L y is x xs w h.2 h.3 in
        elim (cases_earlier C sound m y its is) [
          | inr out ↦ (x ∷ rest.0, (h.0, more L y m x h.1 (λ from to. out from), h.2, rest.1))
          | inl from ↦
              elim (cases_earlier C sound y x is h.2) [
                | inr out ↦ (x ∷ rest.0, (h.0, more L y m x h.1 (λ before_it to. out to), h.2, rest.1))
                | inl to ↦ (
                  y ∷ x ∷ rest.0,
                  (
                    record { later = from; quiet = quiet_front C sound may a m y x from to h.0.quiet },
                    more L y m y (λ z inside one other. h.1 z inside one (earlier_trans z y x other to)) (λ one other. other.1 refl),
                    is,
                    (
                      record { later = to; quiet = quiet_back C sound may a m y x from to h.0.quiet },
                      more L y y x (λ z inside one other. h.1 z inside (earlier_trans m y z from one) other) (λ one other. one.1 refl),
                      h.2,
                      rest.1,
                    ),
                  ),
                )
              ]
        ]

    all_parted : (L : List Moment) → ((x : Moment) → In L x → IsMoment C x) → (m w : Moment) → IsMoment C m → IsMoment C w → IsUntouchedStep C may (stretch m w) a → (xs : List Moment) × Fine L m xs w
    unfolding NoneOf
    all_parted [] are m w is its step = (w ∷ [], (step, λ x inside from to. inside, its, refl))
    all_parted (y ∷ L) are m w is its step = let rest = all_parted L (λ x inside. are x (inr inside)) m w is its step in parted L y (are y (inl refl)) m rest.0 w is rest.1

    forth_of : (L : List Moment) → ((x : Moment) → IsMoment C x → In L x) → (m : Moment) (xs : List Moment) (w : Moment) → Fine L m xs w → Forth C may a m xs w
    unfolding NoneOf
    forth_of L all m [] w h = h
    forth_of L all m (x ∷ xs) w h = (h.0, record { later = h.0.later; none = λ y is from to. h.1 y (all y is) from to }, forth_of L all x xs w h.3)

    -- what is quiet over a stretch is quiet from each moment to the next one all along it
    pub step_by_step : (m w : Moment) → IsMoment C m → IsMoment C w → IsUntouchedStep C may (stretch m w) a → (xs : List Moment) × Forth C may a m xs w
    step_by_step m w is its step =
        let found = all_parted (all_moments C (length C.threads)) (listed C (length C.threads)) m w is its step in
        (found.0, forth_of (all_moments C (length C.threads)) (every C) m found.0 w found.1)
