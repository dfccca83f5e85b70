-- The moments in the order of their times are all moments of the course but the end.
use Rattle.std.proofs.Common.{◌≡◌, ◌≢◌, ℕ, zero, suc, ◌<◌, ◌≤◌, ◌*◌, ◌⊎◌, nat_le, cond, Bool, true, false, List, [], ◌∷◌, ◌++◌, length, inl, inr, refl, sym, ap, ◌∙◌, subst, arith, length-append}
use Rattle.std.specs.Option.{is_some}
use Rattle.std.proofs.lemmas.Bool.{cases_order}
use Rattle.rept_steps.specs.Course.{Course, Row, IsRow}
use Rattle.rept_order.specs.Moments.{Moment, IsMoment}
use Rattle.rept_order.specs.Moments.Moment.{before, after, at_end}
use Rattle.rept_order.specs.Runs.{beside_by}
use Rattle.rept_order.specs.Legs.{leg_row}
use Rattle.rept_moments.specs.Naming.Making.{Has, IsListing}
use Rattle.rept_moments.specs.Naming.Numbered.{row_on}
use Rattle.rept_moments.specs.declared.side.Timed.{Timed}
use Rattle.rept_moments.specs.Points.{points_in}
use Rattle.rept_moments.specs.Ordering.{side, moment_at_side, timed, timed_at, timed_to, put, by_time, in_time, back, in_order}
use Rattle.rept_moments.proofs.Places.{row_there, there_row, point_of_row, row_point, row_before}

has_left : (xs ys : List Moment) (m : Moment) → Has xs m → Has (xs ++ ys) m
has_left [] ys m h = absurd h
has_left (x ∷ xs) ys m (inl same) = inl same
has_left (x ∷ xs) ys m (inr h) = inr (has_left xs ys m h)

has_right : (xs ys : List Moment) (m : Moment) → Has ys m → Has (xs ++ ys) m
has_right [] ys m h = h
has_right (x ∷ xs) ys m h = inr (has_right xs ys m h)

has_parts : (xs ys : List Moment) (m : Moment) → Has (xs ++ ys) m → Has xs m ⊎ Has ys m
has_parts [] ys m h = inr h
has_parts (x ∷ xs) ys m (inl same) = inl (inl same)
has_parts (x ∷ xs) ys m (inr h) =
    elim (has_parts xs ys m h) [
      | inl k ↦ inl (inr k)
      | inr k ↦ inr k
    ]

module _ (C : Course) where
  -- one of these has the moment
  abbrev pub Holds : List Timed → Moment → Type 0
  Holds [] m = ⊥
  Holds (x ∷ xs) m = (moment_at_side C x.side ≡ m) ⊎ Holds xs m

  back_from : (xs : List Timed) (m : Moment) → Holds xs m → Has (back C xs) m
  back_from [] m h = h
  back_from (x ∷ xs) m (inl same) = has_right (back C xs) (moment_at_side C x.side ∷ []) m (inl same)
  back_from (x ∷ xs) m (inr h) = has_left (back C xs) (moment_at_side C x.side ∷ []) m (back_from xs m h)

  back_to : (xs : List Timed) (m : Moment) → Has (back C xs) m → Holds xs m
  back_to [] m h = h
  back_to (x ∷ xs) m h =
      elim (has_parts (back C xs) (moment_at_side C x.side ∷ []) m h) [
        | inl k ↦ inr (back_to xs m k)
        | inr (inl same) ↦ inl same
        | inr (inr k) ↦ absurd k
      ]

  put_by : (b : Bool) (p q : Timed) (ps rest : List Timed) (m : Moment) → (Holds (p ∷ ps) m → Holds rest m) → Holds (p ∷ q ∷ ps) m → Holds (cond b (p ∷ q ∷ ps) (q ∷ rest)) m
  put_by true p q ps rest m on h = h
  put_by false p q ps rest m on (inl h) = inr (on (inl h))
  put_by false p q ps rest m on (inr (inl h)) = inl h
  put_by false p q ps rest m on (inr (inr h)) = inr (on (inr h))

  put_from : (p : Timed) (ps : List Timed) (m : Moment) → Holds (p ∷ ps) m → Holds (put p ps) m
  put_from p [] m h = h
  put_from p (q ∷ ps) m h = put_by (nat_le p.time q.time) p q ps (put p ps) m (put_from p ps m) h

  out_by : (b : Bool) (p q : Timed) (ps rest : List Timed) (m : Moment) → (Holds rest m → Holds (p ∷ ps) m) → Holds (cond b (p ∷ q ∷ ps) (q ∷ rest)) m → Holds (p ∷ q ∷ ps) m
  out_by true p q ps rest m back h = h
  out_by false p q ps rest m back (inl h) = inr (inl h)
  out_by false p q ps rest m back (inr h) =
      elim (back h) [
        | inl k ↦ inl k
        | inr k ↦ inr (inr k)
      ]

  put_to : (p : Timed) (ps : List Timed) (m : Moment) → Holds (put p ps) m → Holds (p ∷ ps) m
  put_to p [] m h = h
  put_to p (q ∷ ps) m h = out_by (nat_le p.time q.time) p q ps (put p ps) m (put_to p ps m) h

  sort_from : (ps : List Timed) (m : Moment) → Holds ps m → Holds (by_time ps) m
  sort_from [] m h = h
  sort_from (p ∷ ps) m (inl h) = put_from p (by_time ps) m (inl h)
  sort_from (p ∷ ps) m (inr h) = put_from p (by_time ps) m (inr (sort_from ps m h))

  sort_to : (ps : List Timed) (m : Moment) → Holds (by_time ps) m → Holds ps m
  sort_to [] m h = h
  sort_to (p ∷ ps) m h =
      elim (put_to p (by_time ps) m h) [
        | inl k ↦ inl k
        | inr k ↦ inr (sort_to ps m k)
      ]

  holds_left : (xs ys : List Timed) (m : Moment) → Holds xs m → Holds (xs ++ ys) m
  holds_left [] ys m h = absurd h
  holds_left (x ∷ xs) ys m (inl k) = inl k
  holds_left (x ∷ xs) ys m (inr h) = inr (holds_left xs ys m h)

  holds_right : (xs ys : List Timed) (m : Moment) → Holds ys m → Holds (xs ++ ys) m
  holds_right [] ys m h = h
  holds_right (x ∷ xs) ys m h = inr (holds_right xs ys m h)

  holds_parts : (xs ys : List Timed) (m : Moment) → Holds (xs ++ ys) m → Holds xs m ⊎ Holds ys m
  holds_parts [] ys m h = inr h
  holds_parts (x ∷ xs) ys m (inl k) = inl (inl k)
  holds_parts (x ∷ xs) ys m (inr h) =
      elim (holds_parts xs ys m h) [
        | inl k ↦ inl (inr k)
        | inr k ↦ inr k
      ]

  pair : (g : ℕ) (b : Bool) → Holds (timed C (side g false) ∷ timed C (side g true) ∷ []) (beside_by (row_on C g) b)
  pair g false = inl refl
  pair g true = inr (inl refl)

  pub at_row : (b : Bool) (r : Row) → IsMoment C (beside_by r b) → IsRow C r
  at_row false r is = is
  at_row true r is = is

  pub row_at_side : (b : Bool) (r : Row) → IsRow C r → IsMoment C (beside_by r b)
  row_at_side false r is = is
  row_at_side true r is = is

  held_at : (g : ℕ) (b : Bool) → IsRow C (row_on C g) → Holds (timed_at C g) (beside_by (row_on C g) b)
  held_at g b is = subst (λ (c : Bool). Holds (cond c (timed C (side g false) ∷ timed C (side g true) ∷ []) []) (beside_by (row_on C g) b)) (sym (row_there C (row_on C g) is)) (pair g b)

  held_to : (n g : ℕ) (b : Bool) → g < n → IsRow C (row_on C g) → Holds (timed_to C n) (beside_by (row_on C g) b)
  held_to zero g b less is = absurd (omega arith)
  held_to (suc n) g b less is =
      elim (cases_order g n) [
        | inl same ↦ holds_right (timed_to C n) (timed_at C n) (beside_by (row_on C g) b) (subst (λ (k : ℕ). Holds (timed_at C k) (beside_by (row_on C g) b)) same (held_at g b is))
        | inr (inl below) ↦ holds_left (timed_to C n) (timed_at C n) (beside_by (row_on C g) b) (held_to n g b below is)
        | inr (inr over) ↦ absurd (omega arith)
      ]

  at_by : (c : Bool) (g : ℕ) (m : Moment) → (c ≡ true → IsRow C (row_on C g)) → Holds (cond c (timed C (side g false) ∷ timed C (side g true) ∷ []) []) m → IsMoment C m
  at_by true g m is (inl same) = subst (λ (y : Moment). IsMoment C y) same (is refl)
  at_by true g m is (inr (inl same)) = subst (λ (y : Moment). IsMoment C y) same (is refl)
  at_by true g m is (inr (inr h)) = absurd h
  at_by false g m is h = absurd h

  to_moment : (n : ℕ) (m : Moment) → Holds (timed_to C n) m → IsMoment C m
  to_moment zero m h = absurd h
  to_moment (suc g) m h =
      elim (holds_parts (timed_to C g) (timed_at C g) m h) [
        | inl k ↦ to_moment g m k
        | inr k ↦ at_by (is_some (leg_row C g)) g m (λ e. there_row C (row_on C g) e) k
      ]

  pub time_moment : (m : Moment) → Holds (in_time C) m → IsMoment C m
  time_moment m h = to_moment (points_in C) m (sort_to (timed_to C (points_in C)) m h)

  has_beside : (r : Row) (b : Bool) → IsRow C r → Has (in_order C) (beside_by r b)
  has_beside r b is =
      let e = row_point C r is in
      let there : IsRow C (row_on C (point_of_row C r)) = subst (λ (q : Row). IsRow C q) (sym e) is in
      let less = row_before C (point_of_row C r) there in
      subst (λ (q : Row). Has (in_order C) (beside_by q b)) e (back_from (in_time C) (beside_by (row_on C (point_of_row C r)) b) (sort_from (timed_to C (points_in C)) (beside_by (row_on C (point_of_row C r)) b) (held_to (points_in C) (point_of_row C r) b (omega arith) there)))

  all_has : (m : Moment) → IsMoment C m → at_end ≢ m → Has (in_order C) m
  all_has (before r) is other = has_beside r false is
  all_has (after r) is other = has_beside r true is
  all_has at_end is other = absurd (other refl)

  put_by_length : (b : Bool) (p q : Timed) (ps rest : List Timed) → length rest ≡ suc (length ps) → length (cond b (p ∷ q ∷ ps) (q ∷ rest)) ≡ suc (suc (length ps))
  put_by_length true p q ps rest e = refl
  put_by_length false p q ps rest e = ap suc e

  put_length : (p : Timed) (ps : List Timed) → length (put p ps) ≡ suc (length ps)
  put_length p [] = refl
  put_length p (q ∷ ps) = put_by_length (nat_le p.time q.time) p q ps (put p ps) (put_length p ps)

  sort_length : (ps : List Timed) → length (by_time ps) ≡ length ps
  sort_length [] = refl
  sort_length (p ∷ ps) = put_length p (by_time ps) ∙ ap suc (sort_length ps)

  at_length : (c : Bool) (x y : Timed) → length (cond c (x ∷ y ∷ []) []) ≤ 2
  at_length true x y = omega arith
  at_length false x y = omega arith

  to_length : (n : ℕ) → length (timed_to C n) ≤ 2 * n
  to_length zero = omega arith
  to_length (suc g) =
      let rest = to_length g in
      let here = at_length (is_some (leg_row C g)) (timed C (side g false)) (timed C (side g true)) in
      let all = length-append (timed_to C g) (timed_at C g) in
      omega arith

  pub time_length : length (in_time C) ≤ 2 * points_in C
  time_length = let same = sort_length (timed_to C (points_in C)) in let most = to_length (points_in C) in omega arith

pub are_listed : (C : Course) → IsListing C (in_order C)
are_listed C = record { all = all_has C; only = λ m h. time_moment C m (back_to C (in_time C) m h) }
