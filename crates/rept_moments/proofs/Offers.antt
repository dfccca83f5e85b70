-- The numbers of the moments next to one.
use Rattle.std.proofs.Common.{◌≡◌, ℕ, ◌⊎◌, ◌&&◌, not, cond, Bool, true, false, List, [], ◌∷◌, ◌++◌, length, inl, inr, refl, sym, ap, subst}
use Rattle.std.proofs.lemmas.Bool.{and_parts, and_from}
use Rattle.rept_steps.specs.Course.{Course, IsSoundCourse}
use Rattle.rept_order.specs.Moments.{Moment, IsMoment, Earlier, Stretch, stretch, IsNext}
use Rattle.rept_order.specs.Times.{is_earlier}
use Rattle.rept_order.proofs.Decide.{earlier_true, earlier_from}
use Rattle.rept_order.proofs.Nexts.{In, every, listed}
use Rattle.rept_moments.specs.Naming.Making.{moments_in, none_between, is_next}
use Rattle.rept_moments.proofs.NamingLemmas.Naming.{not_true}
use Rattle.rept_moments.specs.Numbers.{numbers_of}
use Rattle.rept_moments.specs.Nexts.{nexts_among, nexts_of, Member}

pub member_left : (xs ys : List ℕ) (v : ℕ) → Member xs v → Member (xs ++ ys) v
member_left [] ys v h = absurd h
member_left (x ∷ xs) ys v (inl same) = inl same
member_left (x ∷ xs) ys v (inr h) = inr (member_left xs ys v h)

pub member_right : (xs ys : List ℕ) (v : ℕ) → Member ys v → Member (xs ++ ys) v
member_right [] ys v h = h
member_right (x ∷ xs) ys v h = inr (member_right xs ys v h)

pub member_parts : (xs ys : List ℕ) (v : ℕ) → Member (xs ++ ys) v → Member xs v ⊎ Member ys v
member_parts [] ys v h = inr h
member_parts (x ∷ xs) ys v (inl same) = inl (inl same)
member_parts (x ∷ xs) ys v (inr h) =
    elim (member_parts xs ys v h) [
      | inl k ↦ inl (inr k)
      | inr k ↦ inr k
    ]

-- one number or none
pub one_by : (b : Bool) (k v : ℕ) → Member (cond b (k ∷ []) []) v → (b ≡ true) × (k ≡ v)
one_by true k v (inl same) = (refl, same)
one_by true k v (inr h) = absurd h
one_by false k v h = absurd h

pub held_by : (b : Bool) (k v : ℕ) → b ≡ true → k ≡ v → Member (cond b (k ∷ []) []) v
held_by true k v e same = inl same
held_by false k v e same = absurd (Rattle.std.proofs.lemmas.Bool.false≢true e)

not_from : (b : Bool) → (b ≡ true → ⊥) → not b ≡ true
not_from true k = absurd (k refl)
not_from false k = refl

-- a moment that is next and has the number
pub record IsNeighbour (C : Course) (m : Moment) (v : ℕ) : Type 0 where
  pub moment : Moment
  pub is_one : IsMoment C moment
  pub next : IsNext C m moment
  pub name : (numbers_of C).name moment ≡ v

module _ (C : Course) (sound : IsSoundCourse C) where
  none_true : (x : Stretch) (ms : List Moment) → none_between C x ms ≡ true → (z : Moment) → In ms z → Earlier C x.from z → Earlier C z x.to → ⊥
  none_true x [] e z h one other = h
  none_true x (m ∷ ms) e z (inl same) one other = not_true (is_earlier C x.from m && is_earlier C m x.to) (and_parts (not (is_earlier C x.from m && is_earlier C m x.to)) (none_between C x ms) e).0 (and_from (is_earlier C x.from m) (is_earlier C m x.to) (earlier_from C sound x.from m (subst (λ (y : Moment). Earlier C x.from y) (sym same) one)) (earlier_from C sound m x.to (subst (λ (y : Moment). Earlier C y x.to) (sym same) other)))
  none_true x (m ∷ ms) e z (inr h) one other = none_true x ms (and_parts (not (is_earlier C x.from m && is_earlier C m x.to)) (none_between C x ms) e).1 z h one other

  none_from : (x : Stretch) (ms : List Moment) → IsMoment C x.from → IsMoment C x.to → ((z : Moment) → In ms z → IsMoment C z) → ((z : Moment) → IsMoment C z → Earlier C x.from z → Earlier C z x.to → ⊥) → none_between C x ms ≡ true
  none_from x [] from to are none = refl
  none_from x (m ∷ ms) from to are none =
      let its = are m (inl refl) in
      and_from (not (is_earlier C x.from m && is_earlier C m x.to)) (none_between C x ms) (not_from (is_earlier C x.from m && is_earlier C m x.to) (λ k.
      let parts = and_parts (is_earlier C x.from m) (is_earlier C m x.to) k in
      none m its (earlier_true C sound x.from m from its parts.0) (earlier_true C sound m x.to its to parts.1))) (none_from x ms from to (λ z h. are z (inr h)) none)

  next_true : (x : Stretch) → IsMoment C x.from → IsMoment C x.to → is_next C x ≡ true → IsNext C x.from x.to
  next_true x from to e =
      let parts = and_parts (is_earlier C x.from x.to) (none_between C x (moments_in C)) e in
      record {
        later = earlier_true C sound x.from x.to from to parts.0;
        none = λ z its one other. none_true x (moments_in C) parts.1 z (every C z its) one other;
      }

  next_from : (x : Stretch) → IsMoment C x.from → IsMoment C x.to → IsNext C x.from x.to → is_next C x ≡ true
  next_from x from to k = and_from (is_earlier C x.from x.to) (none_between C x (moments_in C)) (earlier_from C sound x.from x.to k.later) (none_from x (moments_in C) from to (listed C (length C.threads)) k.none)

  module _ (m : Moment) (is : IsMoment C m) where
    among_by : (b : Bool) (w : Moment) (ns : List ℕ) (v : ℕ) → Member (cond b ((numbers_of C).name w ∷ ns) ns) v → ((b ≡ true) × ((numbers_of C).name w ≡ v)) ⊎ Member ns v
    among_by true w ns v (inl same) = inl (refl, same)
    among_by true w ns v (inr h) = inr h
    among_by false w ns v h = inr h

    by_among : (b : Bool) (w : Moment) (ns : List ℕ) (v : ℕ) → Member ns v → Member (cond b ((numbers_of C).name w ∷ ns) ns) v
    by_among true w ns v h = inr h
    by_among false w ns v h = h

    has_among : (ws : List Moment) (v : ℕ) → ((w : Moment) → In ws w → IsMoment C w) → Member (nexts_among C m ws) v → IsNeighbour C m v
    has_among [] v are h = absurd h
    has_among (w ∷ ws) v are h =
        elim (among_by (is_next C (stretch m w)) w (nexts_among C m ws) v h) [
          | inl its ↦ record { moment = w; is_one = are w (inl refl); next = next_true (stretch m w) is (are w (inl refl)) its.0; name = its.1 }
          | inr k ↦ has_among ws v (λ y i. are y (inr i)) k
        ]

    among_has : (ws : List Moment) (w : Moment) → In ws w → is_next C (stretch m w) ≡ true → Member (nexts_among C m ws) ((numbers_of C).name w)
    among_has [] w h e = absurd h
    among_has (y ∷ ws) w (inr h) e = by_among (is_next C (stretch m y)) y (nexts_among C m ws) ((numbers_of C).name w) (among_has ws w h e)
    among_has (y ∷ ws) w (inl same) e =
        let test : is_next C (stretch m y) ≡ true = subst (λ (z : Moment). is_next C (stretch m z) ≡ true) (sym same) e in
        subst (λ (b : Bool). Member (cond b ((numbers_of C).name y ∷ nexts_among C m ws) (nexts_among C m ws)) ((numbers_of C).name w)) (sym test) (inl (ap (numbers_of C).name same))

    pub has_next : (v : ℕ) → Member (nexts_of C m) v → IsNeighbour C m v
    has_next v h = has_among (moments_in C) v (listed C (length C.threads)) h

    pub next_has : (q : Moment) → IsMoment C q → IsNext C m q → Member (nexts_of C m) ((numbers_of C).name q)
    next_has q its next = among_has (moments_in C) q (every C q its) (next_from (stretch m q) is its next)

    pub neighbour_has : (v : ℕ) → IsNeighbour C m v → Member (nexts_of C m) v
    neighbour_has v its = subst (λ (k : ℕ). Member (nexts_of C m) k) its.name (next_has its.moment its.is_one its.next)
