-- Moments each next to the one before lead to the end, and what lies before one of them.
use Rattle.std.proofs.Common.{◌≡◌, ◌≢◌, ℕ, suc, ◌<◌, ◌≤◌, Bool, true, false, cond, List, [], ◌∷◌, length, inl, inr, refl, sym, ap, ◌∙◌, subst, arith}
use Rattle.std.proofs.lemmas.Bool.{false≢true, cases_Bool}
use Rattle.rept_steps.specs.Course.{Course, IsSoundCourse}
use Rattle.rept_order.specs.Moments.{Moment, IsMoment, NotLater, Earlier, Act, IsAct, WhollyBefore, Stretch, stretch, MayAct}
use Rattle.rept_order.specs.Moments.Moment.{before, after, at_end}
use Rattle.rept_order.specs.Times.{is_earlier, wholly_before}
use Rattle.rept_order.specs.Links.{all_moments, later_count, moments_left, HasNextMoment}
use Rattle.rept_order.proofs.Between.{before_later, not_both, only_own}
use Rattle.rept_order.proofs.Decide.{earlier_true, earlier_from, cases_earlier}
use Rattle.rept_order.proofs.Acting.{before_true, before_from}
use Rattle.rept_order.proofs.Nexts.{In, every, listed, earlier_trans}

module _ (C : Course) (sound : IsSoundCourse C) where
  -- what lies before a moment lies before each later one, and can't act between
  pub past_onward : (act : Act) (m w : Moment) → WhollyBefore C act m → NotLater C m w → WhollyBefore C act w × (MayAct C act (stretch m w) → ⊥)
  past_onward act m w way order = (before_later C act m w way order, λ may_act. may_act.not_before way)

  -- what lies before a moment, and can't act between it and an earlier one, lies before that
  pub past_back : (act : Act) (m w : Moment) → IsAct C act → IsMoment C m → WhollyBefore C act w → (MayAct C act (stretch m w) → ⊥) → WhollyBefore C act m
  past_back act m w is its way out =
      elim (cases_Bool (wholly_before C act m)) [
        | inl early ↦ before_true C sound act m is its early
        | inr late ↦
            let not_before : WhollyBefore C act m → ⊥ = λ k. false≢true (sym late ∙ before_from C sound act m is its k) in
            absurd (out (record {
              not_before = not_before;
              not_after = λ past. not_both C sound act w is way past;
              alone = λ r plain same. only_own C sound (λ q b. false) 0 act r plain (subst (λ (y : Moment). WhollyBefore C act y) (ap (λ (s : Stretch). s.to) same) way) (λ k. not_before (subst (λ (y : Moment). WhollyBefore C act y) (sym (ap (λ (s : Stretch). s.from) same)) k));
            }))
      ]

  grows : (b : Bool) (n : ℕ) → n ≤ cond b (suc n) n
  grows true n = omega arith
  grows false n = omega arith

  tests : (a b : Bool) (n k : ℕ) → (a ≡ true → b ≡ true) → n ≤ k → cond a (suc n) n ≤ cond b (suc k) k
  tests true true n k all less = omega arith
  tests true false n k all less = absurd (false≢true (all refl))
  tests false true n k all less = omega arith
  tests false false n k all less = less

  -- no more moments are later than a later moment
  fewer : (L : List Moment) (m w : Moment) → ((x : Moment) → In L x → is_earlier C w x ≡ true → is_earlier C m x ≡ true) → later_count C w L ≤ later_count C m L
  fewer [] m w all = omega arith
  fewer (x ∷ L) m w all = tests (is_earlier C w x) (is_earlier C m x) (later_count C w L) (later_count C m L) (all x (inl refl)) (fewer L m w (λ y h k. all y (inr h) k))

  tests_strict : (a b : Bool) (n k : ℕ) → (a ≡ true → b ≡ true) → n < k → cond a (suc n) n < cond b (suc k) k
  tests_strict true true n k all less = omega arith
  tests_strict true false n k all less = absurd (false≢true (all refl))
  tests_strict false true n k all less = omega arith
  tests_strict false false n k all less = less

  here_strict : (a b : Bool) (n k : ℕ) → a ≡ false → b ≡ true → n ≤ k → cond a (suc n) n < cond b (suc k) k
  here_strict true b n k e f less = absurd (false≢true (sym e))
  here_strict false true n k e f less = omega arith
  here_strict false false n k e f less = absurd (false≢true f)

  -- and strictly fewer where the later one is listed
  fewer_still : (L : List Moment) (m w : Moment) → In L w → is_earlier C m w ≡ true → is_earlier C w w ≡ false → ((x : Moment) → In L x → is_earlier C w x ≡ true → is_earlier C m x ≡ true) → later_count C w L < later_count C m L
  fewer_still [] m w h e f all = absurd h
  fewer_still (x ∷ L) m w (inl same) e f all = here_strict (is_earlier C w x) (is_earlier C m x) (later_count C w L) (later_count C m L) (ap (λ (y : Moment). is_earlier C w y) same ∙ f) (ap (λ (y : Moment). is_earlier C m y) same ∙ e) (fewer L m w (λ y h k. all y (inr h) k))
  fewer_still (x ∷ L) m w (inr h) e f all = tests_strict (is_earlier C w x) (is_earlier C m x) (later_count C w L) (later_count C m L) (all x (inl refl)) (fewer_still L m w h e f (λ y k. all y (inr k)))

  not_self : (w : Moment) → IsMoment C w → is_earlier C w w ≡ false
  not_self w is =
      elim (cases_Bool (is_earlier C w w)) [
        | inl holds ↦ absurd ((earlier_true C sound w w is is holds).1 refl)
        | inr fails ↦ fails
      ]

  pub left_nearer : (m w : Moment) → IsMoment C m → IsMoment C w → Earlier C m w → moments_left C w < moments_left C m
  left_nearer m w is its later =
      fewer_still (all_moments C (length C.threads)) m w (every C w its) (earlier_from C sound m w later) (not_self w its)
      (λ x inside k. earlier_from C sound m x (earlier_trans C sound m w x later (earlier_true C sound w x its (listed C (length C.threads) x inside) k)))

  -- a nearest later moment among those of a list
  nearest : (L : List Moment) → ((x : Moment) → In L x → IsMoment C x) → (m w : Moment) → IsMoment C m → IsMoment C w → Earlier C m w → (x : Moment) × IsMoment C x × Earlier C m x × ((z : Moment) → In L z → Earlier C m z → Earlier C z x → ⊥)
  nearest [] are m w is its later = (w, its, later, λ z h from to. h)
  nearest (y ∷ L) are m w is its later = by (nearest L (λ x h. are x (inr h)) m w is its later)
    where
      keep : (x : Moment) → ((z : Moment) → In L z → Earlier C m z → Earlier C z x → ⊥) → (Earlier C m y → Earlier C y x → ⊥) → (z : Moment) → In (y ∷ L) z → Earlier C m z → Earlier C z x → ⊥
      keep x none out z (inl same) from to = out (subst (λ (v : Moment). Earlier C m v) (sym same) from) (subst (λ (v : Moment). Earlier C v x) (sym same) to)
      keep x none out z (inr h) from to = none z h from to

      by : (x : Moment) × IsMoment C x × Earlier C m x × ((z : Moment) → In L z → Earlier C m z → Earlier C z x → ⊥) → (x : Moment) × IsMoment C x × Earlier C m x × ((z : Moment) → In (y ∷ L) z → Earlier C m z → Earlier C z x → ⊥)
      by rest =
          elim (cases_earlier C sound m y is (are y (inl refl))) [
            | inr out ↦ (rest.0, rest.1, rest.2, keep rest.0 rest.3 (λ from to. out from))
            | inl from ↦
                elim (cases_earlier C sound y rest.0 (are y (inl refl)) rest.1) [
                  | inr out ↦ (rest.0, rest.1, rest.2, keep rest.0 rest.3 (λ one to. out to))
                  | inl to ↦ (y, are y (inl refl), from, keep y (λ z h one other. rest.3 z h one (earlier_trans C sound z y rest.0 other to)) (λ one other. other.1 refl))
                ]
          ]

  -- from each other moment a next one leads nearer to the end
  pub has_next : (m : Moment) → IsMoment C m → m ≢ at_end → HasNextMoment C m
  has_next m is apart =
      let found = nearest (all_moments C (length C.threads)) (listed C (length C.threads)) m at_end is tt (to_end m, apart) in
      record {
        to = found.0;
        is = found.1;
        next = record { later = found.2; none = λ z its from to. found.3 z (every C z its) from to };
        nearer = left_nearer m found.0 is found.1 found.2;
      }
    where
      to_end : (m : Moment) → NotLater C m at_end
      to_end (before r) = tt
      to_end (after r) = tt
      to_end at_end = tt
