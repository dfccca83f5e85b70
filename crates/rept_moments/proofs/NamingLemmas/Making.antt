-- Each sound course has names for its moments.
use Rattle.std.proofs.Common.{◌≡◌, ◌≢◌, ℕ, suc, ◌<◌, ◌⊎◌, ◌&&◌, not, cond, eqb, Bool, true, false, List, [], ◌∷◌, ◌++◌, length, Option, Some, None, inl, inr, refl, sym, ap, ◌∙◌, subst, arith}
use Rattle.std.specs.Option.{is_some}
use Rattle.std.proofs.lemmas.Bool.{false≢true, cases_Bool, cases_lt, cases_eq, or_left, or_right, or_cases, and_parts, and_from, eq-eqb, ne_eqb, eqb-true, lt-ltb, le-ltb}
use Rattle.rept_steps.specs.Course.{Course, Row, row_of, rows_of, IsRow, calls, IsSoundCourse}
use Rattle.rept_order.specs.Moments.{Moment, IsMoment, Earlier, Act, IsAct, Stretch, stretch, MayAct, IsNext, stores, ArePause, AreOne}
use Rattle.rept_order.specs.Moments.Moment.{before, after, at_end}
use Rattle.rept_order.specs.Moments.Act.{row, untraced}
use Rattle.rept_order.specs.Moments.ArePause.{between, last}
use Rattle.rept_order.specs.Times.{same_row, same_moment, is_earlier, may_act_between}
use Rattle.rept_order.proofs.Decide.{row_true, row_self, earlier_true, earlier_from}
use Rattle.rept_order.proofs.Acting.{may_act_true, may_act_from}
use Rattle.rept_order.proofs.Between.{row_forward, none_inside}
use Rattle.rept_order.proofs.Nexts.{In, every, listed}
use Rattle.rept_moments.specs.Naming.Names.{IsLink, AreNames}
use Rattle.rept_moments.specs.Naming.Making.{moments_in, still_by, rows_still, is_still, next_point, last_of, holds, keeps, lasts, named_by, rank, ranked, from_one, from_each, first_that, none_between, is_next, own_by, is_own, name_by, is_link, else_first, link_by, names_by, names_in, Has, IsListing}
use Rattle.rept_moments.proofs.NamingLemmas.Naming.{can, not_true, pause_in_order}

moment_true : (m w : Moment) → same_moment m w ≡ true → m ≡ w
moment_true (before q) (before r) k = ap before (row_true q r k)
moment_true (before q) (after r) k = absurd (false≢true k)
moment_true (before q) at_end k = absurd (false≢true k)
moment_true (after q) (before r) k = absurd (false≢true k)
moment_true (after q) (after r) k = ap after (row_true q r k)
moment_true (after q) at_end k = absurd (false≢true k)
moment_true at_end (before r) k = absurd (false≢true k)
moment_true at_end (after r) k = absurd (false≢true k)
moment_true at_end at_end k = refl

moment_self : (m : Moment) → same_moment m m ≡ true
moment_self (before q) = row_self q q refl
moment_self (after q) = row_self q q refl
moment_self at_end = refl

same_from : (m w : Moment) → m ≡ w → same_moment m w ≡ true
same_from m w e = subst (λ (y : Moment). same_moment m y ≡ true) e (moment_self m)

not_from : (b : Bool) → (b ≡ true → ⊥) → not b ≡ true
not_from true k = absurd (k refl)
not_from false k = refl

tail_in : (x : Moment) (xs : List Moment) (m : Moment) → same_moment x m ≡ false → In (x ∷ xs) m → In xs m
tail_in x xs m out (inl same) = absurd (false≢true (sym out ∙ same_from x m same))
tail_in x xs m out (inr k) = k

rank_below : (xs : List Moment) (m : Moment) → In xs m → rank xs m < length xs
rank_below [] m h = absurd h
rank_below (x ∷ xs) m h =
    elim (cases_Bool (same_moment x m)) [
      | inl is ↦ rw is (omega arith)
      | inr out ↦ rw out (let rest = rank_below xs m (tail_in x xs m out h) in omega arith)
    ]

at_rank : (xs : List Moment) (m : Moment) → In xs m → ranked xs (rank xs m) ≡ m
at_rank [] m h = absurd h
at_rank (x ∷ xs) m h =
    elim (cases_Bool (same_moment x m)) [
      | inl is ↦ rw (is, eq-eqb (length xs) (length xs) refl) (moment_true x m is)
      | inr out ↦
          let low = rank_below xs m (tail_in x xs m out h) in
          rw (out, ne_eqb (rank xs m) (length xs) (λ same. omega arith)) (at_rank xs m (tail_in x xs m out h))
    ]

ranked_in : (xs : List Moment) (n : ℕ) → n < length xs → In xs (ranked xs n)
ranked_in [] n below = absurd (omega arith)
ranked_in (x ∷ xs) n below =
    elim (cases_eq n (length xs)) [
      | inl same ↦ rw (eq-eqb n (length xs) same) (inl refl)
      | inr other ↦ rw (ne_eqb n (length xs) other) (inr (ranked_in xs n (omega arith)))
    ]

abbrev Distinct : List Moment → Type 0
Distinct [] = Unit {0}
Distinct (x ∷ xs) = (In xs x → ⊥) × Distinct xs

rank_ranked : (xs : List Moment) (n : ℕ) → Distinct xs → n < length xs → rank xs (ranked xs n) ≡ n
rank_ranked [] n apart below = absurd (omega arith)
rank_ranked (x ∷ xs) n apart below =
    elim (cases_eq n (length xs)) [
      | inl same ↦ rw (eq-eqb n (length xs) same, moment_self x) (sym same)
      | inr other ↦
          let there = ranked_in xs n (omega arith) in
          let ne : same_moment x (ranked xs n) ≡ false =
          elim (cases_Bool (same_moment x (ranked xs n))) [
            | inl is ↦ absurd (apart.0 (subst (λ (y : Moment). In xs y) (sym (moment_true x (ranked xs n) is)) there))
            | inr out ↦ out
          ] in
          rw (ne_eqb n (length xs) other, ne) (rank_ranked xs n apart.1 (omega arith))
    ]

holds_from : (xs : List Moment) (m : Moment) → In xs m → holds xs m ≡ true
holds_from [] m h = absurd h
holds_from (x ∷ xs) m (inl same) = or_left (same_moment x m) (holds xs m) (same_from x m same)
holds_from (x ∷ xs) m (inr h) = or_right (same_moment x m) (holds xs m) (holds_from xs m h)

holds_true : (xs : List Moment) (m : Moment) → holds xs m ≡ true → In xs m
holds_true [] m e = absurd (false≢true e)
holds_true (x ∷ xs) m e =
    elim (or_cases (same_moment x m) (holds xs m) e) [
      | inl is ↦ inl (moment_true x m is)
      | inr rest ↦ inr (holds_true xs m rest)
    ]

part : (b : Bool) (x m : Moment) (L : List Moment) → In (cond b (x ∷ L) L) m → ((b ≡ true) × (x ≡ m)) ⊎ In L m
part true x m L (inl same) = inl (refl, same)
part true x m L (inr h) = inr h
part false x m L h = inr h

widen : (b : Bool) (x m : Moment) (L : List Moment) → In L m → In (cond b (x ∷ L) L) m
widen true x m L h = inr h
widen false x m L h = h

kept_apart : (b : Bool) (x : Moment) (L : List Moment) → (b ≡ true → In L x → ⊥) → Distinct L → Distinct (cond b (x ∷ L) L)
kept_apart true x L out d = (out refl, d)
kept_apart false x L out d = d

module _ (C : Course) where
  -- what is kept is a last moment, not the end, and new
  kept : (L : List Moment) (x : Moment) → keeps C L x ≡ true → (last_of C x ≡ x) × (at_end ≢ x) × (In L x → ⊥)
  kept L x e =
      let parts = and_parts (same_moment (last_of C x) x) (not (same_moment at_end x) && not (holds L x)) e in
      let others = and_parts (not (same_moment at_end x)) (not (holds L x)) parts.1 in
      (moment_true (last_of C x) x parts.0, λ same. not_true (same_moment at_end x) others.0 (same_from at_end x same), λ h. not_true (holds L x) others.1 (holds_from L x h))

  distinct_lasts : (xs : List Moment) → Distinct (lasts C xs)
  distinct_lasts [] = tt
  distinct_lasts (x ∷ xs) = kept_apart (keeps C (lasts C xs) x) x (lasts C xs) (λ k. (kept (lasts C xs) x k).2) (distinct_lasts xs)

  lasts_in : (xs : List Moment) (m : Moment) → In (lasts C xs) m → In xs m × (last_of C m ≡ m) × (at_end ≢ m)
  lasts_in [] m h = absurd h
  lasts_in (x ∷ xs) m h =
      elim (part (keeps C (lasts C xs) x) x m (lasts C xs) h) [
        | inl (k, same) ↦
            let its = kept (lasts C xs) x k in
            (inl same, subst (λ (y : Moment). last_of C y ≡ y) same its.0, subst (λ (y : Moment). at_end ≢ y) same its.1)
        | inr rest ↦ let its = lasts_in xs m rest in (inr its.0, its.1, its.2)
      ]

  in_lasts : (xs : List Moment) (m : Moment) → In xs m → last_of C m ≡ m → at_end ≢ m → In (lasts C xs) m
  in_lasts [] m h own other = absurd h
  in_lasts (x ∷ xs) m (inr h) own other = widen (keeps C (lasts C xs) x) x m (lasts C xs) (in_lasts xs m h own other)
  in_lasts (x ∷ xs) m (inl same) own other =
      elim (cases_Bool (keeps C (lasts C xs) x)) [
        | inl k ↦ rw k (inl same)
        | inr out ↦ rw out (subst (λ (y : Moment). In (lasts C xs) y) same (elim (cases_Bool (holds (lasts C xs) x)) [
          | inl there ↦ holds_true (lasts C xs) x there
          | inr lacks ↦ absurd (false≢true (sym out ∙ and_from (same_moment (last_of C x) x) (not (same_moment at_end x) && not (holds (lasts C xs) x)) (same_from (last_of C x) x (subst (λ (y : Moment). last_of C y ≡ y) (sym same) own)) (and_from (not (same_moment at_end x)) (not (holds (lasts C xs) x)) (not_from (same_moment at_end x) (λ k. other (moment_true at_end x k ∙ same))) (ap not lacks))))
        ]))
      ]

  -- the thread's next moment
  next_pause : (r : Row) → IsRow C r → ArePause C (stretch (after r) (next_point C r))
  next_pause r is =
      elim (cases_lt (suc r.step) (length (rows_of C r.thread))) [
        | inl less ↦ rw (lt-ltb (suc r.step) (length (rows_of C r.thread)) less) (between r.thread r.step less refl)
        | inr past ↦ rw (le-ltb (suc r.step) (length (rows_of C r.thread)) past) (last r.thread r.step (omega arith) refl)
      ]

  pub next_last : (r : Row) → last_of C (next_point C r) ≡ next_point C r
  next_last r =
      elim (cases_lt (suc r.step) (length (rows_of C r.thread))) [
        | inl less ↦ rw (lt-ltb (suc r.step) (length (rows_of C r.thread)) less) refl
        | inr past ↦ rw (le-ltb (suc r.step) (length (rows_of C r.thread)) past) refl
      ]

  pause_next : (x : Stretch) → ArePause C x → (r : Row) × IsRow C r × (x ≡ stretch (after r) (next_point C r))
  pause_next x (between t i next same) = (row_of t i, omega arith, rw (lt-ltb (suc i) (length (rows_of C t)) next) same)
  pause_next x (last t i all same) = (row_of t i, omega arith, rw (le-ltb (suc i) (length (rows_of C t)) (omega arith)) same)

  last_still : (r : Row) → is_still C (stretch (after r) (next_point C r)) ≡ true → last_of C (after r) ≡ next_point C r
  last_still r e = ap (λ (b : Bool). cond b (next_point C r) (after r)) e

  last_own : (r : Row) → is_still C (stretch (after r) (next_point C r)) ≡ false → last_of C (after r) ≡ after r
  last_own r e = ap (λ (b : Bool). cond b (next_point C r) (after r)) e

  last_last : (m : Moment) → last_of C (last_of C m) ≡ last_of C m
  last_last (before r) = refl
  last_last at_end = refl
  last_last (after r) =
      elim (cases_Bool (is_still C (stretch (after r) (next_point C r)))) [
        | inl e ↦ ap (last_of C) (last_still r e) ∙ next_last r ∙ sym (last_still r e)
        | inr e ↦ ap (last_of C) (last_own r e)
      ]

  last_moment : (m : Moment) → IsMoment C m → IsMoment C (last_of C m)
  last_moment (before r) is = is
  last_moment at_end is = tt
  last_moment (after r) is =
      elim (cases_Bool (is_still C (stretch (after r) (next_point C r)))) [
        | inl e ↦ subst (λ (y : Moment). IsMoment C y) (sym (last_still r e)) (pause_in_order C (stretch (after r) (next_point C r)) (next_pause r is)).to
        | inr e ↦ subst (λ (y : Moment). IsMoment C y) (sym (last_own r e)) is
      ]

module _ (C : Course) (sound : IsSoundCourse C) where
  rows_at : (x : Stretch) (ms : List Moment) (m : Moment) → rows_still C x ms ≡ true → In ms m → still_by C x m ≡ true
  rows_at x [] m e h = absurd h
  rows_at x (y ∷ ms) m e (inl same) = subst (λ (z : Moment). still_by C x z ≡ true) same (and_parts (still_by C x y) (rows_still C x ms) e).0
  rows_at x (y ∷ ms) m e (inr h) = rows_at x ms m (and_parts (still_by C x y) (rows_still C x ms) e).1 h

  -- whether nothing that may write may act is decided
  still_true : (x : Stretch) → IsMoment C x.from → IsMoment C x.to → is_still C x ≡ true → (act : Act) → IsAct C act → MayAct C act x → can C act ≡ false
  still_true x from to e untraced is may_act =
      let parts = and_parts (not (is_some C.untraced && may_act_between C untraced x.from x.to)) (rows_still C x (moments_in C)) e in
      absurd (not_true (is_some C.untraced && may_act_between C untraced x.from x.to) parts.0 (and_from (is_some C.untraced) (may_act_between C untraced x.from x.to) (ap is_some is.1) (may_act_from C sound untraced x.from x.to is from to may_act)))
  still_true x from to e (row r) is may_act =
      let parts = and_parts (not (is_some C.untraced && may_act_between C untraced x.from x.to)) (rows_still C x (moments_in C)) e in
      elim (cases_Bool (stores C r)) [
        | inr still ↦ still
        | inl writes ↦ absurd (not_true (stores C r && may_act_between C (row r) x.from x.to) (rows_at x (moments_in C) (before r) parts.1 (every C (before r) is)) (and_from (stores C r) (may_act_between C (row r) x.from x.to) writes (may_act_from C sound (row r) x.from x.to is from to may_act)))
      ]

  told_is : (o : Option ℕ) → is_some o ≡ true → (d : ℕ) × (o ≡ Some d)
  told_is None e = absurd (false≢true e)
  told_is (Some d) e = (d, refl)

  module _ (x : Stretch) (from : IsMoment C x.from) (to : IsMoment C x.to) (still : (act : Act) → IsAct C act → MayAct C act x → can C act ≡ false) where
    one_still : (m : Moment) → IsMoment C m → still_by C x m ≡ true
    one_still (after r) is = refl
    one_still at_end is = refl
    one_still (before r) is = not_from (stores C r && may_act_between C (row r) x.from x.to) (λ k.
        let parts = and_parts (stores C r) (may_act_between C (row r) x.from x.to) k in
        false≢true (sym (still (row r) is (may_act_true C sound (row r) x.from x.to is from to parts.1)) ∙ parts.0))

    all_still : (ms : List Moment) → ((m : Moment) → In ms m → IsMoment C m) → rows_still C x ms ≡ true
    all_still [] are = refl
    all_still (m ∷ ms) are = and_from (still_by C x m) (rows_still C x ms) (one_still m (are m (inl refl))) (all_still ms (λ y h. are y (inr h)))

    still_from : is_still C x ≡ true
    still_from =
        and_from (not (is_some C.untraced && may_act_between C untraced x.from x.to)) (rows_still C x (moments_in C))
        (not_from (is_some C.untraced && may_act_between C untraced x.from x.to) (λ k.
        let parts = and_parts (is_some C.untraced) (may_act_between C untraced x.from x.to) k in
        let told = told_is C.untraced parts.0 in
        false≢true (sym (still untraced told (may_act_true C sound untraced x.from x.to told from to parts.1)))))
        (all_still (moments_in C) (listed C (length C.threads)))

  last_one : (m : Moment) → IsMoment C m → (m ≡ last_of C m) ⊎ AreOne C (stretch m (last_of C m))
  last_one (before r) is = inl refl
  last_one at_end is = inl refl
  last_one (after r) is =
      elim (cases_Bool (is_still C (stretch (after r) (next_point C r)))) [
        | inl e ↦
            let p = next_pause C r is in
            let o = pause_in_order C (stretch (after r) (next_point C r)) p in
            inr (subst (λ (y : Moment). AreOne C (stretch (after r) y)) (sym (last_still C r e)) (record { pause = p; still = still_true (stretch (after r) (next_point C r)) o.from o.to e }))
        | inr e ↦ inl (sym (last_own C r e))
      ]

  one_last : (x : Stretch) → AreOne C x → last_of C x.from ≡ last_of C x.to
  one_last x one =
      let found = pause_next C x one.pause in
      let o = pause_in_order C (stretch (after found.0) (next_point C found.0)) (next_pause C found.0 found.1) in
      let e = still_from (stretch (after found.0) (next_point C found.0)) o.from o.to (subst (λ (y : Stretch). (act : Act) → IsAct C act → MayAct C act y → can C act ≡ false) found.2 one.still) in
      ap (λ (y : Stretch). last_of C y.from) found.2 ∙ last_still C found.0 e ∙ sym (next_last C found.0) ∙ sym (ap (λ (y : Stretch). last_of C y.to) found.2)

-- stretches in a list
abbrev InS : List Stretch → Stretch → Type 0
InS [] s = ⊥
InS (x ∷ xs) s = (x ≡ s) ⊎ InS xs s

s_left : (xs ys : List Stretch) (s : Stretch) → InS xs s → InS (xs ++ ys) s
s_left [] ys s h = absurd h
s_left (x ∷ xs) ys s (inl same) = inl same
s_left (x ∷ xs) ys s (inr h) = inr (s_left xs ys s h)

s_right : (xs ys : List Stretch) (s : Stretch) → InS ys s → InS (xs ++ ys) s
s_right [] ys s h = h
s_right (x ∷ xs) ys s h = inr (s_right xs ys s h)

s_parts : (xs ys : List Stretch) (s : Stretch) → InS (xs ++ ys) s → InS xs s ⊎ InS ys s
s_parts [] ys s h = inr h
s_parts (x ∷ xs) ys s (inl same) = inl (inl same)
s_parts (x ∷ xs) ys s (inr h) =
    elim (s_parts xs ys s h) [
      | inl k ↦ inl (inr k)
      | inr k ↦ inr k
    ]

in_one : (m : Moment) (ws : List Moment) (w : Moment) → In ws w → InS (from_one m ws) (stretch m w)
in_one m [] w h = absurd h
in_one m (x ∷ ws) w (inl same) = inl (ap (λ (y : Moment). stretch m y) same)
in_one m (x ∷ ws) w (inr h) = inr (in_one m ws w h)

in_each : (ms ws : List Moment) (m w : Moment) → In ms m → In ws w → InS (from_each ms ws) (stretch m w)
in_each [] ws m w h k = absurd h
in_each (x ∷ ms) ws m w (inl same) k = s_left (from_one x ws) (from_each ms ws) (stretch m w) (subst (λ (y : Moment). InS (from_one y ws) (stretch m w)) (sym same) (in_one m ws w k))
in_each (x ∷ ms) ws m w (inr h) k = s_right (from_one x ws) (from_each ms ws) (stretch m w) (in_each ms ws m w h k)

one_in : (m : Moment) (ws : List Moment) (s : Stretch) → InS (from_one m ws) s → (m ≡ s.from) × In ws s.to
one_in m [] s h = absurd h
one_in m (x ∷ ws) s (inl same) = (ap (λ (y : Stretch). y.from) same, inl (ap (λ (y : Stretch). y.to) same))
one_in m (x ∷ ws) s (inr h) = let rest = one_in m ws s h in (rest.0, inr rest.1)

each_in : (ms ws : List Moment) (s : Stretch) → InS (from_each ms ws) s → In ms s.from × In ws s.to
each_in [] ws s h = absurd h
each_in (x ∷ ms) ws s h =
    elim (s_parts (from_one x ws) (from_each ms ws) s h) [
      | inl k ↦ let its = one_in x ws s k in (inl its.0, its.1)
      | inr k ↦ let its = each_in ms ws s k in (inr its.0, its.1)
    ]

none_some : {A : Type 0} {x : A} → None ≡ Some x → ⊥
none_some e = cc

some_none : {A : Type 0} {x : A} → Some x ≡ None → ⊥
some_none e = cc

some_same : {A : Type 0} {x y : A} → Some x ≡ Some y → x ≡ y
some_same e = cc

first_found : (test : Stretch → Bool) (xs : List Stretch) (s : Stretch) → first_that test xs ≡ Some s → (test s ≡ true) × InS xs s
first_found test [] s e = absurd (none_some e)
first_found test (x ∷ xs) s e =
    elim (cases_Bool (test x)) [
      | inl holds ↦
          let same : x ≡ s = some_same (sym (ap (λ (b : Bool). cond b (Some x) (first_that test xs)) holds) ∙ e) in
          (subst (λ (y : Stretch). test y ≡ true) same holds, inl same)
      | inr fails ↦
          let rest = first_found test xs s (sym (ap (λ (b : Bool). cond b (Some x) (first_that test xs)) fails) ∙ e) in
          (rest.0, inr rest.1)
    ]

first_exists : (test : Stretch → Bool) (xs : List Stretch) (s : Stretch) → InS xs s → test s ≡ true → first_that test xs ≢ None
first_exists test [] s h t e = h
first_exists test (x ∷ xs) s (inl same) t e =
    let holds : test x ≡ true = subst (λ (y : Stretch). test y ≡ true) (sym same) t in
    some_none (sym (ap (λ (b : Bool). cond b (Some x) (first_that test xs)) holds) ∙ e)
first_exists test (x ∷ xs) s (inr h) t e =
    elim (cases_Bool (test x)) [
      | inl holds ↦ some_none (sym (ap (λ (b : Bool). cond b (Some x) (first_that test xs)) holds) ∙ e)
      | inr fails ↦ first_exists test xs s h t (sym (ap (λ (b : Bool). cond b (Some x) (first_that test xs)) fails) ∙ e)
    ]

else_from : (a b : Option Stretch) (s : Stretch) → else_first a b ≡ Some s → (a ≡ Some s) ⊎ (b ≡ Some s)
else_from None b s e = inr e
else_from (Some x) b s e = inl e

else_some : (a b : Option Stretch) → b ≢ None → else_first a b ≢ None
else_some None b out e = out e
else_some (Some x) b out e = some_none e

some_of : (a : Option Stretch) → a ≢ None → (s : Stretch) × (a ≡ Some s)
some_of None out = absurd (out refl)
some_of (Some s) out = (s, refl)

before_same : {q r : Row} → before q ≡ before r → q ≡ r
before_same e = cc

before_after : {q r : Row} → before q ≡ after r → ⊥
before_after e = cc

end_before : {r : Row} → at_end ≡ before r → ⊥
end_before e = cc

own_true : (C : Course) (m w : Moment) → own_by C m w ≡ true → (q : Row) × (m ≡ before q) × (w ≡ after q)
own_true C (before q) (after r) e = (q, refl, ap after (sym (row_true q r (and_parts (same_row q r) (not (calls C r)) e).0)))
own_true C (before q) (before r) e = absurd (false≢true e)
own_true C (before q) at_end e = absurd (false≢true e)
own_true C (after q) w e = absurd (false≢true e)
own_true C at_end w e = absurd (false≢true e)

has_in : (xs : List Moment) (m : Moment) → Has xs m → In xs m
has_in [] m h = h
has_in (x ∷ xs) m (inl same) = inl same
has_in (x ∷ xs) m (inr h) = inr (has_in xs m h)

in_has : (xs : List Moment) (m : Moment) → In xs m → Has xs m
in_has [] m h = h
in_has (x ∷ xs) m (inl same) = inl same
in_has (x ∷ xs) m (inr h) = inr (in_has xs m h)

module _ (C : Course) (sound : IsSoundCourse C) (L : List Moment) (is_list : IsListing C L) where
  none_true : (x : Stretch) (ms : List Moment) → IsMoment C x.from → IsMoment C x.to → none_between C x ms ≡ true → (z : Moment) → In ms z → Earlier C x.from z → Earlier C z x.to → ⊥
  none_true x [] from to e z h one other = h
  none_true x (m ∷ ms) from to e z (inl same) one other = not_true (is_earlier C x.from m && is_earlier C m x.to) (and_parts (not (is_earlier C x.from m && is_earlier C m x.to)) (none_between C x ms) e).0 (and_from (is_earlier C x.from m) (is_earlier C m x.to) (earlier_from C sound x.from m (subst (λ (y : Moment). Earlier C x.from y) (sym same) one)) (earlier_from C sound m x.to (subst (λ (y : Moment). Earlier C y x.to) (sym same) other)))
  none_true x (m ∷ ms) from to e z (inr h) one other = none_true x ms from to (and_parts (not (is_earlier C x.from m && is_earlier C m x.to)) (none_between C x ms) e).1 z h one other

  none_from : (x : Stretch) (ms : List Moment) → IsMoment C x.from → IsMoment C x.to → ((z : Moment) → In ms z → IsMoment C z) → ((z : Moment) → IsMoment C z → Earlier C x.from z → Earlier C z x.to → ⊥) → none_between C x ms ≡ true
  none_from x [] from to are none = refl
  none_from x (m ∷ ms) from to are none =
      let its = are m (inl refl) in
      and_from (not (is_earlier C x.from m && is_earlier C m x.to)) (none_between C x ms) (not_from (is_earlier C x.from m && is_earlier C m x.to) (λ k.
      let parts = and_parts (is_earlier C x.from m) (is_earlier C m x.to) k in
      none m its (earlier_true C sound x.from m from its parts.0) (earlier_true C sound m x.to its to parts.1))) (none_from x ms from to (λ z h. are z (inr h)) none)

  next_true : (x : Stretch) → IsMoment C x.from → IsMoment C x.to → is_next C x ≡ true → IsNext C x.from x.to
  next_true x from to e =
      let parts = and_parts (is_earlier C x.from x.to) (none_between C x (moments_in C)) e in
      record {
        later = earlier_true C sound x.from x.to from to parts.0;
        none = λ z its one other. none_true x (moments_in C) from to parts.1 z (every C z its) one other;
      }

  next_from : (x : Stretch) → IsMoment C x.from → IsMoment C x.to → IsNext C x.from x.to → is_next C x ≡ true
  next_from x from to k = and_from (is_earlier C x.from x.to) (none_between C x (moments_in C)) (earlier_from C sound x.from x.to k.later) (none_from x (moments_in C) from to (listed C (length C.threads)) k.none)

  -- what has a name in the list
  cases_end : (m : Moment) → (at_end ≡ m) ⊎ (at_end ≢ m)
  cases_end m =
      elim (cases_Bool (same_moment at_end m)) [
        | inl is ↦ inl (moment_true at_end m is)
        | inr out ↦ inr (λ same. false≢true (sym out ∙ same_from at_end m same))
      ]

  last_in : (m : Moment) → IsMoment C m → last_of C m ≡ m → In (named_by C L) m
  last_in m is own =
      elim (cases_end m) [
        | inl same ↦ inl same
        | inr other ↦ inr (in_lasts C L m (has_in L m (is_list.all m is other)) own other)
      ]

  in_last : (m : Moment) → In (named_by C L) m → IsMoment C m × (last_of C m ≡ m)
  in_last m (inl same) = (subst (λ (y : Moment). IsMoment C y) same tt, subst (λ (y : Moment). last_of C y ≡ y) same refl)
  in_last m (inr h) = let its = lasts_in C L m h in (is_list.only m (in_has L m its.0), its.1)

  distinct_named : Distinct (named_by C L)
  distinct_named = (λ h. (lasts_in C L at_end h).2 refl, distinct_lasts C L)

  pub last_named : (m : Moment) → IsMoment C m → ranked (named_by C L) (name_by C L m) ≡ last_of C m
  last_named m is = at_rank (named_by C L) (last_of C m) (last_in (last_of C m) (last_moment C m is) (last_last C m))

  link_is : (m w : ℕ) (x : Stretch) → link_by C L m w ≡ Some x → (is_link C L m w x ≡ true) × InS (from_each (moments_in C) (moments_in C)) x
  link_is m w x e =
      elim (else_from (first_that (λ y. is_own C y && is_link C L m w y) (from_each (moments_in C) (moments_in C))) (first_that (is_link C L m w) (from_each (moments_in C) (moments_in C))) x e) [
        | inl one ↦ let found = first_found (λ y. is_own C y && is_link C L m w y) (from_each (moments_in C) (moments_in C)) x one in ((and_parts (is_own C x) (is_link C L m w x) found.0).1, found.1)
        | inr other ↦ first_found (is_link C L m w) (from_each (moments_in C) (moments_in C)) x other
      ]

  listed_link : (m w : ℕ) (x : Stretch) → is_link C L m w x ≡ true → InS (from_each (moments_in C) (moments_in C)) x → IsLink C (names_by C L) m w x
  listed_link m w x e there =
      let ends = each_in (moments_in C) (moments_in C) x there in
      let from = listed C (length C.threads) x.from ends.0 in
      let to = listed C (length C.threads) x.to ends.1 in
      let parts = and_parts (eqb (name_by C L x.from) m) (eqb (name_by C L x.to) w && is_next C x) e in
      let others = and_parts (eqb (name_by C L x.to) w) (is_next C x) parts.1 in
      record { from = from; to = to; from_name = eqb-true (name_by C L x.from) m parts.0; to_name = eqb-true (name_by C L x.to) w others.0; next = next_true x from to others.1 }

  next_link : (m w : Moment) → IsMoment C m → IsMoment C w → IsNext C m w → is_link C L (name_by C L m) (name_by C L w) (stretch m w) ≡ true
  next_link m w is its next = and_from (eqb (name_by C L m) (name_by C L m)) (eqb (name_by C L w) (name_by C L w) && is_next C (stretch m w)) (eq-eqb (name_by C L m) (name_by C L m) refl) (and_from (eqb (name_by C L w) (name_by C L w)) (is_next C (stretch m w)) (eq-eqb (name_by C L w) (name_by C L w) refl) (next_from (stretch m w) is its next))

  own_next : (r : Row) → IsRow C r → calls C r ≡ false → IsNext C (before r) (after r)
  own_next r is plain = record { later = (row_forward C r is, λ same. before_after same); none = λ z its one other. none_inside C sound r z plain one other }

  own_link : (r : Row) → IsRow C r → calls C r ≡ false → link_by C L (name_by C L (before r)) (name_by C L (after r)) ≡ Some (stretch (before r) (after r))
  own_link r is plain =
      let test : Stretch → Bool = λ y. is_own C y && is_link C L (name_by C L (before r)) (name_by C L (after r)) y in
      let there = in_each (moments_in C) (moments_in C) (before r) (after r) (every C (before r) is) (every C (after r) is) in
      let own : own_by C (before r) (after r) ≡ true = and_from (same_row r r) (not (calls C r)) (row_self r r refl) (ap not plain) in
      let fits = and_from (is_own C (stretch (before r) (after r))) (is_link C L (name_by C L (before r)) (name_by C L (after r)) (stretch (before r) (after r))) own (next_link (before r) (after r) is is (own_next r is plain)) in
      let some = some_of (first_that test (from_each (moments_in C) (moments_in C))) (first_exists test (from_each (moments_in C) (moments_in C)) (stretch (before r) (after r)) there fits) in
      let found = first_found test (from_each (moments_in C) (moments_in C)) some.0 some.1 in
      let parts = and_parts (is_own C some.0) (is_link C L (name_by C L (before r)) (name_by C L (after r)) some.0) found.0 in
      let link = listed_link (name_by C L (before r)) (name_by C L (after r)) some.0 parts.1 found.1 in
      let its = own_true C some.0.from some.0.to parts.0 in
      let from_is : last_of C some.0.from ≡ some.0.from = ap (last_of C) its.1 ∙ sym its.1 in
      let same : before its.0 ≡ before r = sym its.1 ∙ sym from_is ∙ sym (last_named some.0.from link.from) ∙ ap (ranked (named_by C L)) link.from_name ∙ last_named (before r) is in
      let row_is : its.0 ≡ r = before_same same in
      let whole : some.0 ≡ stretch (before r) (after r) = ap (λ (y : Moment). stretch y some.0.to) its.1 ∙ ap (λ (y : Moment). stretch (before its.0) y) its.2 ∙ ap (λ (q : Row). stretch (before q) (after q)) row_is in
      ap (λ (o : Option Stretch). else_first o (first_that (is_link C L (name_by C L (before r)) (name_by C L (after r))) (from_each (moments_in C) (moments_in C)))) some.1 ∙ ap (λ (y : Stretch). Some y) whole

  pub are_names_by : AreNames C (names_by C L)
  are_names_by = record {
    one = λ x one. ap (rank (named_by C L)) (one_last C sound x one);
    own = λ m is. subst (λ (y : Moment). (m ≡ y) ⊎ AreOne C (stretch m y)) (sym (last_named m is)) (last_one C sound m is);
    few = λ m is. let low = rank_below (named_by C L) (last_of C m) (last_in (last_of C m) (last_moment C m is) (last_last C m)) in omega arith;
    named = λ n early.
        let its = in_last (ranked (named_by C L) n) (ranked_in (named_by C L) n (omega arith)) in
        (its.0, ap (rank (named_by C L)) its.1 ∙ rank_ranked (named_by C L) n distinct_named (omega arith));
    end = refl;
    links = λ m w x e. let its = link_is m w x e in listed_link m w x its.0 its.1;
    linked = λ m w is its next other. else_some (first_that (λ y. is_own C y && is_link C L (name_by C L m) (name_by C L w) y) (from_each (moments_in C) (moments_in C))) (first_that (is_link C L (name_by C L m) (name_by C L w)) (from_each (moments_in C) (moments_in C))) (first_exists (is_link C L (name_by C L m) (name_by C L w)) (from_each (moments_in C) (moments_in C)) (stretch m w) (in_each (moments_in C) (moments_in C) m w (every C m is) (every C w its)) (next_link m w is its next));
    rows = λ r is plain. own_link r is plain;
  }

-- all moments of a course, thread by thread, are such a list
all_listed : (C : Course) → IsListing C (moments_in C)
all_listed C = record { all = λ m is other. in_has (moments_in C) m (every C m is); only = λ m h. listed C (length C.threads) m (has_in (moments_in C) m h) }

pub are_names : (C : Course) → IsSoundCourse C → AreNames C (names_in C)
are_names C sound = are_names_by C sound (moments_in C) (all_listed C)
