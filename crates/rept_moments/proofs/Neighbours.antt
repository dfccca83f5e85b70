-- The numbers that are added are those that are next to a number.
use Rattle.std.proofs.Common.{◌≡◌, ◌≢◌, ℕ, zero, suc, ◌+◌, ◌<◌, ◌≤◌, ◌⊎◌, ◌&&◌, ◌||◌, eqb, nat_lt, nat_le, cond, Bool, true, false, List, [], ◌∷◌, ◌++◌, length, Option, Some, None, inl, inr, refl, sym, ap, ◌∙◌, subst, arith}
use Rattle.std.specs.List.{Contains}
use Rattle.std.specs.Option.{is_some}
use Rattle.std.proofs.lemmas.Bool.{false≢true, cases_Bool, cases_lt, cases_eq, and_from, eq-eqb, ne_eqb, lt-ltb, le-ltb, leb-true, le-leb}
use Rattle.rept_steps.specs.Course.{Course, Row, row_of, rows_of, IsRow, row_at, IsSoundCourse}
use Rattle.rept_order.specs.Moments.{Moment, IsMoment, IsNext, Stretch, stretch, ArePause}
use Rattle.rept_order.specs.Moments.Moment.{before, after, at_end}
use Rattle.rept_order.specs.Moments.ArePause.{between, last}
use Rattle.rept_order.specs.Runs.{beside_by}
use Rattle.rept_order.specs.Legs.{points_before, number_of, leg_row}
use Rattle.rept_order.proofs.Legs.{number_point, thread_inside}
use Rattle.rept_moments.specs.Naming.Names.{AreNames}
use Rattle.rept_moments.specs.Naming.Making.{is_still, next_point, lasts, link_by, named_by, rank}
use Rattle.rept_moments.specs.Naming.Numbered.{row_on}
use Rattle.rept_moments.proofs.NamingLemmas.Naming.{some_is}
use Rattle.rept_moments.proofs.NamingLemmas.Making.{next_last, last_named}
use Rattle.rept_moments.specs.declared.side.PointSide.{PointSide}
use Rattle.rept_moments.specs.Ordering.{moment_at_side, in_order}
use Rattle.rept_moments.specs.Merging.{merged_at}
use Rattle.rept_moments.specs.Numbers.{numbers_of, numbered, unless}
use Rattle.rept_moments.specs.Numbering.{at_place, Numbered}
use Rattle.rept_moments.specs.Seen.{AddsNexts}
use Rattle.rept_moments.specs.Tables.{moments_at}
use Rattle.rept_moments.specs.Nexts.{nexts_of, merged_nexts, point_nexts, side_nexts, last_nexts, ends_to, numbers_next, Member, AddsOthers}
use Rattle.rept_moments.proofs.Places.{row_there, there_row, point_of_row, row_point, next_row}
use Rattle.rept_moments.proofs.Listing.{are_listed, row_at_side}
use Rattle.rept_moments.proofs.Numbering.{count_same, told}
use Rattle.rept_moments.proofs.Told.{told_is}
use Rattle.rept_moments.proofs.MayAct.{row_placed, name_placed}
use Rattle.rept_moments.proofs.Apart.{are_numbers}
use Rattle.rept_moments.proofs.Offers.{member_left, member_right, member_parts, next_has, has_next}

not_so : (b : Bool) → (b ≡ true → ⊥) → b ≡ false
not_so true k = absurd (k refl)
not_so false k = refl

some_none : {A : Type 0} {x : A} → Some x ≡ None → ⊥
some_none e = cc

none_some : {A : Type 0} {x : A} → None ≡ Some x → ⊥
none_some e = cc

some_same : {A : Type 0} {x y : A} → Some x ≡ Some y → x ≡ y
some_same e = cc

before_same : {q r : Row} → before q ≡ before r → q ≡ r
before_same e = cc

before_after : {q r : Row} → before q ≡ after r → ⊥
before_after e = cc

after_before : {q r : Row} → after q ≡ before r → ⊥
after_before e = cc

before_end : {q : Row} → before q ≡ at_end → ⊥
before_end e = cc

after_end : {q : Row} → after q ≡ at_end → ⊥
after_end e = cc

module _ (C : Course) (sound : IsSoundCourse C) where
  names : AreNames C (numbers_of C)
  names = are_numbers C sound

  -- a moment of the one number, to which one of the other is next
  pub record IsStep (n v : ℕ) : Type 0 where
    pub from : Moment
    pub from_is : IsMoment C from
    pub from_name : (numbers_of C).name from ≡ n
    pub to : Moment
    pub to_is : IsMoment C to
    pub to_name : (numbers_of C).name to ≡ v
    pub next : IsNext C from to

  is_some_from : {A : Type 0} (o : Option A) → o ≢ None → is_some o ≡ true
  is_some_from None out = absurd (out refl)
  is_some_from (Some d) out = refl

  pub step_next : (n v : ℕ) → n ≢ v → IsStep n v → (numbered C).next n v ≡ true
  step_next n v other its =
      let apart : (numbers_of C).name its.from ≢ (numbers_of C).name its.to = λ same. other (sym its.from_name ∙ same ∙ its.to_name) in
      let linked : (numbers_of C).link ((numbers_of C).name its.from) ((numbers_of C).name its.to) ≢ None = names.linked its.from its.to its.from_is its.to_is its.next apart in
      ap (λ (k : ℕ). is_some ((numbers_of C).link k v)) (sym its.from_name) ∙ ap (λ (k : ℕ). is_some ((numbers_of C).link ((numbers_of C).name its.from) k)) (sym its.to_name) ∙ is_some_from ((numbers_of C).link ((numbers_of C).name its.from) ((numbers_of C).name its.to)) linked

  pub next_step : (n v : ℕ) → (numbered C).next n v ≡ true → (n ≢ v) × IsStep n v
  next_step n v e =
      let found = some_is ((numbers_of C).link n v) e in
      let link = names.links n v found.0 found.1 in (
        λ same. none_some (sym (ap (λ (b : Bool). unless b (link_by C (in_order C) n v)) (eq-eqb n v same)) ∙ found.1),
        record { from = found.0.from; from_is = link.from; from_name = link.from_name; to = found.0.to; to_is = link.to; to_name = link.to_name; next = link.next },
      )

  -- moments that are one have one number
  still_at : (g : ℕ) → merged_at C g ≡ true → (is_some (leg_row C g) ≡ true) × (is_still C (stretch (after (row_on C g)) (next_point C (row_on C g))) ≡ true)
  still_at g e = parts (is_some (leg_row C g)) (is_still C (stretch (after (row_on C g)) (next_point C (row_on C g)))) e
    where
      parts : (a b : Bool) → (a && b) ≡ true → (a ≡ true) × (b ≡ true)
      parts true b k = (refl, k)
      parts false b k = absurd (false≢true k)

  merged_name : (g : ℕ) → merged_at C g ≡ true → (numbers_of C).name (after (row_on C g)) ≡ (numbers_of C).name (next_point C (row_on C g))
  merged_name g e = ap (rank (named_by C (in_order C))) (ap (λ (b : Bool). cond b (next_point C (row_on C g)) (after (row_on C g))) (still_at g e).1 ∙ sym (next_last C (row_on C g)))

  next_before : (g : ℕ) → IsRow C (row_on C g) → IsRow C (row_on C (suc g)) → next_point C (row_on C g) ≡ before (row_on C (suc g))
  next_before g is its =
      let next = next_row C g is in
      let inside : suc (row_on C g).step < length (rows_of C (row_on C g).thread) = subst (λ (q : Row). IsRow C q) next its in
      ap (λ (b : Bool). cond b (before (row_of (row_on C g).thread (suc (row_on C g).step))) at_end) (lt-ltb (suc (row_on C g).step) (length (rows_of C (row_on C g).thread)) inside) ∙ ap before (sym next)

  -- what is added is next
  merged_by : (b : Bool) (g n v : ℕ) → merged_at C g ≡ b → (merged_at C g ≡ true → (numbers_of C).name (after (row_on C g)) ≡ n) → Member (cond b (nexts_of C (after (row_on C g))) []) v → IsStep n v
  merged_by true g n v e name h =
      let is = there_row C (row_on C g) (still_at g e).0 in
      let its = has_next C sound (after (row_on C g)) is v h in
      record { from = after (row_on C g); from_is = is; from_name = name e; to = its.moment; to_is = its.is_one; to_name = its.name; next = its.next }
  merged_by false g n v e name h = absurd h

  merged_step : (g n v : ℕ) → (merged_at C g ≡ true → (numbers_of C).name (after (row_on C g)) ≡ n) → Member (merged_nexts C g) v → IsStep n v
  merged_step g n v name h = merged_by (merged_at C g) g n v refl name h

  own_step : (s : PointSide) (v : ℕ) → IsRow C (row_on C s.point) → Member (nexts_of C (moment_at_side C s)) v → IsStep ((numbers_of C).name (moment_at_side C s)) v
  own_step s v is h =
      let its = has_next C sound (moment_at_side C s) (row_at_side C s.is_after (row_on C s.point) is) v h in
      record { from = moment_at_side C s; from_is = row_at_side C s.is_after (row_on C s.point) is; from_name = refl; to = its.moment; to_is = its.is_one; to_name = its.name; next = its.next }

  point_step : (p v : ℕ) → IsRow C (row_on C p) → Member (point_nexts C p) v → IsStep ((numbers_of C).name (before (row_on C p))) v
  point_step zero v is h = absurd h
  point_step (suc g) v is h = merged_step g ((numbers_of C).name (before (row_on C (suc g)))) v (λ e. merged_name g e ∙ ap (numbers_of C).name (next_before g (there_row C (row_on C g) (still_at g e).0) is)) h

  rest_step : (b : Bool) (p v : ℕ) → IsRow C (row_on C p) → Member (cond b [] (point_nexts C p)) v → IsStep ((numbers_of C).name (beside_by (row_on C p) b)) v
  rest_step true p v is h = absurd h
  rest_step false p v is h = point_step p v is h

  pub side_step : (s : PointSide) (v : ℕ) → IsRow C (row_on C s.point) → Member (side_nexts C s) v → IsStep ((numbers_of C).name (moment_at_side C s)) v
  side_step s v is h =
      elim (member_parts (nexts_of C (moment_at_side C s)) (cond s.is_after [] (point_nexts C s.point)) v h) [
        | inl k ↦ own_step s v is k
        | inr k ↦ rest_step s.is_after s.point v is k
      ]

  last_step : (t n v : ℕ) → n ≡ length (rows_of C t) → Member (last_nexts C t n) v → IsStep (numbers_of C).end v
  last_step t zero v all h = absurd h
  last_step t (suc n) v all h =
      let is : IsRow C (row_of t n) = omega arith in
      let here : row_on C (number_of C t n) ≡ row_of t n = row_point C (row_of t n) is in
      merged_step (number_of C t n) (numbers_of C).end v (λ e.
      merged_name (number_of C t n) e
      ∙ ap (λ (q : Row). (numbers_of C).name (next_point C q)) here
      ∙ ap (λ (b : Bool). (numbers_of C).name (cond b (before (row_of t (suc n))) at_end)) (le-ltb (suc n) (length (rows_of C t)) (omega arith))
      ∙ names.end) h

  pub ends_step : (n v : ℕ) → Member (ends_to C n) v → IsStep (numbers_of C).end v
  ends_step zero v h = absurd h
  ends_step (suc t) v h =
      elim (member_parts (ends_to C t) (last_nexts C t (length (rows_of C t))) v h) [
        | inl k ↦ ends_step t v k
        | inr k ↦ last_step t (length (rows_of C t)) v refl k
      ]

  -- and all that is next is added
  ends_in : (n t v : ℕ) → t < n → Member (last_nexts C t (length (rows_of C t))) v → Member (ends_to C n) v
  ends_in zero t v less h = absurd (omega arith)
  ends_in (suc n) t v less h =
      elim (cases_lt t n) [
        | inl low ↦ member_left (ends_to C n) (last_nexts C n (length (rows_of C n))) v (ends_in n t v low h)
        | inr past ↦ let same : t ≡ n = omega arith in member_right (ends_to C n) (last_nexts C n (length (rows_of C n))) v (subst (λ (k : ℕ). Member (last_nexts C k (length (rows_of C k))) v) same h)
      ]

  merged_here : (r : Row) (w : Moment) → IsRow C r → (numbers_of C).last ((numbers_of C).name (after r)) ≡ w → after r ≢ w → merged_at C (point_of_row C r) ≡ true
  merged_here r w is last_is other =
      let here = row_point C r is in
      subst (λ (q : Row). (is_some (row_at C q) && is_still C (stretch (after q) (next_point C q))) ≡ true) (sym here) (and_from (is_some (row_at C r)) (is_still C (stretch (after r) (next_point C r))) (row_there C r is) (still_by (is_still C (stretch (after r) (next_point C r))) refl))
    where
      still_by : (b : Bool) → is_still C (stretch (after r) (next_point C r)) ≡ b → is_still C (stretch (after r) (next_point C r)) ≡ true
      still_by true e = e
      still_by false e = absurd (other (sym (ap (λ (c : Bool). cond c (next_point C r) (after r)) e) ∙ sym (last_named C sound (in_order C) (are_listed C) (after r) is) ∙ last_is))

  held_merged : (r : Row) (v : ℕ) → IsRow C r → merged_at C (point_of_row C r) ≡ true → Member (nexts_of C (after r)) v → Member (merged_nexts C (point_of_row C r)) v
  held_merged r v is e h = subst (λ (b : Bool). Member (cond b (nexts_of C (after (row_on C (point_of_row C r)))) []) v) (sym e) (subst (λ (q : Row). Member (nexts_of C (after q)) v) (sym (row_point C r is)) h)

  end_last : (w : Moment) → IsNext C at_end w → ⊥
  end_last (before r) next = next.later.0
  end_last (after r) next = next.later.0
  end_last at_end next = next.later.1 refl

  module _ (n v : ℕ) (st : IsStep n v) where
    here : (m : Moment) → st.from ≡ m → Member (nexts_of C m) v
    here m same =
        let is : IsMoment C m = subst (λ (y : Moment). IsMoment C y) same st.from_is in
        let next : IsNext C m st.to = subst (λ (y : Moment). IsNext C y st.to) same st.next in
        subst (λ (k : ℕ). Member (nexts_of C m) k) st.to_name (next_has C sound m is st.to st.to_is next)

    -- by the last moment of the number itself
    by_itself : (o : Option PointSide) → st.from ≡ told C o → Member (numbers_next C o) v
    by_itself None same = absurd (end_last st.to (subst (λ (y : Moment). IsNext C y st.to) same st.next))
    by_itself (Some s) same = member_left (nexts_of C (moment_at_side C s)) (cond s.is_after [] (point_nexts C s.point)) v (here (moment_at_side C s) same)

    -- by a moment that is one with it
    by_side : (b : Bool) (p t i : ℕ) (xs : List ℕ) → IsRow C (row_of t i) → st.from ≡ after (row_of t i) → merged_at C (point_of_row C (row_of t i)) ≡ true → beside_by (row_on C p) b ≡ before (row_of t (suc i)) → Member (xs ++ cond b [] (point_nexts C p)) v
    by_side true p t i xs is same e final = absurd (after_before final)
    by_side false p t i xs is same e final =
        let rows : row_on C p ≡ row_of t (suc i) = before_same final in
        let place : p ≡ suc (number_of C t i) = sym (number_point C p) ∙ ap (λ (q : Row). number_of C q.thread q.step) rows ∙ up (points_before C.threads t) i in
        member_right xs (point_nexts C p) v (subst (λ (k : ℕ). Member (point_nexts C k) v) (sym place) (held_merged (row_of t i) v is e (here (after (row_of t i)) same)))
      where
        up : (a b : ℕ) → a + suc b ≡ suc (a + b)
        up a b = omega arith

    by_between : (o : Option PointSide) (t i : ℕ) → suc i < length (rows_of C t) → told C o ≡ before (row_of t (suc i)) → st.from ≡ after (row_of t i) → merged_at C (point_of_row C (row_of t i)) ≡ true → Member (numbers_next C o) v
    by_between None t i less final same e = absurd (before_end (sym final))
    by_between (Some s) t i less final same e = by_side s.is_after s.point t i (nexts_of C (moment_at_side C s)) (omega arith) same e final

    no_side : (b : Bool) (r : Row) → beside_by r b ≡ at_end → ⊥
    no_side false r e = before_end e
    no_side true r e = after_end e

    by_end : (o : Option PointSide) (t i : ℕ) → suc i ≡ length (rows_of C t) → told C o ≡ at_end → st.from ≡ after (row_of t i) → merged_at C (point_of_row C (row_of t i)) ≡ true → Member (numbers_next C o) v
    by_end None t i all final same e =
        let is : IsRow C (row_of t i) = omega arith in
        ends_in (length C.threads) t v (thread_inside C (row_of t i) is) (subst (λ (k : ℕ). Member (last_nexts C t k) v) all (held_merged (row_of t i) v is e (here (after (row_of t i)) same)))
    by_end (Some s) t i all final same e = absurd (no_side s.is_after (row_on C s.point) final)

    by_pause : (o : Option PointSide) (w : Moment) (x : Stretch) → told C o ≡ w → (numbers_of C).last n ≡ w → x ≡ stretch st.from w → ArePause C x → Member (numbers_next C o) v
    by_pause o w x place last_is is (between t i less same) =
        let from : st.from ≡ after (row_of t i) = ap (λ (y : Stretch). y.from) (sym is ∙ same) in
        let to : w ≡ before (row_of t (suc i)) = ap (λ (y : Stretch). y.to) (sym is ∙ same) in
        let last_at : (numbers_of C).last ((numbers_of C).name (after (row_of t i))) ≡ w = ap (λ (y : Moment). (numbers_of C).last ((numbers_of C).name y)) (sym from) ∙ ap (numbers_of C).last st.from_name ∙ last_is in
        by_between o t i less (place ∙ to) from (merged_here (row_of t i) w (omega arith) last_at (λ e. after_before (e ∙ to)))
    by_pause o w x place last_is is (last t i all same) =
        let from : st.from ≡ after (row_of t i) = ap (λ (y : Stretch). y.from) (sym is ∙ same) in
        let to : w ≡ at_end = ap (λ (y : Stretch). y.to) (sym is ∙ same) in
        let last_at : (numbers_of C).last ((numbers_of C).name (after (row_of t i))) ≡ w = ap (λ (y : Moment). (numbers_of C).last ((numbers_of C).name y)) (sym from) ∙ ap (numbers_of C).last st.from_name ∙ last_is in
        by_end o t i all (place ∙ to) from (merged_here (row_of t i) w (omega arith) last_at (λ e. after_end (e ∙ to)))

    covered : (o : Option PointSide) → told C o ≡ (numbers_of C).last n → Member (numbers_next C o) v
    covered o place =
        elim (names.own st.from st.from_is) [
          | inl same ↦ by_itself o (same ∙ ap (numbers_of C).last st.from_name ∙ sym place)
          | inr one ↦ by_pause o ((numbers_of C).last n) (stretch st.from ((numbers_of C).last ((numbers_of C).name st.from))) place refl (ap (λ (k : ℕ). stretch st.from ((numbers_of C).last k)) st.from_name) one.pause
        ]

  place_there : (list : List PointSide) (n : ℕ) → at_place list n ≡ None → length list ≤ n
  place_there list n e =
      elim (cases_lt n (length list)) [
        | inr past ↦ past
        | inl less ↦ absurd (held list less e)
      ]
    where
      held : (xs : List PointSide) → n < length xs → at_place xs n ≡ None → ⊥
      held [] less k = omega arith
      held (x ∷ xs) less k =
          elim (cases_eq n (length xs)) [
            | inl same ↦ some_none (sym (ap (λ (b : Bool). cond b (Some x) (at_place xs n)) (eq-eqb n (length xs) same)) ∙ k)
            | inr other ↦ held xs (omega arith) (sym (ap (λ (b : Bool). cond b (Some x) (at_place xs n)) (ne_eqb n (length xs) other)) ∙ k)
          ]

  module _ (num : Numbered) (kept : moments_at C num.list ≡ lasts C (in_order C)) (n : ℕ) (early : n ≤ (numbers_of C).end) where
    told_here : told C (at_place num.list n) ≡ (numbers_of C).last n
    told_here = told_is C C num n (at_place num.list n) (told C (at_place num.list n)) refl kept refl refl

    steps_by : (o : Option PointSide) (v : ℕ) → at_place num.list n ≡ o → Member (numbers_next C o) v → IsStep n v
    steps_by None v e h =
        let past = place_there num.list n e in
        let count : length (lasts C (in_order C)) ≡ length num.list = ap (λ (ms : List Moment). length ms) (sym kept) ∙ count_same C num.list in
        let same : (numbers_of C).end ≡ n = omega arith in
        subst (λ (k : ℕ). IsStep k v) same (ends_step (length C.threads) v h)
    steps_by (Some s) v e h = subst (λ (k : ℕ). IsStep k v) (name_placed C sound num kept n s e) (side_step s v (row_placed C sound num kept n s e) h)

    pub nexts_added : (old new : List ℕ) → AddsOthers n (Member (numbers_next C (at_place num.list n))) old new → AddsNexts (numbered C) n old new
    nexts_added old new its w = (forth, back)
      where
        forth : Contains new w → Contains old w ⊎ ((numbered C).next n w ≡ true)
        forth h =
            elim ((its w).0 h) [
              | inl k ↦ inl k
              | inr k ↦ inr (step_next n w (λ same. k.1 (sym same)) (steps_by (at_place num.list n) w refl k.0))
            ]

        back : Contains old w ⊎ ((numbered C).next n w ≡ true) → Contains new w
        back (inl k) = (its w).1 (inl k)
        back (inr e) = let st = next_step n w e in (its w).1 (inr (covered n w st.1 (at_place num.list n) told_here, λ same. st.0 (sym same)))
