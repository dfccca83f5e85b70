-- What may act between a number and one that is next to it.
use Rattle.std.proofs.Common.{◌≡◌, ℕ, ◌<◌, ◌≤◌, ◌&&◌, ◌||◌, not, eqb, cond, Bool, true, false, List, [], ◌∷◌, length, Option, Some, None, inl, inr, refl, sym, ap, ◌∙◌, subst, arith}
use Rattle.std.specs.Option.{is_some}
use Rattle.std.proofs.lemmas.Bool.{false≢true, cases_eq, and_parts, and_from, eq-eqb, ne_eqb, eqb-true}
use Rattle.rept_steps.specs.Course.{Course, Row, IsRow, calls, IsSoundCourse}
use Rattle.rept_order.specs.Moments.{Moment, IsMoment, Stretch, stretch, MayAct, stores}
use Rattle.rept_order.specs.Moments.Moment.{before, after, at_end}
use Rattle.rept_order.specs.Moments.Act.{row, untraced}
use Rattle.rept_order.specs.Runs.{beside_by}
use Rattle.rept_order.specs.Times.{same_row, wholly_before, may_act_between}
use Rattle.rept_order.specs.Legs.{number_of, leg_row}
use Rattle.rept_order.proofs.Between.{not_both}
use Rattle.rept_order.proofs.Decide.{row_self}
use Rattle.rept_order.proofs.Acting.{may_act_true, may_act_from}
use Rattle.rept_order.proofs.Legs.{number_point}
use Rattle.rept_moments.specs.Naming.Names.{AreNames, NoOwn}
use Rattle.rept_moments.specs.Naming.Making.{lasts}
use Rattle.rept_moments.specs.Naming.Numbered.{row_on, may_act_by, untraced_by}
use Rattle.rept_moments.proofs.NamingLemmas.Naming.{stores_inside}
use Rattle.rept_moments.proofs.NamingLemmas.Ends.{else_may_act, else_untraced}
use Rattle.rept_moments.specs.declared.side.PointSide.{PointSide}
use Rattle.rept_moments.specs.Ordering.{moment_at_side, in_order}
use Rattle.rept_moments.specs.Numbers.{numbers_of, numbered}
use Rattle.rept_moments.specs.Numbering.{at_place, Numbered}
use Rattle.rept_moments.specs.Tables.{moments_at}
use Rattle.rept_moments.specs.Between.{own_to, IsOwn, IsOwnBetween}
use Rattle.rept_moments.specs.Seen.{seen_many, IsRowAt}
use Rattle.rept_moments.proofs.Places.{row_there, there_row, point_of_row, row_point}
use Rattle.rept_moments.proofs.Listing.{at_row}
use Rattle.rept_moments.proofs.Numbering.{count_same}
use Rattle.rept_moments.proofs.Told.{told_is}
use Rattle.rept_moments.proofs.Apart.{no_pause, are_numbers}

before_same : {q r : Row} → before q ≡ before r → q ≡ r
before_same e = cc

before_after : {q r : Row} → before q ≡ after r → ⊥
before_after e = cc

before_end : {q : Row} → before q ≡ at_end → ⊥
before_end e = cc

same_act : {q r : Row} → row q ≡ row r → q ≡ r
same_act e = cc

not_not : (b : Bool) → not b ≡ true → b ≡ false
not_not true e = absurd (false≢true e)
not_not false e = refl

not_so : (b : Bool) → (b ≡ true → ⊥) → b ≡ false
not_so true k = absurd (k refl)
not_so false k = refl

and_off : (a : Bool) → (a && false) ≡ false
and_off true = refl
and_off false = refl

place_few : (list : List PointSide) (n : ℕ) (s : PointSide) → at_place list n ≡ Some s → n < length list
place_few [] n s e = absurd (none_some e)
  where
    none_some : {x : PointSide} → None ≡ Some x → ⊥
    none_some k = cc
place_few (x ∷ list) n s e =
    elim (cases_eq n (length list)) [
      | inl same ↦ omega arith
      | inr other ↦ let less = place_few list n s (sym (ap (λ (b : Bool). cond b (Some x) (at_place list n)) (ne_eqb n (length list) other)) ∙ e) in omega arith
    ]

module _ (C : Course) (sound : IsSoundCourse C) where
  names : AreNames C (numbers_of C)
  names = are_numbers C sound

  -- a row's own moment before it is the last one of its number
  own_last : (m w i : ℕ) → IsOwn C m w i → before (row_on C i) ≡ (numbers_of C).last m
  own_last m w i own =
      elim (names.own (before (row_on C i)) own.row) [
        | inl same ↦ same ∙ ap (numbers_of C).last own.before
        | inr one ↦ absurd (no_pause C (row_on C i) ((numbers_of C).last ((numbers_of C).name (before (row_on C i)))) (stretch (before (row_on C i)) ((numbers_of C).last ((numbers_of C).name (before (row_on C i))))) refl one.pause)
      ]

  -- so is that of a row that may be a call
  pub row_last : (m i : ℕ) → is_some (leg_row C i) ≡ true → (numbers_of C).name (before (row_on C i)) ≡ m → before (row_on C i) ≡ (numbers_of C).last m
  row_last m i there its =
      elim (names.own (before (row_on C i)) (there_row C (row_on C i) there)) [
        | inl same ↦ same ∙ ap (numbers_of C).last its
        | inr one ↦ absurd (no_pause C (row_on C i) ((numbers_of C).last ((numbers_of C).name (before (row_on C i)))) (stretch (before (row_on C i)) ((numbers_of C).last ((numbers_of C).name (before (row_on C i))))) refl one.pause)
      ]

  module _ (n : Numbered) (kept : moments_at C n.list ≡ lasts C (in_order C)) (m : ℕ) where
    module _ (s : PointSide) (e : at_place n.list m ≡ Some s) where
      placed : (numbers_of C).last m ≡ moment_at_side C s
      placed = sym (told_is C C n m (Some s) (moment_at_side C s) refl kept (sym e) refl)

      early : m ≤ (numbers_of C).end
      early =
          let less = place_few n.list m s e in
          let count : length (lasts C (in_order C)) ≡ length n.list = ap (λ (ms : List Moment). length ms) (sym kept) ∙ count_same C n.list in
          omega arith

      pub row_placed : IsRow C (row_on C s.point)
      row_placed = at_row C s.is_after (row_on C s.point) (subst (λ (y : Moment). IsMoment C y) placed (names.named m early).0)

      pub name_placed : (numbers_of C).name (moment_at_side C s) ≡ m
      name_placed = ap (numbers_of C).name (sym placed) ∙ (names.named m early).1

      pub leads_placed : is_some (leg_row C s.point) ≡ true
      leads_placed = row_there C (row_on C s.point) row_placed

      pub between_own : (w : ℕ) → s.is_after ≡ false → IsOwnBetween C m w (own_to C s.point w)
      between_own w is = go (not (calls C (row_on C s.point)) && eqb ((numbers_of C).name (after (row_on C s.point))) w) refl
        where
          own_moment : moment_at_side C s ≡ before (row_on C s.point)
          own_moment = ap (beside_by (row_on C s.point)) is

          go : (b : Bool) → (not (calls C (row_on C s.point)) && eqb ((numbers_of C).name (after (row_on C s.point))) w) ≡ b → IsOwnBetween C m w (cond b (Some s.point) None)
          go true t =
              let parts = and_parts (not (calls C (row_on C s.point))) (eqb ((numbers_of C).name (after (row_on C s.point))) w) t in
              record {
                row = row_placed;
                plain = not_not (calls C (row_on C s.point)) parts.0;
                before = ap (numbers_of C).name (sym own_moment) ∙ name_placed;
                after = eqb-true ((numbers_of C).name (after (row_on C s.point))) w parts.1;
              }
          go false t = λ i own.
              let same : row_on C i ≡ row_on C s.point = before_same (own_last m w i own ∙ placed ∙ own_moment) in
              let plain : calls C (row_on C s.point) ≡ false = subst (λ (q : Row). calls C q ≡ false) same own.plain in
              let last : (numbers_of C).name (after (row_on C s.point)) ≡ w = subst (λ (q : Row). (numbers_of C).name (after q) ≡ w) same own.after in
              false≢true (sym t ∙ and_from (not (calls C (row_on C s.point))) (eqb ((numbers_of C).name (after (row_on C s.point))) w) (ap not plain) (eq-eqb ((numbers_of C).name (after (row_on C s.point))) w last))

      pub row_here : s.is_after ≡ false → IsRowAt (seen_many C) m (Some s.point)
      row_here is = (leads_placed, ap (numbers_of C).name (sym own_moment) ∙ name_placed, only)
        where
          own_moment : moment_at_side C s ≡ before (row_on C s.point)
          own_moment = ap (beside_by (row_on C s.point)) is

          only : (j : ℕ) → is_some (leg_row C j) ≡ true → (numbers_of C).name (before (row_on C j)) ≡ m → j ≡ s.point
          only j there its =
              let same : row_on C j ≡ row_on C s.point = before_same (row_last m j there its ∙ placed ∙ own_moment) in
              sym (number_point C j) ∙ ap (λ (r : Row). number_of C r.thread r.step) same ∙ number_point C s.point

      pub no_row_after : s.is_after ≡ true → IsRowAt (seen_many C) m None
      no_row_after is i there its = before_after (row_last m i there its ∙ placed ∙ ap (beside_by (row_on C s.point)) is)

      pub between_after : (w : ℕ) → s.is_after ≡ true → IsOwnBetween C m w None
      between_after w is i own = before_after (own_last m w i own ∙ placed ∙ ap (beside_by (row_on C s.point)) is)

    pub no_row_end : at_place n.list m ≡ None → IsRowAt (seen_many C) m None
    no_row_end e i there its = before_end (row_last m i there its ∙ sym (told_is C C n m None at_end refl kept (sym e) refl))

    pub between_end : (w : ℕ) → at_place n.list m ≡ None → IsOwnBetween C m w None
    between_end w e i own = before_end (own_last m w i own ∙ sym (told_is C C n m None at_end refl kept (sym e) refl))

  -- between the moments of a row that is no call
  module _ (m w j : ℕ) (own : IsOwn C m w j) where
    abbrev q : Row
    q = row_on C j

    own_link : (numbers_of C).link m w ≡ Some (stretch (before q) (after q))
    own_link = ap (λ (k : ℕ). (numbers_of C).link k w) (sym own.before) ∙ ap (λ (k : ℕ). (numbers_of C).link ((numbers_of C).name (before q)) k) (sym own.after) ∙ names.rows q own.row own.plain

    itself : MayAct C (row q) (stretch (before q) (after q))
    itself = record {
      not_before = λ e. not_both C sound (row q) (before q) own.row e (inl refl);
      not_after = λ l. not_both C sound (row q) (after q) own.row (inl refl) l;
      alone = λ r plain e. ap row (before_same (ap (λ (x : Stretch). x.from) e));
    }

    pub own_may_act : (i : ℕ) → (stores C (row_on C i) && eqb j i) ≡ may_act_by C (row_on C i) ((numbers_of C).link m w)
    own_may_act i = by_store (stores C (row_on C i)) refl ∙ sym (ap (may_act_by C (row_on C i)) own_link)
      where
        by_store : (b : Bool) → stores C (row_on C i) ≡ b → (stores C (row_on C i) && eqb j i) ≡ (stores C (row_on C i) && may_act_between C (row (row_on C i)) (before q) (after q))
        by_store false e = ap (λ (b : Bool). b && eqb j i) e ∙ sym (ap (λ (b : Bool). b && may_act_between C (row (row_on C i)) (before q) (after q)) e)
        by_store true e =
            elim (cases_eq j i) [
              | inl same ↦ ap (λ (b : Bool). stores C (row_on C i) && b) (eq-eqb j i same ∙ sym (subst (λ (k : ℕ). may_act_between C (row (row_on C k)) (before q) (after q) ≡ true) same (may_act_from C sound (row q) (before q) (after q) own.row own.row own.row itself)))
              | inr other ↦ ap (λ (b : Bool). stores C (row_on C i) && b) (ne_eqb j i other ∙ sym (not_so (may_act_between C (row (row_on C i)) (before q) (after q)) (λ t.
                  let may_act = may_act_true C sound (row (row_on C i)) (before q) (after q) (stores_inside C (row_on C i) e) own.row own.row t in
                  let same : row_on C i ≡ q = same_act (may_act.alone q own.plain refl) in
                  other (sym (number_point C j) ∙ ap (λ (r : Row). number_of C r.thread r.step) (sym same) ∙ number_point C i))))
            ]

    pub own_untraced : (b : Bool) → (not true && not b) ≡ untraced_by C ((numbers_of C).link m w)
    own_untraced b =
        let alike : (same_row q q && not (calls C q)) ≡ true = and_from (same_row q q) (not (calls C q)) (row_self q q refl) (ap not own.plain) in
        sym (ap (untraced_by C) own_link ∙ ap (λ (a : Bool). is_some C.untraced && (not (wholly_before C untraced (before q)) && (not false && (not a || false)))) alike ∙ ap (λ (a : Bool). is_some C.untraced && a) (and_off (not (wholly_before C untraced (before q)))) ∙ and_off (is_some C.untraced))

  none_own : (m w : ℕ) → IsOwnBetween C m w None → NoOwn C (numbers_of C) m w
  none_own m w none r inside plain before_is after_is =
      let here : row_on C (point_of_row C r) ≡ r = row_point C r inside in
      none (point_of_row C r) (record {
        row = subst (λ (p : Row). IsRow C p) (sym here) inside;
        plain = subst (λ (p : Row). calls C p ≡ false) (sym here) plain;
        before = subst (λ (p : Row). (numbers_of C).name (before p) ≡ m) (sym here) before_is;
        after = subst (λ (p : Row). (numbers_of C).name (after p) ≡ w) (sym here) after_is;
      })

  pub rest_may_act : (m w i : ℕ) → (numbered C).next m w ≡ true → IsOwnBetween C m w None → (stores C (row_on C i) && (not ((numbered C).past i m) && not ((numbered C).ahead i w))) ≡ may_act_by C (row_on C i) ((numbers_of C).link m w)
  rest_may_act m w i next none = else_may_act C sound (numbers_of C) names m w i next (none_own m w none)

  pub untraced_is : (m w : ℕ) (o : Option ℕ) → (numbered C).next m w ≡ true → IsOwnBetween C m w o → (not (is_some o) && not ((numbered C).untraced_past m)) ≡ untraced_by C ((numbers_of C).link m w)
  untraced_is m w (Some j) next own = own_untraced m w j own ((numbered C).untraced_past m)
  untraced_is m w None next none = else_untraced C sound (numbers_of C) names m w next (none_own m w none)
