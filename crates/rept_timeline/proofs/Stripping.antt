-- Strips of several threads are found number by number.
use mathlib.Core.Logic.{∥∥₁_elim, ∥∥₁_prop}
use Rattle.std.proofs.Props.{props}
use Rattle.std.proofs.Common.{◌≡◌, ℕ, zero, suc, ◌+◌, ◌-◌, ◌<◌, ◌≤◌, ◌&&◌, not, eqb, Bool, true, false, List, [], ◌∷◌, ◌++◌, length, Option, Some, None, slice_get, inl, inr, refl, sym, ap, ◌∙◌, subst, arith, length-append}
use Rattle.std.specs.Option.{IsSome}
use Rattle.std.proofs.lemmas.Bool.{false≢true, cases_lt, cases_order, and_parts, eqb-true}
use Rattle.std.proofs.lemmas.Option.{slice_get_past}
use Rattle.rept_steps.specs.Course.{Course, Row, IsSoundCourse}
use Rattle.rept_order.specs.Moments.{Stretch, stores}
use Rattle.rept_order.specs.Moments.Act.{row}
use Rattle.rept_order.specs.Times.{may_act_between}
use Rattle.rept_order.specs.Legs.{leg_row}
use Rattle.rept_report.specs.Timeline.{Timeline, IsJoined, IsActingFrom, IsClear, IsLike, IsAlike, MayActToo, IsCut, IsPause, IsStrip}
use Rattle.rept_report.specs.declared.paths.Strip.{Strip}
use Rattle.rept_moments.specs.Naming.Numbered.{row_on, may_act_by}
use Rattle.rept_moments.proofs.NamingLemmas.Ends.{ahead_back}
use Rattle.rept_moments.specs.Numbers.{numbers_of, numbered}
use Rattle.rept_moments.specs.Between.{IsOwn, IsOwnBetween}
use Rattle.rept_moments.specs.Seen.{seen_many}
use Rattle.rept_moments.proofs.Apart.{are_numbers}
use Rattle.rept_moments.proofs.MayAct.{own_may_act, rest_may_act, untraced_is}
use Rattle.rept_moments.proofs.Places.{leg_below, get_end, get_before}
use Rattle.rept_extents.specs.Timelines.{as_timeline}
use Rattle.rept_timeline.specs.Strips.{AreTwo, DoRowsStay, IsOfOtherThread, IsPart, IsLonger, AreStripsBelow, AreManyStrips}
use Rattle.rept_timeline.proofs.Fronts.{stores_row, past_front}
use Rattle.rept_timeline.proofs.Acting.{past_may_act, open_may_act}

not_so : (b : Bool) → (b ≡ true → ⊥) → b ≡ false
not_so true k = absurd (k refl)
not_so false k = refl

not_not : (b : Bool) → not b ≡ true → b ≡ false
not_not true e = absurd (false≢true e)
not_not false e = refl

none_some : {p : ℕ} → None ≡ Some p → ⊥
none_some e = cc

some_same : {p q : ℕ} → Some p ≡ Some q → p ≡ q
some_same e = cc

strip_same : {x y : Strip} → Some x ≡ Some y → x ≡ y
strip_same e = cc

no_strip : {x : Strip} → None ≡ Some x → ⊥
no_strip e = cc

module _ (C : Course) where
  abbrev T : Timeline
  T = as_timeline (seen_many C)

  may_act_stores : (r : Row) (o : Option Stretch) → may_act_by C r o ≡ true → stores C r ≡ true
  may_act_stores r None e = absurd (false≢true e)
  may_act_stores r (Some x) e = (and_parts (stores C r) (may_act_between C (row r) x.from x.to) e).0

  -- what may act writes
  pub acting_stores : (i m w : ℕ) → (numbered C).may_act i m w ≡ true → stores C (row_on C i) ≡ true
  acting_stores i m w e = may_act_stores (row_on C i) ((numbers_of C).link m w) e

  -- between the numbers of a row
  pub clear_own : ∥ IsSoundCourse C ∥₁ → (k own : ℕ) → (numbered C).next k (k + 1) ≡ true → IsOwn C k (k + 1) own → IsClear T k
  clear_own sound k own next its = record {
    light = ∥∥₁_elim sound (hlevel props) (λ s. sym (untraced_is C s k (k + 1) (Some own) next its));
    own = λ i e. ∥∥₁_elim sound (hlevel props) (λ s.
        let parts = and_parts (stores C (row_on C i)) (eqb own i) (own_may_act C s k (k + 1) own its i ∙ e) in
        subst (λ (j : ℕ). (numbered C).before j ≡ k) (eqb-true own i parts.1) its.before);
  }

  -- a row that may act is found
  may_act_none : (k from : ℕ) → IsActingFrom T k (k + 1) from None → (i : ℕ) → from ≤ i → (numbered C).may_act i k (k + 1) ≡ true → ⊥
  may_act_none k from none i late e =
      let there = leg_below C i (stores_row C i (acting_stores i k (k + 1) e)) in
      false≢true (sym (none i late (omega arith)) ∙ e)

  pub own_end : (k from : ℕ) → ((i : ℕ) → i < from → (numbered C).may_act i k (k + 1) ≡ true → (numbered C).before i ≡ k) → IsActingFrom T k (k + 1) from None → (i : ℕ) → (numbered C).may_act i k (k + 1) ≡ true → (numbered C).before i ≡ k
  own_end k from own none i e =
      elim (cases_lt i from) [
        | inl early ↦ own i early e
        | inr late ↦ absurd (may_act_none k from none i late e)
      ]

  -- the untraced prefix crosses, and so does another row
  pub untraced_crosses : (k : ℕ) → (numbered C).untraced k (k + 1) ≡ true → IsClear T k → ⊥
  untraced_crosses k untraced clear = false≢true (sym clear.light ∙ untraced)

  pub other_crosses : (k i : ℕ) → IsOfOtherThread T k i → IsClear T k → ⊥
  other_crosses k i other clear = other.other (clear.own i other.may_act)

  module _ (sound : ∥ IsSoundCourse C ∥₁) (p k : ℕ) (two : AreTwo C p k) where
    first_next : (numbered C).next p (p + 1) ≡ true
    first_next = let up = two.order in two.next p (omega arith) up

    second_next : (numbered C).next k (k + 1) ≡ true
    second_next = let up = two.order in two.next k up (omega arith)

    -- what lies ahead of a later number lies ahead of an earlier one
    ahead_down : IsSoundCourse C → (i d : ℕ) → stores C (row_on C i) ≡ true → p + d ≤ k → (numbered C).ahead i (p + d + 1) ≡ true → (numbered C).ahead i (p + 1) ≡ true
    ahead_down s i zero writes up ahead = subst (λ (n : ℕ). (numbered C).ahead i n ≡ true) (let here : p + zero + 1 ≡ p + 1 = omega arith in here) ahead
    ahead_down s i (suc d) writes up ahead =
        let next : (numbered C).next (p + suc d) (p + suc d + 1) ≡ true = two.next (p + suc d) (omega arith) up in
        let back : (numbered C).ahead i (p + suc d) ≡ true = ahead_back C s (numbers_of C) (are_numbers C s) i (p + suc d) (p + suc d + 1) writes next ahead in
        ahead_down s i d writes (omega arith) (subst (λ (n : ℕ). (numbered C).ahead i n ≡ true) (let here : p + suc d ≡ p + d + 1 = omega arith in here) back)

    not_ahead : (i : ℕ) → stores C (row_on C i) ≡ true → (numbered C).ahead i (p + 1) ≡ false → (numbered C).ahead i (k + 1) ≡ false
    not_ahead i writes none =
        not_so ((numbered C).ahead i (k + 1)) (λ e.
        let up = two.order in
        let there : k ≡ p + (k - p) = omega arith in
        false≢true (sym none ∙ ∥∥₁_elim sound (hlevel props) (λ s. ahead_down s i (k - p) writes (omega arith) (subst (λ (n : ℕ). (numbered C).ahead i (n + 1) ≡ true) there e))))

    parts_of : (i : ℕ) → (numbered C).may_act i p (p + 1) ≡ true → ((numbered C).past i p ≡ false) × ((numbered C).ahead i (p + 1) ≡ false)
    parts_of i e =
        let both = and_parts (stores C (row_on C i)) (not ((numbered C).past i p) && not ((numbered C).ahead i (p + 1))) (∥∥₁_elim sound (hlevel props) (λ s. rest_may_act C s p (p + 1) i first_next two.first ∙ e)) in
        let two_parts = and_parts (not ((numbered C).past i p)) (not ((numbered C).ahead i (p + 1))) both.1 in
        (not_not ((numbered C).past i p) two_parts.0, not_not ((numbered C).ahead i (p + 1)) two_parts.1)

    -- a row that may act at the pause and isn't over may act
    pub rows_too : DoRowsStay T p k → (i : ℕ) → (numbered C).may_act i p (p + 1) ≡ true → (numbered C).may_act i k (k + 1) ≡ true
    rows_too stay i e = open_may_act C sound k (k + 1) second_next two.second i (stay i e) (not_ahead i (acting_stores i p (p + 1) e) (parts_of i e).1)

    pub stays_all : DoRowsStay T p k → ((numbered C).untraced p (p + 1) ≡ true → (numbered C).untraced k (k + 1) ≡ true) → MayActToo T p k
    stays_all stay untraced = record { untraced = untraced; rows = rows_too stay }

    -- one that is over doesn't
    pub over_not : (i : ℕ) → (numbered C).may_act i p (p + 1) ≡ true → (numbered C).past i k ≡ true → MayActToo T p k → ⊥
    over_not i e past too = false≢true (sym (past_may_act C sound k (k + 1) second_next two.second i past) ∙ too.rows i e)

    -- the rows of a thread from one on that isn't over aren't
    pub stay_more : (from row last : ℕ) → ((i : ℕ) → i < from → (numbered C).may_act i p (p + 1) ≡ true → (numbered C).past i k ≡ false) → IsActingFrom T p (p + 1) from (Some row) → (numbered C).past row k ≡ false → ((q : ℕ) → row ≤ q → q < last → IsSome (leg_row C q)) → (i : ℕ) → i < last → (numbered C).may_act i p (p + 1) ≡ true → (numbered C).past i k ≡ false
    stay_more from first last clear found open_at leads i less e =
        elim (cases_lt i from) [
          | inl early ↦ clear i early e
          | inr late ↦
              elim (cases_lt i first) [
                | inl between ↦ absurd (false≢true (sym (found.3 i late between) ∙ e))
                | inr there ↦
                    let inside = two.inside in
                    not_so ((numbered C).past i k) (λ past. false≢true (sym open_at ∙ ∥∥₁_elim sound (hlevel props) (λ s. past_front C s first i k there (λ q over under. leads q over (omega arith)) (omega arith) (acting_stores i p (p + 1) e) past)))
              ]
        ]

    pub stay_end : (from : ℕ) → ((i : ℕ) → i < from → (numbered C).may_act i p (p + 1) ≡ true → (numbered C).past i k ≡ false) → IsActingFrom T p (p + 1) from None → DoRowsStay T p k
    stay_end from clear none i e =
        elim (cases_lt i from) [
          | inl early ↦ clear i early e
          | inr late ↦
              let there = leg_below C i (stores_row C i (acting_stores i p (p + 1) e)) in
              absurd (false≢true (sym (none i late (omega arith)) ∙ e))
        ]

-- what may act somewhere may act where that does
too_through : (t : Timeline) (k p q : ℕ) → IsLike t k p → MayActToo t p q → IsLike t k q
too_through t k p q like too = record { untraced = λ e. too.untraced (like.untraced e); others = λ i e other. too.rows i (like.others i e other) }

clear_like : (t : Timeline) (k q : ℕ) → IsClear t k → IsLike t k q
clear_like t k q clear = record { untraced = λ e. absurd (false≢true (sym clear.light ∙ e)); others = λ i e other. absurd (other (clear.own i e)) }

itself : (t : Timeline) (k : ℕ) → IsLike t k k
itself t k = record { untraced = λ e. e; others = λ i e other. e }

alike_moved : (t : Timeline) (o : Option ℕ) (k q : ℕ) → ((p : ℕ) → o ≡ Some p → MayActToo t p q) → IsAlike t o k → IsLike t k q
alike_moved t None k q too alike = clear_like t k q alike
alike_moved t (Some p) k q too alike = too_through t k p q alike (too p refl)

alike_clear : (t : Timeline) (o : Option ℕ) (k : ℕ) → IsClear t k → IsAlike t o k
alike_clear t None k clear = clear
alike_clear t (Some p) k clear = clear_like t k p clear

module _ (C : Course) (strip more : Strip) (part : IsPart C strip) (first : more.first ≡ strip.first) (last : more.last ≡ strip.last + 1) (inside : strip.last < (numbers_of C).end) (joined : IsJoined (numbered C) strip.last) where
  abbrev S : Timeline
  S = as_timeline (seen_many C)

  joined_more : (k : ℕ) → more.first ≤ k → k < more.last → IsJoined (numbered C) k
  joined_more k low less =
      elim (cases_order k strip.last) [
        | inl same ↦ subst (λ (n : ℕ). IsJoined (numbered C) n) (sym same) joined
        | inr (inl below) ↦ part.joined k (omega arith) below
        | inr (inr over) ↦ absurd (omega arith)
      ]

  -- nothing but a row before the number may act
  pub clear_more : more.pause ≡ strip.pause → IsClear S strip.last → IsLonger C strip (Some more)
  clear_more same clear = (
    record {
      up = let up = part.up in omega arith;
      inside = omega arith;
      joined = joined_more;
      alike = λ k low less.
          subst (λ (o : Option ℕ). IsAlike S o k) (sym same)
          (elim (cases_order k strip.last) [
            | inl here ↦ subst (λ (n : ℕ). IsAlike S strip.pause n) (sym here) (alike_clear S strip.pause strip.last clear)
            | inr (inl below) ↦ part.alike k (omega arith) below
            | inr (inr over) ↦ absurd (omega arith)
          ]);
      pause = λ p some.
          let its = part.pause p (sym same ∙ some) in
          let pause = its.pause in
          record { pause = record { from = let low = pause.from in omega arith; to = let high = pause.to in omega arith; crossed = pause.crossed }; apart = its.apart };
    },
    first,
    last,
  )

  -- more may act, and all that may act at the pause does: it is the pause from then on
  pub crossed_more : more.pause ≡ Some strip.last → (IsClear S strip.last → ⊥) → IsOwnBetween C strip.last (strip.last + 1) None → ((p : ℕ) → strip.pause ≡ Some p → MayActToo S p strip.last) → IsLonger C strip (Some more)
  crossed_more here crossed apart too = (
    record {
      up = let up = part.up in omega arith;
      inside = omega arith;
      joined = joined_more;
      alike = λ k low less.
          subst (λ (o : Option ℕ). IsAlike S o k) (sym here)
          (elim (cases_order k strip.last) [
            | inl same ↦ subst (λ (n : ℕ). IsLike S n strip.last) (sym same) (itself S strip.last)
            | inr (inl below) ↦ alike_moved S strip.pause k strip.last too (part.alike k (omega arith) below)
            | inr (inr over) ↦ absurd (omega arith)
          ]);
      pause = λ p some.
          let same : strip.last ≡ p = some_same (sym here ∙ some) in
          record { pause = record { from = let up = part.up in omega arith; to = omega arith; crossed = subst (λ (n : ℕ). IsClear S n → ⊥) same crossed }; apart = subst (λ (n : ℕ). IsOwnBetween C n (n + 1) None) same apart };
    },
    first,
    last,
  )

-- the pause and the last number
pub two_of : (C : Course) (strip : Strip) (p : ℕ) → IsPart C strip → strip.pause ≡ Some p → strip.last < (numbers_of C).end → IsJoined (numbered C) strip.last → IsOwnBetween C strip.last (strip.last + 1) None → AreTwo C p strip.last
two_of C strip p part some inside joined apart =
    let its = part.pause p some in
    record {
      order = let high = its.pause.to in omega arith;
      inside = inside;
      next = λ j low high.
          elim (cases_order j strip.last) [
            | inl same ↦ subst (λ (n : ℕ). (numbered C).next n (n + 1) ≡ true) (sym same) joined.next
            | inr (inl below) ↦ (part.joined j (let from = its.pause.from in omega arith) below).next
            | inr (inr over) ↦ absurd (omega arith)
          ];
      first = its.apart;
      second = apart;
    }

pub no_part : (C : Course) (strip : Strip) (first : ℕ) → strip.first ≡ first → strip.last ≡ first → strip.pause ≡ None → first ≤ (numbers_of C).end → IsPart C strip
no_part C strip first from to none few = record {
  up = omega arith;
  inside = omega arith;
  joined = λ k low less. absurd (omega arith);
  alike = λ k low less. absurd (omega arith);
  pause = λ p some. absurd (none_some (sym none ∙ some));
}

-- where it ends
pub strip_of_part : (C : Course) (strip : Strip) (m : ℕ) → strip.first ≡ m → IsPart C strip → (IsJoined (numbered C) strip.last → IsCut (as_timeline (seen_many C)) strip.pause strip.last) → IsStrip (as_timeline (seen_many C)) m strip
strip_of_part C strip m first part ends = record {
  from = omega arith;
  to = let up = part.up in omega arith;
  inside = part.inside;
  joined = part.joined;
  alike = part.alike;
  pause = λ p some. (part.pause p some).pause;
  ends = ends;
}

module _ (t : Timeline) where
  pub strip_same_more : (m : ℕ) (x : Strip) → m < x.last → IsStrip t m x → IsStrip t (m + 1) x
  strip_same_more m x less its = record { from = let low = its.from in omega arith; to = omega arith; inside = its.inside; joined = its.joined; alike = its.alike; pause = its.pause; ends = its.ends }

  pub no_strips : AreStripsBelow t 0 []
  no_strips = record { count = refl; each = λ k x e. absurd (no_strip (sym (slice_get_past [] k (omega arith)) ∙ e)) }

  pub strips_more : (n : ℕ) (x : Strip) (list : List Strip) → AreStripsBelow t n list → IsStrip t n x → AreStripsBelow t (n + 1) (list ++ x ∷ [])
  strips_more n x list known its = record { count = count; each = each }
    where
      many : length (list ++ x ∷ []) ≡ length list + 1
      many = length-append list (x ∷ [])

      count : length (list ++ x ∷ []) ≡ n + 1
      count = let old = known.count in let new = many in omega arith

      each : (k : ℕ) (y : Strip) → slice_get (list ++ x ∷ []) k ≡ Some y → IsStrip t k y
      each k y e =
          elim (cases_order k (length list)) [
            | inl same ↦
                let here : x ≡ y = strip_same (sym (get_end list x) ∙ ap (λ (j : ℕ). slice_get (list ++ x ∷ []) j) (sym same) ∙ e) in
                let number : n ≡ k = let old = known.count in omega arith in
                subst (λ (z : Strip). IsStrip t k z) here (subst (λ (j : ℕ). IsStrip t j x) number its)
            | inr (inl below) ↦ known.each k y (sym (get_before list x k below) ∙ e)
            | inr (inr over) ↦ absurd (no_strip (sym (slice_get_past (list ++ x ∷ []) k (let new = many in omega arith)) ∙ e))
          ]

-- a strip is told by what is merely so
joined_of : (t : Timeline) (k : ℕ) → ∥ IsJoined t.moments k ∥₁ → IsJoined t.moments k
joined_of t k h = record { next = ∥∥₁_elim h (hlevel props) (λ j. j.next); only = λ w e. ∥∥₁_elim h (hlevel props) (λ j. j.only w e) }

alike_of : (t : Timeline) (o : Option ℕ) (k : ℕ) → ∥ IsAlike t o k ∥₁ → IsAlike t o k
alike_of t None k h = record { light = ∥∥₁_elim h (hlevel props) (λ c. c.light); own = λ i e. ∥∥₁_elim h (hlevel props) (λ c. c.own i e) }
alike_of t (Some p) k h = record { untraced = λ e. ∥∥₁_elim h (hlevel props) (λ c. c.untraced e); others = λ i e other. ∥∥₁_elim h (hlevel props) (λ c. c.others i e other) }

cut_of : (t : Timeline) (o : Option ℕ) (k : ℕ) → ∥ IsCut t o k ∥₁ → IsCut t o k
cut_of t None k h = ∥∥₁_elim h (λ x y. absurd x) (λ c. c)
cut_of t (Some p) k h = λ too. ∥∥₁_elim h (λ x y. absurd x) (λ c. c too)

pause_of : (t : Timeline) (x : Strip) (p : ℕ) → ∥ IsPause t x p ∥₁ → IsPause t x p
pause_of t x p h = record { from = ∥∥₁_elim h (hlevel props) (λ i. i.from); to = ∥∥₁_elim h (hlevel props) (λ i. i.to); crossed = λ clear. ∥∥₁_elim h (λ x y. absurd x) (λ i. i.crossed clear) }

pub strip_of_mere : (t : Timeline) (m : ℕ) (x : Strip) → ∥ IsStrip t m x ∥₁ → IsStrip t m x
strip_of_mere t m x h = record {
  from = ∥∥₁_elim h (hlevel props) (λ s. s.from);
  to = ∥∥₁_elim h (hlevel props) (λ s. s.to);
  inside = ∥∥₁_elim h (hlevel props) (λ s. s.inside);
  joined = λ k low less. joined_of t k (∥∥₁_elim h ∥∥₁_prop (λ s. ∣ s.joined k low less ∣₁));
  alike = λ k low less. alike_of t x.pause k (∥∥₁_elim h ∥∥₁_prop (λ s. ∣ s.alike k low less ∣₁));
  pause = λ p some. pause_of t x p (∥∥₁_elim h ∥∥₁_prop (λ s. ∣ s.pause p some ∣₁));
  ends = λ its. cut_of t x.pause x.last (∥∥₁_elim h ∥∥₁_prop (λ s. ∣ s.ends its ∣₁));
}

-- of the list that is kept
pub strip_inside : (C : Course) (list : List Strip) (m : ℕ) → ∥ AreManyStrips C list ∥₁ → m ≤ (numbers_of C).end → m < length list
strip_inside C list m h few = ∥∥₁_elim h (hlevel props) (λ a. let count = a.count in omega arith)

pub strip_read : (C : Course) (list : List Strip) (m : ℕ) (x : Strip) → ∥ AreManyStrips C list ∥₁ → slice_get list m ≡ Some x → IsStrip (as_timeline (seen_many C)) m x
strip_read C list m x h e = strip_of_mere (as_timeline (seen_many C)) m x (∥∥₁_elim h ∥∥₁_prop (λ a. ∣ a.each m x e ∣₁))
