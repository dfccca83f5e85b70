-- What may act between two moments is decided by times.
use Rattle.std.proofs.Common.{◌≡◌, ℕ, ◌&&◌, not, Bool, true, false, Option, Some, None, inl, inr, refl, sym, ap, ◌∙◌}
use Rattle.std.proofs.lemmas.Bool.{false≢true, cases_Bool, or_cases, or_left, or_right, and_parts, and_from, ltb-true, lt-ltb}
use Rattle.rept_steps.specs.Course.{Course, Row, calls, IsSoundCourse}
use Rattle.rept_order.specs.Events.{Event, IsEvent, first_event, last_event, UntracedPrecedes}
use Rattle.rept_order.specs.Moments.{Moment, IsMoment, Act, IsAct, WhollyBefore, WhollyAfter, Stretch, stretch, MayAct}
use Rattle.rept_order.specs.Moments.Moment.{before, after, at_end}
use Rattle.rept_order.specs.Moments.Act.{row, untraced}
use Rattle.rept_order.specs.Times.{begin_of, same_row, late_by, wholly_before, wholly_after, is_row, has_room, may_act_between}
use Rattle.rept_order.proofs.Sequence.{first_is_event, last_is_event}
use Rattle.rept_order.proofs.Untraced.{untraced_late, late_untraced}
use Rattle.rept_order.proofs.Decide.{row_true, row_self, not_later_true, not_later_from}

not_true : (b : Bool) → not b ≡ true → b ≡ true → ⊥
not_true true e k = false≢true e
not_true false e k = false≢true k

not_from : (b : Bool) → (b ≡ true → ⊥) → not b ≡ true
not_from true k = absurd (k refl)
not_from false k = refl

not_not : (b : Bool) → not b ≡ true → b ≡ false
not_not true e = absurd (false≢true e)
not_not false e = refl

same_act : {q r : Row} → row q ≡ row r → q ≡ r
same_act e = cc

module _ (C : Course) (sound : IsSoundCourse C) where
  late_true : (o : Option ℕ) (e : Event) → C.untraced ≡ o → IsEvent C e → late_by o (begin_of C e) ≡ true → UntracedPrecedes C e
  late_true None e is its k = absurd (false≢true k)
  late_true (Some d) e is its k = late_untraced C sound d e is its (ltb-true d (begin_of C e) k)

  late_from : (d : ℕ) (e : Event) → C.untraced ≡ Some d → IsEvent C e → UntracedPrecedes C e → late_by C.untraced (begin_of C e) ≡ true
  late_from d e is its k = ap (λ (o : Option ℕ). late_by o (begin_of C e)) is ∙ lt-ltb d (begin_of C e) (untraced_late C sound d e is its k)

  pub before_true : (act : Act) (m : Moment) → IsAct C act → IsMoment C m → wholly_before C act m ≡ true → WhollyBefore C act m
  before_true (row r) m is its k = not_later_true C sound (after r) m is its k
  before_true untraced (before r) is its k = late_true C.untraced (first_event C r) refl (first_is_event C r its) k
  before_true untraced (after r) is its k = late_true C.untraced (last_event C r) refl (last_is_event C r its) k
  before_true untraced at_end is its k = tt

  pub before_from : (act : Act) (m : Moment) → IsAct C act → IsMoment C m → WhollyBefore C act m → wholly_before C act m ≡ true
  before_from (row r) m is its k = not_later_from C sound (after r) m k
  before_from untraced (before r) is its k = late_from is.0 (first_event C r) is.1 (first_is_event C r its) k
  before_from untraced (after r) is its k = late_from is.0 (last_event C r) is.1 (last_is_event C r its) k
  before_from untraced at_end is its k = refl

  pub after_true : (act : Act) (w : Moment) → IsAct C act → IsMoment C w → wholly_after C act w ≡ true → WhollyAfter C act w
  after_true (row r) w is its k = not_later_true C sound w (before r) its is k
  after_true untraced w is its k = absurd (false≢true k)

  pub after_from : (act : Act) (w : Moment) → WhollyAfter C act w → wholly_after C act w ≡ true
  after_from (row r) w k = not_later_from C sound w (before r) k
  after_from untraced w k = absurd k

  is_row_true : (act : Act) (r : Row) → is_row act r ≡ true → act ≡ row r
  is_row_true (row q) r k = ap row (row_true q r k)
  is_row_true untraced r k = absurd (false≢true k)

  is_row_from : (act : Act) (r : Row) → act ≡ row r → is_row act r ≡ true
  is_row_from (row q) r same = row_self q r (same_act same)
  is_row_from untraced r same = cc

  -- the moments are those of one row that is no call
  Lone : Moment → Moment → Row → Type 0
  Lone m w r = stretch m w ≡ stretch (before r) (after r)

  room_true : (act : Act) (m w : Moment) → has_room C act m w ≡ true → (r : Row) → calls C r ≡ false → Lone m w r → act ≡ row r
  unfolding Lone
  room_true act (before q) (after p) k r plain same = is_row_true act p its ∙ ap row second
    where
      first : q ≡ r
      first = same_before (ap (λ (x : Stretch). x.from) same)
        where
          same_before : {a b : Row} → before a ≡ before b → a ≡ b
          same_before e = cc

      second : p ≡ r
      second = same_after (ap (λ (x : Stretch). x.to) same)
        where
          same_after : {a b : Row} → after a ≡ after b → a ≡ b
          same_after e = cc

      both : (same_row q p && not (calls C p)) ≡ true
      both = and_from (same_row q p) (not (calls C p)) (row_self q p (first ∙ sym second)) (ap (λ (x : Row). not (calls C x)) second ∙ ap not plain)

      its : is_row act p ≡ true
      its = elim (or_cases (not (same_row q p && not (calls C p))) (is_row act p) k) [
        | inl out ↦ absurd (not_true (same_row q p && not (calls C p)) out both)
        | inr is ↦ is
      ]
  room_true act (before q) (before p) k r plain same = cc (ap (λ (x : Stretch). x.to) same)
  room_true act (before q) at_end k r plain same = cc (ap (λ (x : Stretch). x.to) same)
  room_true act (after q) w k r plain same = cc (ap (λ (x : Stretch). x.from) same)
  room_true act at_end w k r plain same = cc (ap (λ (x : Stretch). x.from) same)

  room_from : (act : Act) (m w : Moment) → ((r : Row) → calls C r ≡ false → Lone m w r → act ≡ row r) → has_room C act m w ≡ true
  unfolding Lone
  room_from act (before q) (after p) k =
      elim (cases_Bool (same_row q p && not (calls C p))) [
        | inl both ↦
            let parts = and_parts (same_row q p) (not (calls C p)) both in
            let one = row_true q p parts.0 in
            let same : act ≡ row p = k p (not_not (calls C p) parts.1) (ap (λ (x : Row). stretch (before x) (after p)) one) in
            or_right (not (same_row q p && not (calls C p))) (is_row act p) (is_row_from act p same)
        | inr out ↦ or_left (not (same_row q p && not (calls C p))) (is_row act p) (ap not out)
      ]
  room_from act (before q) (before p) k = refl
  room_from act (before q) at_end k = refl
  room_from act (after q) w k = refl
  room_from act at_end w k = refl

  pub may_act_true : (act : Act) (m w : Moment) → IsAct C act → IsMoment C m → IsMoment C w → may_act_between C act m w ≡ true → MayAct C act (stretch m w)
  unfolding Lone
  may_act_true act m w is from to k =
      let parts = and_parts (not (wholly_before C act m)) (not (wholly_after C act w) && has_room C act m w) k in
      let others = and_parts (not (wholly_after C act w)) (has_room C act m w) parts.1 in
      record {
        not_before = λ way. not_true (wholly_before C act m) parts.0 (before_from act m is from way);
        not_after = λ way. not_true (wholly_after C act w) others.0 (after_from act w way);
        alone = λ r plain same. room_true act m w others.1 r plain same;
      }

  pub may_act_from : (act : Act) (m w : Moment) → IsAct C act → IsMoment C m → IsMoment C w → MayAct C act (stretch m w) → may_act_between C act m w ≡ true
  unfolding Lone
  may_act_from act m w is from to may_act = and_from (not (wholly_before C act m)) (not (wholly_after C act w) && has_room C act m w) (not_from (wholly_before C act m) (λ k. may_act.not_before (before_true act m is from k))) (and_from (not (wholly_after C act w)) (has_room C act m w) (not_from (wholly_after C act w) (λ k. may_act.not_after (after_true act w is to k))) (room_from act m w may_act.alone))
