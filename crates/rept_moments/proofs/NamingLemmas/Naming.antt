-- Names of moments keep the laws of moments.
use Rattle.std.proofs.Common.{slice_get, unwrap_or, ◌≡◌, ◌≢◌, ℕ, zero, suc, ◌+◌, ◌<◌, ◌≤◌, ◌&&◌, ◌||◌, not, Bool, true, false, List, [], ◌∷◌, length, Option, Some, None, inl, inr, refl, sym, ap, ◌∙◌, subst, arith}
use Rattle.std.specs.Option.{is_some, IsSome}
use Rattle.std.proofs.lemmas.Bool.{false≢true, cases_Bool, or_cases, or_left, or_right, and_parts}
use Rattle.std.proofs.lemmas.Option.{slice_get_within}
use Rattle.rept_isa.specs.declared.row.StepRow.{StepRow}
use Rattle.rept_steps.specs.declared.threads.ThreadRows.{ThreadRows}
use Rattle.rept_steps.specs.Course.{no_thread, Course, Row, row_of, rows_of, IsRow, row_at, IsSoundCourse}
use Rattle.rept_order.specs.Events.IsBefore.{by_row}
use Rattle.rept_order.specs.Moments.{Moment, IsMoment, NotLater, Act, IsAct, WhollyBefore, WhollyAfter, IsNext, IsUntouched, Stretch, stretch, MayAct, may_by, is_writing, stores, ArePause, AreOne}
use Rattle.rept_order.specs.Moments.Moment.{before, after, at_end}
use Rattle.rept_order.specs.Moments.Act.{row, untraced}
use Rattle.rept_order.specs.Moments.ArePause.{between, last}
use Rattle.rept_order.specs.Times.{not_later, wholly_before, wholly_after, may_act_between}
use Rattle.rept_order.specs.Links.{moments_left}
use Rattle.rept_order.specs.Legs.{points_before, point_at}
use Rattle.rept_order.proofs.Sequence.{first_is_event, last_is_event, directly, not_later_trans}
use Rattle.rept_order.proofs.Between.{row_forward, after_earlier, not_both}
use Rattle.rept_order.proofs.Decide.{not_later_true}
use Rattle.rept_order.proofs.Acting.{before_true, before_from, after_true, after_from, may_act_true, may_act_from}
use Rattle.rept_order.proofs.Links as links
use Rattle.rept_order.proofs.Legs.{number_point, thread_inside}
use Rattle.rept_span.specs.Ranges.{AreLegs}
use Rattle.rept_report.specs.Moments.{AreMoments, HasNext}
use Rattle.rept_moments.specs.Naming.Names.{MomentNames, IsLink, AreNames}
use Rattle.rept_moments.specs.Naming.Numbered.{legs_on, row_on, may_act_by, untraced_by, moments_of}

after_before : {q r : Row} → after q ≡ before r → ⊥
after_before e = cc

after_end : {q : Row} → after q ≡ at_end → ⊥
after_end e = cc

end_after : {q : Row} → at_end ≡ after q → ⊥
end_after e = cc

pub not_true : (b : Bool) → not b ≡ true → b ≡ true → ⊥
not_true true e k = false≢true e
not_true false e k = false≢true k

and_false : (a b : Bool) → b ≡ false → (a && b) ≡ false
and_false true b e = e
and_false false b e = refl

and_rest : (a b : Bool) → a ≡ true → (a && b) ≡ false → b ≡ false
and_rest true b e k = k
and_rest false b e k = absurd (false≢true e)

pub some_is : {A : Type 0} (o : Option A) → is_some o ≡ true → (d : A) × (o ≡ Some d)
some_is None e = absurd (false≢true e)
some_is (Some d) e = (d, refl)

is_some_from : {A : Type 0} (o : Option A) → o ≢ None → is_some o ≡ true
is_some_from None out = absurd (out refl)
is_some_from (Some d) out = refl

writing_some : (o : Option StepRow) → is_writing o ≡ true → (its_row : StepRow) × (o ≡ Some its_row)
writing_some None e = absurd (false≢true e)
writing_some (Some its_row) e = (its_row, refl)

-- whether an act may write at all
abbrev pub can : Course → Act → Bool
can C act = may_by (λ r a. stores C r) act 0

pub row_inside : (C : Course) (r : Row) (its_row : StepRow) → row_at C r ≡ Some its_row → IsRow C r
row_inside C r its_row is = slice_get_within (rows_of C r.thread) r.step its_row is

pub stores_inside : (C : Course) (r : Row) → stores C r ≡ true → IsRow C r
stores_inside C r e = let found = writing_some (row_at C r) e in row_inside C r found.0 found.1

-- the two moments of a pause, in their order
pub record InOrder (C : Course) (x : Stretch) : Type 0 where
  pub from : IsMoment C x.from
  pub to : IsMoment C x.to
  pub order : NotLater C x.from x.to
  pub apart : x.from ≢ x.to

pub pause_in_order : (C : Course) (x : Stretch) → ArePause C x → InOrder C x
pause_in_order C x (between t i next same) = subst (λ (y : Stretch). InOrder C y) (sym same) (record {
  from = omega arith;
  to = next;
  order = directly C _ _ (record { first = last_is_event C (row_of t i) (omega arith); second = first_is_event C (row_of t (suc i)) next; why = by_row refl (omega arith) });
  apart = λ e. after_before e;
})
pause_in_order C x (last t i all same) = subst (λ (y : Stretch). InOrder C y) (sym same) (record { from = omega arith; to = tt; order = tt; apart = λ e. after_end e })

-- no pause begins at the end
end_first : (C : Course) (w : Moment) → ArePause C (stretch at_end w) → ⊥
end_first C w (between t i next same) = end_after (ap (λ (x : Stretch). x.from) same)
end_first C w (last t i all same) = end_after (ap (λ (x : Stretch). x.from) same)

module _ (C : Course) (sound : IsSoundCourse C) (N : MomentNames) (names : AreNames C N) where
  module _ (act : Act) (is : IsAct C act) (writes : can C act ≡ true) where
    -- what writes lies before the one of two moments that are one where it lies before the other
    one_onward : (x : Stretch) → AreOne C x → WhollyBefore C act x.from → WhollyBefore C act x.to
    one_onward x one way = (links.past_onward C sound act x.from x.to way (pause_in_order C x one.pause).order).0

    one_back : (x : Stretch) → AreOne C x → WhollyBefore C act x.to → WhollyBefore C act x.from
    one_back x one way = links.past_back C sound act x.from x.to is (pause_in_order C x one.pause).from way (λ may_act. false≢true (sym (one.still act is may_act) ∙ writes))

    pub to_last : (m : Moment) → IsMoment C m → WhollyBefore C act m → WhollyBefore C act (N.last (N.name m))
    to_last m its way =
        elim (names.own m its) [
          | inl same ↦ subst (λ (y : Moment). WhollyBefore C act y) same way
          | inr one ↦ one_onward (stretch m (N.last (N.name m))) one way
        ]

    pub from_last : (m : Moment) → IsMoment C m → WhollyBefore C act (N.last (N.name m)) → WhollyBefore C act m
    from_last m its way =
        elim (names.own m its) [
          | inl same ↦ subst (λ (y : Moment). WhollyBefore C act y) (sym same) way
          | inr one ↦ one_back (stretch m (N.last (N.name m))) one way
        ]

    -- what lies before a name lies before the next one, and can't act between
    act_onward : (m w : ℕ) (x : Stretch) → IsLink C N m w x → WhollyBefore C act (N.last m) → WhollyBefore C act (N.last w) × (may_act_between C act x.from x.to ≡ false)
    act_onward m w x link way =
        let here : WhollyBefore C act x.from = from_last x.from link.from (subst (λ (n : ℕ). WhollyBefore C act (N.last n)) (sym link.from_name) way) in
        let both = links.past_onward C sound act x.from x.to here link.next.later.0 in (
          subst (λ (n : ℕ). WhollyBefore C act (N.last n)) link.to_name (to_last x.to link.to both.0),
          elim (cases_Bool (may_act_between C act x.from x.to)) [
            | inl may_act ↦ absurd (both.1 (may_act_true C sound act x.from x.to is link.from link.to may_act))
            | inr out ↦ out
          ],
        )

    -- and back
    act_back : (m w : ℕ) (x : Stretch) → IsLink C N m w x → WhollyBefore C act (N.last w) → may_act_between C act x.from x.to ≡ false → WhollyBefore C act (N.last m)
    act_back m w x link way out =
        let there : WhollyBefore C act x.to = from_last x.to link.to (subst (λ (n : ℕ). WhollyBefore C act (N.last n)) (sym link.to_name) way) in
        let here = links.past_back C sound act x.from x.to is link.from there (λ may_act. false≢true (sym out ∙ may_act_from C sound act x.from x.to is link.from link.to may_act)) in
        subst (λ (n : ℕ). WhollyBefore C act (N.last n)) link.from_name (to_last x.from link.from here)

  pub last_end : N.last N.end ≡ at_end
  last_end =
      elim (names.own at_end tt) [
        | inl same ↦ sym (same ∙ ap N.last names.end)
        | inr one ↦ absurd (end_first C (N.last (N.name at_end)) one.pause)
      ]

  last_is : (m w : ℕ) (x : Stretch) → IsLink C N m w x → IsMoment C (N.last m) × IsMoment C (N.last w)
  last_is m w x link =
      ((names.named m (subst (λ (n : ℕ). n ≤ N.end) link.from_name (names.few x.from link.from))).0, (names.named w (subst (λ (n : ℕ). n ≤ N.end) link.to_name (names.few x.to link.to))).0)

  row_past : (r : Row) (m : ℕ) → stores C r ≡ true → IsMoment C (N.last m) → (not (stores C r) || wholly_before C (row r) (N.last m)) ≡ true → WhollyBefore C (row r) (N.last m)
  row_past r m writes its e =
      elim (or_cases (not (stores C r)) (wholly_before C (row r) (N.last m)) e) [
        | inl out ↦ absurd (not_true (stores C r) out writes)
        | inr way ↦ before_true C sound (row r) (N.last m) (stores_inside C r writes) its way
      ]

  past_row : (r : Row) (m : ℕ) → stores C r ≡ true → IsMoment C (N.last m) → WhollyBefore C (row r) (N.last m) → (not (stores C r) || wholly_before C (row r) (N.last m)) ≡ true
  past_row r m writes its way = or_right (not (stores C r)) (wholly_before C (row r) (N.last m)) (before_from C sound (row r) (N.last m) (stores_inside C r writes) its way)

  still_past : (r : Row) (m : ℕ) → stores C r ≡ false → (not (stores C r) || wholly_before C (row r) (N.last m)) ≡ true
  still_past r m still = or_left (not (stores C r)) (wholly_before C (row r) (N.last m)) (ap not still)

  still_may_act : (r : Row) (o : Option Stretch) → stores C r ≡ false → may_act_by C r o ≡ false
  still_may_act r None still = refl
  still_may_act r (Some x) still = ap (λ (b : Bool). b && may_act_between C (row r) x.from x.to) still

  rows_onward : (r : Row) (m w : ℕ) → is_some (N.link m w) ≡ true → (not (stores C r) || wholly_before C (row r) (N.last m)) ≡ true → ((not (stores C r) || wholly_before C (row r) (N.last w)) ≡ true) × (may_act_by C r (N.link m w) ≡ false)
  rows_onward r m w e h =
      elim (cases_Bool (stores C r)) [
        | inr still ↦ (still_past r w still, still_may_act r (N.link m w) still)
        | inl writes ↦
            let found = some_is (N.link m w) e in
            let link = names.links m w found.0 found.1 in
            let its = last_is m w found.0 link in
            let both = act_onward (row r) (stores_inside C r writes) writes m w found.0 link (row_past r m writes its.0 h) in
            (past_row r w writes its.1 both.0, ap (may_act_by C r) found.1 ∙ and_false (stores C r) (may_act_between C (row r) found.0.from found.0.to) both.1)
      ]

  rows_back : (r : Row) (m w : ℕ) → is_some (N.link m w) ≡ true → (not (stores C r) || wholly_before C (row r) (N.last w)) ≡ true → may_act_by C r (N.link m w) ≡ false → (not (stores C r) || wholly_before C (row r) (N.last m)) ≡ true
  rows_back r m w e h out =
      elim (cases_Bool (stores C r)) [
        | inr still ↦ still_past r m still
        | inl writes ↦
            let found = some_is (N.link m w) e in
            let link = names.links m w found.0 found.1 in
            let its = last_is m w found.0 link in
            let spared = and_rest (stores C r) (may_act_between C (row r) found.0.from found.0.to) writes (sym (ap (may_act_by C r) found.1) ∙ out) in
            past_row r m writes its.0 (act_back (row r) (stores_inside C r writes) writes m w found.0 link (row_past r w writes its.1 h) spared)
      ]

  light_past : (m : ℕ) → is_some C.untraced ≡ false → (not (is_some C.untraced) || wholly_before C untraced (N.last m)) ≡ true
  light_past m light = or_left (not (is_some C.untraced)) (wholly_before C untraced (N.last m)) (ap not light)

  light_may_act : (o : Option Stretch) → is_some C.untraced ≡ false → untraced_by C o ≡ false
  light_may_act None light = refl
  light_may_act (Some x) light = ap (λ (b : Bool). b && may_act_between C untraced x.from x.to) light

  past_untraced : (m : ℕ) → is_some C.untraced ≡ true → IsMoment C (N.last m) → WhollyBefore C untraced (N.last m) → (not (is_some C.untraced) || wholly_before C untraced (N.last m)) ≡ true
  past_untraced m told its way = or_right (not (is_some C.untraced)) (wholly_before C untraced (N.last m)) (before_from C sound untraced (N.last m) (some_is C.untraced told) its way)

  untraced_is_past : (m : ℕ) → is_some C.untraced ≡ true → IsMoment C (N.last m) → (not (is_some C.untraced) || wholly_before C untraced (N.last m)) ≡ true → WhollyBefore C untraced (N.last m)
  untraced_is_past m told its e =
      elim (or_cases (not (is_some C.untraced)) (wholly_before C untraced (N.last m)) e) [
        | inl out ↦ absurd (not_true (is_some C.untraced) out told)
        | inr way ↦ before_true C sound untraced (N.last m) (some_is C.untraced told) its way
      ]

  untraced_goes_on : (m w : ℕ) → is_some (N.link m w) ≡ true → (not (is_some C.untraced) || wholly_before C untraced (N.last m)) ≡ true → ((not (is_some C.untraced) || wholly_before C untraced (N.last w)) ≡ true) × (untraced_by C (N.link m w) ≡ false)
  untraced_goes_on m w e h =
      elim (cases_Bool (is_some C.untraced)) [
        | inr light ↦ (light_past w light, light_may_act (N.link m w) light)
        | inl told ↦
            let found = some_is (N.link m w) e in
            let link = names.links m w found.0 found.1 in
            let its = last_is m w found.0 link in
            let both = act_onward untraced (some_is C.untraced told) refl m w found.0 link (untraced_is_past m told its.0 h) in
            (past_untraced w told its.1 both.0, ap (untraced_by C) found.1 ∙ and_false (is_some C.untraced) (may_act_between C untraced found.0.from found.0.to) both.1)
      ]

  untraced_goes_back : (m w : ℕ) → is_some (N.link m w) ≡ true → (not (is_some C.untraced) || wholly_before C untraced (N.last w)) ≡ true → untraced_by C (N.link m w) ≡ false → (not (is_some C.untraced) || wholly_before C untraced (N.last m)) ≡ true
  untraced_goes_back m w e h out =
      elim (cases_Bool (is_some C.untraced)) [
        | inr light ↦ light_past m light
        | inl told ↦
            let found = some_is (N.link m w) e in
            let link = names.links m w found.0 found.1 in
            let its = last_is m w found.0 link in
            let spared = and_rest (is_some C.untraced) (may_act_between C untraced found.0.from found.0.to) told (sym (ap (untraced_by C) found.1) ∙ out) in
            past_untraced m told its.0 (act_back untraced (some_is C.untraced told) refl m w found.0 link (untraced_is_past w told its.1 h) spared)
      ]

  -- no more moments are later than the last moment of a name
  left_last : (m : Moment) → IsMoment C m → moments_left C (N.last (N.name m)) ≤ moments_left C m
  left_last m its =
      elim (names.own m its) [
        | inl same ↦ let one : moments_left C m ≡ moments_left C (N.last (N.name m)) = ap (moments_left C) same in omega arith
        | inr one ↦
            let p = pause_in_order C (stretch m (N.last (N.name m))) one.pause in
            let less = links.left_nearer C sound m (N.last (N.name m)) its p.to (p.order, p.apart) in
            omega arith
      ]

  reached : (m : ℕ) → m ≤ N.end → m ≢ N.end → HasNext (moments_of C N) m
  reached m early other =
      let own = names.named m early in
      let apart : N.last m ≢ at_end = λ same. other (sym own.1 ∙ ap N.name same ∙ names.end) in
      let found = links.has_next C sound (N.last m) own.0 apart in
      let low = left_last found.to found.is in
      let nearer = found.nearer in
      let ne : N.name (N.last m) ≢ N.name found.to = λ same.
      let last_same : moments_left C (N.last (N.name found.to)) ≡ moments_left C (N.last m) = ap (λ (n : ℕ). moments_left C (N.last n)) (sym same ∙ own.1) in
      omega arith in
      record {
        to = N.name found.to;
        next = ap (λ (n : ℕ). is_some (N.link n (N.name found.to))) (sym own.1) ∙ is_some_from (N.link (N.name (N.last m)) (N.name found.to)) (names.linked (N.last m) found.to own.0 found.is found.next ne);
        nearer = omega arith;
      }

  -- of two rows at most one lies wholly after the other
  later_apart : (q r : Row) → IsRow C q → IsRow C r → not_later C (after r) (before q) ≡ true → not_later C (after q) (before r) ≡ false
  later_apart q r is its later =
      elim (cases_Bool (not_later C (after q) (before r))) [
        | inl back ↦
            let onward = not_later_true C sound (after r) (before q) its is later in
            let onward_too = not_later_true C sound (after q) (before r) is its back in
            absurd (not_both C sound (row r) (before q) its onward (not_later_trans C (before q) (after q) (before r) (row_forward C q is) onward_too))
        | inr out ↦ out
      ]

  leg_inside : (i : ℕ) → IsSome (row_at C (row_on C i)) → IsRow C (row_on C i)
  leg_inside i is = let found = some_is (row_at C (row_on C i)) is in row_inside C (row_on C i) found.0 found.1

  pub are_moments : AreMoments (legs_on C) (moments_of C N)
  are_moments = record {
    rows_before = λ i its_row is. names.few (before (row_on C i)) (row_inside C (row_on C i) its_row is);
    rows_after = λ i its_row is. names.few (after (row_on C i)) (row_inside C (row_on C i) its_row is);
    inside = λ m w e.
        let found = some_is (N.link m w) e in
        let link = names.links m w found.0 found.1 in
        (subst (λ (n : ℕ). n ≤ N.end) link.from_name (names.few found.0.from link.from), subst (λ (n : ℕ). n ≤ N.end) link.to_name (names.few found.0.to link.to));
    rows_past = λ i its_row is. or_right (not (stores C (row_on C i))) (wholly_before C (row (row_on C i)) (N.last N.end)) (ap (λ (m : Moment). wholly_before C (row (row_on C i)) m) last_end);
    untraced_past = or_right (not (is_some C.untraced)) (wholly_before C untraced (N.last N.end)) (ap (λ (m : Moment). wholly_before C untraced m) last_end);
    later_apart = λ i j is its later. later_apart (row_on C i) (row_on C j) (leg_inside i is) (leg_inside j its) later;
    past_onward = λ i m w e h. rows_onward (row_on C i) m w e h;
    untraced_onward = λ m w e h. untraced_goes_on m w e h;
    past_back = λ i m w e h out. rows_back (row_on C i) m w e h out;
    untraced_back = λ m w e h out. untraced_goes_back m w e h out;
    reaches = λ m early other. reached m early other;
  }

-- the points of a thread, and then those of the threads after it
pub points_next : (threads : List ThreadRows) (t p : ℕ) → t < length threads → p ≤ length (unwrap_or (slice_get threads t) no_thread).steps → points_before threads t + p < points_before threads (length threads)
points_next [] t p below few = absurd (omega arith)
points_next (thread ∷ threads) zero p below few = omega arith
points_next (thread ∷ threads) (suc t) p below few = let rest = points_next threads t p (omega arith) few in omega arith

-- a row leads from a point to the next one
pub are_legs : (C : Course) → AreLegs (legs_on C)
are_legs C = record {
  inside = λ g its_row is.
      let inside = row_inside C (row_on C g) its_row is in
      let thread = thread_inside C (row_on C g) inside in
      let number = number_point C g in
      let below = points_next C.threads (point_at C g).thread (suc (point_at C g).number) thread inside in
      omega arith;
}

module _ (C : Course) (sound : IsSoundCourse C) (N : MomentNames) (names : AreNames C N) where
  -- what writes lies after the one of two moments that are one where it lies after the other
  module _ (act : Act) (is : IsAct C act) (writes : can C act ≡ true) where
    no_row_pause : (x : Stretch) (r : Row) → ArePause C x → x ≡ stretch (before r) (after r) → ⊥
    no_row_pause x r (between t i next same) e = after_before (ap (λ (y : Stretch). y.from) (sym same ∙ e))
    no_row_pause x r (last t i all same) e = after_before (ap (λ (y : Stretch). y.from) (sym same ∙ e))

    after_onward : (x : Stretch) → AreOne C x → WhollyAfter C act x.from → WhollyAfter C act x.to
    after_onward x one way =
        let o = pause_in_order C x one.pause in
        elim (cases_Bool (wholly_after C act x.to)) [
          | inl later ↦ after_true C sound act x.to is o.to later
          | inr out ↦ absurd (false≢true (sym (one.still act is (record {
            not_before = λ early. not_both C sound act x.from is early way;
            not_after = λ later. false≢true (sym out ∙ after_from C sound act x.to later);
            alone = λ r plain same. absurd (no_row_pause x r one.pause same);
          })) ∙ writes))
        ]

    pub after_to_last : (m : Moment) → IsMoment C m → WhollyAfter C act m → WhollyAfter C act (N.last (N.name m))
    after_to_last m its way =
        elim (names.own m its) [
          | inl same ↦ subst (λ (y : Moment). WhollyAfter C act y) same way
          | inr one ↦ after_onward (stretch m (N.last (N.name m))) one way
        ]

    pub after_from_last : (m : Moment) → IsMoment C m → WhollyAfter C act (N.last (N.name m)) → WhollyAfter C act m
    after_from_last m its way =
        elim (names.own m its) [
          | inl same ↦ subst (λ (y : Moment). WhollyAfter C act y) (sym same) way
          | inr one ↦ after_earlier C act m (N.last (N.name m)) (pause_in_order C (stretch m (N.last (N.name m))) one.pause).order way
        ]

    -- what may act by the link of two names may act between each moment of the one and a next one
    -- of the other
    may_act_by_link : (m w : Moment) (x : Stretch) → IsMoment C m → IsMoment C w → N.link (N.name m) (N.name w) ≡ Some x → MayAct C act x → MayAct C act (stretch m w)
    may_act_by_link m w x at to found may_act =
        let link = names.links (N.name m) (N.name w) x found in
        record {
          not_before = λ early. may_act.not_before (from_last C sound N names act is writes x.from link.from (subst (λ (n : ℕ). WhollyBefore C act (N.last n)) (sym link.from_name) (to_last C sound N names act is writes m at early)));
          not_after = λ later. may_act.not_after (after_from_last x.to link.to (subst (λ (n : ℕ). WhollyAfter C act (N.last n)) (sym link.to_name) (after_to_last w to later)));
          alone = λ r plain same.
              let one : m ≡ before r = ap (λ (y : Stretch). y.from) same in
              let other : w ≡ after r = ap (λ (y : Stretch). y.to) same in
              let inside : IsRow C r = subst (λ (y : Moment). IsMoment C y) one at in
              let named : N.link (N.name m) (N.name w) ≡ Some (stretch (before r) (after r)) = ap (λ (y : Moment). N.link (N.name y) (N.name w)) one ∙ ap (λ (y : Moment). N.link (N.name (before r)) (N.name y)) other ∙ names.rows r inside plain in
              may_act.alone r plain (one_link (sym found ∙ named));
        }
      where
        one_link : {y z : Stretch} → Some y ≡ Some z → y ≡ z
        one_link e = cc

  -- a byte that is quiet to a next moment of another name is carried from name to name
  pub record IsCarriedBy (may : Row → ℕ → Bool) (a m w : ℕ) : Type 0 where
    pub next : (moments_of C N).next m w ≡ true
    pub light : (moments_of C N).untraced m w ≡ false
    pub spared : (i : ℕ) → (moments_of C N).may_act i m w ≡ true → may (row_on C i) a ≡ false

  pub quiet_carried : (may : Row → ℕ → Bool) (a : ℕ) (m w : Moment) → IsMoment C m → IsMoment C w → IsNext C m w → N.name m ≢ N.name w → IsUntouched C may (stretch m w) a → IsCarriedBy may a (N.name m) (N.name w)
  quiet_carried may a m w at to next other quiet =
      let some = some_is (N.link (N.name m) (N.name w)) (is_some_from (N.link (N.name m) (N.name w)) (names.linked m w at to next other)) in
      let link = names.links (N.name m) (N.name w) some.0 some.1 in
      record {
        next = is_some_from (N.link (N.name m) (N.name w)) (names.linked m w at to next other);
        light = elim (cases_Bool (untraced_by C (N.link (N.name m) (N.name w)))) [
          | inr out ↦ out
          | inl may_act ↦
              let parts = and_parts (is_some C.untraced) (may_act_between C untraced some.0.from some.0.to) (sym (ap (untraced_by C) some.1) ∙ may_act) in
              let told = some_is C.untraced parts.0 in
              absurd (false≢true (sym (quiet.spared untraced told (may_act_by_link untraced told refl m w some.0 at to some.1 (may_act_true C sound untraced some.0.from some.0.to told link.from link.to parts.1)))))
        ];
        spared = λ i may_act.
            let parts = and_parts (stores C (row_on C i)) (may_act_between C (row (row_on C i)) some.0.from some.0.to) (sym (ap (may_act_by C (row_on C i)) some.1) ∙ may_act) in
            let is = stores_inside C (row_on C i) parts.0 in
            quiet.spared (row (row_on C i)) is (may_act_by_link (row (row_on C i)) is parts.0 m w some.0 at to some.1 (may_act_true C sound (row (row_on C i)) some.0.from some.0.to is link.from link.to parts.1));
      }
