-- Of two numbers of one thread with the same times rows of other threads lie before the one as
-- before the other, and after it as after that.
use Rattle.std.proofs.Common.{◌≡◌, ◌≢◌, ℕ, suc, ◌+◌, ◌*◌, ◌<◌, ◌||◌, not, eqb, nat_lt, Bool, true, false, Option, Some, None, inl, inr, refl, sym, ap, ◌∙◌, subst, arith}
use Rattle.std.specs.Option.{is_some}
use Rattle.std.proofs.lemmas.Bool.{cases_order, and_parts, and_from, eq-eqb, eqb-true}
use Rattle.rept_steps.specs.declared.slice.Slice.{Slice}
use Rattle.rept_steps.specs.Course.{Course, Row, row_of, calls, IsRow, IsSoundCourse}
use Rattle.rept_order.specs.Events.{Event, event_slice}
use Rattle.rept_order.specs.Events.Part.{whole}
use Rattle.rept_order.specs.Moments.{Moment, IsMoment, NotLater, Earlier, Stretch, stretch, MayAct, stores, ArePause}
use Rattle.rept_order.specs.Moments.Moment.{before, after, at_end}
use Rattle.rept_order.specs.Moments.Act.{row}
use Rattle.rept_order.specs.Moments.ArePause.{between, last}
use Rattle.rept_order.specs.Runs.{edge_part, beside_by}
use Rattle.rept_order.specs.Times.{ends_by, begin_of, not_later, may_act_between}
use Rattle.rept_order.specs.Legs.{leg_row}
use Rattle.rept_order.proofs.Acting.{may_act_true}
use Rattle.rept_moments.specs.Naming.Names.{AreNames, IsLink}
use Rattle.rept_moments.specs.Naming.Making.{lasts}
use Rattle.rept_moments.specs.Naming.Numbered.{row_on, may_act_by}
use Rattle.rept_moments.proofs.NamingLemmas.Naming.{some_is, stores_inside}
use Rattle.rept_moments.specs.declared.side.PointSide.{PointSide}
use Rattle.rept_moments.specs.Begins.{same_end, is_alike}
use Rattle.rept_moments.specs.Edges.{begin_at, end_at}
use Rattle.rept_moments.specs.Ordering.{side, moment_at_side, event_at, in_order}
use Rattle.rept_moments.specs.Numbers.{numbers_of, numbered}
use Rattle.rept_moments.specs.Numbering.{at_place, Numbered}
use Rattle.rept_moments.specs.Tables.{moments_at}
use Rattle.rept_moments.specs.Together.{AreBeside, IsTogether, AreTogether}
use Rattle.rept_moments.specs.Writers.{end_of}
use Rattle.rept_moments.proofs.Apart.{are_numbers}
use Rattle.rept_moments.proofs.MayAct.{row_last}
use Rattle.rept_moments.proofs.Listing.{at_row}
use Rattle.rept_moments.proofs.Places.{point_of_row, row_point}
use Rattle.rept_moments.proofs.Reaching.{ends_true}
use Rattle.rept_moments.proofs.Sooner.{sides_apart}
use Rattle.rept_moments.proofs.Told.{told_is}
use Rattle.rept_moments.proofs.Turns.{turn, turn_same, thread_in, thread_by, in_turn, not_later_self}

none_some : {A : Type 0} {x : A} → None ≡ Some x → ⊥
none_some e = cc

some_same : {A : Type 0} {x y : A} → Some x ≡ Some y → x ≡ y
some_same e = cc

none_within : (t i : ℕ) → t < 2 * i + 1 → 2 * i < t → ⊥
none_within t i low more = omega arith

-- what the tables tell
pub beside_told : (C V : Course) (s u : PointSide) (b : Bool) → C ≡ V → (row_on C s.point).thread ≡ (row_on C u.point).thread → b ≡ is_alike C s u → b ≡ true → AreBeside V s u
beside_told C V s u b view thread e holds =
    let parts = and_parts (eqb (begin_at C s) (begin_at C u)) (same_end (end_at C s) (end_at C u)) (sym e ∙ holds) in
    subst (λ (D : Course). AreBeside D s u) view (record { thread = thread; begin = eqb-true (begin_at C s) (begin_at C u) parts.0; end = ends_true (end_at C s) (end_at C u) parts.1 })

same_ends : (o p : Option ℕ) → o ≡ p → same_end o p ≡ true
same_ends None None e = refl
same_ends (Some a) (Some b) e = eq-eqb a b (some_same e)
same_ends None (Some b) e = absurd (none_some e)
same_ends (Some a) None e = absurd (none_some (sym e))

pub told_beside : (C V : Course) (s u : PointSide) (b : Bool) → C ≡ V → b ≡ is_alike C s u → AreBeside V s u → b ≡ true
told_beside C V s u b view e its =
    let here : AreBeside C s u = subst (λ (D : Course). AreBeside D s u) (sym view) its in
    e ∙ and_from (eqb (begin_at C s) (begin_at C u)) (same_end (end_at C s) (end_at C u)) (eq-eqb (begin_at C s) (begin_at C u) here.begin) (same_ends (end_at C s) (end_at C u) here.end)

pub last_told : (C V : Course) (n : Numbered) (k : ℕ) (s : PointSide) → C ≡ V → moments_at C n.list ≡ lasts C (in_order C) → Some s ≡ at_place n.list k → (numbers_of V).last k ≡ moment_at_side V s
last_told C V n k s view kept place = sym (told_is C V n k (Some s) (moment_at_side V s) view kept place (ap (λ (D : Course). moment_at_side D s) (sym view)))

-- a moment of a row isn't the end, and has the row's times
not_beside : (r : Row) (b : Bool) → at_end ≡ beside_by r b → ⊥
not_beside r false e = cc
not_beside r true e = cc

pub end_apart : (C V : Course) (n : Numbered) (k : ℕ) (s : PointSide) → C ≡ V → moments_at C n.list ≡ lasts C (in_order C) → None ≡ at_place n.list k → (numbers_of V).last k ≡ moment_at_side V s → ⊥
end_apart C V n k s view kept place e = not_beside (row_on V s.point) s.is_after (told_is C V n k None at_end view kept place refl ∙ e)

abbrev moment_event : Course → Moment → Event
moment_event C (before r) = record { row = r; part = edge_part false (calls C r) }
moment_event C (after r) = record { row = r; part = edge_part true (calls C r) }
moment_event C at_end = record { row = row_of 0 0; part = whole }

event_by : (C : Course) (r : Row) (b : Bool) → moment_event C (beside_by r b) ≡ record { row = r; part = edge_part b (calls C r) }
event_by C r false = refl
event_by C r true = refl

module _ (C : Course) (s u : PointSide) (e : moment_at_side C s ≡ moment_at_side C u) where
  one_event : event_at C s ≡ event_at C u
  one_event = sym (event_by C (row_on C s.point) s.is_after) ∙ ap (moment_event C) e ∙ event_by C (row_on C u.point) u.is_after

  pub beside_same : AreBeside C s u
  beside_same = record {
    thread = ap (λ (x : Event). x.row.thread) one_event;
    begin = ap (begin_of C) one_event;
    end = ap (λ (x : Event). end_of (event_slice C x)) one_event;
  }

beside_then : (C : Course) (s u x : PointSide) → AreBeside C s u → AreBeside C u x → AreBeside C s x
beside_then C s u x a b = record { thread = a.thread ∙ b.thread; begin = a.begin ∙ b.begin; end = a.end ∙ b.end }

-- which moment of a row it is that has the number doesn't matter
pub together_beside : (C : Course) (s u : PointSide) (k : ℕ) → (numbers_of C).last k ≡ moment_at_side C u → IsTogether C s k → AreBeside C s u
together_beside C s u k e its = beside_then C s its.other u its.beside (beside_same C its.other u (sym its.last ∙ e))

pub together_from : (C : Course) (m k : ℕ) (s : PointSide) → (numbers_of C).last m ≡ moment_at_side C s → AreTogether C m k → IsTogether C s k
together_from C m k s e its = record {
  other = its.together.other;
  last = its.together.last;
  beside = beside_then C s its.one its.together.other (beside_same C s its.one (sym e ∙ its.last)) its.together.beside;
}

-- a slice that ends at the same time ends before the same times
ends_alike : (o p : Option Slice) (t : ℕ) → end_of o ≡ end_of p → ends_by o t ≡ ends_by p t
ends_alike None None t e = refl
ends_alike None (Some s) t e = absurd (none_some e)
ends_alike (Some s) None t e = absurd (none_some (sym e))
ends_alike (Some s) (Some r) t e = ap (λ (k : ℕ). nat_lt k t) (some_same e)

module _ (C : Course) where
  -- the thread of a number
  abbrev pub thread_at : ℕ → ℕ
  thread_at m = thread_in ((numbers_of C).last m)

  side_thread : (m : ℕ) (s : PointSide) → (numbers_of C).last m ≡ moment_at_side C s → thread_at m ≡ (row_on C s.point).thread
  side_thread m s e = ap thread_in e ∙ thread_by (row_on C s.point) s.is_after

  module _ (m k : ℕ) (its : AreTogether C m k) where
    abbrev s : PointSide
    s = its.one

    abbrev u : PointSide
    u = its.together.other

    pub one_thread : thread_at m ≡ thread_at k
    one_thread = side_thread m s its.last ∙ its.together.beside.thread ∙ sym (side_thread k u its.together.last)

    module _ (i : ℕ) (other : thread_at m ≢ (row_on C i).thread) where
      first_other : (row_on C i).thread ≢ (row_on C s.point).thread
      first_other same = other (side_thread m s its.last ∙ sym same)

      second_other : (row_on C i).thread ≢ (row_on C u.point).thread
      second_other same = other (one_thread ∙ side_thread k u its.together.last ∙ sym same)

      after_alike : not_later C (moment_at_side C (side i true)) (moment_at_side C s) ≡ not_later C (moment_at_side C (side i true)) (moment_at_side C u)
      after_alike = sides_apart C (side i true) s first_other ∙ ap (ends_by (event_slice C (event_at C (side i true)))) its.together.beside.begin ∙ sym (sides_apart C (side i true) u second_other)

      before_alike : not_later C (moment_at_side C s) (moment_at_side C (side i false)) ≡ not_later C (moment_at_side C u) (moment_at_side C (side i false))
      before_alike =
          sides_apart C s (side i false) (λ same. first_other (sym same))
          ∙ ends_alike (event_slice C (event_at C s)) (event_slice C (event_at C u)) (begin_of C (event_at C (side i false))) its.together.beside.end
          ∙ sym (sides_apart C u (side i false) (λ same. second_other (sym same)))

      pub past_alike : (numbered C).past i m ≡ (numbered C).past i k
      past_alike = ap (λ (b : Bool). not (stores C (row_on C i)) || b) (ap (not_later C (after (row_on C i))) its.last ∙ after_alike ∙ ap (not_later C (after (row_on C i))) (sym its.together.last))

      pub ahead_alike : (numbered C).ahead i m ≡ (numbered C).ahead i k
      ahead_alike = ap (λ (x : Moment). not_later C x (before (row_on C i))) its.last ∙ before_alike ∙ ap (λ (x : Moment). not_later C x (before (row_on C i))) (sym its.together.last)

  module _ (sound : IsSoundCourse C) where
    names : AreNames C (numbers_of C)
    names = are_numbers C sound

    -- a row before which a number lies is of its thread
    pub row_thread : (m i : ℕ) → is_some (leg_row C i) ≡ true → (numbered C).before i ≡ m → thread_at m ≡ (row_on C i).thread
    row_thread m i there its = ap thread_in (sym (row_last C sound m i there its))

    -- each moment of a number is of its thread
    record IsPlaced (n : ℕ) (x : Moment) : Type 0 where
      point : PointSide
      is : IsRow C (row_on C point.point)
      thread : thread_at n ≡ (row_on C point.point).thread
      same : moment_at_side C point ≡ x

    placed_last : (n : ℕ) (x : Moment) (s : PointSide) → IsMoment C x → x ≡ (numbers_of C).last n → (numbers_of C).last n ≡ moment_at_side C s → IsPlaced n x
    placed_last n x s is same e = record {
      point = s;
      is = at_row C s.is_after (row_on C s.point) (subst (λ (y : Moment). IsMoment C y) (same ∙ e) is);
      thread = side_thread n s e;
      same = sym (same ∙ e);
    }

    placed_pause : (n : ℕ) (x : Moment) (s : PointSide) → IsMoment C x → (numbers_of C).last n ≡ moment_at_side C s → ArePause C (stretch x ((numbers_of C).last n)) → IsPlaced n x
    placed_pause n x s is e (between t i less same) =
        let from : x ≡ after (row_of t i) = ap (λ (y : Stretch). y.from) same in
        let to : (numbers_of C).last n ≡ before (row_of t (suc i)) = ap (λ (y : Stretch). y.to) same in
        let there : IsRow C (row_of t i) = subst (λ (y : Moment). IsMoment C y) from is in
        let here : row_on C (point_of_row C (row_of t i)) ≡ row_of t i = row_point C (row_of t i) there in
        record {
          point = side (point_of_row C (row_of t i)) true;
          is = subst (λ (r : Row). IsRow C r) (sym here) there;
          thread = ap thread_in to ∙ sym (ap (λ (r : Row). r.thread) here);
          same = ap after here ∙ sym from;
        }
    placed_pause n x s is e (last t i all same) = absurd (not_beside (row_on C s.point) s.is_after (sym (ap (λ (y : Stretch). y.to) same) ∙ e))

    placed : (n : ℕ) (x : Moment) (s : PointSide) → IsMoment C x → (numbers_of C).name x ≡ n → (numbers_of C).last n ≡ moment_at_side C s → IsPlaced n x
    placed n x s is named e =
        elim (names.own x is) [
          | inl same ↦ placed_last n x s is (same ∙ ap (numbers_of C).last named) e
          | inr one ↦ placed_pause n x s is e (subst (λ (k : ℕ). ArePause C (stretch x ((numbers_of C).last k))) named one.pause)
        ]

    -- of the own thread only a row before which the number lies may act between it and one that is
    -- next to it
    module _ (m w i : ℕ) (its : AreTogether C m w) (own : thread_at m ≡ (row_on C i).thread) where
      abbrev r : Row
      r = row_on C i

      acting : (x : Stretch) → IsLink C (numbers_of C) m w x → IsRow C r → MayAct C (row r) (stretch x.from x.to) → (numbered C).before i ≡ m
      acting x link is may_act = by_order
        where
          from : IsPlaced m x.from
          from = placed m x.from its.one link.from link.from_name its.last

          to : IsPlaced w x.to
          to = placed w x.to its.together.other link.to link.to_name its.together.last

          a_own : (row_on C from.point.point).thread ≡ r.thread
          a_own = sym from.thread ∙ own

          b_own : r.thread ≡ (row_on C to.point.point).thread
          b_own = sym own ∙ one_thread m w its ∙ to.thread

          low : turn from.point < turn (side i true)
          low =
              elim (cases_order (turn from.point) (turn (side i true))) [
                | inl one ↦ absurd (may_act.not_before (subst (λ (y : Moment). NotLater C (after r) y) (sym (ap (moment_at_side C) (turn_same from.point (side i true) one)) ∙ from.same) (not_later_self C sound (after r))))
                | inr (inl less) ↦ less
                | inr (inr more) ↦ absurd (may_act.not_before (subst (λ (y : Moment). NotLater C (after r) y) from.same (in_turn C sound (side i true) from.point is from.is (sym a_own) more).0))
              ]

          high : turn (side i false) < turn to.point
          high =
              elim (cases_order (turn (side i false)) (turn to.point)) [
                | inl one ↦ absurd (may_act.not_after (subst (λ (y : Moment). NotLater C y (before r)) (ap (moment_at_side C) (turn_same (side i false) to.point one) ∙ to.same) (not_later_self C sound (before r))))
                | inr (inl less) ↦ less
                | inr (inr more) ↦ absurd (may_act.not_after (subst (λ (y : Moment). NotLater C y (before r)) to.same (in_turn C sound to.point (side i false) to.is is (sym b_own) more).0))
              ]

          by_order : (numbered C).before i ≡ m
          by_order =
              elim (cases_order (turn from.point) (turn (side i false))) [
                | inl one ↦ ap (numbers_of C).name (sym (ap (moment_at_side C) (turn_same from.point (side i false) one)) ∙ from.same) ∙ link.from_name
                | inr (inl less) ↦
                    absurd
                    (link.next.none (before r) is
                    (subst (λ (y : Moment). Earlier C y (before r)) from.same (in_turn C sound from.point (side i false) from.is is a_own less))
                    (subst (λ (y : Moment). Earlier C (before r) y) to.same (in_turn C sound (side i false) to.point is to.is b_own high)))
                | inr (inr more) ↦ absurd (none_within (turn from.point) i low more)
              ]

      pub own_before : (numbered C).next m w ≡ true → (numbered C).may_act i m w ≡ true → (numbered C).before i ≡ m
      own_before next may_act =
          let found = some_is ((numbers_of C).link m w) next in
          let link = names.links m w found.0 found.1 in
          let parts = and_parts (stores C r) (may_act_between C (row r) found.0.from found.0.to) (sym (ap (may_act_by C r) found.1) ∙ may_act) in
          let is = stores_inside C r parts.0 in
          acting found.0 link is (may_act_true C sound (row r) found.0.from found.0.to is link.from link.to parts.1)
