-- The moments that are next to one are the next one of its thread, and of each other thread the
-- first later one, where they may come by the least end of the later slices.
use Rattle.std.proofs.Common.{◌≡◌, ◌≢◌, ℕ, zero, suc, ◌+◌, ◌<◌, ◌≤◌, ◌⊎◌, not, eqb, Bool, true, false, List, [], ◌∷◌, length, get_or, Option, Some, None, slice_get, inl, inr, refl, sym, ap, ◌∙◌, subst, arith}
use Rattle.std.specs.Option.{IsSome}
use Rattle.std.proofs.lemmas.Bool.{false≢true, cases_Bool, cases_lt, cases_eq, and_parts, and_from, eqb-true, eq-eqb, ne_eqb, le-leb, leb-true}
use Rattle.std.proofs.lemmas.Option.{slice_get_within, slice_get-get_or}
use Rattle.rept_steps.specs.Course.{Course, Row, IsRow, IsSoundCourse}
use Rattle.rept_order.specs.Moments.{Moment, IsMoment, Earlier, IsNext}
use Rattle.rept_order.specs.Moments.Moment.{before, after, at_end}
use Rattle.rept_order.specs.Runs.{beside_by}
use Rattle.rept_order.specs.Legs.{leg_row}
use Rattle.rept_order.proofs.Nexts.{earlier_trans}
use Rattle.rept_moments.specs.Naming.Numbered.{row_on}
use Rattle.rept_moments.specs.declared.begins.SliceStart.{SliceStart}
use Rattle.rept_moments.specs.declared.nexts.Later.{Later}
use Rattle.rept_moments.specs.declared.side.PointSide.{PointSide}
use Rattle.rept_moments.specs.Ordering.{moment_at_side}
use Rattle.rept_moments.specs.Edges.{begin_at, end_at}
use Rattle.rept_moments.specs.Begins.{former_at, following_at, same_end, is_alike, is_first_by, is_first_at, sooner_end, later_from, IsBy, AreBegins}
use Rattle.rept_order.specs.Crossing.Writers.{not_past}
use Rattle.rept_moments.specs.Numbers.{numbers_of}
use Rattle.rept_moments.specs.Nexts.{nexts_of, Member, AddsOthers, IsAfter, IsOther, end_with, IsLaterBy, offers_at, none_late, is_first_later, first_offer, IsOffer}
use Rattle.rept_moments.proofs.Places.{row_there, there_row}
use Rattle.rept_moments.proofs.Apart.{are_numbers}
use Rattle.rept_moments.proofs.Turns.{turn, turn_same, past_parts, past_from, is_moment, in_turn, turn_order, late_earlier, earlier_late, side_from, following_is, following_none, former_is, former_row, former_none}
use Rattle.rept_moments.proofs.Beginning.{by_left, by_right, one_of}
use Rattle.rept_moments.proofs.Offers.{IsNeighbour, has_next, neighbour_has, one_by, held_by}
use Rattle.rept_moments.proofs.Adding.{adds_none, adds_as, adds_both}

none_some : {A : Type 0} {x : A} → None ≡ Some x → ⊥
none_some e = cc

some_none : {A : Type 0} {x : A} → Some x ≡ None → ⊥
some_none e = cc

some_same : {A : Type 0} {x y : A} → Some x ≡ Some y → x ≡ y
some_same e = cc

pub ends_true : (o p : Option ℕ) → same_end o p ≡ true → o ≡ p
ends_true None None e = refl
ends_true (Some a) (Some b) e = ap (λ (k : ℕ). Some k) (eqb-true a b e)
ends_true None (Some b) e = absurd (false≢true e)
ends_true (Some a) None e = absurd (false≢true e)

not_true : (b : Bool) → not b ≡ true → b ≡ false
not_true true e = absurd (false≢true e)
not_true false e = refl

not_so : (b : Bool) → (b ≡ true → ⊥) → b ≡ false
not_so true k = absurd (k refl)
not_so false k = refl

-- the time is past a known end, by which another time is
over_by : (o : Option ℕ) (b e : ℕ) → not_past o b ≡ true → IsBy o e → e < b → ⊥
over_by None b e k most less = most
over_by (Some last) b e k most less = let low = leb-true b last k in omega arith

some_true : (o : Option SliceStart) → (later_from o).some ≡ true → (d : SliceStart) × (o ≡ Some d)
some_true None e = absurd (false≢true e)
some_true (Some d) e = (d, refl)

last_known : (o : Option SliceStart) (e : ℕ) → (later_from o).last ≡ Some e → (d : SliceStart) × (o ≡ Some d) × (d.least ≡ Some e)
last_known None e k = absurd (none_some k)
last_known (Some d) e k = (d, refl, k)

end_before : {r : Row} → at_end ≡ before r → ⊥
end_before k = cc

end_after : {r : Row} → at_end ≡ after r → ⊥
end_after k = cc

module _ (C : Course) (sound : IsSoundCourse C) where
  leads : (s : PointSide) → IsSome (leg_row C s.point) → IsRow C (row_on C s.point)
  leads s e = there_row C (row_on C s.point) e

  has_leg : (s : PointSide) → IsRow C (row_on C s.point) → IsSome (leg_row C s.point)
  has_leg s is = row_there C (row_on C s.point) is

  module _ (list : List SliceStart) (are : AreBegins C list) where
    -- the first moment of the slice of a moment
    pub record IsStart (u : PointSide) : Type 0 where
      pub place : ℕ
      pub at : SliceStart
      pub there : slice_get list place ≡ Some at
      pub begin : at.begin ≡ begin_at C u
      pub end : end_at C at.side ≡ end_at C u

    first_start : (u : PointSide) → IsRow C (row_on C u.point) → is_first_at C u ≡ true → IsStart u
    first_start u is first =
        let found = are.all u (has_leg u is) first in
        record { place = found.0; at = found.1; there = found.2; begin = are.begin found.0 found.1 found.2 ∙ ap (begin_at C) found.3; end = ap (end_at C) found.3 }

    start_by : (u : PointSide) → IsRow C (row_on C u.point) → (o : Option PointSide) → former_at C u ≡ o → ((p : PointSide) → former_at C u ≡ Some p → IsStart p) → IsStart u
    start_by u is None e back = first_start u is (ap (λ (o : Option PointSide). is_first_by C o u) e)
    start_by u is (Some p) e back =
        elim (cases_Bool (is_alike C p u)) [
          | inl alike ↦
              let its = back p e in
              let parts = and_parts (eqb (begin_at C p) (begin_at C u)) (same_end (end_at C p) (end_at C u)) alike in
              record { place = its.place; at = its.at; there = its.there; begin = its.begin ∙ eqb-true (begin_at C p) (begin_at C u) parts.0; end = its.end ∙ ends_true (end_at C p) (end_at C u) parts.1 }
          | inr other ↦ first_start u is (ap (λ (o : Option PointSide). is_first_by C o u) e ∙ ap not other)
        ]

    start_under : (n : ℕ) (u : PointSide) → IsRow C (row_on C u.point) → turn u < n → IsStart u
    start_under zero u is less = absurd (omega arith)
    start_under (suc n) u is less = start_by u is (former_at C u) refl (λ p e. let its = (former_is C sound u p is e).turn in start_under n p (former_row C sound u p is e) (omega arith))

    pub start_of : (u : PointSide) → IsRow C (row_on C u.point) → IsStart u
    start_of u is = start_under (suc (turn u)) u is (omega arith)

  module _ (s : PointSide) (is : IsRow C (row_on C s.point)) where
    -- what the slices of the list leave to be next to it
    module _ (list : List SliceStart) (are : AreBegins C list) (place : ℕ) (early : (k : ℕ) (b : SliceStart) → k < place → slice_get list k ≡ Some b → not_past (end_at C s) b.begin ≡ true) (late : (k : ℕ) (b : SliceStart) → place ≤ k → slice_get list k ≡ Some b → not_past (end_at C s) b.begin ≡ false) where
      after_at : (k : ℕ) (b : SliceStart) → place ≤ k → slice_get list k ≡ Some b → IsAfter C s b.side
      after_at k b order there =
          let row = are.row k b there in
          record { row = row; later = late_earlier C sound s b.side is (leads b.side row) (subst (λ (t : ℕ). not_past (end_at C s) t ≡ false) (are.begin k b there) (late k b order there)) }

      -- of each moment of another thread that is later, one begins from the place on
      from_place : (u : PointSide) → IsOther C s u → (st : IsStart list are u) → place ≤ st.place
      from_place u its st =
          elim (cases_lt st.place place) [
            | inl low ↦ absurd (false≢true (sym (earlier_late C sound s u its.apart its.later) ∙ ap (not_past (end_at C s)) (sym st.begin) ∙ early st.place st.at low st.there))
            | inr past ↦ past
          ]

      at_place : (k : ℕ) (b : SliceStart) → place ≤ k → slice_get list k ≡ Some b → (d : SliceStart) × (slice_get list place ≡ Some d)
      at_place k b order there = let less = slice_get_within list k b there in (get_or list place b, slice_get-get_or list place b (omega arith))

      other_by : (u : PointSide) → IsOther C s u ⊎ (None ≡ Some u) → IsOther C s u
      other_by u (inl its) = its
      other_by u (inr e) = absurd (none_some e)

      pub others_later : IsLaterBy C s None (later_from (slice_get list place))
      others_later = record {
        each = λ u h.
            let its = other_by u h in
            let st = start_of list are u (leads u its.row) in
            let found = at_place st.place st.at (from_place u its st) st.there in
            ap (λ (o : Option SliceStart). (later_from o).some) found.1;
        some = λ e. let found = some_true (slice_get list place) e in (found.0.side, after_at place found.0 (omega arith) found.1);
        most = λ u e h end.
            let its = other_by u h in
            let st = start_of list are u (leads u its.row) in
            let order = from_place u its st in
            let found = at_place st.place st.at order st.there in
            subst (λ (o : Option SliceStart). IsBy (later_from o).last e) (sym found.1) ((are.least place found.0 found.1).low st.place st.at e order st.there (st.end ∙ end));
        one = λ e k.
            let found = last_known (slice_get list place) e k in
            let its = (are.least place found.0 found.1).one e found.2 in
            (its.1.side, after_at its.0 its.1 its.2 its.3, its.4);
      }

    own_after : (f : PointSide) → following_at C s ≡ Some f → IsAfter C s f
    own_after f e = let d = following_is C sound s f is e in let next = d.turn in record { row = has_leg f d.row; later = in_turn C sound s f is d.row d.same (omega arith) }

    -- and the next moment of its thread
    pub own_later : (o : Option PointSide) → following_at C s ≡ o → (later : Later) → IsLaterBy C s None later → IsLaterBy C s o (end_with C o later)
    own_later None e later its = its
    own_later (Some f) e later its = record {
      each = λ u h. refl;
      some = λ k. (f, own_after f e);
      most = λ u t h end.
          elim h [
            | inl other ↦ by_left later.last (end_at C f) t (its.most u t (inl other) end)
            | inr same ↦ subst (λ (o : Option ℕ). IsBy (sooner_end later.last o) t) (sym (ap (end_at C) (some_same same) ∙ end)) (by_right later.last t)
          ];
      one = λ t k.
          elim (one_of later.last (end_at C f) t k) [
            | inl old ↦ its.one t old
            | inr new ↦ (f, own_after f e, new)
          ];
    }

    module _ (later : Later) (its : IsLaterBy C s (following_at C s) later) where
      -- what is later than a moment is later than those before it in its thread
      up_to : (a b : PointSide) → IsRow C (row_on C a.point) → IsRow C (row_on C b.point) → (row_on C a.point).thread ≡ (row_on C b.point).thread → turn a ≤ turn b → (w : Moment) → Earlier C (moment_at_side C b) w → Earlier C (moment_at_side C a) w
      up_to a b ia ib same order w e =
          elim (cases_lt (turn a) (turn b)) [
            | inl less ↦ earlier_trans C sound (moment_at_side C a) (moment_at_side C b) w (in_turn C sound a b ia ib same less) e
            | inr past ↦ subst (λ (x : PointSide). Earlier C (moment_at_side C x) w) (sym (turn_same a b (omega arith))) e
          ]

      end_not_earlier : (u : PointSide) → Earlier C at_end (moment_at_side C u) → ⊥
      end_not_earlier u e = go u.is_after e
        where
          go : (b : Bool) → Earlier C at_end (beside_by (row_on C u.point) b) → ⊥
          go false k = k.0
          go true k = k.0

      to_end : (u : PointSide) → Earlier C (moment_at_side C u) at_end
      to_end u = go u.is_after
        where
          before_end : {r : Row} → before r ≡ at_end → ⊥
          before_end e = cc

          after_end : {r : Row} → after r ≡ at_end → ⊥
          after_end e = cc

          go : (b : Bool) → Earlier C (beside_by (row_on C u.point) b) at_end
          go false = (tt, λ e. before_end e)
          go true = (tt, λ e. after_end e)

      -- a moment between one and a moment that may come in time would end the search sooner
      ends_over : (w u : PointSide) → (row_on C w.point).thread ≢ (row_on C u.point).thread → Earlier C (moment_at_side C w) (moment_at_side C u) → IsOther C s w ⊎ (following_at C s ≡ Some w) → not_past later.last (begin_at C u) ≡ true → ⊥
      ends_over w u apart e h in_time =
          let ended = past_parts (end_at C w) (begin_at C u) (earlier_late C sound w u apart e) in
          over_by later.last (begin_at C u) ended.0 in_time (its.most w ended.0 h ended.1) ended.2

      other_of : (w : PointSide) → IsRow C (row_on C w.point) → (row_on C s.point).thread ≢ (row_on C w.point).thread → Earlier C (moment_at_side C s) (moment_at_side C w) → IsOther C s w
      other_of w iw apart e = record { row = has_leg w iw; apart = apart; later = e }

      -- the next moment of the thread
      own_none : (f : PointSide) → following_at C s ≡ Some f → not_past later.last (begin_at C f) ≡ true → (w : PointSide) → IsRow C (row_on C w.point) → Earlier C (moment_at_side C s) (moment_at_side C w) → Earlier C (moment_at_side C w) (moment_at_side C f) → ⊥
      own_none f e in_time w iw one other =
          let d = following_is C sound s f is e in
          let next = d.turn in
          elim (cases_eq (row_on C s.point).thread (row_on C w.point).thread) [
            | inl same ↦
                let low = turn_order C sound s w is iw same one in
                let high = turn_order C sound w f iw d.row (sym same ∙ d.same) other in
                omega arith
            | inr apart ↦ ends_over w f (λ k. apart (d.same ∙ sym k)) other (inl (other_of w iw apart one)) in_time
          ]

      -- the first later moment of another thread
      module _ (u : PointSide) (iu : IsRow C (row_on C u.point)) (apart : (row_on C s.point).thread ≢ (row_on C u.point).thread) (in_time : not_past later.last (begin_at C u) ≡ true) where
        same_none : (o : Option PointSide) → former_at C u ≡ o → none_late C s o ≡ true → (w : PointSide) → IsRow C (row_on C w.point) → (row_on C w.point).thread ≡ (row_on C u.point).thread → Earlier C (moment_at_side C s) (moment_at_side C w) → Earlier C (moment_at_side C w) (moment_at_side C u) → ⊥
        same_none None e none w iw same one other = former_none C sound u w iu e same (turn_order C sound w u iw iu same other)
        same_none (Some p) e none w iw same one other =
            let d = former_is C sound u p iu e in
            let next = d.turn in
            let ip = former_row C sound u p iu e in
            let low = turn_order C sound w u iw iu same other in
            let here : Earlier C (moment_at_side C s) (moment_at_side C p) = after_to w p iw ip (same ∙ sym d.same) (omega arith) one in
            false≢true (sym (earlier_late C sound s p (λ k. apart (k ∙ d.same)) here) ∙ none)
          where
            after_to : (a b : PointSide) → IsRow C (row_on C a.point) → IsRow C (row_on C b.point) → (row_on C a.point).thread ≡ (row_on C b.point).thread → turn a ≤ turn b → Earlier C (moment_at_side C s) (moment_at_side C a) → Earlier C (moment_at_side C s) (moment_at_side C b)
            after_to a b ia ib one_thread order k =
                elim (cases_lt (turn a) (turn b)) [
                  | inl less ↦ earlier_trans C sound (moment_at_side C s) (moment_at_side C a) (moment_at_side C b) k (in_turn C sound a b ia ib one_thread less)
                  | inr past ↦ subst (λ (x : PointSide). Earlier C (moment_at_side C s) (moment_at_side C x)) (turn_same a b (omega arith)) k
                ]

        own_between : (o : Option PointSide) → following_at C s ≡ o → (w : PointSide) → IsRow C (row_on C w.point) → (row_on C s.point).thread ≡ (row_on C w.point).thread → Earlier C (moment_at_side C s) (moment_at_side C w) → Earlier C (moment_at_side C w) (moment_at_side C u) → ⊥
        own_between None e w iw same one other = following_none C sound s w is e iw same (turn_order C sound s w is iw same one)
        own_between (Some f) e w iw same one other =
            let d = following_is C sound s f is e in
            let next = d.turn in
            let low = turn_order C sound s w is iw same one in
            ends_over f u (λ k. apart (d.same ∙ k)) (up_to f w d.row iw (sym d.same ∙ same) (omega arith) (moment_at_side C u) other) (inr e) in_time

        first_none : none_late C s (former_at C u) ≡ true → (w : PointSide) → IsRow C (row_on C w.point) → Earlier C (moment_at_side C s) (moment_at_side C w) → Earlier C (moment_at_side C w) (moment_at_side C u) → ⊥
        first_none none w iw one other =
            elim (cases_eq (row_on C w.point).thread (row_on C u.point).thread) [
              | inl same ↦ same_none (former_at C u) refl none w iw same one other
              | inr across ↦
                  elim (cases_eq (row_on C s.point).thread (row_on C w.point).thread) [
                    | inl own ↦ own_between (following_at C s) refl w iw own one other
                    | inr away ↦ ends_over w u across other (inl (other_of w iw away one)) in_time
                  ]
            ]

      -- a later moment of a row with none of a row between is next
      next_by : (u : PointSide) → IsRow C (row_on C u.point) → Earlier C (moment_at_side C s) (moment_at_side C u) → ((w : PointSide) → IsRow C (row_on C w.point) → Earlier C (moment_at_side C s) (moment_at_side C w) → Earlier C (moment_at_side C w) (moment_at_side C u) → ⊥) → IsNext C (moment_at_side C s) (moment_at_side C u)
      next_by u iu e none = record {
        later = e;
        none = λ x ix one other. between x ix one other;
      }
        where
          row_between : (x : Moment) → (w : PointSide) × IsRow C (row_on C w.point) × (moment_at_side C w ≡ x) → Earlier C (moment_at_side C s) x → Earlier C x (moment_at_side C u) → ⊥
          row_between x found one other = none found.0 found.1 (subst (λ (y : Moment). Earlier C (moment_at_side C s) y) (sym found.2) one) (subst (λ (y : Moment). Earlier C y (moment_at_side C u)) (sym found.2) other)

          between : (x : Moment) → IsMoment C x → Earlier C (moment_at_side C s) x → Earlier C x (moment_at_side C u) → ⊥
          between (before r) ix one other = row_between (before r) (side_from C sound (before r) ix (λ k. end_before k)) one other
          between (after r) ix one other = row_between (after r) (side_from C sound (after r) ix (λ k. end_after k)) one other
          between at_end ix one other = end_not_earlier u other

      neighbour : (u : PointSide) → IsRow C (row_on C u.point) → (v : ℕ) → (numbers_of C).name (moment_at_side C u) ≡ v → IsNext C (moment_at_side C s) (moment_at_side C u) → IsNeighbour C (moment_at_side C s) v
      neighbour u iu v name next = record { moment = moment_at_side C u; is_one = is_moment C sound u iu; next = next; name = name }

      own_offers : (o : Option PointSide) → following_at C s ≡ o → (v : ℕ) → Member (offers_at C later.last o) v → IsNeighbour C (moment_at_side C s) v
      own_offers None e v h = absurd h
      own_offers (Some f) e v h =
          let k = one_by (not_past later.last (begin_at C f)) ((numbers_of C).name (moment_at_side C f)) v h in
          let d = following_is C sound s f is e in
          neighbour f d.row v k.1 (next_by f d.row (own_after f e).later (own_none f e k.0))

      apart_by : (a b : ℕ) → not (eqb a b) ≡ true → a ≢ b
      apart_by a b e same = false≢true (sym (not_true (eqb a b) e) ∙ eq-eqb a b same)

      first_offers : (v : ℕ) → IsOffer C s later.last v → IsNeighbour C (moment_at_side C s) v
      first_offers v o =
          let iu = leads o.first o.row in
          let parts = and_parts (not (eqb (row_on C s.point).thread (row_on C o.first.point).thread)) (none_late C s (former_at C o.first)) o.is in
          let apart = apart_by (row_on C s.point).thread (row_on C o.first.point).thread parts.0 in
          neighbour o.first iu v o.name (next_by o.first iu (late_earlier C sound s o.first is iu o.late) (first_none o.first iu apart o.in_time parts.1))

      -- each next moment is one of these
      module _ (u : PointSide) (iu : IsRow C (row_on C u.point)) (next : IsNext C (moment_at_side C s) (moment_at_side C u)) where
        time_by : (o : Option ℕ) → later.last ≡ o → not_past o (begin_at C u) ≡ true
        time_by None e = refl
        time_by (Some t) e =
            let found = its.one t e in
            elim (cases_lt t (begin_at C u)) [
              | inr past ↦ le-leb (begin_at C u) t past
              | inl less ↦ absurd (next.none (moment_at_side C found.0) (is_moment C sound found.0 (leads found.0 found.1.row)) found.1.later (late_earlier C sound found.0 u (leads found.0 found.1.row) iu (past_from (end_at C found.0) (begin_at C u) t found.2 less)))
            ]

        in_time_is : not_past later.last (begin_at C u) ≡ true
        in_time_is = time_by later.last refl

        own_held : (o : Option PointSide) → following_at C s ≡ o → (row_on C s.point).thread ≡ (row_on C u.point).thread → Member (offers_at C later.last o) ((numbers_of C).name (moment_at_side C u))
        own_held None e same = absurd (following_none C sound s u is e iu same (turn_order C sound s u is iu same next.later))
        own_held (Some f) e same =
            let d = following_is C sound s f is e in
            let after_s = d.turn in
            let low = turn_order C sound s u is iu same next.later in
            let one : f ≡ u =
            elim (cases_lt (turn f) (turn u)) [
              | inl less ↦ absurd (next.none (moment_at_side C f) (is_moment C sound f d.row) (own_after f e).later (in_turn C sound f u d.row iu (sym d.same ∙ same) less))
              | inr past ↦ turn_same f u (omega arith)
            ] in
            subst (λ (x : PointSide). Member (offers_at C later.last (Some x)) ((numbers_of C).name (moment_at_side C u))) (sym one) (held_by (not_past later.last (begin_at C u)) ((numbers_of C).name (moment_at_side C u)) ((numbers_of C).name (moment_at_side C u)) in_time_is refl)

        early_by : (row_on C s.point).thread ≢ (row_on C u.point).thread → (o : Option PointSide) → former_at C u ≡ o → none_late C s o ≡ true
        early_by apart None e = refl
        early_by apart (Some p) e =
            let d = former_is C sound u p iu e in
            let after_p = d.turn in
            let ip = former_row C sound u p iu e in
            elim (cases_Bool (not_past (end_at C s) (begin_at C p))) [
              | inl early ↦ early
              | inr late ↦ absurd (next.none (moment_at_side C p) (is_moment C sound p ip) (late_earlier C sound s p is ip late) (in_turn C sound p u ip iu d.same (omega arith)))
            ]

        first_held : (row_on C s.point).thread ≢ (row_on C u.point).thread → IsOffer C s later.last ((numbers_of C).name (moment_at_side C u))
        first_held apart = record {
          first = u;
          row = has_leg u iu;
          late = earlier_late C sound s u apart next.later;
          is = and_from (not (eqb (row_on C s.point).thread (row_on C u.point).thread)) (none_late C s (former_at C u)) (ap not (ne_eqb (row_on C s.point).thread (row_on C u.point).thread apart)) (early_by apart (former_at C u) refl);
          in_time = in_time_is;
          name = refl;
        }

        all_held : Member (offers_at C later.last (following_at C s)) ((numbers_of C).name (moment_at_side C u)) ⊎ IsOffer C s later.last ((numbers_of C).name (moment_at_side C u))
        all_held =
            elim (cases_eq (row_on C s.point).thread (row_on C u.point).thread) [
              | inl same ↦ inl (own_held (following_at C s) refl same)
              | inr apart ↦ inr (first_held apart)
            ]

      -- it is the next one of the thread, or a first one of another thread
      abbrev IsFound : ℕ → Type 0
      IsFound v = Member (offers_at C later.last (following_at C s)) v ⊎ IsOffer C s later.last v

      row_held : (q : Moment) → IsNext C (moment_at_side C s) q → (u : PointSide) × IsRow C (row_on C u.point) × (moment_at_side C u ≡ q) → IsFound ((numbers_of C).name q)
      row_held q next found = subst (λ (y : Moment). IsFound ((numbers_of C).name y)) found.2 (all_held found.0 found.1 (subst (λ (y : Moment). IsNext C (moment_at_side C s) y) (sym found.2) next))

      next_held : later.some ≡ true → (q : Moment) → IsMoment C q → IsNext C (moment_at_side C s) q → IsFound ((numbers_of C).name q)
      next_held some (before r) iq next = row_held (before r) next (side_from C sound (before r) iq (λ k. end_before k))
      next_held some (after r) iq next = row_held (after r) next (side_from C sound (after r) iq (λ k. end_after k))
      next_held some at_end iq next = let found = its.some some in absurd (next.none (moment_at_side C found.0) (is_moment C sound found.0 (leads found.0 found.1.row)) found.1.later (to_end found.0))

      pub nexts_found : (own : ℕ) (start old new : List ℕ) → later.some ≡ true → AddsOthers own (Member (offers_at C later.last (following_at C s))) start old → AddsOthers own (IsOffer C s later.last) old new → AddsOthers own (Member (nexts_of C (moment_at_side C s))) start new
      nexts_found own start old new some =
          adds_both own (Member (offers_at C later.last (following_at C s))) (IsOffer C s later.last) (Member (nexts_of C (moment_at_side C s))) start old new
          (λ v h. neighbour_has C sound (moment_at_side C s) (is_moment C sound s is) v (elim h [
            | inl k ↦ own_offers (following_at C s) refl v k
            | inr k ↦ first_offers v k
          ]))
          (λ v h. let nb = has_next C sound (moment_at_side C s) (is_moment C sound s is) v h in subst IsFound nb.name (next_held some nb.moment nb.is_one nb.next))

      -- where nothing is later only the end is next
      own_nothing : later.some ≡ false → (o : Option PointSide) → following_at C s ≡ o → (w : PointSide) → IsRow C (row_on C w.point) → (row_on C s.point).thread ≡ (row_on C w.point).thread → Earlier C (moment_at_side C s) (moment_at_side C w) → ⊥
      own_nothing none None e w iw same one = following_none C sound s w is e iw same (turn_order C sound s w is iw same one)
      own_nothing none (Some f) e w iw same one = false≢true (sym none ∙ its.each f (inr e))

      nothing : later.some ≡ false → (w : PointSide) → IsRow C (row_on C w.point) → Earlier C (moment_at_side C s) (moment_at_side C w) → ⊥
      nothing none w iw one =
          elim (cases_eq (row_on C s.point).thread (row_on C w.point).thread) [
            | inl same ↦ own_nothing none (following_at C s) refl w iw same one
            | inr away ↦ false≢true (sym none ∙ its.each w (inl (other_of w iw away one)))
          ]

      nothing_of : later.some ≡ false → (q : Moment) → Earlier C (moment_at_side C s) q → (u : PointSide) × IsRow C (row_on C u.point) × (moment_at_side C u ≡ q) → ⊥
      nothing_of none q one found = nothing none found.0 found.1 (subst (λ (y : Moment). Earlier C (moment_at_side C s) y) (sym found.2) one)

      end_none : later.some ≡ false → (x : Moment) → IsMoment C x → Earlier C (moment_at_side C s) x → Earlier C x at_end → ⊥
      end_none none (before r) ix one other = nothing_of none (before r) one (side_from C sound (before r) ix (λ k. end_before k))
      end_none none (after r) ix one other = nothing_of none (after r) one (side_from C sound (after r) ix (λ k. end_after k))
      end_none none at_end ix one other = other.1 refl

      end_held : later.some ≡ false → (q : Moment) → IsMoment C q → IsNext C (moment_at_side C s) q → Member ((numbers_of C).end ∷ []) ((numbers_of C).name q)
      end_held none (before r) iq next = absurd (nothing_of none (before r) next.later (side_from C sound (before r) iq (λ k. end_before k)))
      end_held none (after r) iq next = absurd (nothing_of none (after r) next.later (side_from C sound (after r) iq (λ k. end_after k)))
      end_held none at_end iq next = inl (sym (are_numbers C sound).end)

      end_next : later.some ≡ false → (v : ℕ) → Member ((numbers_of C).end ∷ []) v → IsNeighbour C (moment_at_side C s) v
      end_next none v (inl same) = record { moment = at_end; is_one = tt; next = record { later = to_end s; none = end_none none }; name = (are_numbers C sound).end ∙ same }
      end_next none v (inr h) = absurd h

      pub nexts_end : (own : ℕ) (old new : List ℕ) (n : ℕ) → later.some ≡ false → n ≡ (numbers_of C).end → AddsOthers own (Member (n ∷ [])) old new → AddsOthers own (Member (nexts_of C (moment_at_side C s))) old new
      nexts_end own old new n none end e =
          adds_as own (Member ((numbers_of C).end ∷ [])) (Member (nexts_of C (moment_at_side C s))) old new
          (λ v h. neighbour_has C sound (moment_at_side C s) (is_moment C sound s is) v (end_next none v h))
          (λ v h. let nb = has_next C sound (moment_at_side C s) (is_moment C sound s is) v h in subst (λ (k : ℕ). Member ((numbers_of C).end ∷ []) k) nb.name (end_held none nb.moment nb.is_one nb.next))
          (subst (λ (k : ℕ). AddsOthers own (Member (k ∷ [])) old new) end e)

-- the numbers that were added, of the slices from one place to another
pub record IsTaken (C : Course) (s : PointSide) (last : Option ℕ) (list : List SliceStart) (low high v : ℕ) : Type 0 where
  pub offer : IsOffer C s last v
  pub place : ℕ
  pub at : SliceStart
  pub there : slice_get list place ≡ Some at
  pub side : at.side ≡ offer.first
  pub from : low ≤ place
  pub below : place < high

pub taken_none : (C : Course) (s : PointSide) (last : Option ℕ) (list : List SliceStart) (own : ℕ) (old : List ℕ) (low : ℕ) → AddsOthers own (IsTaken C s last list low low) old old
taken_none C s last list own old low = adds_none own (IsTaken C s last list low low) old (λ v h. let from = h.from in let below = h.below in absurd (omega arith))

module _ (C : Course) (sound : IsSoundCourse C) (s : PointSide) (last : Option ℕ) (list : List SliceStart) (are : AreBegins C list) (low high : ℕ) (late : (k : ℕ) (b : SliceStart) → low ≤ k → slice_get list k ≡ Some b → not_past (end_at C s) b.begin ≡ false) (in_time : (k : ℕ) (b : SliceStart) → k < high → slice_get list k ≡ Some b → not_past last b.begin ≡ true) where
  pub taken_more : (own : ℕ) (start old new : List ℕ) (place : ℕ) (first : PointSide) → place < high → high ≤ length list → low ≤ place → ((b : SliceStart) → slice_get list place ≡ Some b → first ≡ b.side) → AddsOthers own (IsTaken C s last list low place) start old → AddsOthers own (Member (first_offer C s first)) old new → AddsOthers own (IsTaken C s last list low (place + 1)) start new
  taken_more own start old new place first less few order is_side = adds_both own (IsTaken C s last list low place) (Member (first_offer C s first)) (IsTaken C s last list low (place + 1)) start old new taken parted
    where
      its_at : SliceStart
      its_at = get_or list place (record { begin = 0; side = first; least = None })

      there : slice_get list place ≡ Some (get_or list place (record { begin = 0; side = first; least = None }))
      there = slice_get-get_or list place (record { begin = 0; side = first; least = None }) (omega arith)

      same : first ≡ (get_or list place (record { begin = 0; side = first; least = None })).side
      same = is_side (get_or list place (record { begin = 0; side = first; least = None })) there

      taken : (v : ℕ) → IsTaken C s last list low place v ⊎ Member (first_offer C s first) v → IsTaken C s last list low (place + 1) v
      taken v (inl t) = let below = t.below in record { offer = t.offer; place = t.place; at = t.at; there = t.there; side = t.side; from = t.from; below = omega arith }
      taken v (inr k) =
          let one = one_by (is_first_later C s first) ((numbers_of C).name (moment_at_side C first)) v k in
          record {
            offer = record {
              first = first;
              row = subst (λ (x : PointSide). IsSome (leg_row C x.point)) (sym same) (are.row place its_at there);
              late = subst (λ (t : ℕ). not_past (end_at C s) t ≡ false) (are.begin place its_at there ∙ ap (begin_at C) (sym same)) (late place its_at order there);
              is = one.0;
              in_time = subst (λ (t : ℕ). not_past last t ≡ true) (are.begin place its_at there ∙ ap (begin_at C) (sym same)) (in_time place its_at less there);
              name = one.1;
            };
            place = place;
            at = its_at;
            there = there;
            side = sym same;
            from = order;
            below = omega arith;
          }

      parted : (v : ℕ) → IsTaken C s last list low (place + 1) v → IsTaken C s last list low place v ⊎ Member (first_offer C s first) v
      parted v t =
          elim (cases_lt t.place place) [
            | inl below ↦ inl (record { offer = t.offer; place = t.place; at = t.at; there = t.there; side = t.side; from = t.from; below = below })
            | inr past ↦
                let below = t.below in
                let one : t.place ≡ place = omega arith in
                let here : first ≡ t.offer.first = is_side t.at (ap (slice_get list) (sym one) ∙ t.there) ∙ t.side in
                inr (held_by (is_first_later C s first) ((numbers_of C).name (moment_at_side C first)) v (ap (is_first_later C s) here ∙ t.offer.is) (ap (λ (x : PointSide). (numbers_of C).name (moment_at_side C x)) here ∙ t.offer.name))
          ]

  first_at : (u : PointSide) → IsRow C (row_on C u.point) → not_past (end_at C s) (begin_at C u) ≡ false → (o : Option PointSide) → former_at C u ≡ o → none_late C s o ≡ true → is_first_at C u ≡ true
  first_at u is past None e none = ap (λ (o : Option PointSide). is_first_by C o u) e
  first_at u is past (Some p) e none = ap (λ (o : Option PointSide). is_first_by C o u) e ∙ ap not (not_so (is_alike C p u) (λ k.
      let same = eqb-true (begin_at C p) (begin_at C u) (and_parts (eqb (begin_at C p) (begin_at C u)) (same_end (end_at C p) (end_at C u)) k).0 in
      false≢true (sym past ∙ ap (not_past (end_at C s)) (sym same) ∙ none)))

  -- all of them, where no slice before begins late, and none after in time
  pub taken_all : ((k : ℕ) (b : SliceStart) → k < low → slice_get list k ≡ Some b → not_past (end_at C s) b.begin ≡ true) → ((k : ℕ) (b : SliceStart) → high ≤ k → slice_get list k ≡ Some b → not_past last b.begin ≡ false) → (own : ℕ) (start new : List ℕ) (place : ℕ) → high ≤ place → AddsOthers own (IsTaken C s last list low place) start new → AddsOthers own (IsOffer C s last) start new
  taken_all early past own start new place over = adds_as own (IsTaken C s last list low place) (IsOffer C s last) start new (λ v t. t.offer) (λ v o.
      let is = there_row C (row_on C o.first.point) o.row in
      let parts = and_parts (not (eqb (row_on C s.point).thread (row_on C o.first.point).thread)) (none_late C s (former_at C o.first)) o.is in
      let entry = are.all o.first o.row (first_at o.first is o.late (former_at C o.first) refl parts.1) in
      let begin : entry.1.begin ≡ begin_at C o.first = are.begin entry.0 entry.1 entry.2 ∙ ap (begin_at C) entry.3 in
      record {
        offer = o;
        place = entry.0;
        at = entry.1;
        there = entry.2;
        side = entry.3;
        from =
            elim (cases_lt entry.0 low) [
              | inl under ↦ absurd (false≢true (sym o.late ∙ ap (not_past (end_at C s)) (sym begin) ∙ early entry.0 entry.1 under entry.2))
              | inr upward ↦ upward
            ];
        below =
            elim (cases_lt entry.0 high) [
              | inl under ↦ omega arith
              | inr upward ↦ absurd (false≢true (sym (past entry.0 entry.1 upward entry.2) ∙ ap (not_past last) begin ∙ o.in_time))
            ];
      })

pub slice_leads : (C : Course) (list : List SliceStart) → AreBegins C list → (place : ℕ) (first : PointSide) → place < length list → ((b : SliceStart) → slice_get list place ≡ Some b → first ≡ b.side) → IsSome (leg_row C first.point)
slice_leads C list are place first less is_side =
    let there = slice_get-get_or list place (record { begin = 0; side = first; least = None }) less in
    subst (λ (x : PointSide). IsSome (leg_row C x.point)) (sym (is_side (get_or list place (record { begin = 0; side = first; least = None })) there)) (are.row place (get_or list place (record { begin = 0; side = first; least = None })) there)
