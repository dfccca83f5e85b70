-- The untraced prefix by times, and what may act in the pauses within one slice.
use Rattle.std.proofs.Common.{◌≡◌, ◌≢◌, ℕ, suc, ◌<◌, Bool, true, false, length, Option, Some, None, inl, inr, refl, sym, ap, ◌∙◌, subst, arith}
use Rattle.std.proofs.lemmas.Bool.{cases_eq, cases_order}
use Rattle.rept_steps.specs.declared.slice.Slice.{Slice}
use Rattle.rept_steps.specs.Course.{Course, Row, row_of, rows_of, slices_of, slice_of, IsRow, calls, CallsEnd, IsSoundCourse}
use Rattle.rept_order.specs.Events.{Part, Event, IsEvent, FitsRow, slice_by, event_slice, first_event, last_event, Before, Precedes, PrecedesOrIs, IsAfterUntraced, UntracedPrecedes}
use Rattle.rept_order.specs.Events.Part.{whole, entry, return}
use Rattle.rept_order.specs.Events.IsBefore.{by_row, by_call, by_time}
use Rattle.rept_order.specs.Moments.{Act, IsAct, UntracedBefore, WhollyBefore, WhollyAfter, Stretch, stretch, MayAct, IsPauseIn}
use Rattle.rept_order.specs.Moments.Moment.{before, after}
use Rattle.rept_order.specs.Moments.Act.{row, untraced}
use Rattle.rept_order.specs.Times.{begin_in, begin_from, begin_of, Sooner}
use Rattle.rept_order.proofs.Sequence.{part_of, first_is_event, last_is_event, last_whole, directly}
use Rattle.rept_order.proofs.Times.{precedes_sooner, sooner_precedes, begin_mono, slice_time, row_slice, begin_is}

same_number : {a b : ℕ} → Some a ≡ Some b → a ≡ b
same_number e = cc

none_number : {a : ℕ} → None ≡ Some a → ⊥
none_number e = cc

none_slice : {a : Slice} → None ≡ Some a → ⊥
none_slice e = cc

module _ (C : Course) (sound : IsSoundCourse C) where
  all_end : (d : ℕ) → C.untraced ≡ Some d → CallsEnd C
  all_end d is =
      elim (sound.calls) [
        | inl alone ↦ absurd (none_number (sym alone.told ∙ is))
        | inr ends ↦ ends
      ]

  told_begin : (d : ℕ) (f : Event) → C.untraced ≡ Some d → IsAfterUntraced C f → d < begin_of C f
  told_begin d f is told =
      let same = same_number (sym is ∙ told.is_untraced) in
      let begin = begin_is C sound f told.slice told.in_slice in
      let late = told.late in
      omega arith

  -- what is before an event that begins after the untraced prefix, is the untraced prefix
  pub untraced_late : (d : ℕ) (e : Event) → C.untraced ≡ Some d → IsEvent C e → UntracedPrecedes C e → d < begin_of C e
  untraced_late d e is its (f, told, inl same) = subst (λ (g : Event). d < begin_of C g) same (told_begin d f is told)
  untraced_late d e is its (f, told, inr way) = by (precedes_sooner C sound f e way)
    where
      by : Sooner C f e → d < begin_of C e
      by (inl (threads, own)) =
          let mono = begin_mono C sound (all_end d is) f e told.event its threads own in
          let begin = told_begin d f is told in
          omega arith
      by (inr ends) =
          let begin = told_begin d f is told in
          let its_begin = begin_is C sound f ends.slice ends.in_slice in
          let time = slice_time C sound f ends.slice ends.in_slice in
          let less = ends.less in
          omega arith

  late_by : (d : ℕ) (e : Event) (o : Option Slice) → C.untraced ≡ Some d → IsEvent C e → d < begin_of C e → event_slice C e ≡ o → UntracedPrecedes C e
  late_by d e (Some s) is its late found =
      let begin = begin_is C sound e s found in
      (e, record { event = its; untraced = d; slice = s; is_untraced = is; in_slice = found; late = omega arith }, inl refl)
  late_by d e None is its late found = by_part e.part refl
    where
      own : (s : Slice) × (slice_of (slices_of C e.row.thread) e.row.step ≡ Some s)
      own = row_slice C sound e.row its.row

      held : (p : Part) → e.part ≡ p → slice_by p (slices_of C e.row.thread) e.row.step ≡ Some own.0 → ⊥
      held p same there = none_slice (sym found ∙ ap (λ (q : Part). slice_by q (slices_of C e.row.thread) e.row.step) same ∙ there)

      by_part : (p : Part) → e.part ≡ p → UntracedPrecedes C e
      by_part whole same = absurd (held whole same own.1)
      by_part entry same = absurd (held entry same own.1)
      by_part return same =
          let called : calls C e.row ≡ true = subst (λ (p : Part). FitsRow (calls C e.row) p) same its.part in
          let entered : IsEvent C (part_of e.row entry) = record { row = its.row; part = called } in
          let begin : begin_of C e ≡ own.0.begin = ap (λ (x : Option Slice). begin_from x (slice_of (slices_of C e.row.thread) e.row.step)) found ∙ ap begin_in own.1 in
          (part_of e.row entry, record { event = entered; untraced = d; slice = own.0; is_untraced = is; in_slice = own.1; late = omega arith }, inr (directly C (part_of e.row entry) e (record { first = entered; second = its; why = by_call refl refl same })))

  pub late_untraced : (d : ℕ) (e : Event) → C.untraced ≡ Some d → IsEvent C e → d < begin_of C e → UntracedPrecedes C e
  late_untraced d e is its late = late_by d e (event_slice C e) is its late refl

  plain_by : (t i : ℕ) (s : Slice) (b : Bool) → CallsEnd C → IsPauseIn C t i s → calls C (row_of t i) ≡ b → calls C (row_of t i) ≡ false
  plain_by t i s true ends w is =
      let last = ends (row_of t i) s is w.first in
      let reach = Rattle.rept_order.proofs.Slots.slice_reaches (slices_of C t) (suc i) s w.second in
      absurd (omega arith)
  plain_by t i s false ends w is = is

  module _ (ends : CallsEnd C) where
    plain : (t i : ℕ) (s : Slice) → IsPauseIn C t i s → calls C (row_of t i) ≡ false
    plain t i s w = plain_by t i s (calls C (row_of t i)) ends w refl

    -- begin and end of the events of a pause are those of the slice
    last_slice : (t i : ℕ) (s : Slice) → IsPauseIn C t i s → event_slice C (last_event C (row_of t i)) ≡ Some s
    last_slice t i s w = ap (λ (e : Event). event_slice C e) (last_whole C (row_of t i) (plain t i s w)) ∙ w.first

    first_slice_by : (t i : ℕ) (b : Bool) → slice_by (Rattle.rept_order.specs.Events.first_part b) (slices_of C t) i ≡ slice_of (slices_of C t) i
    first_slice_by t i true = refl
    first_slice_by t i false = refl

    next_slice : (t i : ℕ) (s : Slice) → IsPauseIn C t i s → event_slice C (first_event C (row_of t (suc i))) ≡ Some s
    next_slice t i s w = first_slice_by t (suc i) (calls C (row_of t (suc i))) ∙ w.second

    not_same : (e f : Event) → e.row.thread ≢ f.row.thread → e ≡ f → ⊥
    not_same e f apart same = apart (ap (λ (x : Event). x.row.thread) same)

    -- what another thread has wholly before one pause it has before each other one of the slice
    before_alike : (q : Row) (t i j : ℕ) (s : Slice) → IsRow C q → q.thread ≢ t → IsPauseIn C t i s → IsPauseIn C t j s → WhollyBefore C (row q) (after (row_of t i)) → WhollyBefore C (row q) (after (row_of t j))
    before_alike q t i j s is apart w v way = by way
      where
        from_time : Sooner C (last_event C q) (last_event C (row_of t i)) → WhollyBefore C (row q) (after (row_of t j))
        from_time (inl (same, own)) = absurd (apart same)
        from_time (inr ending) =
            let one = begin_is C sound (last_event C (row_of t i)) s (last_slice t i s w) in
            let other = begin_is C sound (last_event C (row_of t j)) s (last_slice t j s v) in
            let less = ending.less in
            inr (sooner_precedes C sound (last_event C q) (last_event C (row_of t j)) (last_is_event C q is) (last_is_event C (row_of t j) (let far = v.inside in omega arith)) (inr (record { slice = ending.slice; in_slice = ending.in_slice; less = omega arith })))

        by : PrecedesOrIs C (last_event C q) (last_event C (row_of t i)) → WhollyBefore C (row q) (after (row_of t j))
        by (inl same) = absurd (not_same (last_event C q) (last_event C (row_of t i)) apart same)
        by (inr less) = from_time (precedes_sooner C sound (last_event C q) (last_event C (row_of t i)) less)

    after_alike : (q : Row) (t i j : ℕ) (s : Slice) → IsRow C q → q.thread ≢ t → IsPauseIn C t i s → IsPauseIn C t j s → WhollyAfter C (row q) (before (row_of t (suc i))) → WhollyAfter C (row q) (before (row_of t (suc j)))
    after_alike q t i j s is apart w v way = by way
      where
        from_time : Sooner C (first_event C (row_of t (suc i))) (first_event C q) → WhollyAfter C (row q) (before (row_of t (suc j)))
        from_time (inl (same, own)) = absurd (apart (sym same))
        from_time (inr ending) =
            let slices : ending.slice ≡ s = one_slice (sym ending.in_slice ∙ next_slice t i s w) in
            let times : ending.slice.end ≡ s.end = ap (λ (u : Slice). u.end) slices in
            let less = ending.less in
            inr (sooner_precedes C sound (first_event C (row_of t (suc j))) (first_event C q) (first_is_event C (row_of t (suc j)) v.inside) (first_is_event C q is) (inr (record { slice = s; in_slice = next_slice t j s v; less = omega arith })))
          where
            one_slice : {a b : Slice} → Some a ≡ Some b → a ≡ b
            one_slice e = cc

        by : PrecedesOrIs C (first_event C (row_of t (suc i))) (first_event C q) → WhollyAfter C (row q) (before (row_of t (suc j)))
        by (inl same) = absurd (apart (sym (ap (λ (x : Event). x.row.thread) same)))
        by (inr less) = from_time (precedes_sooner C sound (first_event C (row_of t (suc i))) (first_event C q) less)

    untraced_alike : (t i j : ℕ) (s : Slice) → IsAct C untraced → IsPauseIn C t i s → IsPauseIn C t j s → UntracedBefore C (after (row_of t i)) → UntracedBefore C (after (row_of t j))
    untraced_alike t i j s is w v way =
        let first = let far = w.inside in last_is_event C (row_of t i) (omega arith) in
        let second = let far = v.inside in last_is_event C (row_of t j) (omega arith) in
        let late = untraced_late is.0 (last_event C (row_of t i)) is.1 first way in
        let one = begin_is C sound (last_event C (row_of t i)) s (last_slice t i s w) in
        let other = begin_is C sound (last_event C (row_of t j)) s (last_slice t j s v) in
        late_untraced is.0 (last_event C (row_of t j)) is.1 second (omega arith)

    -- no row of the thread itself may act in a pause
    own_never : (q : Row) (t i : ℕ) → IsRow C q → q.thread ≡ t → suc i < length (rows_of C t) → MayAct C (row q) (stretch (after (row_of t i)) (before (row_of t (suc i)))) → ⊥
    own_never q t i is own inside may_act =
        elim (cases_order q.step (suc i)) [
          | inl same ↦ may_act.not_after (inl (ap (λ (r : Row). first_event C r) (sym (named q own same))))
          | inr (inl less) ↦
              elim (cases_eq q.step i) [
                | inl same ↦ may_act.not_before (inl (ap (λ (r : Row). last_event C r) (named q own same)))
                | inr apart ↦ may_act.not_before (inr (directly C _ _ (record { first = last_is_event C q is; second = last_is_event C (row_of t i) (omega arith); why = by_row own (omega arith) })))
              ]
          | inr (inr more) ↦ may_act.not_after (inr (directly C _ _ (record { first = first_is_event C (row_of t (suc i)) inside; second = first_is_event C q is; why = by_row (sym own) more })))
        ]
      where
        named : (r : Row) {k : ℕ} → r.thread ≡ t → r.step ≡ k → r ≡ row_of t k
        named r one other = ap (λ (u : ℕ). row_of u r.step) one ∙ ap (λ (k : ℕ). row_of t k) other

    no_plain_pause : (t i : ℕ) (r : Row) → stretch (after (row_of t i)) (before (row_of t (suc i))) ≡ stretch (before r) (after r) → ⊥
    no_plain_pause t i r same = apart (ap (λ (x : Stretch). x.from) same)
      where
        apart : {q : Row} → after q ≡ before r → ⊥
        apart e = cc

    -- whoever may act in one pause of a slice may act in each other one
    pub pauses_alike : (act : Act) (t i j : ℕ) (s : Slice) → IsAct C act → IsPauseIn C t i s → IsPauseIn C t j s → MayAct C act (stretch (after (row_of t i)) (before (row_of t (suc i)))) → MayAct C act (stretch (after (row_of t j)) (before (row_of t (suc j))))
    pauses_alike (row q) t i j s is w v may_act =
        elim (cases_eq q.thread t) [
          | inl own ↦ absurd (own_never q t i is own w.inside may_act)
          | inr apart ↦ record {
            not_before = λ way. may_act.not_before (before_alike q t j i s is apart v w way);
            not_after = λ way. may_act.not_after (after_alike q t j i s is apart v w way);
            alone = λ r k same. absurd (no_plain_pause t j r same);
          }
        ]
    pauses_alike untraced t i j s is w v may_act = record {
      not_before = λ way. may_act.not_before (untraced_alike t j i s is v w way);
      not_after = λ way. way;
      alone = λ r k same. absurd (no_plain_pause t j r same);
    }
