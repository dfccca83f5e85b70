-- What lies between two moments of a sound course.
use Rattle.std.proofs.Common.{◌≡◌, ℕ, ◌⊎◌, Bool, true, false, List, [], ◌∷◌, inl, inr, refl, sym, ap, ◌∙◌, subst}
use Rattle.std.proofs.lemmas.Bool.{false≢true}
use Rattle.rept_steps.specs.Course.{Course, Row, IsRow, calls, IsSoundCourse}
use Rattle.rept_order.specs.Events.{Event, first_event, last_event, Precedes, PrecedesOrIs, UntracedPrecedes}
use Rattle.rept_order.specs.Events.IsBefore.{by_call}
use Rattle.rept_order.specs.Moments.{Moment, NotLater, Earlier, Act, IsAct, UntracedBefore, WhollyBefore, WhollyAfter, Stretch, stretch, MayAct, may_by, IsUntouched, IsUntouchedStep, Joined}
use Rattle.rept_order.specs.Moments.Moment.{before, after, at_end}
use Rattle.rept_order.specs.Moments.Act.{row, untraced}
use Rattle.rept_order.proofs.Sequence.{first_is_event, last_is_event, first_whole, last_whole, first_entry, last_return, or_after, or_or, not_later_trans}
use Rattle.rept_order.proofs.Times.{precedes_irreflexive}

by_call_of : (C : Course) (r : Row) (b : Bool) → calls C r ≡ b → IsRow C r → PrecedesOrIs C (first_event C r) (last_event C r)
by_call_of C r false e is = inl (first_whole C r e ∙ sym (last_whole C r e))
by_call_of C r true e is = inr ([], record { first = first_is_event C r is; second = record { row = is; part = (last_is_event C r is).part }; why = by_call refl (ap (λ (x : Event). x.part) (first_entry C r e)) (ap (λ (x : Event). x.part) (last_return C r e)) })

-- a row ends no earlier than it begins
pub row_forward : (C : Course) (r : Row) → IsRow C r → PrecedesOrIs C (first_event C r) (last_event C r)
row_forward C r is = by_call_of C r (calls C r) refl is

module _ (C : Course) where
  untraced_onward : (e f : Event) → UntracedPrecedes C e → PrecedesOrIs C e f → UntracedPrecedes C f
  untraced_onward e f d way = (d.0, d.1, or_or C d.0 e f d.2 way)

  untraced_later : (m w : Moment) → UntracedBefore C m → NotLater C m w → UntracedBefore C w
  untraced_later (before p) (before q) d way = untraced_onward _ _ d way
  untraced_later (before p) (after q) d way = untraced_onward _ _ d way
  untraced_later (after p) (before q) d way = untraced_onward _ _ d (inr way)
  untraced_later (after p) (after q) d way = untraced_onward _ _ d way
  untraced_later at_end (before q) d way = absurd way
  untraced_later at_end (after q) d way = absurd way
  untraced_later m at_end d way = last m
    where
      last : (m : Moment) → UntracedBefore C at_end
      last m = tt

  -- what is before a moment is before each later one, what is after one is after each earlier one
  pub before_later : (act : Act) (m w : Moment) → WhollyBefore C act m → NotLater C m w → WhollyBefore C act w
  before_later (row r) m w way onward = not_later_trans C (after r) m w way onward
  before_later untraced m w way onward = untraced_later m w way onward

  pub after_earlier : (act : Act) (m w : Moment) → NotLater C m w → WhollyAfter C act w → WhollyAfter C act m
  after_earlier (row r) m w onward way = not_later_trans C m w (before r) onward way
  after_earlier untraced m w onward way = absurd way

module _ (C : Course) (sound : IsSoundCourse C) where
  never_back : (e f : Event) → Precedes C e f → PrecedesOrIs C f e → ⊥
  never_back e f h k = precedes_irreflexive C sound e (or_after C e f e h k)

  -- a row isn't both wholly before and wholly after a moment
  pub not_both : (act : Act) (m : Moment) → IsAct C act → WhollyBefore C act m → WhollyAfter C act m → ⊥
  not_both (row r) m is before_it after_it = never_back (last_event C r) (first_event C r) (not_later_trans C (after r) m (before r) before_it after_it) (row_forward C r is)
  not_both untraced m is before_it after_it = absurd after_it

  -- nothing lies between the two moments of a row that is no call
  pub none_inside : (r : Row) (x : Moment) → calls C r ≡ false → Earlier C (before r) x → Earlier C x (after r) → ⊥
  none_inside r (before q) plain (from, apart) (to, other) = by from
    where
      one : last_event C r ≡ first_event C r
      one = last_whole C r plain ∙ sym (first_whole C r plain)

      back : PrecedesOrIs C (first_event C q) (first_event C r)
      back = subst (λ (e : Event). PrecedesOrIs C (first_event C q) e) one to

      by : PrecedesOrIs C (first_event C r) (first_event C q) → ⊥
      by (inl same) = apart (ap (λ (e : Event). before e.row) same)
      by (inr less) = never_back (first_event C r) (first_event C q) less back
  none_inside r (after q) plain (from, apart) (to, other) = by to
    where
      one : first_event C r ≡ last_event C r
      one = first_whole C r plain ∙ sym (last_whole C r plain)

      back : PrecedesOrIs C (last_event C r) (last_event C q)
      back = subst (λ (e : Event). PrecedesOrIs C e (last_event C q)) one from

      by : PrecedesOrIs C (last_event C q) (last_event C r) → ⊥
      by (inl same) = other (ap (λ (e : Event). after e.row) same)
      by (inr less) = never_back (last_event C q) (last_event C r) less back
  none_inside r at_end plain from (to, other) = absurd to

  -- who may act in a part of a stretch may act in the whole
  pub may_act_front : (act : Act) (m x w : Moment) → Earlier C m x → Earlier C x w → MayAct C act (stretch m x) → MayAct C act (stretch m w)
  may_act_front act m x w one other may_act = record {
    not_before = may_act.not_before;
    not_after = λ way. may_act.not_after (after_earlier C act x w other.0 way);
    alone = λ r plain same. absurd (none_inside r x plain (subst (λ (y : Moment). Earlier C y x) (ap (λ (s : Stretch). s.from) same) one) (subst (λ (y : Moment). Earlier C x y) (ap (λ (s : Stretch). s.to) same) other));
  }

  pub may_act_back : (act : Act) (m x w : Moment) → Earlier C m x → Earlier C x w → MayAct C act (stretch x w) → MayAct C act (stretch m w)
  may_act_back act m x w one other may_act = record {
    not_before = λ way. may_act.not_before (before_later C act m x way one.0);
    not_after = may_act.not_after;
    alone = λ r plain same. absurd (none_inside r x plain (subst (λ (y : Moment). Earlier C y x) (ap (λ (s : Stretch). s.from) same) one) (subst (λ (y : Moment). Earlier C x y) (ap (λ (s : Stretch). s.to) same) other));
  }

  module _ (may : Row → ℕ → Bool) (a : ℕ) where
    -- a byte that is quiet over a stretch is quiet over both parts of it
    pub quiet_front : (m x w : Moment) → Earlier C m x → Earlier C x w → IsUntouched C may (stretch m w) a → IsUntouched C may (stretch m x) a
    quiet_front m x w one other quiet = record { in_order = one.0; spared = λ act is may_act. quiet.spared act is (may_act_front act m x w one other may_act) }

    pub quiet_back : (m x w : Moment) → Earlier C m x → Earlier C x w → IsUntouched C may (stretch m w) a → IsUntouched C may (stretch x w) a
    quiet_back m x w one other quiet = record { in_order = other.0; spared = λ act is may_act. quiet.spared act is (may_act_back act m x w one other may_act) }

    -- all that may write the byte is before the moment
    IsOver : Moment → Type 0
    IsOver m = (act : Act) → IsAct C act → may_by may act a ≡ true → (WhollyBefore C act m → ⊥) → ⊥

    over_end : IsOver at_end
    unfolding IsOver
    over_end (row r) is m out = out tt
    over_end untraced is m out = out tt

    over_later : (m x : Moment) → NotLater C x m → IsOver x → IsOver m
    unfolding IsOver
    over_later m x way over act is can out = over act is can (λ done. out (before_later C act x m done way))

    -- of those before the moment after a row, only that row isn't before the moment before it
    pub only_own : (act : Act) (r : Row) → calls C r ≡ false → WhollyBefore C act (after r) → (WhollyBefore C act (before r) → ⊥) → act ≡ row r
    only_own (row q) r plain way out = by way
      where
        one : last_event C r ≡ first_event C r
        one = last_whole C r plain ∙ sym (first_whole C r plain)

        by : PrecedesOrIs C (last_event C q) (last_event C r) → row q ≡ row r
        by (inl same) = ap (λ (e : Event). row e.row) same
        by (inr less) = absurd (out (subst (λ (e : Event). Precedes C (last_event C q) e) one less))
    only_own untraced r plain way out = absurd (out (subst (λ (e : Event). UntracedPrecedes C e) (last_whole C r plain ∙ sym (first_whole C r plain)) way))

    over_earlier : (m x : Moment) → IsUntouched C may (stretch m x) a → IsOver x → IsOver m
    unfolding IsOver
    over_earlier m x quiet over act is can out =
        over act is can (λ done.
        let may_act : MayAct C act (stretch m x) = record {
          not_before = out;
          not_after = λ way. not_both act x is done way;
          alone = λ r plain same. only_own act r plain (subst (λ (y : Moment). WhollyBefore C act y) (ap (λ (s : Stretch). s.to) same) done) (λ way. out (subst (λ (y : Moment). WhollyBefore C act y) (sym (ap (λ (s : Stretch). s.from) same)) way));
        } in
        false≢true (sym (quiet.spared act is may_act) ∙ can))

    over_step : (m x : Moment) → IsUntouchedStep C may (stretch m x) a ⊎ IsUntouchedStep C may (stretch x m) a → IsOver x → IsOver m
    over_step m x (inl step) over = over_earlier m x step.quiet over
    over_step m x (inr step) over = over_later m x step.later.0 over

    over_joined : (m : Moment) (xs : List Moment) → Joined C may a m xs at_end → IsOver m
    over_joined m [] h = subst (λ (y : Moment). IsOver y) (sym h) over_end
    over_joined m (x ∷ xs) h = over_step m x h.1 (over_joined x xs h.2)

    quiet_from : (m : Moment) → IsOver m → IsUntouched C may (stretch m at_end) a
    unfolding IsOver
    quiet_from m over = record { in_order = any m; spared = λ act is may_act. by (may_by may act a) act refl is may_act }
      where
        any : (m : Moment) → NotLater C m at_end
        any (before r) = tt
        any (after r) = tt
        any at_end = tt

        by : (b : Bool) (act : Act) → may_by may act a ≡ b → IsAct C act → MayAct C act (stretch m at_end) → may_by may act a ≡ false
        by true act e is may_act = absurd (over act is e may_act.not_before)
        by false act e is may_act = e

    -- a byte that quiet stretches join to the end, in any direction, is quiet from its moment to
    -- the end
    pub joined_quiet : (m : Moment) (xs : List Moment) → Joined C may a m xs at_end → IsUntouched C may (stretch m at_end) a
    joined_quiet m xs h = quiet_from m (over_joined m xs h)
