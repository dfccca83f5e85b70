-- Between numbers of one thread in slices of the same times the same rows of other threads may act.
use mathlib.Core.Logic.{∥∥₁_elim}
use Rattle.std.proofs.Props.{props}
use Rattle.std.proofs.Common.{◌≡◌, ◌≢◌, ℕ, ◌+◌, ◌<◌, not, Bool, true, false, Some, None, inl, inr, refl, sym, ◌∙◌, subst, arith}
use Rattle.std.specs.Option.{IsSome}
use Rattle.std.proofs.lemmas.Bool.{false≢true, cases_eq}
use Rattle.rept_steps.specs.Course.{Course, IsSoundCourse}
use Rattle.rept_order.specs.Moments.{stores}
use Rattle.rept_order.specs.Legs.{leg_row}
use Rattle.rept_report.specs.Timeline.{IsActingFrom}
use Rattle.rept_moments.specs.Naming.Numbered.{row_on}
use Rattle.rept_moments.specs.Numbers.{numbers_of, numbered}
use Rattle.rept_moments.specs.Between.{IsOwnBetween}
use Rattle.rept_moments.specs.Seen.{seen_many, IsRowAt}
use Rattle.rept_moments.specs.Together.{AreTogether}
use Rattle.rept_moments.proofs.Together.{thread_at, one_thread, past_alike, ahead_alike, row_thread, own_before}
use Rattle.rept_extents.specs.Timelines.{as_timeline}
use Rattle.rept_timeline.specs.declared.strips.Hint.{Hint}
use Rattle.rept_timeline.specs.declared.strips.Crossing.{Crossing}
use Rattle.rept_timeline.specs.Strips.{AreTwo, DoRowsStay, IsCrossing, IsHint, IsOfOtherThread, IsOwnQuiet, IsSteady, IsStill}
use Rattle.rept_timeline.proofs.Fronts.{stores_row}
use Rattle.rept_timeline.proofs.Acting.{past_may_act, ahead_may_act, open_may_act}
use Rattle.rept_timeline.proofs.Stripping.{acting_stores, clear_own, untraced_crosses, other_crosses, own_end}

not_so : (b : Bool) → (b ≡ true → ⊥) → b ≡ false
not_so true k = absurd (k refl)
not_so false k = refl

pub not_true : (b : Bool) → not b ≡ true → b ≡ false
not_true true e = absurd (false≢true e)
not_true false e = refl

pub not_false : (b : Bool) → not b ≡ false → b ≡ true
not_false true e = refl
not_false false e = absurd (false≢true (sym e))

some_same : {p q : ℕ} → Some p ≡ Some q → p ≡ q
some_same e = cc

none_some : {p : ℕ} → None ≡ Some p → ⊥
none_some e = cc

-- the row before which a number lies is the one that is found
pub quiet_row : (C : Course) (p i : ℕ) → IsRowAt (seen_many C) p (Some i) → stores C (row_on C i) ≡ false → IsOwnQuiet C p
quiet_row C p i its quiet j there same = subst (λ (k : ℕ). stores C (row_on C k) ≡ false) (sym (its.2 j there same)) quiet

pub quiet_none : (C : Course) (p : ℕ) → IsRowAt (seen_many C) p None → IsOwnQuiet C p
quiet_none C p none j there same = absurd (none j there same)

module _ (C : Course) (sound : ∥ IsSoundCourse C ∥₁) where
  module _ (m w : ℕ) (next : (numbered C).next m w ≡ true) (apart : IsOwnBetween C m w None) (i : ℕ) (may_act : (numbered C).may_act i m w ≡ true) where
    not_past : (numbered C).past i m ≡ false
    not_past = not_so ((numbered C).past i m) (λ e. false≢true (sym (past_may_act C sound m w next apart i e) ∙ may_act))

    not_ahead : (numbered C).ahead i w ≡ false
    not_ahead = not_so ((numbered C).ahead i w) (λ e. false≢true (sym (ahead_may_act C sound m w next apart i e) ∙ may_act))

  acting_row : (i m w : ℕ) → (numbered C).may_act i m w ≡ true → IsSome (leg_row C i)
  acting_row i m w may_act = stores_row C i (acting_stores C i m w may_act)

  own_only : (m i : ℕ) → AreTogether C m (m + 1) → (numbered C).next m (m + 1) ≡ true → thread_at C m ≡ (row_on C i).thread → (numbered C).may_act i m (m + 1) ≡ true → (numbered C).before i ≡ m
  own_only m i its next own may_act = ∥∥₁_elim sound (hlevel props) (λ s. own_before C s m (m + 1) i its own next may_act)

  -- what may act at the pause stays
  pub steady_stay : (p k : ℕ) → AreTwo C p k → IsSteady C p k → DoRowsStay (as_timeline (seen_many C)) p k
  steady_stay p k two its i may_act =
      let order = two.order in
      let next : (numbered C).next p (p + 1) ≡ true = two.next p (omega arith) order in
      elim (cases_eq (thread_at C p) (row_on C i).thread) [
        | inl own ↦ absurd (false≢true (sym (its.own i (acting_row i p (p + 1) may_act) (own_only p i its.next next own may_act)) ∙ acting_stores C i p (p + 1) may_act))
        | inr other ↦ sym (past_alike C p k its.later i other) ∙ not_past p (p + 1) next two.first i may_act
      ]

  -- where nothing might act nothing may act
  module _ (q k : ℕ) (still : IsStill C q) (next : (numbered C).next k (k + 1) ≡ true) (apart : IsOwnBetween C k (k + 1) None) (later : AreTogether C q k) (here : AreTogether C k (k + 1)) (there : AreTogether C q (q + 1)) where
    may_act_before : (i : ℕ) → thread_at C q ≢ (row_on C i).thread → thread_at C k ≢ (row_on C i).thread → (numbered C).may_act i k (k + 1) ≡ true → (numbered C).may_act i q (q + 1) ≡ true
    may_act_before i first second may_act =
        open_may_act C sound q (q + 1) still.next still.apart i
        (past_alike C q k later i first ∙ not_past k (k + 1) next apart i may_act)
        (sym (ahead_alike C q (q + 1) there i first) ∙ ahead_alike C q k later i first ∙ ahead_alike C k (k + 1) here i second ∙ not_ahead k (k + 1) next apart i may_act)

    own_still : (i : ℕ) → (numbered C).may_act i k (k + 1) ≡ true → (numbered C).before i ≡ k
    own_still i may_act =
        elim (cases_eq (thread_at C k) (row_on C i).thread) [
          | inl own ↦ own_only k i here next own may_act
          | inr second ↦
              let first : thread_at C q ≢ (row_on C i).thread = λ same. second (sym (one_thread C q k later) ∙ same) in
              let before : (numbered C).before i ≡ q = still.own i (may_act_before i first second may_act) in
              absurd (first (∥∥₁_elim sound (hlevel props) (λ s. row_thread C s q i (acting_row i k (k + 1) may_act) before)))
        ]

    pub still_too : k < (numbers_of C).end → IsStill C k
    still_too inside = record { inside = inside; next = next; apart = apart; own = own_still }

-- none of the rows
pub still_end : (C : Course) (k from : ℕ) → k < (numbers_of C).end → (numbered C).next k (k + 1) ≡ true → IsOwnBetween C k (k + 1) None → ((i : ℕ) → i < from → (numbered C).may_act i k (k + 1) ≡ true → (numbered C).before i ≡ k) → IsActingFrom (as_timeline (seen_many C)) k (k + 1) from None → IsStill C k
still_end C k from inside next apart own none = record { inside = inside; next = next; apart = apart; own = own_end C k from own none }

-- what is kept
pub no_hint : (C : Course) (hint : Hint) → hint.row ≡ None → hint.still ≡ None → IsHint C hint
no_hint C hint row still = record { row = λ i e. absurd (none_some (sym row ∙ e)); still = λ k e. absurd (none_some (sym still ∙ e)) }

row_hint : (C : Course) (k i : ℕ) (hint : Hint) → IsOfOtherThread (as_timeline (seen_many C)) k i → hint.row ≡ Some i → hint.still ≡ None → IsHint C hint
row_hint C k i hint other row still = record { row = λ j e. subst (λ (n : ℕ). IsSome (leg_row C n)) (some_same (sym row ∙ e)) other.row; still = λ j e. absurd (none_some (sym still ∙ e)) }

still_hint : (C : Course) (k : ℕ) (hint : Hint) → IsStill C k → hint.row ≡ None → hint.still ≡ Some k → IsHint C hint
still_hint C k hint its row still = record { row = λ i e. absurd (none_some (sym row ∙ e)); still = λ j e. subst (λ (n : ℕ). IsStill C n) (some_same (sym still ∙ e)) its }

-- what is between a number and the one after it
module _ (C : Course) (k : ℕ) (crossing : Crossing) where
  pub crossing_own : ∥ IsSoundCourse C ∥₁ → (own : ℕ) → (numbered C).next k (k + 1) ≡ true → IsOwnBetween C k (k + 1) (Some own) → crossing.is_crossed ≡ false → IsHint C crossing.hint → IsCrossing C k crossing
  crossing_own sound own next its isnt hint = record {
    clear = λ e. clear_own C sound k own next its;
    crossed = λ e. absurd (false≢true (sym isnt ∙ e));
    apart = λ e. absurd (false≢true (sym isnt ∙ e));
    hint = hint;
  }

  pub crossing_untraced : (numbered C).untraced k (k + 1) ≡ true → IsOwnBetween C k (k + 1) None → crossing.is_crossed ≡ true → IsHint C crossing.hint → IsCrossing C k crossing
  crossing_untraced untraced apart is hint = record {
    clear = λ e. absurd (false≢true (sym e ∙ is));
    crossed = λ e. untraced_crosses C k untraced;
    apart = λ e. apart;
    hint = hint;
  }

  pub crossing_row : (i : ℕ) → IsOfOtherThread (as_timeline (seen_many C)) k i → IsOwnBetween C k (k + 1) None → crossing.is_crossed ≡ true → crossing.hint.row ≡ Some i → crossing.hint.still ≡ None → IsCrossing C k crossing
  crossing_row i other apart is row still = record {
    clear = λ e. absurd (false≢true (sym e ∙ is));
    crossed = λ e. other_crosses C k i other;
    apart = λ e. apart;
    hint = row_hint C k i crossing.hint other row still;
  }

  pub crossing_still : IsStill C k → (numbered C).untraced k (k + 1) ≡ false → crossing.is_crossed ≡ false → crossing.hint.row ≡ None → crossing.hint.still ≡ Some k → IsCrossing C k crossing
  crossing_still its light isnt row still = record {
    clear = λ e. record { light = light; own = its.own };
    crossed = λ e. absurd (false≢true (sym isnt ∙ e));
    apart = λ e. absurd (false≢true (sym isnt ∙ e));
    hint = still_hint C k crossing.hint its row still;
  }
