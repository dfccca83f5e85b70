-- Which rows may act between a number that is before no row and each one that is next to it.
use mathlib.Core.Logic.{∥∥₁_elim}
use Rattle.std.proofs.Props.{props}
use Rattle.std.proofs.Common.{◌≡◌, ℕ, ◌&&◌, not, Bool, true, false, Option, Some, None, refl, sym, ap, ◌∙◌, subst}
use Rattle.std.specs.Option.{is_some}
use Rattle.std.proofs.lemmas.Bool.{false≢true, and_from}
use Rattle.rept_steps.specs.Course.{Row, IsRow, IsSoundCourse}
use Rattle.rept_steps.specs.Course as runs
use Rattle.rept_order.specs.Moments.{stores}
use Rattle.rept_order.specs.Moments.Moment.{before}
use Rattle.rept_report.specs.Reach.Reaching.{IsBar}
use Rattle.rept_moments.specs.Naming.Names.{NoOwn}
use Rattle.rept_moments.specs.Naming.Numbered.{row_on}
use Rattle.rept_moments.proofs.NamingLemmas.Ends.{else_may_act, ahead_back}
use Rattle.rept_moments.specs.Numbers.{numbers_of, numbered}
use Rattle.rept_moments.specs.Seen.{seen_many, IsRowAt}
use Rattle.rept_moments.proofs.Apart.{are_numbers}
use Rattle.rept_moments.proofs.Places.{row_there, point_of_row, row_point}

not_so : (b : Bool) → (b ≡ true → ⊥) → b ≡ false
not_so true k = absurd (k refl)
not_so false k = refl

module _ (C : runs.Course) where
  -- a number of which no row was found is before none
  pub none_at : (m : ℕ) (at : Option ℕ) → IsRowAt (seen_many C) m at → is_some at ≡ false → IsRowAt (seen_many C) m None
  none_at m None its none = its
  none_at m (Some i) its none = absurd (false≢true (sym none))

  -- no row has its own moments on both sides of a number that is before none
  no_own : (m w : ℕ) → IsRowAt (seen_many C) m None → NoOwn C (numbers_of C) m w
  no_own m w none r inside plain before_is after_is =
      let here : row_on C (point_of_row C r) ≡ r = row_point C r inside in
      none (point_of_row C r) (row_there C (row_on C (point_of_row C r)) (subst (λ (q : Row). IsRow C q) (sym here) inside)) (subst (λ (q : Row). (numbers_of C).name (before q) ≡ m) (sym here) before_is)

  -- a row that may write, and is neither wholly before the number nor wholly after it, isn't wholly
  -- after a later one either
  bar_sound : IsSoundCourse C → (i m : ℕ) → IsRowAt (seen_many C) m None → stores C (row_on C i) ≡ true → (numbered C).past i m ≡ false → (numbered C).ahead i m ≡ false → IsBar (numbered C) i m
  bar_sound sound i m none writes past ahead w next =
      let later : (numbered C).ahead i w ≡ false = not_so ((numbered C).ahead i w) (λ e. false≢true (sym ahead ∙ ahead_back C sound (numbers_of C) (are_numbers C sound) i m w writes next e)) in
      sym (else_may_act C sound (numbers_of C) (are_numbers C sound) m w i next (no_own m w none)) ∙ and_from (stores C (row_on C i)) (not ((numbered C).past i m) && not ((numbered C).ahead i w)) writes (and_from (not ((numbered C).past i m)) (not ((numbered C).ahead i w)) (ap not past) (ap not later))

  -- that the course is sound may be a mere fact
  pub bar_is : ∥ IsSoundCourse C ∥₁ → (i m : ℕ) → IsRowAt (seen_many C) m None → stores C (row_on C i) ≡ true → (numbered C).past i m ≡ false → (numbered C).ahead i m ≡ false → IsBar (numbered C) i m
  bar_is t i m none writes past ahead w next = ∥∥₁_elim t (hlevel props) (λ sound. bar_sound sound i m none writes past ahead w next)
