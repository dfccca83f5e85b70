-- What the record of moments says of rows and the untraced prefix is the order of the course.
use Rattle.std.proofs.Common.{◌≡◌, ℕ, not, true, Some, inl, inr, refl, ap}
use Rattle.std.specs.Prelude.{◌↔◌}
use Rattle.std.specs.Option.{is_some}
use Rattle.std.proofs.lemmas.Bool.{or_cases, or_right}
use Rattle.rept_steps.specs.Course.{Course, IsRow, IsSoundCourse}
use Rattle.rept_order.specs.Moments.{Moment, IsMoment, UntracedBefore, WhollyBefore, WhollyAfter, stores}
use Rattle.rept_order.specs.Moments.Moment.{before, after}
use Rattle.rept_order.specs.Moments.Act.{row, untraced}
use Rattle.rept_order.specs.Times.{wholly_before}
use Rattle.rept_order.proofs.Decide.{not_later_true, not_later_from}
use Rattle.rept_order.proofs.Acting.{before_true, before_from, after_true, after_from}
use Rattle.rept_moments.specs.Naming.Names.{MomentNames, AreNames}
use Rattle.rept_moments.specs.Naming.Numbered.{row_on, moments_of}
use Rattle.rept_moments.proofs.NamingLemmas.Naming.{not_true, stores_inside, to_last, from_last, after_to_last, after_from_last}

module _ (C : Course) (sound : IsSoundCourse C) (N : MomentNames) (names : AreNames C N) where
  name_is : (m : Moment) → IsMoment C m → IsMoment C (N.last (N.name m))
  name_is m its = (names.named (N.name m) (names.few m its)).0

  pub row_past_is : (i : ℕ) (m : Moment) → IsMoment C m → stores C (row_on C i) ≡ true → ((moments_of C N).past i (N.name m) ≡ true) ↔ WhollyBefore C (row (row_on C i)) m
  row_past_is i m its writes =
      let is = stores_inside C (row_on C i) writes in
      let own = name_is m its in (
        λ e. elim (or_cases (not (stores C (row_on C i))) (wholly_before C (row (row_on C i)) (N.last (N.name m))) e) [
          | inl out ↦ absurd (not_true (stores C (row_on C i)) out writes)
          | inr way ↦ from_last C sound N names (row (row_on C i)) is writes m its (before_true C sound (row (row_on C i)) (N.last (N.name m)) is own way)
        ],
        λ way. or_right (not (stores C (row_on C i))) (wholly_before C (row (row_on C i)) (N.last (N.name m))) (before_from C sound (row (row_on C i)) (N.last (N.name m)) is own (to_last C sound N names (row (row_on C i)) is writes m its way)),
      )

  pub row_ahead_is : (i : ℕ) (m : Moment) → IsMoment C m → stores C (row_on C i) ≡ true → ((moments_of C N).ahead i (N.name m) ≡ true) ↔ WhollyAfter C (row (row_on C i)) m
  row_ahead_is i m its writes =
      let is = stores_inside C (row_on C i) writes in
      let own = name_is m its in
      (λ e. after_from_last C sound N names (row (row_on C i)) is writes m its (after_true C sound (row (row_on C i)) (N.last (N.name m)) is own e), λ way. after_from C sound (row (row_on C i)) (N.last (N.name m)) (after_to_last C sound N names (row (row_on C i)) is writes m its way))

  pub row_later_is : (i j : ℕ) → IsRow C (row_on C i) → IsRow C (row_on C j) → ((moments_of C N).later i j ≡ true) ↔ WhollyAfter C (row (row_on C i)) (after (row_on C j))
  row_later_is i j is its = (λ e. not_later_true C sound (after (row_on C j)) (before (row_on C i)) its is e, λ way. not_later_from C sound (after (row_on C j)) (before (row_on C i)) way)

  pub untraced_past_is : (d : ℕ) (m : Moment) → IsMoment C m → C.untraced ≡ Some d → ((moments_of C N).untraced_past (N.name m) ≡ true) ↔ UntracedBefore C m
  untraced_past_is d m its told =
      let own = name_is m its in (
        λ e. elim (or_cases (not (is_some C.untraced)) (wholly_before C untraced (N.last (N.name m))) e) [
          | inl out ↦ absurd (not_true (is_some C.untraced) out (ap is_some told))
          | inr way ↦ from_last C sound N names untraced (d, told) refl m its (before_true C sound untraced (N.last (N.name m)) (d, told) own way)
        ],
        λ way. or_right (not (is_some C.untraced)) (wholly_before C untraced (N.last (N.name m))) (before_from C sound untraced (N.last (N.name m)) (d, told) own (to_last C sound N names untraced (d, told) refl m its way)),
      )

  pub untraced_before_is : (d i : ℕ) → IsRow C (row_on C i) → C.untraced ≡ Some d → ((moments_of C N).untraced_before i ≡ true) ↔ UntracedBefore C (before (row_on C i))
  untraced_before_is d i is told = (
    λ e. elim (or_cases (not (is_some C.untraced)) (wholly_before C untraced (before (row_on C i))) e) [
      | inl out ↦ absurd (not_true (is_some C.untraced) out (ap is_some told))
      | inr way ↦ before_true C sound untraced (before (row_on C i)) (d, told) is way
    ],
    λ way. or_right (not (is_some C.untraced)) (wholly_before C untraced (before (row_on C i))) (before_from C sound untraced (before (row_on C i)) (d, told) is way),
  )
