-- At the points that `find` names a register has the value that was asked for.
use Rattle.std.proofs.Common.{◌≡◌, ℕ, ◌+◌, ◌<◌, ◌≤◌, Bool, true, List, length, Option, Some, None, ap, arith}
use Rattle.std.specs.List.{All, range_with_len}
use Rattle.std.proofs.lemmas.Bool.{eqb-true}
use Rattle.std.proofs.lemmas.List.Elements.{All-filter, filter_passes}
use Rattle.std.proofs.lemmas.List.FromFn.{get_or-range_with_len, length-range_with_len}
use Rattle.rept_findings.specs.Shown.{IsThreadPoint, Shown}
use Rattle.rept_findings.specs.Texts.{at}
use Rattle.rept_findings.specs.declared.place.ThreadPoint.{ThreadPoint}
use Rattle.rept_questions.specs.Spots.{points_where}
use Rattle.rept_questions.specs.Texts.{find_line, is_held, is_value}
use Rattle.rept_app.specs.TrueSteps.{IsFindTrue}
use Rattle.rept_app.specs.TrueValues.{PointHeld}
use Rattle.rept_app.proofs.HeldPoints.{IsHeldAt}

is_known : (value : ℕ) (o : Option ℕ) → is_value value o ≡ true → o ≡ Some value
is_known value None e = let no : ⊥ = cc in absurd no
is_known value (Some known) e = ap Some (eqb-true known value e)

points_within : (last : ℕ) → All (λ p. p ≤ last) (range_with_len 0 (last + 1))
points_within last k d inside =
    let count = length-range_with_len 0 (last + 1) in
    let less : k < last + 1 = omega (arith, inside, count) in
    let same = get_or-range_with_len 0 (last + 1) k d less in
    omega (arith, same, less)

module _ (s : Shown) (held : ThreadPoint → PointHeld) (all : (c : ThreadPoint) → IsThreadPoint s c → IsHeldAt s c (held c)) where
  found_true : (c : ThreadPoint) (r value : ℕ) → IsThreadPoint s c → All (λ p. (held (at c.thread p)).register r ≡ value) (points_where (λ p. is_held s (at c.thread p) r value) (length (s.rows c.thread)))
  found_true c r value is k d inside =
      let holds : ℕ → Bool = λ p. is_held s (at c.thread p) r value in
      let points = range_with_len 0 (length (s.rows c.thread) + 1) in
      let passes = filter_passes holds points k d inside in
      let small = All-filter holds (λ p. p ≤ length (s.rows c.thread)) points (points_within (length (s.rows c.thread))) k d inside in
      (all (at c.thread _) (is.0, small)).registers r value (is_known value _ passes)

  pub find_true : (c : ThreadPoint) (r value : ℕ) (text : List ℕ) → IsThreadPoint s c → text ≡ find_line s c r value → IsFindTrue held c r value text
  unfolding find_line
  find_true c r value text is e = (points_where (λ p. is_held s (at c.thread p) r value) (length (s.rows c.thread)), found_true c r value is, e)
