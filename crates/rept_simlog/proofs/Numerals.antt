-- Digits one after another.
use Rattle.std.proofs.Common.{◌≡◌, ℕ, ◌+◌, ◌*◌, ◌^◌, ◌<◌, ◌≤◌, List, [], ◌∷◌, length, drop, get_or, refl, sym, ◌∙◌, ap, subst, arith, add-one, drop-cons}
use Rattle.std.specs.Char.{digit_value}
use Rattle.std.specs.Str.Parse.{AllDigits, digits_value, digits_value_after}

grows : (radix n : ℕ) (digits : List ℕ) → 1 ≤ radix → n ≤ digits_value_after radix n digits
grows radix n [] some = omega arith
grows radix n (c ∷ digits) some =
    let h = grows radix (n * radix + digit_value c) digits some in
    let m : n * 1 ≤ n * radix = Rattle.std.proofs.Math.Nat.mul-le-mul_left n some in
    omega arith

at_next : (digits : List ℕ) (i : ℕ) → i < length digits → drop i digits ≡ get_or digits i 0 ∷ drop (i + 1) digits
at_next digits i lt = rw (add-one, drop-cons digits i 0) refl

-- one digit was read
module _ (radix value digit i : ℕ) (digits : List ℕ) (lt : i < length digits) (is : digit ≡ digit_value (get_or digits i 0)) where
  pub value_on : (next : ℕ) → next ≡ value * radix + digit → digits_value_after radix value (drop i digits) ≡ digits_value radix digits → digits_value_after radix next (drop (i + 1) digits) ≡ digits_value radix digits
  value_on next e h =
      let d = at_next digits i lt in
      let one : digits_value_after radix value (drop i digits) ≡ digits_value_after radix (value * radix + digit_value (get_or digits i 0)) (drop (i + 1) digits) = rw d refl in
      let same : next ≡ value * radix + digit_value (get_or digits i 0) = e ∙ ap (λ (x : ℕ). value * radix + x) is in
      ap (λ (x : ℕ). digits_value_after radix x (drop (i + 1) digits)) same ∙ sym one ∙ h

  pub digits_on : digit < radix → (AllDigits radix (drop i digits) → AllDigits radix digits) → AllDigits radix (drop (i + 1) digits) → AllDigits radix digits
  digits_on small h rest =
      let d = at_next digits i lt in
      let low : digit_value (get_or digits i 0) < radix = rw (← is) small in
      h (subst (AllDigits radix) (sym d) (low, rest))

  pub digits_back : (AllDigits radix digits → AllDigits radix (drop i digits)) → AllDigits radix digits → AllDigits radix (drop (i + 1) digits)
  digits_back h all =
      let d = at_next digits i lt in
      let both : AllDigits radix (get_or digits i 0 ∷ drop (i + 1) digits) = subst (AllDigits radix) d (h all) in
      both.1

  pub too_large : 1 ≤ radix → 2 ^ 32 ≤ value * radix + digit → digits_value_after radix value (drop i digits) ≡ digits_value radix digits → digits_value radix digits < 2 ^ 32 → ⊥
  too_large some large h small =
      let v = value_on (value * radix + digit) refl h in
      let g = grows radix (value * radix + digit) (drop (i + 1) digits) some in
      omega arith

-- what stands there is no digit
pub no_digit : (radix i : ℕ) (digits : List ℕ) → i < length digits → radix ≤ digit_value (get_or digits i 0) → (AllDigits radix digits → AllDigits radix (drop i digits)) → AllDigits radix digits → ⊥
no_digit radix i digits lt high h all =
    let d = at_next digits i lt in
    let both : AllDigits radix (get_or digits i 0 ∷ drop (i + 1) digits) = subst (AllDigits radix) d (h all) in
    let low = both.0 in
    omega arith
