-- The words of a set of known bits that are next to a bound, from above and from below.
use Rattle.std.specs.Prelude.{◌≡◌, ◌≢◌, ℕ, zero, suc, ◌+◌, ◌-◌, ◌<◌, ◌≤◌, ◌^◌, Bool, true, false, if◌then◌else◌, Option, Some, None}
use Rattle.std.proofs.Common.{◌⊎◌, inl, inr, refl, sym, ap, subst, ◌∙◌, arith}
use Rattle.std.proofs.lemmas.Bool.{cases_Bool, cases_lt}
use Rattle.rept_known.specs.declared.bits.Bits.{Bits}
use Rattle.rept_known.specs.Bits.{bits_has}
use Rattle.rept_known.specs.Laws.BitsLaws.{has_parts}

-- the least word of a set that is at least the bound
pub record IsLeastFrom (b : Bits) (bound v : ℕ) : Type 0 where
  pub has : bits_has b v ≡ true
  pub beyond : bound ≤ v
  pub first : (u : ℕ) → bits_has b u ≡ true → bound ≤ u → v ≤ u

-- the greatest word of a set that is at most the bound
pub record IsGreatestTo (b : Bits) (bound v : ℕ) : Type 0 where
  pub has : bits_has b v ≡ true
  pub within : v ≤ bound
  pub last : (u : ℕ) → bits_has b u ≡ true → u ≤ bound → u ≤ v

-- the first of so many numbers, from one on, that passes a test
unfoldable pub first_in : (ℕ → Bool) → ℕ → ℕ → Option ℕ
first_in passes from zero = None
first_in passes from (suc count) = if passes from then Some from else first_in passes (from + 1) count

-- the last number up to one that passes a test
unfoldable pub last_to : (ℕ → Bool) → ℕ → Option ℕ
last_to passes zero = if passes 0 then Some 0 else None
last_to passes (suc n) = if passes (suc n) then Some (suc n) else last_to passes n

unfoldable pub least_word : Bits → ℕ → Option ℕ
least_word b bound = first_in (λ v. bits_has b v) bound (2 ^ 32 - bound)

unfoldable pub greatest_word : Bits → ℕ → Option ℕ
greatest_word b bound = last_to (λ v. bits_has b v) bound

-- ---- what they are
some_same : {x y : ℕ} → Some x ≡ Some y → x ≡ y
some_same e = cc

none_some : {x : ℕ} → None ≡ Some x → ⊥
none_some e = cc

true_false : {b : Bool} → b ≡ true → b ≡ false → ⊥
true_false e f = cc

module _ (passes : ℕ → Bool) where
  record IsFirst (from v : ℕ) : Type 0 where
    pub holds : passes v ≡ true
    pub beyond : from ≤ v
    pub first : (u : ℕ) → passes u ≡ true → from ≤ u → v ≤ u

  first_some : (from count v : ℕ) → first_in passes from count ≡ Some v → IsFirst from v
  unfolding first_in
  first_some from zero v e = absurd (none_some e)
  first_some from (suc count) v e = elim (cases_Bool (passes from)) [
    | inl holds ↦ let is : from ≡ v = some_same (rw holds at e) in record { holds = subst (λ n. passes n ≡ true) is holds; beyond = omega arith; first = λ u t l. omega arith }
    | inr fails ↦
        let p = first_some (from + 1) count v (rw fails at e) in
        record { holds = p.holds; beyond = let l = p.beyond in omega arith; first = λ u t l. p.first u t (after u fails t l) }
  ]
    where
      after : (u : ℕ) → passes from ≡ false → passes u ≡ true → from ≤ u → from + 1 ≤ u
      after u fails t l =
          let apart : from ≢ u = λ is. true_false (subst (λ n. passes n ≡ true) (sym is) t) fails in
          omega arith

  first_none : (from count : ℕ) → first_in passes from count ≡ None → (u : ℕ) → passes u ≡ true → from ≤ u → from + count ≤ u
  unfolding first_in
  first_none from zero e u t l = omega arith
  first_none from (suc count) e u t l = elim (cases_Bool (passes from)) [
    | inl holds ↦ absurd (none_some (sym (rw holds at e)))
    | inr fails ↦
        let apart : from ≢ u = λ is. true_false (subst (λ n. passes n ≡ true) (sym is) t) fails in
        let p = first_none (from + 1) count (rw fails at e) u t (omega arith) in
        omega arith
  ]

  record IsLast (bound v : ℕ) : Type 0 where
    pub holds : passes v ≡ true
    pub within : v ≤ bound
    pub last : (u : ℕ) → passes u ≡ true → u ≤ bound → u ≤ v

  last_some : (n v : ℕ) → last_to passes n ≡ Some v → IsLast n v
  unfolding last_to
  last_some zero v e = elim (cases_Bool (passes 0)) [
    | inl holds ↦ let is : 0 ≡ v = some_same (rw holds at e) in record { holds = subst (λ n. passes n ≡ true) is holds; within = omega arith; last = λ u t l. omega arith }
    | inr fails ↦ absurd (none_some (rw fails at e))
  ]
  last_some (suc n) v e = elim (cases_Bool (passes (suc n))) [
    | inl holds ↦ let is : suc n ≡ v = some_same (rw holds at e) in record { holds = subst (λ n. passes n ≡ true) is holds; within = omega arith; last = λ u t l. omega arith }
    | inr fails ↦
        let p = last_some n v (rw fails at e) in
        record { holds = p.holds; within = let l = p.within in omega arith; last = λ u t l. p.last u t (before u fails t l) }
  ]
    where
      before : (u : ℕ) → passes (suc n) ≡ false → passes u ≡ true → u ≤ suc n → u ≤ n
      before u fails t l =
          let apart : suc n ≢ u = λ is. true_false (subst (λ n. passes n ≡ true) (sym is) t) fails in
          omega arith

  last_none : (n : ℕ) → last_to passes n ≡ None → (u : ℕ) → passes u ≡ true → u ≤ n → ⊥
  unfolding last_to
  last_none zero e u t l = elim (cases_Bool (passes 0)) [
    | inl holds ↦ none_some (sym (rw holds at e))
    | inr fails ↦ let is : u ≡ 0 = omega arith in true_false (subst (λ n. passes n ≡ true) is t) fails
  ]
  last_none (suc n) e u t l = elim (cases_Bool (passes (suc n))) [
    | inl holds ↦ none_some (sym (rw holds at e))
    | inr fails ↦
        let apart : suc n ≢ u = λ is. true_false (subst (λ n. passes n ≡ true) (sym is) t) fails in
        last_none n (rw fails at e) u t (omega arith)
  ]

pub option_cases : (o : Option ℕ) → (o ≡ None) ⊎ ((v : ℕ) × (o ≡ Some v))
option_cases None = inl refl
option_cases (Some v) = inr (v, refl)

pub least_some : (b : Bits) (bound v : ℕ) → least_word b bound ≡ Some v → IsLeastFrom b bound v
unfolding least_word
least_some b bound v e = let p = first_some (λ v. bits_has b v) bound (2 ^ 32 - bound) v e in record { has = p.holds; beyond = p.beyond; first = p.first }

pub least_none : (b : Bits) (bound : ℕ) → least_word b bound ≡ None → (u : ℕ) → bits_has b u ≡ true → u < bound
unfolding least_word
least_none b bound e u t = elim (cases_lt u bound) [
  | inl lt ↦ lt
  | inr ge ↦ let p = first_none (λ v. bits_has b v) bound (2 ^ 32 - bound) e u t ge in let s = (has_parts b u t).0 in absurd (omega arith)
]

pub greatest_some : (b : Bits) (bound v : ℕ) → greatest_word b bound ≡ Some v → IsGreatestTo b bound v
unfolding greatest_word
greatest_some b bound v e = let p = last_some (λ v. bits_has b v) bound v e in record { has = p.holds; within = p.within; last = p.last }

pub greatest_none : (b : Bits) (bound : ℕ) → greatest_word b bound ≡ None → (u : ℕ) → bits_has b u ≡ true → u ≤ bound → ⊥
unfolding greatest_word
greatest_none b bound e u t l = last_none (λ v. bits_has b v) bound e u t l

-- so the least word from a bound on is the only one
pub least_is : (b : Bits) (bound v : ℕ) → IsLeastFrom b bound v → Some v ≡ least_word b bound
least_is b bound v h = elim (option_cases (least_word b bound)) [
  | inl e ↦ let l = least_none b bound e v h.has in let g = h.beyond in absurd (omega arith)
  | inr (u, e) ↦
      let p = least_some b bound u e in
      let l = h.first u p.has p.beyond in
      let g = p.first v h.has h.beyond in
      let is : v ≡ u = omega arith in
      ap (λ (n : ℕ). Some n) is ∙ sym e
]

pub no_least : (b : Bits) (bound : ℕ) → ((u : ℕ) → bits_has b u ≡ true → u < bound) → None ≡ least_word b bound
no_least b bound h = elim (option_cases (least_word b bound)) [
  | inl e ↦ sym e
  | inr (u, e) ↦ let p = least_some b bound u e in let l = p.beyond in let g = h u p.has in absurd (omega arith)
]

pub greatest_is : (b : Bits) (bound v : ℕ) → IsGreatestTo b bound v → Some v ≡ greatest_word b bound
greatest_is b bound v h = elim (option_cases (greatest_word b bound)) [
  | inl e ↦ absurd (greatest_none b bound e v h.has h.within)
  | inr (u, e) ↦
      let p = greatest_some b bound u e in
      let l = h.last u p.has p.within in
      let g = p.last v h.has h.within in
      let is : v ≡ u = omega arith in
      ap (λ (n : ℕ). Some n) is ∙ sym e
]

pub no_greatest : (b : Bits) (bound : ℕ) → ((u : ℕ) → bits_has b u ≡ true → u ≤ bound → ⊥) → None ≡ greatest_word b bound
no_greatest b bound h = elim (option_cases (greatest_word b bound)) [
  | inl e ↦ sym e
  | inr (u, e) ↦ let p = greatest_some b bound u e in absurd (h u p.has p.within)
]
