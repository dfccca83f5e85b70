-- What is seen around a row is lawful.
use Rattle.std.proofs.Common.{◌≡◌, ℕ, ◌<◌, ◌≤◌, ◌^◌, ◌⊎◌, eqb, Option, Some, None, inl, inr, refl, sym, ◌∙◌, arith, lit<}
use Rattle.std.proofs.lemmas.Bool.{cases_eq, cond-true, cond-false, eq-eqb, ne_eqb}
use Rattle.rept_partial.specs.declared.range.Range.{Range}
use Rattle.rept_partial.specs.Ranges.{from_to}
use Rattle.rept_reason.specs.declared.fact.Cell.TheVariants.{Register, Byte}
use Rattle.rept_reason.specs.Facts.{Knowledge, register_known, register_fact}
use Rattle.rept_reason.specs.View.Seen.{IsLawful}
use Rattle.rept_report.specs.Moments.{Moments}
use Rattle.rept_report.specs.Setting.{Setting}
use Rattle.rept_report.specs.Views.{point_of, register_range, known_or, seen_of, seen_at, registers_at}
use Rattle.rept_report.specs.Conclusions.{HasWords}

-- proper bounds are taken as they are
pub from_to_bounds : (lo hi : ℕ) → lo ≤ hi → hi < 2 ^ 32 → ((from_to lo hi).lo ≡ lo) × ((from_to lo hi).hi ≡ hi)
from_to_bounds lo hi o s = (grind (arith, o, s), omega arith)

pub one_word : (v : ℕ) → v < 2 ^ 32 → ((from_to v v).lo ≡ v) × ((from_to v v).hi ≡ v)
one_word v s = from_to_bounds v v (omega arith) s

-- a known value's range is itself
known_or_is : (k : Option ℕ) (x : Range) (v : ℕ) → v < 2 ^ 32 → k ≡ Some v → ((known_or k x).lo ≡ v) × ((known_or k x).hi ≡ v)
known_or_is None x v small e = absurd cc
known_or_is (Some u) x v small e = let is : u ≡ v = cc in rw is (one_word v small)

-- tables of registers, bytes and ranges are lawful, where x0 is 0 and each value is a word
pub seen_lawful : (moments : Moments) (register byte : ℕ → ℕ → Option ℕ) (ranges : ℕ → ℕ → Range) (i : ℕ) → ((p : ℕ) → register p 0 ≡ Some 0) → ((p r v : ℕ) → register p r ≡ Some v → v < 2 ^ 32) → IsLawful (seen_of moments register byte ranges i)
seen_lawful moments register byte ranges i zero_is small = record {
  zero_known = λ w. zero_is (point_of i w);
  known = λ w r v e. known_or_is (register (point_of i w) r) (ranges (point_of i w) r) v (small (point_of i w) r v e) e;
}

pub zero_known : (K : Knowledge) (p : ℕ) → register_known K p 0 ≡ Some 0
zero_known K p = refl

-- what is known of a register other than x0 is a fact
pub known_fact : (K : Knowledge) (p r v : ℕ) → register_known K p r ≡ Some v → ((r ≡ 0) × (v ≡ 0)) ⊎ ((register_fact K p r ≡ Some v) × (K p (Register r) ≡ Some v))
known_fact K p r v e =
    elim (cases_eq r 0) [
      | inl z ↦ inl (z, let is : Some 0 ≡ Some v = sym (cond-true (eqb r 0) (Some 0) (K p (Register r)) (eq-eqb r 0 z)) ∙ e in cc)
      | inr ne ↦
          let is : K p (Register r) ≡ Some v = sym (cond-false (eqb r 0) (Some 0) (K p (Register r)) (ne_eqb r 0 ne)) ∙ e in
          inr (cond-false (eqb r 0) None (K p (Register r)) (ne_eqb r 0 ne) ∙ is, is)
    ]

pub known_word : (K : Knowledge) → HasWords K → (p r v : ℕ) → register_known K p r ≡ Some v → v < 2 ^ 32
known_word K words p r v e =
    elim (known_fact K p r v e) [
      | inl (z, is) ↦ rw is (lit< tt)
      | inr (fact, is) ↦ words p r v is
    ]

module _ {W : Type 0} (S : Setting W) where
  pub seen_at_lawful : (K : Knowledge) → HasWords K → (i : ℕ) → IsLawful (seen_at S K i)
  seen_at_lawful K words i = seen_lawful S.moments (register_known K) (λ p a. K p (Byte a)) (register_range S K) i (zero_known K) (known_word K words)

  pub registers_at_lawful : (K : Knowledge) → HasWords K → (i : ℕ) → IsLawful (registers_at S K i)
  registers_at_lawful K words i = seen_lawful S.moments (register_known K) (λ p a. None) (register_range S K) i (zero_known K) (known_word K words)
