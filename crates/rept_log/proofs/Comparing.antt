-- The table of what is the same at a point and at the next one, after a fact was learnt.
use Rattle.std.proofs.Common.{◌≡◌, ℕ, ◌+◌, ◌-◌, ◌<◌, ◌≤◌, ◌↔◌, Bool, true, List, ◌∷◌, length, Option, Some, inl, inr, sym, ap, subst, ◌∙◌, arith, IsTrue, slice_index_or}
use Rattle.std.proofs.lemmas.Bool.{cases_eq, cases_lt, false_from_ne_true}
use Rattle.rept_reason.specs.declared.fact.Fact.{Fact}
use Rattle.rept_reason.specs.declared.fact.Cell.TheVariants.{Register, Byte}
use Rattle.rept_reason.specs.Facts.{told, speaks}
use Rattle.rept_report.proofs.Told.{told_old, told_new, speaks_is}
use Rattle.rept_report.specs.Why.{fact_of}
use Rattle.rept_log.specs.Slots.{slot}
use Rattle.rept_log.specs.Compared.{IsSameAfter, AreCompared, IsMarked}

same_register : {r s : ℕ} → Register r ≡ Register s → r ≡ s
same_register e = cc

byte_differs : {a r : ℕ} → Byte a ≡ Register r → ⊥
byte_differs e = cc

-- a fact on a byte tells nothing of registers
byte_silent : (facts : List Fact) (p x v q s : ℕ) → told (fact_of p (Byte x) v ∷ facts) q (Register s) ≡ told facts q (Register s)
byte_silent facts p x v q s = told_old (fact_of p (Byte x) v) facts q (Register s) (false_from_ne_true (speaks (fact_of p (Byte x) v) q (Register s)) (λ e. byte_differs (speaks_is (fact_of p (Byte x) v) q (Register s) e).1))

-- what is said of two values is said of those that are the same
both_same : (b : Bool) {x y x' y' : Option ℕ} → x' ≡ x → y' ≡ y → IsTrue b ↔ (x ≡ y) → IsTrue b ↔ (x' ≡ y')
both_same b ex ey h = ((λ t. ex ∙ h.0 t ∙ sym ey), (λ e. h.1 (sym ex ∙ e ∙ ey)))

entry_is : {b c : Bool} {x y : Option ℕ} → b ≡ c → IsTrue c ↔ (x ≡ y) → IsTrue b ↔ (x ≡ y)
entry_is {b} {c} {x} {y} e h = subst (λ (z : Bool). IsTrue z ↔ (x ≡ y)) (sym e) h

turned : (b : Bool) (x y : Option ℕ) → IsTrue b ↔ (x ≡ y) → IsTrue b ↔ (y ≡ x)
turned b x y h = ((λ t. sym (h.0 t)), (λ e. h.1 (sym e)))

pub compared_byte : (last : ℕ) (facts : List Fact) (same : List Bool) → AreCompared last facts same → (p x v : ℕ) → AreCompared last (fact_of p (Byte x) v ∷ facts) same
compared_byte last facts same h p x v = record {
  size = h.size;
  entries = λ q s below named in_file. both_same (slice_index_or same (slot q s) true) (byte_silent facts p x v q s) (byte_silent facts p x v (q + 1) s) (h.entries q s below named in_file);
}

-- a register was learnt, and its entries at its point and at the one before were set
module _ (last : ℕ) (facts : List Fact) (same : List Bool) (h : AreCompared last facts same) (p r v : ℕ) (early : p ≤ last) (named : 0 < r) (in_file : r < 32) where
  abbrev learnt : Fact
  learnt = fact_of p (Register r) v

  told_elsewhere : (q s : ℕ) → (q ≡ p → s ≡ r → ⊥) → told (learnt ∷ facts) q (Register s) ≡ told facts q (Register s)
  told_elsewhere q s ne = told_old learnt facts q (Register s) (false_from_ne_true (speaks learnt q (Register s)) (λ e. let parts = speaks_is learnt q (Register s) e in ne (sym parts.0) (sym (same_register parts.1))))

  told_here : told (learnt ∷ facts) p (Register r) ≡ Some v
  told_here = told_new learnt facts

  module _ (later earlier : Bool) (is_later : p < last → IsTrue later ↔ (told facts (p + 1) (Register r) ≡ Some v)) (is_earlier : 0 < p → IsTrue earlier ↔ (told facts (p - 1) (Register r) ≡ Some v)) where
    module _ (half now : List Bool) (after : IsMarked same half (slot p r) later) (before : (at : ℕ) → at + 31 ≡ slot p r → IsMarked half now at earlier) (first : slot p r < 31 → now ≡ half) where
      now_size : length now ≡ length half
      now_size = elim (cases_lt (slot p r) 31) [
        | inl lt ↦ ap (λ (xs : List Bool). length xs) (first lt)
        | inr ge ↦ (before (slot p r - 31) (omega (arith, ge))).size
      ]

      -- what wasn't set in the second step
      half_is : (k : ℕ) → (k + 31 ≡ slot p r → ⊥) → slice_index_or now k true ≡ slice_index_or half k true
      half_is k ne = elim (cases_lt (slot p r) 31) [
        | inl lt ↦ ap (λ (xs : List Bool). slice_index_or xs k true) (first lt)
        | inr ge ↦ (before (slot p r - 31) (omega (arith, ge))).others k (λ e. ne (omega (arith, ge, e)))
      ]

      abbrev Entry : ℕ → ℕ → Type 0
      Entry q s = IsTrue (slice_index_or now (slot q s) true) ↔ IsSameAfter (learnt ∷ facts) q s

      entry_here : p < last → Entry p r
      entry_here below =
          let size = h.size in
          let is : slice_index_or now (slot p r) true ≡ later = half_is (slot p r) (λ e. omega (arith, e)) ∙ after.there (omega (arith, size, below)) in
          entry_is is (both_same later told_here (told_elsewhere (p + 1) r (λ e s. omega (arith, e))) (turned later (told facts (p + 1) (Register r)) (Some v) (is_later below)))

      entry_before : (q : ℕ) → q + 1 ≡ p → Entry q r
      entry_before q next =
          let size = h.size in
          let half_size = after.size in
          let is : slice_index_or now (slot q r) true ≡ earlier = (before (slot q r) (omega (arith, next))).there (omega (arith, size, half_size, next)) in
          let back : p - 1 ≡ q = omega (arith, next) in
          let told_back : IsTrue earlier ↔ (told facts q (Register r) ≡ Some v) = rw back at (is_earlier (omega (arith, next))) in
          let told_now : told (learnt ∷ facts) (q + 1) (Register r) ≡ Some v = rw next told_here in
          entry_is is (both_same earlier (told_elsewhere q r (λ e s. omega (arith, e, next))) told_now told_back)

      entry_other : (q s : ℕ) → q < last → 0 < s → s < 32 → (q ≡ p → s ≡ r → ⊥) → (q + 1 ≡ p → s ≡ r → ⊥) → Entry q s
      entry_other q s below named' in_file' not_here not_before =
          let is : slice_index_or now (slot q s) true ≡ slice_index_or same (slot q s) true = half_is (slot q s) (λ e. not_before (omega (arith, e)) (omega (arith, e))) ∙ after.others (slot q s) (λ e. not_here (omega (arith, e)) (omega (arith, e))) in
          entry_is is (both_same (slice_index_or same (slot q s) true) (told_elsewhere q s not_here) (told_elsewhere (q + 1) s not_before) (h.entries q s below named' in_file'))

      pub compared_register : AreCompared last (learnt ∷ facts) now
      compared_register = record {
        size = now_size ∙ after.size ∙ h.size;
        entries = λ q s below named' in_file'. elim (cases_eq s r) [
          | inl is_r ↦ elim (cases_eq q p) [
            | inl is_p ↦ rw (is_p, is_r) (entry_here (omega (arith, below, is_p)))
            | inr not_p ↦ elim (cases_eq (q + 1) p) [
              | inl next ↦ rw is_r (entry_before q next)
              | inr not_next ↦ entry_other q s below named' in_file' (λ e f. not_p e) (λ e f. not_next e)
            ]
          ]
          | inr not_r ↦ entry_other q s below named' in_file' (λ e f. not_r f) (λ e f. not_r f)
        ];
      }
