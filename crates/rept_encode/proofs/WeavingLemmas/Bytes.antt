-- The bits of a payload that is the bytes of a number.
use Rattle.std.proofs.Common.{◌≡◌, ℕ, zero, suc, ◌+◌, ◌-◌, ◌*◌, ◌/◌, ◌%◌, ◌^◌, ◌<◌, ◌≤◌, ◌==◌, min, List, length, get_or, cond, sym, ◌∙◌, ap, subst, arith, add-one}
use Rattle.std.proofs.lemmas.Nat.{mod-pow-add, shr-shr}
use Rattle.std.proofs.lemmas.Bool.Decides.{nat_tests}
use Rattle.rept_word.specs.Bits.{bit_of, field}
use Rattle.rept_word.proofs.BitLemmas.{field_suc, field_zero}

low_bit : (x i : ℕ) → i < 8 → x % 256 / 2 ^ i % 2 ≡ x / 2 ^ i % 2
low_bit x zero lt = omega arith
low_bit x (suc zero) lt = omega arith
low_bit x (suc (suc zero)) lt = omega arith
low_bit x (suc (suc (suc zero))) lt = omega arith
low_bit x (suc (suc (suc (suc zero)))) lt = omega arith
low_bit x (suc (suc (suc (suc (suc zero))))) lt = omega arith
low_bit x (suc (suc (suc (suc (suc (suc zero)))))) lt = omega arith
low_bit x (suc (suc (suc (suc (suc (suc (suc zero))))))) lt = omega arith
low_bit x (suc (suc (suc (suc (suc (suc (suc (suc i)))))))) lt = absurd (omega arith)

test_bit : (x : ℕ) → cond (x % 2 == 1) 1 0 ≡ x % 2
test_bit x = grind (arith, nat_tests)

-- The payload is so many bytes of a number, the lowest first.
pub record AreBytes (payload : List ℕ) (number size : ℕ) : Type 0 where
  pub count : length payload ≡ size
  pub byte : (j : ℕ) → j < size → get_or payload j 0 ≡ number / 2 ^ (8 * j) % 256

module _ (payload : List ℕ) (number size : ℕ) (h : AreBytes payload number size) where
  pub bit_is : (i : ℕ) → i < 8 * size → bit_of payload i ≡ (number / 2 ^ i % 2 == 1)
  unfolding bit_of
  bit_is i lt =
      let count = h.count in
      let m : min i (8 * length payload - 1) ≡ i = omega arith in
      let b : get_or payload (i / 8) 0 ≡ number / 2 ^ (8 * (i / 8)) % 256 = h.byte (i / 8) (omega arith) in
      let l : number / 2 ^ (8 * (i / 8)) % 256 / 2 ^ (i % 8) % 2 ≡ number / 2 ^ (8 * (i / 8)) / 2 ^ (i % 8) % 2 = low_bit (number / 2 ^ (8 * (i / 8))) (i % 8) (omega arith) in
      let s : number / 2 ^ (8 * (i / 8)) / 2 ^ (i % 8) ≡ number / 2 ^ (8 * (i / 8) + i % 8) = shr-shr number (8 * (i / 8)) (i % 8) in
      let e : 8 * (i / 8) + i % 8 ≡ i = omega arith in
      let whole : get_or payload (i / 8) 0 / 2 ^ (i % 8) % 2 ≡ number / 2 ^ i % 2 = ap (λ (x : ℕ). x / 2 ^ (i % 8) % 2) b ∙ l ∙ ap (λ (x : ℕ). x % 2) s ∙ ap (λ (k : ℕ). number / 2 ^ k % 2) e in
      subst (λ (k : ℕ). (get_or payload (k / 8) 0 / 2 ^ (k % 8) % 2 == 1) ≡ (number / 2 ^ i % 2 == 1)) (sym m) (ap (λ (x : ℕ). x == 1) whole)

  pub field_is : (i n : ℕ) → i + n ≤ 8 * size → field payload i n ≡ number / 2 ^ i % 2 ^ n
  field_is i zero le = field_zero payload i ∙ omega arith
  field_is i (suc n) le =
      let b : bit_of payload i ≡ (number / 2 ^ i % 2 == 1) = bit_is i (omega arith) in
      let r : field payload (i + 1) n ≡ number / 2 ^ (i + 1) % 2 ^ n = field_is (i + 1) n (omega arith) in
      let half : number / 2 ^ (i + 1) ≡ number / 2 ^ i / 2 = sym (shr-shr number i 1) in
      let m : number / 2 ^ i % 2 ^ (n + 1) ≡ (number / 2 ^ i / 2 % 2 ^ n) * 2 + number / 2 ^ i % 2 = mod-pow-add (number / 2 ^ i) n 1 in
      let t : cond (bit_of payload i) 1 0 ≡ number / 2 ^ i % 2 = rw b (test_bit (number / 2 ^ i)) in
      let f : field payload (i + 1) n ≡ number / 2 ^ i / 2 % 2 ^ n = rw (← half) r in
      let goal : field payload i (suc n) ≡ number / 2 ^ i % 2 ^ (n + 1) = field_suc payload i n ∙ (rw (t, f) (omega (arith, m))) in
      subst (λ (k : ℕ). field payload i (suc n) ≡ number / 2 ^ i % 2 ^ k) (add-one n) goal

  -- a part of the number
  pub field_at : (i y n : ℕ) → number / 2 ^ i ≡ y → i + n ≤ 8 * size → field payload i n ≡ y % 2 ^ n
  field_at i y n part le = field_is i n le ∙ ap (λ (x : ℕ). x % 2 ^ n) part

  pub bit_at : (i y : ℕ) → number / 2 ^ i ≡ y → i < 8 * size → bit_of payload i ≡ (y % 2 == 1)
  bit_at i y part lt = bit_is i lt ∙ ap (λ (x : ℕ). x % 2 == 1) part
