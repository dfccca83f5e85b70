-- The bits of a map.
use Rattle.std.proofs.Common.{◌≡◌, ℕ, zero, suc, ◌+◌, ◌*◌, ◌/◌, ◌%◌, ◌^◌, ◌<◌, ◌==◌, [], ◌∷◌, ◌++◌, length, Bool, true, false, cond, refl, sym, ◌∙◌, ap, arith, add-one}
use Rattle.std.proofs.Math.Nat.{pow-suc}
use Rattle.std.proofs.lemmas.List.{append-nil}
use Rattle.rept_isa.specs.declared.row.StepRow.{StepRow}
use Rattle.rept_path.specs.Packets.{low_bits}
use Rattle.rept_encode.specs.declared.bits.PendingBranches.{PendingBranches}
use Rattle.rept_encode.specs.Bits.{passed, branch_row, bit_list}
use Rattle.rept_encode.specs.State.{waiting_bits}

pub no_low : (map : ℕ) → low_bits 0 map ≡ []
unfolding low_bits
no_low map = refl

low_suc : (n map : ℕ) → low_bits (suc n) map ≡ (map % 2 == 1) ∷ low_bits n (map / 2)
unfolding low_bits
low_suc n map = refl

pub length_low : (n map : ℕ) → length (low_bits n map) ≡ n
length_low zero map = rw (no_low map) refl
length_low (suc n) map = rw (low_suc n map) (ap suc (length_low n (map / 2)))

odd : (m : ℕ) (b : Bool) → m < 1 → ((m + cond b 1 0) % 2 == 1) ≡ b
odd m true lt = let e : (m + 1) % 2 ≡ 1 = omega arith in rw e refl
odd m false lt = let e : (m + 0) % 2 ≡ 0 = omega arith in rw e refl

twice : (b : Bool) (x : ℕ) → cond b (2 * x) 0 ≡ 2 * cond b x 0
twice true x = refl
twice false x = refl

more : (n m : ℕ) (b : Bool) → m < 2 ^ n → low_bits (suc n) (m + cond b (2 ^ n) 0) ≡ low_bits n m ++ b ∷ []
more zero m b lt = rw (low_suc 0 (m + cond b 1 0), no_low ((m + cond b 1 0) / 2), no_low m, odd m b lt) refl
more (suc n) m b lt =
    let p : 2 ^ suc n ≡ 2 * 2 ^ n = pow-suc 2 n ∙ omega arith in
    let t : cond b (2 ^ suc n) 0 ≡ 2 * cond b (2 ^ n) 0 = ap (λ (x : ℕ). cond b x 0) p ∙ twice b (2 ^ n) in
    let half : (m + 2 * cond b (2 ^ n) 0) / 2 ≡ m / 2 + cond b (2 ^ n) 0 = omega arith in
    let same : (m + 2 * cond b (2 ^ n) 0) % 2 ≡ m % 2 = omega arith in
    let small : m / 2 < 2 ^ n = omega arith in
    let h = more n (m / 2) b small in
    let one : low_bits (suc (suc n)) (m + cond b (2 ^ suc n) 0) ≡ (m % 2 == 1) ∷ low_bits (suc n) (m / 2 + cond b (2 ^ n) 0) = ap (λ (x : ℕ). low_bits (suc (suc n)) (m + x)) t ∙ low_suc (suc n) (m + 2 * cond b (2 ^ n) 0) ∙ rw (half, same) refl in
    one ∙ rw (h, low_suc n m) refl

pub low_more : (n m : ℕ) (b : Bool) → m < 2 ^ n → low_bits (n + 1) (m + cond b (2 ^ n) 0) ≡ low_bits n m ++ b ∷ []
low_more n m b lt = let e : n + 1 ≡ suc n = add-one n in ap (λ (k : ℕ). low_bits k (m + cond b (2 ^ n) 0)) e ∙ more n m b lt

pub with_bit : (bits : PendingBranches) (row : StepRow) (worth : ℕ) → bits.map < 2 ^ bits.count → branch_row row ≡ true → worth ≡ cond (passed row) (2 ^ bits.count) 0 → low_bits (bits.count + 1) (bits.map + worth) ≡ waiting_bits bits ++ bit_list row
with_bit bits row worth lt branch e = ap (λ (x : ℕ). low_bits (bits.count + 1) (bits.map + x)) e ∙ low_more bits.count bits.map (passed row) lt ∙ rw branch refl

pub without_bit : (bits : PendingBranches) (row : StepRow) → branch_row row ≡ false → waiting_bits bits ≡ waiting_bits bits ++ bit_list row
without_bit bits row plain = sym (rw plain (append-nil (waiting_bits bits)))
