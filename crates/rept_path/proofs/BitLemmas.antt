-- Taking the bits of a map one by one.
use Rattle.std.proofs.Common.{◌≡◌, ℕ, suc, ◌+◌, ◌-◌, ◌/◌, ◌%◌, ◌<◌, ◌≤◌, ◌==◌, List, [], ◌∷◌, ◌++◌, Bool, refl, sym, ◌∙◌, append_assoc, arith}
use Rattle.std.proofs.lemmas.List.{append-nil}
use Rattle.rept_path.specs.Packets.{low_bits}

pub one_more : (front all : List Bool) (count i rest : ℕ) → i < count → front ++ low_bits (count - i) rest ≡ all → (front ++ (rest % 2 == 1) ∷ []) ++ low_bits (count - (i + 1)) (rest / 2) ≡ all
unfolding low_bits
one_more front all count i rest lt h =
    let k : count - i ≡ suc (count - (i + 1)) = omega arith in
    let one : front ++ low_bits (count - i) rest ≡ front ++ ((rest % 2 == 1) ∷ low_bits (count - (i + 1)) (rest / 2)) = rw k refl in
    append_assoc front ((rest % 2 == 1) ∷ []) (low_bits (count - (i + 1)) (rest / 2)) ∙ sym one ∙ h

pub all_taken : (front all : List Bool) (count i rest : ℕ) → count ≤ i → front ++ low_bits (count - i) rest ≡ all → front ≡ all
unfolding low_bits
all_taken front all count i rest le h =
    let k : count - i ≡ 0 = omega arith in
    let one : front ++ low_bits (count - i) rest ≡ front = rw k (append-nil front) in
    sym one ∙ h
