-- The registers that are saved.
use Rattle.std.proofs.Common.{◌≡◌, ◌≢◌, ℕ, ◌+◌, ◌<◌, List, length, get_or, slice_set, refl, sym, ◌∙◌, ap, arith, inl, inr, get_or-set_other, get_or-set_same}
use Rattle.std.proofs.lemmas.Bool.{cases_eq}

pub pc_kept : (xs : List ℕ) (i value pc : ℕ) → 0 < i → get_or xs 0 0 ≡ pc → get_or (slice_set xs i value) 0 0 ≡ pc
pc_kept xs i value pc some h = let ne : 0 ≢ i = omega arith in rw get_or-set_other h

pub one_saved : (xs : List ℕ) (reg : ℕ → ℕ) (i r value k : ℕ) → i ≡ r → r < length xs → value ≡ reg r → ((j : ℕ) → 0 < j → j < r → get_or xs j 0 ≡ reg j) → 0 < k → k < r + 1 → get_or (slice_set xs i value) k 0 ≡ reg k
one_saved xs reg i r value k same lt is before some less = elim (cases_eq k i) [
  | inl e ↦
      let within : i < length xs = omega arith in
      let a : get_or (slice_set xs i value) i 0 ≡ value = rw get_or-set_same refl in
      ap (λ (n : ℕ). get_or (slice_set xs i value) n 0) e ∙ a ∙ is ∙ ap reg (sym same ∙ sym e)
  | inr ne ↦
      let other : k ≢ i = ne in
      let a : get_or (slice_set xs i value) k 0 ≡ get_or xs k 0 = rw get_or-set_other refl in
      a ∙ before k some (omega arith)
]
