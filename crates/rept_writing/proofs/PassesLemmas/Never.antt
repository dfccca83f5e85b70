-- Entries that are made `Never`, one after another.
use Rattle.std.proofs.Common.{◌≡◌, ◌≢◌, ℕ, ◌+◌, ◌<◌, ◌≤◌, List, length, set, slice_get, Some, inl, inr, sym, ap, ◌∙◌, arith}
use Rattle.std.proofs.lemmas.Bool.{cases_eq, cases_lt}
use Rattle.std.proofs.lemmas.Option.{slice_get_within, slice_get-get_or, slice_get_past}
use Rattle.std.proofs.lemmas.List.{get_or-set_other, get_or-set_same, length-set}
use Rattle.rept_writing.specs.declared.passes.pass.Pass.{Pass}
use Rattle.rept_writing.specs.declared.passes.pass.Pass.TheVariants.{Never}

same_pass : {x y : Pass} → Some x ≡ Some y → x ≡ y
same_pass e = cc

-- an entry after one is written
set_here : (xs : List Pass) (i : ℕ) (x : Pass) → i < length xs → slice_get (set xs i x) i ≡ Some x
set_here xs i x inside =
    let len : length (set xs i x) ≡ length xs = length-set xs i x in
    slice_get-get_or (set xs i x) i x (omega arith) ∙ ap Some (get_or-set_same xs i x x inside)

set_elsewhere : (xs : List Pass) (i j : ℕ) (x : Pass) → j ≢ i → slice_get (set xs i x) j ≡ slice_get xs j
set_elsewhere xs i j x ne =
    let len : length (set xs i x) ≡ length xs = length-set xs i x in
    elim (cases_lt j (length xs)) [
      | inl lt ↦ slice_get-get_or (set xs i x) j x (omega arith) ∙ ap Some (get_or-set_other xs i j x x ne) ∙ sym (slice_get-get_or xs j x lt)
      | inr le ↦ slice_get_past (set xs i x) j (omega arith) ∙ sym (slice_get_past xs j le)
    ]

-- one more is `Never`
pub never_more : (xs : List Pass) (i : ℕ) → i < length xs → ((j : ℕ) (x : Pass) → j < i → slice_get xs j ≡ Some x → x ≡ Never) → (j : ℕ) (x : Pass) → j < i + 1 → slice_get (set xs i Never) j ≡ Some x → x ≡ Never
never_more xs i inside before j x lt at =
    elim (cases_eq j i) [
      | inl e ↦ same_pass (sym (rw e at at) ∙ set_here xs i Never inside)
      | inr ne ↦ before j x (omega (arith, lt, ne)) (sym (set_elsewhere xs i j Never ne) ∙ at)
    ]

pub never_all : (xs : List Pass) (n : ℕ) → length xs ≤ n → ((j : ℕ) (x : Pass) → j < n → slice_get xs j ≡ Some x → x ≡ Never) → (j : ℕ) (x : Pass) → slice_get xs j ≡ Some x → x ≡ Never
never_all xs n le before j x at = let lt = slice_get_within xs j x at in before j x (omega (arith, lt, le)) at
