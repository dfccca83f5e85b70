-- A search in a list, one element on, and the registers one by one.
use Rattle.std.proofs.Common.{◌≡◌, ℕ, ◌+◌, ◌<◌, List, length, drop, get_or, set, Bool, false, ◌≤◌, ◌||◌, cond, arith, ap}
use Rattle.std.proofs.lemmas.Grind.{common_steps}
use Rattle.std.specs.Prelude.{Some, slice_get}
use Rattle.std.specs.List.{find, list_any}
use Rattle.std.proofs.lemmas.List.{at_drop_all}
use Rattle.rept_elf.proofs.SegmentLemmas.{drop-slice_get}

pub find-from : {X : Type 0} → (p : X → Bool) (xs : List X) (i : ℕ) (x : X) → slice_get xs i ≡ Some x → find p (drop i xs) ≡ cond (p x) (Some x) (find p (drop (i + 1) xs))
find-from p xs i x h = ap (find p) (drop-slice_get xs i x h)

pub any-from : {X : Type 0} → (p : X → Bool) (xs : List X) (i : ℕ) (x : X) → slice_get xs i ≡ Some x → list_any p (drop i xs) ≡ (p x || list_any p (drop (i + 1) xs))
any-from p xs i x h = ap (list_any p) (drop-slice_get xs i x h)

pub none-from : {X : Type 0} → (p : X → Bool) (xs : List X) (i : ℕ) → length xs ≤ i → list_any p (drop i xs) ≡ false
none-from p xs i h = at_drop_all (list_any p) xs i h

pub one_more_read : (f : ℕ → ℕ) (xs : List ℕ) (i v : ℕ) → i < length xs → v ≡ f i → ((k : ℕ) → 0 < k → k < i → get_or xs k 0 ≡ f k) → (k : ℕ) → 0 < k → k < i + 1 → get_or (set xs i v) k 0 ≡ f k
one_more_read f xs i v l e h k p q = grind (arith, common_steps, h k p)
