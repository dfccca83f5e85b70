-- Names that are still to come, one on.
use Rattle.std.proofs.Common.{◌≡◌, ℕ, ◌+◌, ◌<◌, suc, List, ◌∷◌, length, take, All, IsTrue, arith, subst}
use Rattle.std.specs.Str.{is_utf8}

-- what holds of the first names of a list holds of those after its first
pub texts_after : (m n : ℕ) (x : List ℕ) (xs whole : List (List ℕ)) → whole ≡ x ∷ xs → n ≡ suc m → All (λ name. IsTrue (is_utf8 name)) (take n whole) → All (λ name. IsTrue (is_utf8 name)) (take m xs)
texts_after m n x xs whole e s h =
    let here : All (λ name. IsTrue (is_utf8 name)) (take n (x ∷ xs)) = subst (λ (w : List (List ℕ)). All (λ name. IsTrue (is_utf8 name)) (take n w)) e h in
    let all : All (λ name. IsTrue (is_utf8 name)) (take (suc m) (x ∷ xs)) = subst (λ (k : ℕ). All (λ name. IsTrue (is_utf8 name)) (take k (x ∷ xs))) s here in
    λ k d lt. all (suc k) d (omega (arith, lt))
