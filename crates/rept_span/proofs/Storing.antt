-- Sets in a list: equal ones, and one that is written at a point.
use Rattle.std.proofs.Common.{◌≡◌, ◌≢◌, ℕ, zero, suc, ◌+◌, ◌*◌, ◌<◌, List, [], ◌∷◌, ◌++◌, length, set, slice_get, Some, inl, inr, refl, sym, ap, subst, ◌∙◌, arith}
use Rattle.std.proofs.lemmas.Bool.{cases_lt}
use Rattle.std.proofs.lemmas.List.{length_push}
use Rattle.rept_span.specs.Filled.{View, entry_at, ChangesAt}
use Rattle.rept_span.proofs.Filling.{set_here, set_elsewhere}

get_end : {W : Type 0} (xs : List W) (x : W) → slice_get (xs ++ x ∷ []) (length xs) ≡ Some x
get_end [] x = refl
get_end (y ∷ xs) x = get_end xs x

get_before : {W : Type 0} (xs : List W) (x : W) (k : ℕ) → k < length xs → slice_get (xs ++ x ∷ []) k ≡ slice_get xs k
get_before [] x k less = absurd (omega arith)
get_before (y ∷ xs) x zero less = refl
get_before (y ∷ xs) x (suc k) less = get_before xs x k (omega arith)

-- with one more
pub count_more : {W : Type 0} (items new : List W) (w : W) (n : ℕ) → length items ≡ n → new ≡ items ++ w ∷ [] → length new ≡ n + 1
count_more items new w n count pushed = ap length pushed ∙ length_push items w ∙ ap (λ (k : ℕ). k + 1) count

pub equal_more : {W : Type 0} (x : W) (items new : List W) (w : W) (n : ℕ) → length items ≡ n → ((k : ℕ) → k < n → slice_get items k ≡ Some x) → w ≡ x → new ≡ items ++ w ∷ [] → (k : ℕ) → k < n + 1 → slice_get new k ≡ Some x
equal_more {W} x items new w n count equal is pushed k less =
    elim (cases_lt k n) [
      | inl lt ↦ ap (λ (xs : List W). slice_get xs k) pushed ∙ get_before items w k (omega arith) ∙ equal k lt
      | inr le ↦
          let here : length items ≡ k = omega arith in
          ap (λ (xs : List W). slice_get xs k) pushed ∙ ap (λ (j : ℕ). slice_get (items ++ w ∷ []) j) (sym here) ∙ get_end items w ∙ ap Some is
    ]

abbrev pub seen : {W : Type 0} → ℕ → List W → View W
seen n items = record { points = n; items = items }

-- its place is one of the list
pub place_there : {W : Type 0} (old : View W) (n : ℕ) (items : List W) (p r k : ℕ) → seen n items ≡ old → length items ≡ n * 32 → p < old.points → k ≡ p * 32 + r → r < 32 → k < length items
place_there old n items p r k view long inside at small =
    let points : n ≡ old.points = ap (λ (v : View _). v.points) view in
    omega arith

pub written_only : {W : Type 0} (old : View W) (n : ℕ) (items : List W) (p r k : ℕ) (w : W) → seen n items ≡ old → k ≡ p * 32 + r → r < 32 → ChangesAt old (seen n (set items k w)) p
written_only {W} old n items p r k w view at small =
    subst (λ (o : View W). ChangesAt o (seen n (set items k w)) p) view (record {
      points = refl;
      elsewhere = λ q s ne less. set_elsewhere items k (q * 32 + s) w (λ e. ne (omega arith));
    })

pub written_here : {W : Type 0} (old : View W) (n : ℕ) (items : List W) (p r k : ℕ) (w : W) → seen n items ≡ old → length items ≡ n * 32 → p < old.points → k ≡ p * 32 + r → r < 32 → entry_at (seen n (set items k w)) p r ≡ Some w
written_here {W} old n items p r k w view long inside at small =
    ap (λ (j : ℕ). slice_get (set items k w) j) (sym at) ∙ set_here items k w (place_there old n items p r k view long inside at small)

pub written_others : {W : Type 0} (old : View W) (n : ℕ) (items : List W) (p r k : ℕ) (w : W) → seen n items ≡ old → k ≡ p * 32 + r → (s : ℕ) → s < 32 → s ≢ r → entry_at (seen n (set items k w)) p s ≡ entry_at old p s
written_others {W} old n items p r k w view at s less ne =
    set_elsewhere items k (p * 32 + s) w (λ e. ne (omega arith)) ∙ ap (λ (v : View W). entry_at v p s) view
