-- Bounds of blocks, one block after the other, and blocks of blocks.
use Rattle.std.proofs.Common.{◌/◌, ◌%◌, ◌*◌, ◌+◌, ◌^◌, ◌-◌, ◌≤◌, ◌<◌, ◌≡◌, ℕ, zero, suc, inl, inr, List, [], ◌∷◌, ◌++◌, length, Option, None, ◌∙◌, sym, refl, ap, subst, arith, length-append, slice_index_or}
use Rattle.std.proofs.Math.Nat.{div-mul-le_self, lt-div-mul-add, div-lt_iff_lt-mul, le-div_iff_mul-le, pow-suc, mul_assoc, mul_comm, add-mul}
use Rattle.std.proofs.lemmas.Bool.{cases_lt}
use Rattle.std.proofs.lemmas.List.{get_or_append_left, get_or_push, get_or_past}
use Rattle.rept_extents.specs.declared.hulls.Bounds.{Bounds}
use Rattle.rept_extents.specs.Hulls.{LiesIn, LieIn, AreBlocks, AreLevels}

-- one block more
module _ (list : List (Option Bounds)) (blocks : List (Option Bounds)) (h : Option Bounds) where
  pub blocks_more : (n : ℕ) → length blocks ≡ n → AreBlocks 4 blocks list → ((outer : Bounds) → LiesIn h outer → LieIn list (record { from = n * 4; to = n * 4 + 4; outer = outer })) → AreBlocks 4 (blocks ++ h ∷ []) list
  blocks_more n count known new b outer lies =
      elim (cases_lt b n) [
        | inl below ↦ known b outer (subst (λ (o : Option Bounds). LiesIn o outer) (get_or_append_left blocks (h ∷ []) None b (omega arith)) lies)
        | inr past ↦
            elim (cases_lt n b) [
              | inl over ↦ absurd (subst (λ (o : Option Bounds). LiesIn o outer) (get_or_past (blocks ++ h ∷ []) b None (omega (arith, length-append blocks (h ∷ [])))) lies)
              | inr under ↦
                  let same : n ≡ b = omega arith in
                  let here : LiesIn h outer = subst (λ (o : Option Bounds). LiesIn o outer) (get_or_push blocks h None b (count ∙ same)) lies in
                  subst (λ (k : ℕ). LieIn list (record { from = k * 4; to = k * 4 + 4; outer = outer })) same (new outer here)
            ]
      ]

-- blocks of four blocks are blocks of four times as many numbers
module _ (above blocks list : List (Option Bounds)) (size : ℕ) (some : 0 < size) where
  pub blocks_of_blocks : AreBlocks 4 above blocks → AreBlocks size blocks list → AreBlocks (4 * size) above list
  blocks_of_blocks wide known w outer lies k from to =
      let same : w * 4 * size ≡ w * (4 * size) = mul_assoc w 4 size in
      let end : (w * 4 + 4) * size ≡ w * 4 * size + 4 * size = add-mul (w * 4) 4 size in
      let first : w * 4 ≤ k / size = (le-div_iff_mul-le {k = size} {x = w * 4} {y = k} some).1 (omega (arith, same, from)) in
      let last : k / size < w * 4 + 4 = (div-lt_iff_lt-mul {k = size} {x = k} {y = w * 4 + 4} some).1 (omega (arith, same, end, to)) in
      known (k / size) outer (wide w outer lies (k / size) first last) k (div-mul-le_self k size) (lt-div-mul-add some)

-- there are no fewer numbers than levels
pub level_below : (n : ℕ) → n < 4 ^ n
level_below zero = omega arith
level_below (suc n) = omega (arith, pow-suc 4 n, level_below n)

-- the size of the next level, and of the one below
pub size_above : (n size : ℕ) → size ≡ 4 ^ n → size * 4 ≡ 4 ^ (n + 1)
size_above n size sized =
    let one : suc n ≡ n + 1 = omega arith in
    ap (λ (s : ℕ). s * 4) sized ∙ sym (pow-suc 4 n) ∙ ap (λ (m : ℕ). 4 ^ m) one

pub size_below : (n size : ℕ) → 0 < n → size ≡ 4 ^ n → (size / 4 ≡ 4 ^ (n - 1)) × (size / 4 * 4 ≡ size)
size_below n size some sized =
    let below : 4 ^ (n - 1) * 4 ≡ 4 ^ (n - 1 + 1) = size_above (n - 1) (4 ^ (n - 1)) refl in
    let one : n - 1 + 1 ≡ n = omega (arith, some) in
    let whole : 4 ^ (n - 1) * 4 ≡ 4 ^ n = below ∙ ap (λ (m : ℕ). 4 ^ m) one in
    (omega (arith, whole, sized), omega (arith, whole, sized))

-- no block is past its first number
pub index_below : (index size from : ℕ) → 0 < size → from ≡ index * size → index ≤ from
index_below zero size from some begins = omega arith
index_below (suc index) size from some begins = omega (arith, begins, some, index_below index size (index * size) some refl)

-- where the next block, the one before, the one above and the one below begin
pub begins_after : (index size from : ℕ) → from ≡ index * size → from + size ≡ (index + 1) * size
begins_after index size from begins = omega (arith, begins, add-mul index 1 size)

index_some : (index size from : ℕ) → 0 < size → size ≤ from → from ≡ index * size → 0 < index
index_some zero size from some within begins = absurd (omega (arith, some, within, begins))
index_some (suc index) size from some within begins = omega arith

pub begins_before : (index size from : ℕ) → 0 < size → size ≤ from → from ≡ index * size → (0 < index) × (from - size ≡ (index - 1) * size)
begins_before index size from some within begins =
    let first : 0 < index = index_some index size from some within begins in
    let one : index - 1 + 1 ≡ index = omega (arith, first) in
    let same : (index - 1 + 1) * size ≡ index * size = ap (λ (i : ℕ). i * size) one in
    (first, omega (arith, begins, same, add-mul (index - 1) 1 size))

pub begins_above : (index size from : ℕ) → index % 4 ≡ 0 → from ≡ index * size → from ≡ index / 4 * (size * 4)
begins_above index size from first begins =
    let whole : index ≡ index / 4 * 4 = omega (arith, first) in
    begins ∙ ap (λ (i : ℕ). i * size) whole ∙ mul_assoc (index / 4) 4 size ∙ ap (λ (s : ℕ). index / 4 * s) (mul_comm 4 size)

pub begins_below : (index size from : ℕ) → size / 4 * 4 ≡ size → from ≡ index * size → from ≡ index * 4 * (size / 4)
begins_below index size from whole begins =
    begins ∙ ap (λ (s : ℕ). index * s) (sym whole ∙ mul_comm (size / 4) 4) ∙ sym (mul_assoc index 4 (size / 4))

-- what the bounds of a block of a level lie within, those of each of its numbers lie within
pub of_level : (levels : List (List (Option Bounds))) (list : List (Option Bounds)) (n index size from : ℕ) (outer : Bounds) → AreLevels levels list → size ≡ 4 ^ n → from ≡ index * size → LiesIn (slice_index_or (slice_index_or levels n []) index None) outer → LieIn list (record { from = from; to = from + size; outer = outer })
of_level levels list n index size from outer known sized begins lies k since before =
    let same : index * size ≡ index * 4 ^ n = ap (λ (s : ℕ). index * s) sized in
    known n index outer lies k (omega (arith, same, begins, since)) (omega (arith, same, begins, sized, before))

-- one level more
module _ (levels : List (List (Option Bounds))) (hulls next list : List (Option Bounds)) (wide : AreBlocks 4 next hulls) (known : AreLevels (levels ++ hulls ∷ []) list) where
  next_is : (n : ℕ) → n ≡ length levels + 1 → AreBlocks (4 ^ n) next list
  next_is n last =
      let m : ℕ = length levels in
      let here : AreBlocks (4 ^ m) hulls list = subst (λ (xs : List (Option Bounds)). AreBlocks (4 ^ m) xs list) (get_or_push levels hulls [] m refl) (known m) in
      let size : 4 * 4 ^ m ≡ 4 ^ n = mul_comm 4 (4 ^ m) ∙ size_above m (4 ^ m) refl ∙ ap (λ (i : ℕ). 4 ^ i) (sym last) in
      subst (λ (s : ℕ). AreBlocks s next list) size (blocks_of_blocks next hulls list (4 ^ m) (omega (arith, level_below m)) wide here)

  pub level_more : AreLevels ((levels ++ hulls ∷ []) ++ next ∷ []) list
  level_more n =
      let count : length (levels ++ hulls ∷ []) ≡ length levels + 1 = omega (arith, length-append levels (hulls ∷ [])) in
      elim (cases_lt n (length levels + 1)) [
        | inl below ↦ subst (λ (xs : List (Option Bounds)). AreBlocks (4 ^ n) xs list) (sym (get_or_append_left (levels ++ hulls ∷ []) (next ∷ []) [] n (omega (arith, count, below)))) (known n)
        | inr past ↦
            elim (cases_lt (length levels + 1) n) [
              | inl over ↦ λ b outer lies.
                  let none : slice_index_or ((levels ++ hulls ∷ []) ++ next ∷ []) n [] ≡ [] = get_or_past ((levels ++ hulls ∷ []) ++ next ∷ []) n [] (omega (arith, count, over, length-append (levels ++ hulls ∷ []) (next ∷ []))) in
                  absurd (subst (λ (o : Option Bounds). LiesIn o outer) (get_or_past [] b None (omega arith)) (subst (λ (xs : List (Option Bounds)). LiesIn (slice_index_or xs b None) outer) none lies))
              | inr under ↦
                  let last : n ≡ length levels + 1 = omega (arith, past, under) in
                  subst (λ (xs : List (Option Bounds)). AreBlocks (4 ^ n) xs list) (sym (get_or_push (levels ++ hulls ∷ []) next [] n (omega (arith, count, last)))) (next_is n last)
            ]
      ]

  pub first_stays : slice_index_or (levels ++ hulls ∷ []) 0 [] ≡ list → slice_index_or ((levels ++ hulls ∷ []) ++ next ∷ []) 0 [] ≡ list
  first_stays first = get_or_append_left (levels ++ hulls ∷ []) (next ∷ []) [] 0 (omega (arith, length-append levels (hulls ∷ []))) ∙ first
