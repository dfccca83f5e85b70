-- The sets of one point that are copied from those of the point before.
use Rattle.std.proofs.Common.{◌≡◌, ℕ, ◌+◌, ◌-◌, ◌*◌, ◌<◌, List, length, slice_get, get_or, Some, inl, inr, refl, sym, ap, subst, ◌∙◌, arith}
use Rattle.std.specs.List.{CopiedTo, SameBelow, SameFrom}
use Rattle.std.proofs.lemmas.Bool.{cases_lt}
use Rattle.std.proofs.lemmas.Option.{slice_get-get_or, slice_get_past, slice_get_cases}
use Rattle.rept_span.specs.Filled.{View, entry_at, AreAt, ChangesAt}
use Rattle.rept_span.proofs.Storing.{seen}

-- an entry that reads alike with any default
same_entry : {W : Type 0} (xs ys : List W) (k j : ℕ) → ((d : W) → get_or ys k d ≡ get_or xs j d) → k < length ys → j < length xs → slice_get ys k ≡ slice_get xs j
same_entry xs ys k j same inside there =
    elim (slice_get_cases xs j).1 [
      | inl (x, less, at, get) ↦ slice_get-get_or ys k x inside ∙ ap Some (same x ∙ get) ∙ sym at
      | inr (past, none) ↦ absurd (omega arith)
    ]

same_place : {W : Type 0} (xs ys : List W) (k : ℕ) → ((d : W) → get_or ys k d ≡ get_or xs k d) → length ys ≡ length xs → slice_get ys k ≡ slice_get xs k
same_place xs ys k same long =
    elim (cases_lt k (length xs)) [
      | inl less ↦ same_entry xs ys k k same (omega arith) less
      | inr past ↦ slice_get_past ys k (omega arith) ∙ sym (slice_get_past xs k past)
    ]

pub carried_only : {W : Type 0} (old : View W) (n : ℕ) (items new : List W) (p to m : ℕ) → seen n items ≡ old → length new ≡ length items → to ≡ p * 32 → m ≡ 32 → SameBelow items new to → SameFrom items new (to + m) → ChangesAt old (seen n new) p
carried_only {W} old n items new p to m view long at size below above =
    subst (λ (o : View W). ChangesAt o (seen n new) p) view (record {
      points = refl;
      elsewhere = λ q s ne less. elim (cases_lt (q * 32 + s) to) [
        | inl under ↦ same_place items new (q * 32 + s) (λ d. below (q * 32 + s) d under) long
        | inr past ↦ elim (cases_lt (q * 32 + s) (to + m)) [
          | inl within ↦ absurd (ne (omega arith))
          | inr over ↦ same_place items new (q * 32 + s) (λ d. above (q * 32 + s) d over) long
        ]
      ];
    })

pub carried_here : {W : Type 0} (old : View W) (n : ℕ) (items new : List W) (p from to m : ℕ) → seen n items ≡ old → length new ≡ length items → length items ≡ n * 32 → 0 < p → p < old.points → from ≡ (p - 1) * 32 → to ≡ p * 32 → m ≡ 32 → CopiedTo items new from to m → AreAt (seen n new) p (entry_at old (p - 1))
carried_here {W} old n items new p from to m view long count some inside begin at size copied r small =
    let points : n ≡ old.points = ap (λ (v : View W). v.points) view in
    let on : from + (p * 32 + r - to) ≡ (p - 1) * 32 + r = omega arith in
    same_entry items new (p * 32 + r) ((p - 1) * 32 + r) (λ d. copied (p * 32 + r) d (omega arith) (omega arith) ∙ ap (λ (j : ℕ). get_or items j d) on) (omega arith) (omega arith)
    ∙ ap (λ (v : View W). entry_at v (p - 1) r) view
