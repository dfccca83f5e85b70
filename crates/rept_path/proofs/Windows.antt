-- Windows of one packet more.
use Rattle.std.proofs.Common.{◌≡◌, ℕ, zero, suc, ◌<◌, ◌≤◌, List, [], ◌∷◌, ◌++◌, length, drop, true, false, ◌||◌, Option, Some, None, slice_get, refl, arith, ◌⊎◌, inl, inr, length-append}
use Rattle.std.specs.List.{list_any}
use Rattle.std.proofs.lemmas.Bool.{cases_order}
use Rattle.std.proofs.lemmas.List.{drop-append-le}
use Rattle.std.proofs.lemmas.List.Folds.{list_any-append}
use Rattle.std.proofs.Math.Seq.{drop-append_seam}
use Rattle.rept_trace.specs.declared.packet.Packet.{Packet}
use Rattle.rept_path.specs.Trace.{starts, loses, MayBegin, IsWindow}

get_front : (xs ys : List Packet) (i : ℕ) → i < length xs → slice_get (xs ++ ys) i ≡ slice_get xs i
get_front [] ys i lt = absurd (omega arith)
get_front (x ∷ xs) ys zero lt = refl
get_front (x ∷ xs) ys (suc i) lt = get_front xs ys i (omega arith)

get_seam : (xs : List Packet) (p : Packet) → slice_get (xs ++ p ∷ []) (length xs) ≡ Some p
get_seam [] p = refl
get_seam (x ∷ xs) p = get_seam xs p

pub starts_within : (xs : List Packet) (i : ℕ) → starts (slice_get xs i) ≡ true → i < length xs
starts_within [] i h = cc
starts_within (x ∷ xs) zero h = omega arith
starts_within (x ∷ xs) (suc i) h = let lt = starts_within xs i h in omega arith

module _ (xs : List Packet) (p : Packet) (from i : ℕ) where
  early : MayBegin (xs ++ p ∷ []) from i → i ≤ length xs
  early m = let lt = starts_within (xs ++ p ∷ []) i m.start in omega (arith, length-append xs (p ∷ []))

  dropped : i ≤ length xs → list_any loses (drop i (xs ++ p ∷ [])) ≡ (list_any loses (drop i xs) || list_any loses (p ∷ []))
  dropped le = rw (drop-append-le i xs (p ∷ []) le) (list_any-append loses (drop i xs) (p ∷ []))

  pub kept_whole : loses p ≡ true → MayBegin (xs ++ p ∷ []) from i → ⊥
  kept_whole lost m =
      let h : list_any loses (drop i (xs ++ p ∷ [])) ≡ (list_any loses (drop i xs) || list_any loses (p ∷ [])) = dropped (early m) in
      let k : list_any loses (p ∷ []) ≡ true = rw lost refl in
      let g = m.whole in
      grind (arith)

  pub back : MayBegin (xs ++ p ∷ []) from i → i < length xs → MayBegin xs from i
  back m lt =
      let h : list_any loses (drop i (xs ++ p ∷ [])) ≡ (list_any loses (drop i xs) || list_any loses (p ∷ [])) = dropped (omega arith) in
      let g = m.whole in
      record { late = m.late; start = rw (get_front xs (p ∷ []) i lt) at m.start; whole = grind (arith) }

  pub forth : loses p ≡ false → MayBegin xs from i → MayBegin (xs ++ p ∷ []) from i
  forth keeps m =
      let lt = starts_within xs i m.start in
      let h : list_any loses (drop i (xs ++ p ∷ [])) ≡ (list_any loses (drop i xs) || list_any loses (p ∷ [])) = dropped (omega arith) in
      let k : list_any loses (p ∷ []) ≡ false = rw keeps refl in
      let g = m.whole in
      record { late = m.late; start = rw (get_front xs (p ∷ []) i lt) m.start; whole = grind (arith) }

  pub at_end : MayBegin (xs ++ p ∷ []) from i → length xs ≤ i → (i ≡ length xs) × (starts (Some p) ≡ true) × (from ≤ length xs)
  at_end m le =
      let e : i ≡ length xs = let lt = early m in omega arith in
      let l = m.late in
      (e, (rw (e, get_seam xs p) at m.start), omega arith)

module _ (xs : List Packet) (p : Packet) (from : ℕ) where
  pub lost : loses p ≡ true → IsWindow (xs ++ p ∷ []) from None
  lost h = λ i m. kept_whole xs p from i h m

  pub found : starts (Some p) ≡ true → loses p ≡ false → from ≤ length xs → IsWindow xs from None → IsWindow (xs ++ p ∷ []) from (Some (length xs))
  found s keeps le none = record {
    may = record { late = le; start = rw (get_seam xs p) s; whole = rw (drop-append_seam xs (p ∷ []), keeps) refl };
    first = λ i m. elim (cases_order i (length xs)) [ inl e ↦ omega arith | inr (inl l) ↦ absurd (none i (back xs p from i m l)) | inr (inr l) ↦ omega arith ];
  }

  pub still : (skipped : ℕ) → loses p ≡ false → IsWindow xs from (Some skipped) → IsWindow (xs ++ p ∷ []) from (Some skipped)
  still skipped keeps w = record {
    may = forth xs p from skipped keeps w.may;
    first = λ i m. elim (cases_order i (length xs)) [
      | inl e ↦ (let lt = starts_within xs skipped w.may.start in omega arith)
      | inr (inl l) ↦ w.first i (back xs p from i m l)
      | inr (inr l) ↦ (let lt = starts_within xs skipped w.may.start in omega arith)
    ];
  }

  pub still_none : ((starts (Some p) ≡ false) ⊎ (length xs < from)) → IsWindow xs from None → IsWindow (xs ++ p ∷ []) from None
  still_none neither none = λ i m. elim (cases_order i (length xs)) [
    | inl e ↦ elim neither [ inl f ↦ (let a = at_end xs p from i m (omega arith) in cc) | inr f ↦ (let a = at_end xs p from i m (omega arith) in omega arith) ]
    | inr (inl l) ↦ none i (back xs p from i m l)
    | inr (inr l) ↦ elim neither [ inl f ↦ (let a = at_end xs p from i m (omega arith) in cc) | inr f ↦ (let a = at_end xs p from i m (omega arith) in omega arith) ]
  ]

  pub passed : (begin : Option ℕ) → starts (Some p) ≡ false → loses p ≡ false → IsWindow xs from begin → IsWindow (xs ++ p ∷ []) from begin
  passed None s keeps w = still_none (inl s) w
  passed (Some skipped) s keeps w = still skipped keeps w
