-- What is kept of the numbers that were reached.
use Rattle.std.proofs.Common.{◌≡◌, ℕ, ◌<◌, ◌≤◌, ◌⊎◌, Bool, true, false, List, [], ◌∷◌, ◌++◌, length, Some, inl, inr, refl, sym, ap, ◌∙◌, arith, get_or, set, replicate, slice_get, slice_index_or}
use Rattle.std.proofs.lemmas.Bool.{cases_lt, cases_eq, false≢true}
use Rattle.std.proofs.lemmas.Option.{slice_get-get_or, slice_get_within}
use Rattle.std.proofs.lemmas.List.{length_push, length-replicate, length-set, get_or_append_left, get_or_push, get_or_past, get_or-replicate, get_or-set_same, get_or-set_other}
use Rattle.std.proofs.lemmas.List.Folds.{sum_by-replicate}
use Rattle.std.proofs.lemmas.List.Sums.{sum_by-set}
use Rattle.rept_report.specs.Nearest.Reached.{Reached, IsAmong, one_if_clear, AreClear, AreMarked, AddsNumber, ReachesMore}

pub same_number : {m w : ℕ} → Some m ≡ Some w → m ≡ w
same_number e = cc

-- of a list with one number more
pub before_push : (list : List ℕ) (w k : ℕ) → k < length list → slice_get (list ++ w ∷ []) k ≡ slice_get list k
before_push list w k lt =
    let long = length_push list w in
    slice_get-get_or (list ++ w ∷ []) k w (omega (arith, lt, long)) ∙ ap Some (get_or_append_left list (w ∷ []) w k lt) ∙ sym (slice_get-get_or list k w lt)

pub at_push : (list : List ℕ) (w : ℕ) → slice_get (list ++ w ∷ []) (length list) ≡ Some w
at_push list w =
    let long = length_push list w in
    slice_get-get_or (list ++ w ∷ []) (length list) w (omega (arith, long)) ∙ ap Some (get_or_push list w w (length list) refl)

pub kept_push : (list : List ℕ) (w k m : ℕ) → slice_get list k ≡ Some m → slice_get (list ++ w ∷ []) k ≡ Some m
kept_push list w k m at = let lt = slice_get_within list k m at in before_push list w k lt ∙ at

pub in_push : (list : List ℕ) (w k m : ℕ) → slice_get (list ++ w ∷ []) k ≡ Some m → (slice_get list k ≡ Some m) ⊎ (m ≡ w)
in_push list w k m at =
    elim (cases_lt k (length list)) [
      | inl lt ↦ inl (sym (before_push list w k lt) ∙ at)
      | inr ge ↦
          let within = slice_get_within (list ++ w ∷ []) k m at in
          let long = length_push list w in
          let e : k ≡ length list = omega (arith, ge, within, long) in
          inr (same_number (sym at ∙ rw e (at_push list w)))
    ]

-- no marks are set at first
pub clear_marked : (count capacity : ℕ) (marks : List Bool) → AreClear count marks → count ≤ capacity → AreMarked marks [] capacity
clear_marked count capacity marks (long, sum, clear) fits = record {
  marked = λ m e. absurd (false≢true (sym (clear m) ∙ e));
  among = λ k m e. absurd (nothing k m e);
  room = omega (arith, long, sum);
  fits = omega (arith, long, fits);
}
  where
    none : List ℕ
    none = []

    nothing : (k m : ℕ) → slice_get none k ≡ Some m → ⊥
    nothing k m e = let lt = slice_get_within none k m e in omega (arith, lt)

pub no_marks_clear : (count : ℕ) → AreClear count (replicate count false)
no_marks_clear count = (length-replicate count false, sum_by-replicate one_if_clear count false ∙ omega arith, unset)
  where
    unset : (k : ℕ) → slice_index_or (replicate count false) k false ≡ false
    unset k =
        elim (cases_lt k count) [
          | inl lt ↦ get_or-replicate count k false false lt
          | inr ge ↦ let long = length-replicate count false in get_or_past (replicate count false) k false (omega (arith, long, ge))
        ]

-- one more is marked
pub added : (marks : List Bool) (list : List ℕ) (capacity m : ℕ) → m < length marks → slice_index_or marks m false ≡ false → AreMarked marks list capacity → AreMarked (set marks m true) (list ++ m ∷ []) capacity
added marks list capacity m lt free h = record {
  marked = λ w e. elim (cases_eq w m) [
    | inl is ↦ (length list, rw is (at_push list m))
    | inr ne ↦ let old = h.marked w (sym (get_or-set_other marks m w true false ne) ∙ e) in (old.0, kept_push list m old.0 w old.1)
  ];
  among = λ k w at. elim (in_push list m k w at) [
    | inl old ↦ elim (cases_eq w m) [
      | inl is ↦ rw is (get_or-set_same marks m true false lt)
      | inr ne ↦ get_or-set_other marks m w true false ne ∙ h.among k w old
    ]
    | inr is ↦ rw is (get_or-set_same marks m true false lt)
  ];
  room =
      let long = length_push list m in
      let sums = sum_by-set one_if_clear marks m true false lt in
      let was : one_if_clear (get_or marks m false) ≡ 1 = ap one_if_clear free in
      let room = h.room in
      let same = length-set marks m true in
      omega (arith, long, sums, was, room, same);
  fits = let same = length-set marks m true in let fits = h.fits in omega (arith, same, fits);
}

-- what was reached stays
pub grows_itself : (a : Reached) → ReachesMore a a
grows_itself a = record { bound = refl; longer = omega arith; kept = λ k m at. at }

pub grows_then : (a b c : Reached) → ReachesMore a b → ReachesMore b c → ReachesMore a c
grows_then a b c g h = record { bound = h.bound ∙ g.bound; longer = let i = g.longer in let j = h.longer in omega (arith, i, j); kept = λ k m at. h.kept k m (g.kept k m at) }

pub grows_among : (a b : Reached) → ReachesMore a b → (m : ℕ) → IsAmong a.list m → IsAmong b.list m
grows_among a b g m h = (h.0, g.kept h.0 m h.1)

pub added_grows : (a b : Reached) (m : ℕ) → AddsNumber a b m → ReachesMore a b
added_grows a b m (inl (there, same)) = rw same (grows_itself a)
added_grows a b m (inr same) = rw same (record { bound = refl; longer = let long = length_push a.list m in omega (arith, long); kept = λ k w at. kept_push a.list m k w at })

pub added_there : (a b : Reached) (m : ℕ) → AddsNumber a b m → IsAmong b.list m
added_there a b m (inl (there, same)) = rw same there
added_there a b m (inr same) = rw same (length a.list, at_push a.list m)

pub added_only : (a b : Reached) (m w : ℕ) → AddsNumber a b m → IsAmong b.list w → IsAmong a.list w ⊎ (w ≡ m)
added_only a b m w (inl (there, same)) h = inl (rw same at h)
added_only a b m w (inr same) h = let h' : IsAmong (a.list ++ m ∷ []) w = rw same at h in elim (in_push a.list m h'.0 w h'.1) [ inl old ↦ inl (h'.0, old) | inr is ↦ inr is ]

-- a place among the former ones has what it had
pub still_there : (a b : Reached) → ReachesMore a b → (k m : ℕ) → k < length a.list → slice_get b.list k ≡ Some m → slice_get a.list k ≡ Some m
still_there a b g k m lt at =
    let was = slice_get-get_or a.list k 0 lt in
    was ∙ sym (g.kept k (get_or a.list k 0) was) ∙ at
