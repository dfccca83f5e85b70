-- The window of a stream is that of a path of its own.
use Rattle.std.proofs.Common.{◌≡◌, inl, inr, ℕ, suc, ◌+◌, ◌≤◌, nat_le, List, [], ◌∷◌, ◌++◌, length, drop, Bool, true, false, not, cond, ◌&&◌, Some, slice_get, refl, sym, ◌∙◌, ap, subst, arith, append_assoc, length-append}
use Rattle.std.specs.List.{list_any}
use Rattle.std.proofs.lemmas.Bool.{cases_order}
use Rattle.std.proofs.lemmas.Bool.Decides.{leb_tells}
use Rattle.std.proofs.Math.Seq.{drop-append_seam}
use Rattle.rept_trace.specs.declared.packet.Packet.{Packet}
use Rattle.rept_path.specs.Trace.{starts, loses, MayBegin, IsWindow}
use Rattle.rept_path.proofs.Windows.{starts_within}
use Rattle.rept_streams.specs.Slices.Stamps.{is_start}
use Rattle.rept_streams.specs.Slices.Skipping.{window_from, window_of}

all_three : (a b c : Bool) → (a && b && c) ≡ true → (a ≡ true) × (b ≡ true) × (c ≡ true)
all_three true true true h = (refl, refl, refl)
all_three true true false h = absurd (cc)
all_three true false c h = absurd (cc)
all_three false b c h = absurd (cc)

three_all : (a b c : Bool) → a ≡ true → b ≡ true → c ≡ true → (a && b && c) ≡ true
three_all a b c x y z = rw (x, y, z) refl

at_least : (a b : ℕ) → nat_le a b ≡ true → a ≤ b
at_least a b h = elim (leb_tells a b) [ inl t ↦ t.1 | inr t ↦ absurd (let k = rw t.0 at h in cc) ]

tells_least : (a b : ℕ) → a ≤ b → nat_le a b ≡ true
tells_least a b h = elim (leb_tells a b) [ inl t ↦ t.0 | inr t ↦ absurd (let lt = t.1 in omega (arith, lt, h)) ]

not_false : (b : Bool) → not b ≡ true → b ≡ false
not_false true h = absurd (cc)
not_false false h = refl

get_there : (front : List Packet) (p : Packet) (later : List Packet) → slice_get (front ++ p ∷ later) (length front) ≡ Some p
get_there [] p later = refl
get_there (x ∷ front) p later = get_there front p later

module _ (from : ℕ) where
  -- no window begins in the front
  abbrev Past : List Packet → List Packet → Type 0
  Past front later = (i : ℕ) → MayBegin (front ++ later) from i → length front ≤ i

  module _ (front : List Packet) (p : Packet) (later : List Packet) where
    abbrev packets : List Packet
    packets = front ++ p ∷ later

    abbrev test : Bool
    test = is_start p && nat_le from (length front) && not (list_any loses (p ∷ later))

    from_here : drop (length front) packets ≡ p ∷ later
    from_here = drop-append_seam front (p ∷ later)

    may_here : test ≡ true → MayBegin packets from (length front)
    may_here h =
        let t = all_three (is_start p) (nat_le from (length front)) (not (list_any loses (p ∷ later))) h in
        record { late = at_least from (length front) t.1; start = ap starts (get_there front p later) ∙ t.0; whole = ap (list_any loses) from_here ∙ not_false (list_any loses (p ∷ later)) t.2 }

    here_may : MayBegin packets from (length front) → test ≡ true
    here_may m =
        let whole : list_any loses (p ∷ later) ≡ false = ap (list_any loses) (sym from_here) ∙ m.whole in
        three_all (is_start p) (nat_le from (length front)) (not (list_any loses (p ∷ later))) (ap starts (sym (get_there front p later)) ∙ m.start) (tells_least from (length front) m.late) (ap not whole)

    past_more : Past front (p ∷ later) → test ≡ false → (i : ℕ) → MayBegin packets from i → length front + 1 ≤ i
    past_more past fails i m = elim (cases_order i (length front)) [
      | inl e ↦ absurd (let k = here_may (subst (λ (n : ℕ). MayBegin packets from n) e m) in cc)
      | inr (inl l) ↦ absurd (let le = past i m in omega (arith, le, l))
      | inr (inr l) ↦ omega (arith, l)
    ]

    by_test : (b : Bool) → test ≡ b → Past front (p ∷ later) → (test ≡ false → IsWindow packets from (window_from from (suc (length front)) later)) → IsWindow packets from (cond b (Some (length front)) (window_from from (suc (length front)) later))
    by_test true is past more = record { may = may_here is; first = past }
    by_test false is past more = more is

  windows_from : (later front : List Packet) → Past front later → IsWindow (front ++ later) from (window_from from (length front) later)
  windows_from [] front past = λ i m.
      let lt = starts_within (front ++ []) i m.start in
      let le = past i m in
      absurd (omega (arith, lt, le, length-append front []))
  windows_from (p ∷ later) front past =
      by_test front p later (is_start p && nat_le from (length front) && not (list_any loses (p ∷ later))) refl past (λ fails.
      let longer : (front ++ p ∷ []) ++ later ≡ front ++ p ∷ later = append_assoc front (p ∷ []) later in
      let size : length (front ++ p ∷ []) ≡ suc (length front) = length-append front (p ∷ []) ∙ omega arith in
      let past_here : Past (front ++ p ∷ []) later = λ i m. (let le = past_more front p later past fails i (subst (λ (xs : List Packet). MayBegin xs from i) longer m) in omega (arith, le, size)) in
      let w = windows_from later (front ++ p ∷ []) past_here in
      subst (λ (n : ℕ). IsWindow (front ++ p ∷ later) from (window_from from n later)) size (subst (λ (xs : List Packet). IsWindow xs from (window_from from (length (front ++ p ∷ [])) later)) longer w))

  pub window_is : (packets : List Packet) → IsWindow packets from (window_of from packets)
  window_is packets = windows_from packets [] (λ i m. omega arith)
