-- The cursors of all threads.
use Rattle.std.proofs.Common.{◌≡◌, ℕ, ap, Bool, false, ◌<◌, ◌≤◌, List, length, map, get_or, set, refl, sym, ◌∙◌, subst, arith, inl, inr}
use Rattle.std.proofs.lemmas.Bool.{cases_eq}
use Rattle.std.proofs.lemmas.List.{get_or-set_other, get_or-set_same, length-set}
use Rattle.std.proofs.lemmas.List.FromFn.{get_or-map-range_with_len, length-map-range_with_len}
use Rattle.std.specs.Prelude.{None, Some, MatchBool}
use Rattle.rept_remote.specs.declared.request.request.GdbRequest.{GdbRequest}
use Rattle.rept_findings.specs.Shown.{Shown}
use Rattle.rept_stub.specs.Answers.{changed, selected_by, spots_after}
use Rattle.rept_remote.specs.Moves.Spots.{Spots}
use Rattle.rept_stub.specs.declared.answers.Stand.{Stand}
use Rattle.rept_stub.specs.Standing.{AreCursors, last_points}

-- those at the ends
pub at_ends : (s : Shown) → AreCursors s (last_points s)
at_ends s = record {
  each = length-map-range_with_len (λ t. length (s.rows t)) 0 s.threads;
  within = λ t h. let e : get_or (last_points s) t 0 ≡ length (s.rows t) = get_or-map-range_with_len (λ i. length (s.rows i)) 0 s.threads t t 0 h (omega arith) in omega (arith, e);
}

module _ (s : Shown) (cursors : List ℕ) (h : AreCursors s cursors) where
  -- a cursor is put to a point of its thread
  pub puts : (t p : ℕ) → t < s.threads → p ≤ length (s.rows t) → AreCursors s (set cursors t p)
  puts t p t_in p_in = record { each = length-set cursors t p ∙ h.each; within = at_each }
    where
      at_each : (i : ℕ) → i < s.threads → get_or (set cursors t p) i 0 ≤ length (s.rows i)
      at_each i i_in =
          elim (cases_eq i t) [
            | inl e ↦
                let there : t < length cursors = let n = h.each in omega (arith, t_in) in
                let is : get_or (set cursors t p) t 0 ≡ p = get_or-set_same cursors t p 0 there in
                let here : get_or (set cursors t p) t 0 ≤ length (s.rows t) = omega (arith, is, p_in) in
                subst (λ n. get_or (set cursors t p) n 0 ≤ length (s.rows n)) (sym e) here
            | inr ne ↦
                let is : get_or (set cursors t p) i 0 ≡ get_or cursors i 0 = get_or-set_other cursors t i p 0 ne in
                let here = h.within i i_in in
                omega (arith, is, here)
          ]

-- a packet that changes no spots leaves all but the threads that it selects
pub selects : (s : Shown) (old last : Stand) (spots : Spots) (request : GdbRequest) (is_changed : Bool) → MatchBool is_changed (spots_after old.spots request ≡ Some spots) ((spots_after old.spots request ≡ None) × (spots ≡ old.spots)) → is_changed ≡ false
    → last ≡ selected_by s (record old { spots = spots }) request → last ≡ changed s old request (spots_after old.spots request)
selects s old last spots request is_changed h e is =
    let kept : (spots_after old.spots request ≡ None) × (spots ≡ old.spots) = subst (λ b. MatchBool b (spots_after old.spots request ≡ Some spots) ((spots_after old.spots request ≡ None) × (spots ≡ old.spots))) e h in
    is ∙ ap (λ (found : Spots). selected_by s (record old { spots = found }) request) kept.1 ∙ sym (ap (changed s old request) kept.0)
