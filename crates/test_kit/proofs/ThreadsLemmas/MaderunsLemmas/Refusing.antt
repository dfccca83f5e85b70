-- No refusal of the writer comes that rests on steps.
use Rattle.std.proofs.Common.{◌≡◌, ℕ, false, List, slice_get, Some, All, sym, ◌∙◌, subst, arith}
use Rattle.std.proofs.lemmas.Bool.{false≢true}
use Rattle.std.proofs.lemmas.List.Elements.{All-get_or, All-weaker}
use Rattle.std.proofs.lemmas.Option.{slice_get_within, get_or_from_slice_get}
use Rattle.rept_isa.specs.declared.row.StepRow.{StepRow}
use Rattle.rept_encode.specs.Walkable.{IsWalkable, IsFirstJumpEnd}
use Rattle.rept_encode.specs.declared.weaving.stretch.HartStretch.{HartStretch}
use Rattle.rept_encode.specs.declared.weaving.fault.HartPlace.{HartPlace}
use Rattle.rept_encode.specs.Weaving.Woven.{IsInnerCall, IsAtPlace}
use Rattle.test_kit.specs.Threads.Maderuns.Harts.{IsSendable}

found_in : {A : Type 0} (P : A → Type 0) (xs : List A) (i : ℕ) (x : A) → All P xs → slice_get xs i ≡ Some x → P x
found_in P xs i x all found = subst P (get_or_from_slice_get xs i x x found) (All-get_or P xs i x (slice_get_within xs i x found) all)

module _ (harts : List (List HartStretch)) (sendable : All (All (λ (s : HartStretch). IsSendable s.steps)) harts) where
  sent : (place : HartPlace) (P : List StepRow → ℕ → Type 0) (at : IsAtPlace harts place P) → IsSendable at.2.0.steps
  sent place P at = found_in (λ (s : HartStretch). IsSendable s.steps) at.0 place.stretch at.2.0 (found_in (All (λ (s : HartStretch). IsSendable s.steps)) harts place.hart at.0 sendable at.1) at.2.1

  pub no_inner : (place : HartPlace) → IsAtPlace harts place IsInnerCall → ⊥
  no_inner place at =
      let inner = at.2.2 in
      let early = inner.early in
      let last = (sent place IsInnerCall at).calls place.step inner.row inner.there inner.call in
      omega arith

  pub no_jump : (place : HartPlace) → IsAtPlace harts place IsFirstJumpEnd → ⊥
  no_jump place at =
      let end = at.2.2.there in
      false≢true (sym ((sent place IsFirstJumpEnd at).near end.before end.jump end.jumps) ∙ end.far)

  pub walkable : All (All (λ (s : HartStretch). IsWalkable false s.steps)) harts
  walkable = All-weaker (All (λ (s : HartStretch). IsSendable s.steps)) (All (λ (s : HartStretch). IsWalkable false s.steps))
      (λ hart all. All-weaker (λ (s : HartStretch). IsSendable s.steps) (λ (s : HartStretch). IsWalkable false s.steps) (λ s can. can.walkable) hart all) harts sendable
