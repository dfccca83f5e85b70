-- What a reason is told of.
use Rattle.std.proofs.Common.{◌≢◌, ℕ, Option, None, Some, Result, Ok, Err, IfOk, IfNone, eqb, inl, inr, sym, ap, ◌∙◌}
use Rattle.std.proofs.lemmas.Bool.{cases_eq, cond-false, ne_eqb}
use Rattle.rept_reason.specs.declared.fact.Cell.{Cell}
use Rattle.rept_reason.specs.declared.fact.Cell.TheVariants.{Register, Byte}
use Rattle.rept_reason.specs.Facts.{Knowledge}
use Rattle.rept_findings.specs.Shown.{known_value}
use Rattle.rept_found.specs.Trip.Trip.{Trip}
use Rattle.rept_found.specs.Crash.{Scene}
use Rattle.rept_found.specs.Telling.{shown_on}

-- a fact on another cell than x0 that isn't known, isn't shown
pub not_shown : {W : Type 0} (trip : Trip W) (K : Knowledge) (scene : Scene) (p v : ℕ) (c : Cell) → c ≢ Register 0 → K p c ≢ Some v → known_value (shown_on trip K scene) p c ≢ Some v
not_shown trip K scene p v (Byte a) named unknown e = unknown e
not_shown trip K scene p v (Register r) named unknown e =
    elim (cases_eq r 0) [
      | inl z ↦ named (ap Register z)
      | inr ne ↦ unknown (sym (cond-false (eqb r 0) (Some 0) (K p (Register r)) (ne_eqb r 0 ne)) ∙ e)
    ]

pub none_shown : {W T E : Type 0} (trip : Trip W) (K : Knowledge) (scene : Scene) (p v : ℕ) (c : Cell) (r : Result (Option T) E) → c ≢ Register 0 → IfOk r (λ found. IfNone found (K p c ≢ Some v)) → IfOk r (λ found. IfNone found (known_value (shown_on trip K scene) p c ≢ Some v))
none_shown trip K scene p v c (Ok None) named h = not_shown trip K scene p v c named h
none_shown trip K scene p v c (Ok (Some x)) named h = h
none_shown trip K scene p v c (Err e) named h = h
