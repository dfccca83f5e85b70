-- What the way of a branch tells of its condition.
use Rattle.std.proofs.Common.{◌≡◌, ℕ, Bool, true, false, cond, inl, inr, refl, sym, subst}
use Rattle.std.proofs.lemmas.Bool.{cases_eq, eq-eqb, ne_eqb}
use Rattle.rept_isa.specs.declared.class.Turn.{Turn}
use Rattle.rept_isa.specs.declared.class.Turn.TheVariants.{Taken, NotTaken, Either, NoBranch}
use Rattle.rept_isa.specs.Numbers.{following}
use Rattle.rept_isa.specs.Operands.{way}

-- A branch that was taken had a condition that holds, and one that wasn't had none. Where both ways
-- lead to one place nothing is told, and no branch leads elsewhere.
abbrev pub TurnTells : Turn → Bool → Type 0
TurnTells Taken holds = holds ≡ true
TurnTells NotTaken holds = holds ≡ false
TurnTells Either holds = Unit {0}
TurnTells NoBranch holds = ⊥

pub way_tells : (holds : Bool) (from target next : ℕ) → next ≡ cond holds target (following from) → TurnTells (way from target next) holds
way_tells true from target next went =
    elim (cases_eq target (following from)) [
      | inl same ↦
          let is : way from target next ≡ Either = rw (eq-eqb target (following from) same) refl in
          subst (λ (t : Turn). TurnTells t true) (sym is) tt
      | inr apart ↦
          let is : way from target next ≡ Taken = rw (ne_eqb target (following from) apart, went, eq-eqb target target refl) refl in
          subst (λ (t : Turn). TurnTells t true) (sym is) refl
    ]
way_tells false from target next went =
    elim (cases_eq target (following from)) [
      | inl same ↦
          let is : way from target next ≡ Either = rw (eq-eqb target (following from) same) refl in
          subst (λ (t : Turn). TurnTells t false) (sym is) tt
      | inr apart ↦
          let is : way from target next ≡ NotTaken = rw (ne_eqb target (following from) apart, went, ne_eqb (following from) target (λ x. apart (sym x)), eq-eqb (following from) (following from) refl) refl in
          subst (λ (t : Turn). TurnTells t false) (sym is) refl
    ]
