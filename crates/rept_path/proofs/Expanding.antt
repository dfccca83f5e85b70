-- What a half stands for, as it is read and as it is told.
use Rattle.std.proofs.Common.{◌≡◌, ℕ, Option, Some, None, refl, sym, subst}
use Rattle.std.specs.Prelude.{IfSome, IfNone}
use Rattle.rept_isa.specs.declared.instr.Instr.{Instr}
use Rattle.rept_rvc.specs.Halves.{IsHalf}
use Rattle.rept_rvc.proofs.HalfLemmas as half_lemmas
use Rattle.rept_rvc.proofs.ReadLemmas as read_lemmas
use Rattle.rept_path.specs.Code.{expansion}

pub reads : (half : ℕ) (i : Instr) → IsHalf half i → expansion half ≡ Some i
reads half i h = read_lemmas.reads half i h

pub spells : (half : ℕ) (i : Instr) → expansion half ≡ Some i → IsHalf half i
spells half i e = subst (λ (r : Option Instr). IfSome r (IsHalf half)) e (half_lemmas.spells half)

-- what a reading of the half answers
pub read_as : (half : ℕ) (answer : Option Instr) → IfSome answer (λ i. IsHalf half i) → IfNone answer ((i : Instr) → IsHalf half i → ⊥) → answer ≡ expansion half
read_as half (Some i) some none = sym (reads half i some)
read_as half None some none = go (expansion half) refl where
  go : (r : Option Instr) → expansion half ≡ r → None ≡ r
  go None e = refl
  go (Some i) e = absurd (none i (spells half i e))
