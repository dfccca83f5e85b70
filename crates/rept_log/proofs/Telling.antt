-- The bytes of an address that facts tell, fact by fact.
use Rattle.std.proofs.Common.{◌≡◌, ℕ, ◌+◌, ◌≤◌, List, ◌∷◌, set, Option, Some, None, IsSome, inl, inr, refl, sym, subst, ◌∙◌, arith}
use Rattle.std.proofs.lemmas.Bool.{cases_Bool, cases_eq}
use Rattle.std.proofs.lemmas.List.{get_or-set_other, get_or-set_same, length-set}
use Rattle.rept_reason.specs.declared.fact.Fact.{Fact}
use Rattle.rept_reason.specs.declared.fact.Cell.{Cell}
use Rattle.rept_reason.specs.declared.fact.Cell.TheVariants.{Byte}
use Rattle.rept_reason.specs.Facts.{told, speaks}
use Rattle.rept_report.specs.Log.{oldest, entry}
use Rattle.rept_report.proofs.Told.{told_old, told_new, speaks_is}
use Rattle.rept_log.specs.Bytes.{IsNothing, IsOn, AreTold}
use Rattle.rept_log.proofs.Looking.{oldest_step, oldest_none_yet}

pub told_nothing : (log : List Fact) (end a : ℕ) (bytes : List (Option ℕ)) → IsNothing (end + 1) bytes → AreTold (oldest 0 log) end a bytes
told_nothing log end a bytes h = subst (λ (fs : List Fact). AreTold fs end a bytes) (sym (oldest_none_yet log)) (record { size = h.0; told_at = λ m le. h.1 m })

module _ (log : List Fact) (k : ℕ) (f : Fact) (at : entry log k ≡ Some f) (end a : ℕ) (bytes : List (Option ℕ)) (h : AreTold (oldest k log) end a bytes) where
  abbrev fs : List Fact
  fs = oldest k log

  -- after a fact that is not on the address, or at none of the moments
  pub told_other : (IsOn f a end → ⊥) → AreTold (oldest (k + 1) log) end a bytes
  told_other other = subst (λ (gs : List Fact). AreTold gs end a bytes) (sym (oldest_step log k f at)) (record {
    size = h.size;
    told_at = λ m le. h.told_at m le ∙ sym (told_old f fs m (Byte a) (elim (cases_Bool (speaks f m (Byte a))) [
      | inl here ↦ let parts = speaks_is f m (Byte a) here in let is = parts.0 in absurd (other (parts.1, omega (arith, le, is)))
      | inr elsewhere ↦ elsewhere
    ]));
  })

  -- it is told, where it is on the address
  pub is_told : f.cell ≡ Byte a → IsSome (told (oldest (k + 1) log) f.point (Byte a))
  is_told cell = subst (λ (gs : List Fact). IsSome (told gs f.point (Byte a))) (sym (oldest_step log k f at)) (subst (λ (c : Cell). IsSome (told (f ∷ fs) f.point c)) cell (there (told (f ∷ fs) f.point f.cell) (told_new f fs)))
    where
      there : (x : Option ℕ) → x ≡ Some f.value → IsSome x
      there None e = cc
      there (Some v) e = refl

  -- after one that is
  pub told_here : (v : ℕ) → f.cell ≡ Byte a → f.point ≤ end → told (oldest (k + 1) log) f.point (Byte a) ≡ Some v → AreTold (oldest (k + 1) log) end a (set bytes f.point (Some v))
  told_here v cell inside tells = record {
    size = length-set bytes f.point (Some v) ∙ h.size;
    told_at = λ m le. elim (cases_eq m f.point) [
      | inl here ↦ let size = h.size in rw here (get_or-set_same bytes f.point (Some v) None (omega (arith, inside, size)) ∙ sym tells)
      | inr ne ↦ get_or-set_other bytes f.point m (Some v) None ne ∙ h.told_at m le ∙ sym (older m ne)
    ];
  }
    where
      older : (m : ℕ) → (m ≡ f.point → ⊥) → told (oldest (k + 1) log) m (Byte a) ≡ told fs m (Byte a)
      older m ne = subst (λ (gs : List Fact). told gs m (Byte a) ≡ told fs m (Byte a)) (sym (oldest_step log k f at)) (told_old f fs m (Byte a) (elim (cases_Bool (speaks f m (Byte a))) [
        | inl here ↦ absurd (ne (sym (speaks_is f m (Byte a) here).0))
        | inr elsewhere ↦ elsewhere
      ]))
