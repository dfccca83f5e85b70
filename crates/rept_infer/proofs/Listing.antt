-- Lists of addresses that a row may write.
use Rattle.std.proofs.Common.{◌≡◌, ℕ, zero, suc, ◌+◌, ◌<◌, ◌≤◌, ℤ, Bool, true, false, List, [], ◌∷◌, ◌++◌, length, Option, Some, None, slice_get, inl, inr, refl, sym, ap, subst, ◌∙◌, arith}
use Rattle.std.proofs.lemmas.Bool.{cases_eq, eqb-true}
use Rattle.std.proofs.lemmas.Option.{slice_get_within, slice_get_past}
use Rattle.std.proofs.lemmas.Map.Entries.{place_from_lookup}
use Rattle.std.specs.Prelude.{nat_eq}
use Rattle.rept_isa.specs.declared.instr.Instr.{Instr}
use Rattle.rept_isa.specs.declared.instr.Instr.TheVariants.{Store}
use Rattle.rept_isa.specs.declared.instr.StoreOp.{StoreOp}
use Rattle.rept_isa.specs.declared.row.StepRow.{StepRow}
use Rattle.rept_isa.specs.Numbers.{plus, beside}
use Rattle.rept_machine.specs.Arithmetic.{store_width}
use Rattle.rept_machine.specs.State.{State}
use Rattle.rept_machine.specs.Writes.{IsOneOfBytes, WritesBy}
use Rattle.rept_narrow.specs.declared.lanes.held.Held.{Held}
use Rattle.rept_narrow.specs.Lanes.{held_at, IsListed}
use Rattle.rept_narrow.specs.Admitted.{Story}
use Rattle.rept_narrow.specs.Rules.{WritesNot}
use Rattle.rept_narrow.specs.Sweeps.{ListsWritten}
use Rattle.rept_narrow.proofs.Sentences.{some_none, same_some}

still_at : (xs : List ℕ) (x k a : ℕ) → slice_get xs k ≡ Some a → slice_get (xs ++ x ∷ []) k ≡ Some a
still_at [] x k a at = absurd (some_none (sym at ∙ slice_get_past [] k (omega arith)))
still_at (y ∷ ys) x zero a at = at
still_at (y ∷ ys) x (suc k) a at = still_at ys x k a at

last_at : (xs : List ℕ) (x : ℕ) → slice_get (xs ++ x ∷ []) (length xs) ≡ Some x
last_at [] x = refl
last_at (y ∷ ys) x = last_at ys x

pub listed_before : (old new : List ℕ) (x a : ℕ) → new ≡ old ++ x ∷ [] → IsListed old a → IsListed new a
listed_before old new x a e listed = (listed.0, subst (λ (xs : List ℕ). slice_get xs listed.0 ≡ Some a) (sym e) (still_at old x listed.0 a listed.1))

pub listed_last : (old new : List ℕ) (x : ℕ) → new ≡ old ++ x ∷ [] → IsListed new x
listed_last old new x e = (length old, subst (λ (xs : List ℕ). slice_get xs (length old) ≡ Some x) (sym e) (last_at old x))

-- one more byte of a place
pub place_more : (old new : List ℕ) (place n : ℕ) → new ≡ old ++ beside place n ∷ [] → ((k : ℕ) → k < n → IsListed old (beside place k)) → (k : ℕ) → k < n + 1 → IsListed new (beside place k)
place_more old new place n e all k less = elim (cases_eq k n) [
  | inl same ↦ subst (λ (m : ℕ). IsListed new (beside place m)) (sym same) (listed_last old new (beside place n) e)
  | inr ne ↦ listed_before old new (beside place n) (beside place k) e (all k (omega (arith, less, ne)))
]

-- what is held has a number
pub all_numbers : (story : Story) (run : ℕ → State) (i n : ℕ) (held : List (ℕ × Held)) (list : List ℕ) → length held ≤ n → ((j a : ℕ) (h : Held) → j < n → slice_get held j ≡ Some (a, h) → (IsListed list a → ⊥) → WritesNot story run i a) → ListsWritten story run i held list
all_numbers story run i n held list long each a h at out =
    let found = place_from_lookup (nat_eq a) held h at in
    let same : a ≡ found.1 = eqb-true a found.1 found.3 in
    let here : slice_get held found.0 ≡ Some (a, h) = subst (λ (b : ℕ). slice_get held found.0 ≡ Some (b, h)) (sym same) found.2 in
    let inside = slice_get_within held found.0 (a, h) here in
    each found.0 a h (omega (arith, inside, long)) here out

-- a store of known address writes the bytes that it names
pub named_written : (story : Story) (run : ℕ → State) (i : ℕ) (row : StepRow) (op : StoreOp) (rs1 rs2 : ℕ) (imm : ℤ) (place width : ℕ) (held : List (ℕ × Held)) (list : List ℕ) → slice_get story.rows i ≡ Some row → row.instr ≡ Store op rs1 rs2 imm → width ≡ store_width op → plus ((run i).register rs1) imm ≡ place → ((k : ℕ) → k < width → IsListed list (beside place k)) → ListsWritten story run i held list
named_written story run i row op rs1 rs2 imm place width held list at form wide there all a h is out = λ other found w.
    let alike : other ≡ row = same_some (sym found ∙ at) in
    let writes : WritesBy (Store op rs1 rs2 imm) story.image_end (run i) (run (i + 1)) a = subst (λ (x : Instr). WritesBy x story.image_end (run i) (run (i + 1)) a) form (subst (λ (x : StepRow). WritesBy x.instr story.image_end (run i) (run (i + 1)) a) alike w) in
    let less : writes.0 < width = subst (λ (n : ℕ). writes.0 < n) (sym wide) writes.1 in
    let here : a ≡ beside place writes.0 = subst (λ (n : ℕ). a ≡ beside n writes.0) there writes.2 in
    out (subst (λ (n : ℕ). IsListed list n) (sym here) (all writes.0 less))
