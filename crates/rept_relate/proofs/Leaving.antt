-- What a call leaves of the words of memory.
use Rattle.std.proofs.Common.{◌≡◌, ℕ, ◌+◌, ◌-◌, ◌%◌, ◌^◌, ◌<◌, ◌≤◌, Bool, true, false, List, [], ◌∷◌, ◌++◌, length, Some, slice_get, inl, inr, refl, sym, ap, subst, ◌∙◌, arith}
use Rattle.std.specs.Prelude.{nat_le, ◌||◌}
use Rattle.std.proofs.lemmas.Bool.{cases_lt, true≢false}
use Rattle.rept_isa.specs.declared.instr.Instr.TheVariants.{Ecall}
use Rattle.rept_isa.specs.declared.row.StepRow.{StepRow}
use Rattle.rept_isa.specs.Numbers.{beside}
use Rattle.rept_isa.specs.Rows.{addresses_of}
use Rattle.rept_alias.specs.declared.addresses.Access.{Access}
use Rattle.rept_alias.specs.declared.addresses.CallAccess.{CallAccess}
use Rattle.rept_alias.specs.Accesses.{distance, hits, hits_part, call_hits}
use Rattle.rept_machine.specs.State.{State}
use Rattle.rept_machine.proofs.StepLaws.{effect_keeps_byte}
use Rattle.rept_relate.specs.Classes.Valuations.{word_of}
use Rattle.rept_relate.specs.declared.numbering.OperandNodes.{OperandNodes}
use Rattle.rept_relate.specs.declared.words.WordPlace.{WordPlace}
use Rattle.rept_relate.specs.declared.words.WordSlot.{WordSlot}
use Rattle.rept_relate.specs.Relations.{IsRowOf}
use Rattle.rept_relate.specs.Holding.{IsPlaceOf, AreHeld, IsOutside, IsSlotLeft, AreLeft, IsCallWithin, AreCallsWithin}
use Rattle.rept_relate.proofs.Counting.{same_some, pushed_cases}
use Rattle.rept_relate.proofs.Remembering.{loaded_same}

not_le : (m n : ℕ) → n < m → nat_le m n ≡ false
not_le m n h = grind (arith, h)

neither : (m n : Bool) → m ≡ false → n ≡ false → (m || n) ≡ false
neither m n e f = rw (e, f) refl

-- ---- addresses
pub below_access : (access : Access) (a k : ℕ) → access.all ≡ false → access.lo ≤ access.hi → access.hi < 2 ^ 32 → a + 3 < access.lo → k < 4 → hits access (beside a k) ≡ false
below_access access a k all order small low less = neither access.all (nat_le (distance access.lo (beside a k)) (distance access.lo access.hi)) all (not_le (distance access.lo (beside a k)) (distance access.lo access.hi) (omega (arith, order, small, low, less)))

pub above_access : (access : Access) (a k : ℕ) → access.all ≡ false → access.lo ≤ access.hi → access.hi < a → a + 3 < 2 ^ 32 → k < 4 → hits access (beside a k) ≡ false
above_access access a k all order above small less = neither access.all (nat_le (distance access.lo (beside a k)) (distance access.lo access.hi)) all (not_le (distance access.lo (beside a k)) (distance access.lo access.hi) (omega (arith, order, small, above, less)))

pub outside_both : (place : WordPlace) (access : CallAccess) → ((a k : ℕ) → place.lo ≤ a → a ≤ place.hi → k < 4 → hits_part access.first (beside a k) ≡ false) → ((a k : ℕ) → place.lo ≤ a → a ≤ place.hi → k < 4 → hits_part access.second (beside a k) ≡ false) → IsOutside place access
outside_both place access f g value a k at less = neither (hits_part access.first (beside a k)) (hits_part access.second (beside a k)) (f a k at.low at.high less) (g a k at.low at.high less)

-- ---- the words that are left
pub left_more : (before old new : List WordSlot) (access : CallAccess) (i : ℕ) → ((m : ℕ) (slot : WordSlot) → m < i → slice_get old m ≡ Some slot → slot.live ≡ true → IsSlotLeft before m slot access) → ((m : ℕ) → i ≤ m → slice_get old m ≡ slice_get before m) → ((slot : WordSlot) → slice_get new i ≡ Some slot → slot.live ≡ true → IsSlotLeft old i slot access) → ((m : ℕ) → (m ≡ i → ⊥) → slice_get new m ≡ slice_get old m) → (m : ℕ) (slot : WordSlot) → m < i + 1 → slice_get new m ≡ Some slot → slot.live ≡ true → IsSlotLeft before m slot access
left_more before old new access i done rest here others m slot less at live = elim (cases_lt m i) [
  | inl lt ↦ done m slot lt (sym (others m (λ e. let f = e in omega (arith, lt, f))) ∙ at) live
  | inr le ↦
      let same : m ≡ i = omega (arith, le, less) in
      let there : slice_get new i ≡ Some slot = ap (λ (j : ℕ). slice_get new j) (sym same) ∙ at in
      let c = here slot there live in
      subst (λ (j : ℕ). IsSlotLeft before j slot access) (sym same) (record { kept = sym (rest i (omega arith)) ∙ c.kept; outside = c.outside })
]

pub left_held : (old new : List WordSlot) (access : CallAccess) (value : ℕ → ℕ) (s t : State) → AreLeft old new access → ((a : ℕ) → call_hits access a ≡ false → t.memory a ≡ s.memory a) → AreHeld old value s → AreHeld new value t
left_held old new access value s t left others held k slot is live =
    let c = left k slot is live in
    let h = held k slot c.kept live in
    let a = word_of value slot.place.address in
    record {
      place = h.place;
      word = loaded_same slot.op t.memory s.memory a (λ j less. others (beside a j) (c.outside value a j h.place less)) ∙ h.word;
    }

-- ---- rows
pub call_others : (row : StepRow) (node : ℕ) (nodes : OperandNodes) (value : ℕ → ℕ) (image_end : ℕ) (s t : State) (access : CallAccess) → row.instr ≡ Ecall → IsRowOf row node nodes value image_end s t → IsCallWithin row access image_end s t → (a : ℕ) → call_hits access a ≡ false → t.memory a ≡ s.memory a
call_others row node nodes value image_end s t access is w within a out = effect_keeps_byte row.instr image_end (addresses_of row) s t a w.step (λ writes. true≢false (sym (within is a writes) ∙ out))

pub calls_more : (image_end : ℕ) (rows : List StepRow) (run : ℕ → State) (old new : List CallAccess) (i : ℕ) (row : StepRow) (access : CallAccess) → length old ≡ i → AreCallsWithin image_end rows old run → slice_get rows i ≡ Some row → IsCallWithin row access image_end (run i) (run (i + 1)) → new ≡ old ++ access ∷ [] → AreCallsWithin image_end rows new run
calls_more image_end rows run old new i row access long within at is pushed k other found its here = elim (pushed_cases old new access found k pushed here) [
  | inl before ↦ within k other found its before
  | inr (last, same) ↦
      let place : k ≡ i = last ∙ long in
      let equal : row ≡ other = same_some (sym at ∙ (ap (λ (j : ℕ). slice_get rows j) (sym place) ∙ its)) in
      subst (λ (a : CallAccess). IsCallWithin other a image_end (run k) (run (k + 1))) same (subst (λ (o : StepRow). IsCallWithin o access image_end (run k) (run (k + 1))) equal (subst (λ (j : ℕ). IsCallWithin row access image_end (run j) (run (j + 1))) (sym place) is))
]
