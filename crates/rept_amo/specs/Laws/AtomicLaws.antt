-- The rules of RV32IMA keep the laws of rules.
use Rattle.std.proofs.Common.{◌≡◌, ℕ, ◌<◌, ◌≤◌, ◌^◌, inl, refl, sym, ap, subst, true, Option, Some, None, length}
use Rattle.std.specs.List.{Contains}
use Rattle.rept_isa.specs.declared.row.StepRow.{StepRow}
use Rattle.rept_partial.specs.declared.flat.Flat.{Flat}
use Rattle.rept_reason.specs.declared.view.inferred.When.{When}
use Rattle.rept_reason.specs.declared.view.inferred.When.TheVariants.{Before, After}
use Rattle.rept_reason.specs.declared.view.inferred.Conclusion.{Conclusion}
use Rattle.rept_reason.specs.View.Seen.{Seen, IsLawful, KnowsMore, state_at, held, seen_cell}
use Rattle.rept_isa.specs.Operands.{first_read}
use Rattle.rept_machine.specs.State.{State}
use Rattle.rept_machine.specs.Writes.{WritesBy}
use Rattle.rept_reason.specs.declared.fact.Cell.{Cell}
use Rattle.rept_reason.specs.declared.fact.Cell.TheVariants.{Register, Byte}
use Rattle.rept_reason.specs.Facts.{IsCell, flat}
use Rattle.rept_reason.specs.declared.view.inferred.Premise.{Premise}
use Rattle.rept_reason.specs.View.Rules.{AreLawfulRules, IsRowCell, IsRowByte, IsSeenStep, HasNeeds, HasSameCells, Fits}
use Rattle.rept_rules.specs.MayWrite.{instr_may_write}
use Rattle.rept_rules.specs.Listing.{known_at}
use Rattle.rept_rules.specs.Base.{base_rules}
use Rattle.rept_rules.specs.Laws.BaseLaws.{base_lawful}
use Rattle.rept_amo.specs.declared.form.Form.{Form}
use Rattle.rept_amo.specs.Conclusions.{form_of}
use Rattle.rept_amo.specs.Listing.{inferred_of}
use Rattle.rept_amo.specs.Needs.{needs_at, needs_by}
use Rattle.rept_amo.specs.Writes.{form_is_sure, places_of}
use Rattle.rept_amo.specs.Atomic.{atomic_rules}
use Rattle.rept_amo.specs.Laws.Listed.{listed, concluded}
use Rattle.rept_amo.specs.Laws.Sound.{sound_by, form_is}
use Rattle.rept_amo.specs.Laws.Own.{own_by, slot_inside_by, slot_once_by}
use Rattle.rept_amo.specs.Laws.NeedLaws.{good_by, again_by}
use Rattle.rept_amo.specs.Laws.Counts as counts
use Rattle.rept_amo.specs.Laws.Sure.{certain_at, sure_more_at, few_places_by}

-- a row of another instruction has the cells that it has by the rules of RV32IM
byte_of_base : (row : StepRow) (s : Seen) (a : ℕ) → form_of row.instr ≡ None → IsRowByte base_rules row s a → IsRowByte atomic_rules row s a
byte_of_base row s a e h = record {
  base_register = h.base_register;
  base = h.base;
  k = h.k;
  read = h.read;
  base_known = h.base_known;
  below_places = subst (λ (o : Option Form). h.k < places_of o row) (sym e) h.below_places;
  below_four = h.below_four;
  address = h.address;
}

cell_of_base : (row : StepRow) (s : Seen) (when : When) (c : Cell) → form_of row.instr ≡ None → IsRowCell base_rules row s when c → IsRowCell atomic_rules row s when c
cell_of_base row s Before (Register r) e h = h
cell_of_base row s After (Register r) e h = h
cell_of_base row s Before (Byte a) e h = byte_of_base row s a e h
cell_of_base row s After (Byte a) e h = byte_of_base row s a e h

module _ (row : StepRow) where
  sound_law : (image_end : ℕ) (view : Seen) (before after : State) (d : Conclusion) → IsLawful view → IsSeenStep image_end row view before after → (o : Option Form) → form_of row.instr ≡ o → Contains (inferred_of o row view) d → held (state_at before after d.when) d.cell ≡ d.value
  sound_law image_end view before after d lawful step None e has = base_lawful.sound image_end row view before after d lawful step has
  sound_law image_end view before after d lawful step (Some form) e has = sound_by image_end row view before after d step (listed row view d form e has)

  own_law : (view : Seen) (d : Conclusion) → IsLawful view → (o : Option Form) → form_of row.instr ≡ o → Contains (inferred_of o row view) d → IsRowCell atomic_rules row view d.when d.cell × IsCell d.cell × Fits d.cell d.value
  own_law view d lawful None e has = let o = base_lawful.own row view d lawful has in (cell_of_base row view d.when d.cell e o.0, o.1, o.2)
  own_law view d lawful (Some form) e has = own_by row view d (listed row view d form e has)

  needs_law : (view : Seen) (d : Conclusion) (n : Premise) → IsLawful view → Contains (needs_by (form_of row.instr) row view d) n → (o : Option Form) → form_of row.instr ≡ o → Contains (inferred_of o row view) d → IsRowCell atomic_rules row view n.when n.cell × ((v : ℕ) × (seen_cell view n.when n.cell ≡ Some v))
  needs_law view d n lawful needed None e has =
      let g = base_lawful.needs_own row view d n lawful has (subst (λ (o : Option Form). Contains (needs_by o row view d) n) e needed) in
      (cell_of_base row view n.when n.cell e g.0, g.1)
  needs_law view d n lawful needed (Some form) e has = let g = good_by row view d (listed row view d form e has) n needed in (g.own, (g.value, g.is_known))

  enough_law : (s t : Seen) (d : Conclusion) → IsLawful s → IsLawful t → HasNeeds atomic_rules row s d t → (o : Option Form) → form_of row.instr ≡ o → Contains (inferred_of o row s) d → Contains (inferred_of o row t) d
  enough_law s t d ls lt agree None e has = base_lawful.needs_enough row s t d ls lt has (λ n needed. agree n (subst (λ (o : Option Form). Contains (needs_by o row s d) n) (sym e) needed))
  enough_law s t d ls lt agree (Some form) e has = concluded row t d form e (again_by row s t d ls lt agree (listed row s d form e has))

  needs_told_law : (s t : Seen) (d : Conclusion) → HasSameCells atomic_rules row s t → (o : Option Form) → form_of row.instr ≡ o → needs_by o row t d ≡ needs_by o row s d
  needs_told_law s t d same None e = base_lawful.needs_told row s t d (λ w c own. same w c (cell_of_base row s w c e own))
  needs_told_law s t d same (Some form) e = ap (λ (x : Flat). needs_at form x d.rule) (ap flat (same Before (Register form.rs1) (inl (ap first_read (form_is row.instr form e)))))

  few_inferred_law : (view : Seen) (o : Option Form) → length (inferred_of o row view) ≤ 16
  few_inferred_law view None = base_lawful.few_inferred row view
  few_inferred_law view (Some form) = counts.few_inferred form (known_at view Before form.rs1) view

  few_needs_law : (view : Seen) (d : Conclusion) (o : Option Form) → length (needs_by o row view d) ≤ 10
  few_needs_law view d None = base_lawful.few_needs row view d
  few_needs_law view d (Some form) = counts.few_needs form (known_at view Before form.rs1) d.rule

  few_places_law : (o : Option Form) → places_of o row ≤ 8
  few_places_law None = base_lawful.few_places row
  few_places_law (Some form) = few_places_by form.op

  slot_inside_law : (view : Seen) (d : Conclusion) (a : ℕ) → IsLawful view → d.cell ≡ Byte a → (o : Option Form) → form_of row.instr ≡ o → Contains (inferred_of o row view) d → d.slot < places_of o row
  slot_inside_law view d a lawful on None e has = base_lawful.slot_inside row view d a lawful has on
  slot_inside_law view d a lawful on (Some form) e has = subst (λ (o : Option Form). d.slot < places_of o row) e (slot_inside_by row view d a (listed row view d form e has) on)

  slot_once_law : (s t : Seen) (d c : Conclusion) (a b r : ℕ) → IsLawful s → IsLawful t → d.cell ≡ Byte a → c.cell ≡ Byte b → first_read row.instr ≡ Some r → s.register Before r ≡ t.register Before r → d.slot ≡ c.slot → (o : Option Form) → form_of row.instr ≡ o → Contains (inferred_of o row s) d → Contains (inferred_of o row t) c → (d.when ≡ c.when) × (a ≡ b)
  slot_once_law s t d c a b r ls lt on_a on_b read same slots None e has also = base_lawful.slot_once row s t d c a b r ls lt has also on_a on_b read same slots
  slot_once_law s t d c a b r ls lt on_a on_b read same slots (Some form) e has also = slot_once_by row s t d c a b r (listed row s d form e has) (listed row t c form e also) on_a on_b read same slots

  certain_law : (image_end : ℕ) (view : Seen) (before after : State) (a : ℕ) → IsLawful view → IsSeenStep image_end row view before after → a < 2 ^ 32 → instr_may_write row.instr view image_end a ≡ true → (o : Option Form) → form_of row.instr ≡ o → form_is_sure o row view ≡ true → WritesBy row.instr image_end before after a
  certain_law image_end view before after a lawful step fits may None e sure = base_lawful.certain image_end row view before after a lawful step fits sure may
  certain_law image_end view before after a lawful step fits may (Some form) e sure = certain_at row form image_end view before after a e lawful step.meets fits sure may

  more_law : (s t : Seen) → IsLawful s → IsLawful t → KnowsMore s t → (o : Option Form) → form_is_sure o row s ≡ true → form_is_sure o row t ≡ true
  more_law s t ls lt more None sure = base_lawful.sure_more row s t ls lt more sure
  more_law s t ls lt more (Some form) sure = sure_more_at row form s t more sure

pub atomic_lawful : AreLawfulRules atomic_rules
atomic_lawful = record {
  sound = λ image_end row view before after d lawful step has. sound_law row image_end view before after d lawful step (form_of row.instr) refl has;
  own = λ row view d lawful has. own_law row view d lawful (form_of row.instr) refl has;
  needs_own = λ row view d n lawful has needed. needs_law row view d n lawful needed (form_of row.instr) refl has;
  needs_enough = λ row s t d ls lt has agree. enough_law row s t d ls lt agree (form_of row.instr) refl has;
  needs_told = λ row s t d same. needs_told_law row s t d same (form_of row.instr) refl;
  few_inferred = λ row view. few_inferred_law row view (form_of row.instr);
  few_needs = λ row view d. few_needs_law row view d (form_of row.instr);
  few_places = λ row. few_places_law row (form_of row.instr);
  slot_inside = λ row view d a lawful has on. slot_inside_law row view d a lawful on (form_of row.instr) refl has;
  slot_once = λ row s t d c a b r ls lt has also on_a on_b read same slots. slot_once_law row s t d c a b r ls lt on_a on_b read same slots (form_of row.instr) refl has also;
  covers = λ image_end row view before after a lawful step fits writes. base_lawful.covers image_end row view before after a lawful step fits writes;
  certain = λ image_end row view before after a lawful step fits sure may. certain_law row image_end view before after a lawful step fits may (form_of row.instr) refl sure;
  touched_less = λ image_end row s t a ls lt more fits may. base_lawful.touched_less image_end row s t a ls lt more fits may;
  told = λ image_end row s t a same. base_lawful.told image_end row s t a same;
  sure_more = λ row s t ls lt more sure. more_law row s t ls lt more (form_of row.instr) sure;
}
