-- What atomic instructions tell.
use Rattle.std.proofs.Common.{◌≡◌, ◌≢◌, ◌⊎◌, ℕ, ◌+◌, ◌%◌, ◌^◌, ◌<◌, ◌≤◌, true, ℤ, pos, length, Some, slice_get, inl, inr, refl, sym, ap, subst, ◌∙◌, arith}
use Rattle.rept_isa.specs.declared.instr.Instr.{Instr}
use Rattle.rept_isa.specs.declared.instr.Instr.TheVariants.{Amo}
use Rattle.rept_isa.specs.declared.instr.AmoOp.{AmoOp}
use Rattle.rept_isa.specs.declared.instr.AmoOp.TheVariants as atomic
use Rattle.rept_isa.specs.declared.instr.LoadOp.TheVariants.{Lw}
use Rattle.rept_isa.specs.declared.row.StepRow.{StepRow}
use Rattle.rept_isa.specs.Numbers.{plus, beside}
use Rattle.rept_isa.specs.Rows.{Addresses, addresses_of}
use Rattle.rept_machine.specs.Arithmetic.{byte_of, combined, word_at}
use Rattle.rept_machine.specs.State.{State}
use Rattle.rept_machine.specs.Step.{HasEffect, Acts, PutsWord}
use Rattle.rept_known.specs.declared.both.Both.{Both}
use Rattle.rept_known.specs.Both.{both_has, both_sets}
use Rattle.rept_known.specs.Laws.BothLaws.{both_lawful}
use Rattle.rept_span.specs.Filled.{View}
use Rattle.rept_narrow.specs.Admitted.{Story}
use Rattle.rept_narrow.specs.Rules.{set_at, HasSets, IsSoundIn}
use Rattle.rept_narrow.proofs.Sentences.{inside_rows}
use Rattle.rept_narrow.proofs.Loading.{loaded_is}
use Rattle.rept_narrow.proofs.Touching.{plus_zero}

-- ---- one instruction
answered : (op : AmoOp) (rd value base : ℕ) (a : Addresses) (s t : State) → op ≢ atomic.Sc → rd ≢ 0 → Acts op rd value base a s t → t.register rd ≡ word_at s.memory base
answered atomic.Lr rd value base a s t ne named h = h.result.written named
answered atomic.Sc rd value base a s t ne named h = absurd (ne refl)
answered atomic.Swap rd value base a s t ne named h = h.result.written named
answered atomic.Add rd value base a s t ne named h = h.result.written named
answered atomic.Xor rd value base a s t ne named h = h.result.written named
answered atomic.And rd value base a s t ne named h = h.result.written named
answered atomic.Or rd value base a s t ne named h = h.result.written named
answered atomic.Min rd value base a s t ne named h = h.result.written named
answered atomic.Max rd value base a s t ne named h = h.result.written named
answered atomic.Minu rd value base a s t ne named h = h.result.written named
answered atomic.Maxu rd value base a s t ne named h = h.result.written named

pub kept_source : (answer source rd base : ℕ) (a : Addresses) (s t : State) → answer ≡ 0 → rd ≢ 0 → Acts atomic.Sc rd source base a s t → t.register rd ≡ answer → PutsWord source base s t
kept_source answer source rd base a s t none named h e = elim h [
  | inl puts ↦ puts.memory
  | inr fails ↦ absurd (fails.code named (e ∙ none))
]

put_word : (held answer source base : ℕ) (op : AmoOp) (s t : State) → answer ≡ held → PutsWord (combined op held source) base s t → PutsWord (combined op answer source) base s t
put_word held answer source base op s t e h = subst (λ (n : ℕ). PutsWord (combined op n source) base s t) (sym e) h

pub put_combined : (op : AmoOp) (answer source rd base : ℕ) (a : Addresses) (s t : State) → op ≢ atomic.Lr → op ≢ atomic.Sc → rd ≢ 0 → Acts op rd source base a s t → t.register rd ≡ answer → PutsWord (combined op answer source) base s t
put_combined atomic.Lr answer source rd base a s t one other named h e = absurd (one refl)
put_combined atomic.Sc answer source rd base a s t one other named h e = absurd (other refl)
put_combined atomic.Swap answer source rd base a s t one other named h e = put_word (word_at s.memory base) answer source base atomic.Swap s t (sym e ∙ h.result.written named) h.memory
put_combined atomic.Add answer source rd base a s t one other named h e = put_word (word_at s.memory base) answer source base atomic.Add s t (sym e ∙ h.result.written named) h.memory
put_combined atomic.Xor answer source rd base a s t one other named h e = put_word (word_at s.memory base) answer source base atomic.Xor s t (sym e ∙ h.result.written named) h.memory
put_combined atomic.And answer source rd base a s t one other named h e = put_word (word_at s.memory base) answer source base atomic.And s t (sym e ∙ h.result.written named) h.memory
put_combined atomic.Or answer source rd base a s t one other named h e = put_word (word_at s.memory base) answer source base atomic.Or s t (sym e ∙ h.result.written named) h.memory
put_combined atomic.Min answer source rd base a s t one other named h e = put_word (word_at s.memory base) answer source base atomic.Min s t (sym e ∙ h.result.written named) h.memory
put_combined atomic.Max answer source rd base a s t one other named h e = put_word (word_at s.memory base) answer source base atomic.Max s t (sym e ∙ h.result.written named) h.memory
put_combined atomic.Minu answer source rd base a s t one other named h e = put_word (word_at s.memory base) answer source base atomic.Minu s t (sym e ∙ h.result.written named) h.memory
put_combined atomic.Maxu answer source rd base a s t one other named h e = put_word (word_at s.memory base) answer source base atomic.Maxu s t (sym e ∙ h.result.written named) h.memory

-- ---- rows
module _ (story : Story) (run : ℕ → State) (table : View Both) (i rd rs1 rs2 : ℕ) (op : AmoOp) (row : StepRow) (at : slice_get story.rows i ≡ Some row) (form : row.instr ≡ Amo op rd rs1 rs2) (named : rd ≢ 0) (h : HasSets story table run) where
  acts : Acts op rd ((run i).register rs2) ((run i).register rs1) (addresses_of row) (run i) (run (i + 1))
  acts = subst (λ (n : Instr). HasEffect n story.image_end (addresses_of row) (run i) (run (i + 1))) form (h.admitted.execution.steps i row at)

  at_base : (place : ℕ) → plus ((run i).register rs1) (pos 0) ≡ place → (run i).register rs1 ≡ place
  at_base place there =
      let inside = inside_rows story.rows i row at in
      sym (plus_zero ((run i).register rs1) ((h.admitted.execution.states i (omega (arith, inside))).words rs1)) ∙ there

  word_answered : (place : ℕ) → op ≢ atomic.Sc → plus ((run i).register rs1) (pos 0) ≡ place → (run (i + 1)).register rd ≡ word_at (run i).memory place
  word_answered place ne there = answered op rd ((run i).register rs2) ((run i).register rs1) (addresses_of row) (run i) (run (i + 1)) ne named acts ∙ ap (λ (n : ℕ). word_at (run i).memory n) (at_base place there)

  pub held_tells : (place k a b : ℕ) (set : Both) → op ≢ atomic.Sc → k < 4 → set_at table (i + 1) rd ≡ Some set → ((v : ℕ) → both_has set v ≡ true → byte_of v k ≡ b) → plus ((run i).register rs1) (pos 0) ≡ place → a ≡ beside place k → (run i).memory a ≡ b
  held_tells place k a b set ne less is tells there here =
      let inside = inside_rows story.rows i row at in
      let byte : byte_of ((run (i + 1)).register rd) k ≡ b = tells ((run (i + 1)).register rd) (h.sets (i + 1) rd set (omega (arith, inside)) is) in
      let small = (h.admitted.execution.states i (omega (arith, inside))).bytes in
      let read : byte_of (word_at (run i).memory place) k ≡ (run i).memory (beside place k) = loaded_is Lw (run i).memory place k small less in
      ap (λ (n : ℕ). (run i).memory n) here ∙ sym read ∙ ap (λ (n : ℕ). byte_of n k) (sym (word_answered place ne there)) ∙ byte

  pub answer_sound : (place x : ℕ) (one : Both) → op ≢ atomic.Sc → one ≡ both_sets.exact x → plus ((run i).register rs1) (pos 0) ≡ place → word_at (run i).memory place ≡ x → IsSoundIn story run (i + 1) rd one
  answer_sound place x one ne e there value le =
      let got : (run (i + 1)).register rd ≡ x = word_answered place ne there ∙ value in
      let small : (run (i + 1)).register rd < 2 ^ 32 = (h.admitted.execution.states (i + 1) le).words rd in
      let fits : x < 2 ^ 32 = subst (λ (n : ℕ). n < 2 ^ 32) got small in
      subst (λ (n : ℕ). both_has one n ≡ true) (sym got) (subst (λ (b : Both). both_has b x ≡ true) (sym e) (both_lawful.exact x fits))

  pub left_tells : (place k a b word answer source : ℕ) (made known : Both) → set_at table (i + 1) rd ≡ Some made → set_at table i rs2 ≡ Some known → both_sets.as_exact made ≡ Some answer → both_sets.as_exact known ≡ Some source → ((rd_ base : ℕ) (x : Addresses) (s t : State) → rd_ ≢ 0 → Acts op rd_ source base x s t → t.register rd_ ≡ answer → PutsWord word base s t) → k < 4 → plus ((run i).register rs1) (pos 0) ≡ place → a ≡ beside place k → b ≡ byte_of word k → (run (i + 1)).memory a ≡ b
  left_tells place k a b word answer source made known is other one two puts less there here byte =
      let inside = inside_rows story.rows i row at in
      let got : (run (i + 1)).register rd ≡ answer = both_lawful.as_exact made answer ((run (i + 1)).register rd) one (h.sets (i + 1) rd made (omega (arith, inside)) is) in
      let from : (run i).register rs2 ≡ source = both_lawful.as_exact known source ((run i).register rs2) two (h.sets i rs2 known (omega (arith, inside)) other) in
      let act : Acts op rd source ((run i).register rs1) (addresses_of row) (run i) (run (i + 1)) = subst (λ (n : ℕ). Acts op rd n ((run i).register rs1) (addresses_of row) (run i) (run (i + 1))) from acts in
      let put : PutsWord word ((run i).register rs1) (run i) (run (i + 1)) = puts rd ((run i).register rs1) (addresses_of row) (run i) (run (i + 1)) named act got in
      ap (λ (n : ℕ). (run (i + 1)).memory n) (here ∙ ap (λ (n : ℕ). beside n k) (sym (at_base place there))) ∙ put.written k less ∙ sym byte
