-- On one path `writers` misses no step: one that it neither tells nor leaves out didn't write any
-- of the bytes.
use Rattle.std.proofs.Common.{◌≡◌, ◌⊎◌, ℕ, zero, suc, pos, ◌+◌, ◌<◌, ◌%◌, ◌^◌, inl, inr, List, map, false, Some, slice_get, refl, sym, ap, subst, ◌∙◌, arith, zero-add}
use Rattle.std.specs.List.{Contains, range_with_len}
use Rattle.std.proofs.lemmas.Bool.{cases_eq}
use Rattle.rept_isa.specs.declared.instr.Instr.{Instr}
use Rattle.rept_isa.specs.declared.instr.Instr.TheVariants.{Lui, Auipc, Jal, Jalr, Branch, Load, Store, Imm, Op, Amo, Fence, Ecall, Ebreak, Counter}
use Rattle.rept_isa.specs.declared.instr.AmoOp.{AmoOp}
use Rattle.rept_isa.specs.declared.instr.AmoOp.TheVariants as atomic
use Rattle.rept_isa.specs.declared.instr.StoreOp.{StoreOp}
use Rattle.rept_isa.specs.declared.instr.StoreOp.TheVariants.{Sb, Sh, Sw}
use Rattle.rept_isa.specs.declared.row.StepRow.{StepRow}
use Rattle.rept_isa.specs.Numbers.{beside, plus, word}
use Rattle.rept_isa.specs.Operands.{is_call}
use Rattle.rept_machine.specs.Arithmetic.{store_width}
use Rattle.rept_machine.specs.State.{State}
use Rattle.rept_machine.specs.Writes.{IsOneOfBytes, WritesAtomic, WritesBy}
use Rattle.rept_steps.specs.Course.{row_of}
use Rattle.rept_order.specs.Writers.{Writer}
use Rattle.rept_order.specs.Writers.Writer.{writes, may_write, several, none}
use Rattle.rept_report.specs.OneThread.{ThreadPath}
use Rattle.rept_report.specs.Spots.{spot}
use Rattle.rept_findings.specs.Shown.{Shown}
use Rattle.rept_findings.specs.Texts.{at}
use Rattle.rept_found.specs.Truth.{StepOfPathWrites}
use Rattle.rept_questions.specs.Trail.{bytes_from}
use Rattle.rept_questions.specs.Writers.{stored_by}
use Rattle.rept_app.specs.TrueAnswers.{WritesOnPath, held_on}
use Rattle.rept_app.specs.TrueWriters.{IsNamedRow, IsPassedOver, IsUntold, IsWritersTrue, StoresElsewhere, WritersAsked, addresses, bytes_stored}
use Rattle.rept_app.proofs.WriterLineLemmas.{first_in, rest_in}

-- a number of a stretch
in_stretch : (f : ℕ → ℕ) (from n k : ℕ) → k < n → Contains (map f (range_with_len from n)) (f (from + k))
in_stretch f from zero k less = absurd (omega (arith, less))
in_stretch f from (suc n) zero less = first_in (f from) (map f (range_with_len (from + 1) n)) (f (from + 0)) (ap f (omega arith))
in_stretch f from (suc n) (suc k) less =
    let same : from + 1 + k ≡ from + suc k = omega arith in
    rest_in (f from) (map f (range_with_len (from + 1) n)) (f (from + suc k)) (subst (λ (x : ℕ). Contains (map f (range_with_len (from + 1) n)) (f x)) same (in_stretch f (from + 1) n k (omega (arith, less))))

among : (x width a : ℕ) → IsOneOfBytes x width a → Contains (bytes_from width (Some x)) a
among x width a (k, less, is) =
    let there : beside x (0 + k) ≡ a = ap (beside x) (zero-add k) ∙ sym is in
    subst (Contains (bytes_from width (Some x))) there (in_stretch (λ i. (x + i) % 2 ^ 32) 0 width k less)

width_is : (op : StoreOp) → store_width op ≡ stored_by op
width_is Sb = refl
width_is Sh = refl
width_is Sw = refl

-- an atomic instruction adds nothing to its base
none_added : word (pos 0) ≡ 0
unfolding word
none_added = refl

at_base : (base a : ℕ) → IsOneOfBytes base 4 a → IsOneOfBytes (plus base (pos 0)) 4 a
at_base base a (k, less, is) =
    let none = none_added in
    let same : beside base k ≡ beside (plus base (pos 0)) k = omega (arith, none) in
    (k, less, is ∙ same)

atomic_bytes : (op : AmoOp) (rd base : ℕ) (after : ℕ → ℕ) (a : ℕ) → WritesAtomic op rd base after a → IsOneOfBytes base 4 a
atomic_bytes atomic.Lr rd base after a h = absurd h
atomic_bytes atomic.Sc rd base after a h = h.1
atomic_bytes atomic.Swap rd base after a h = h
atomic_bytes atomic.Add rd base after a h = h
atomic_bytes atomic.Xor rd base after a h = h
atomic_bytes atomic.And rd base after a h = h
atomic_bytes atomic.Or rd base after a h = h
atomic_bytes atomic.Min rd base after a h = h
atomic_bytes atomic.Max rd base after a h = h
atomic_bytes atomic.Minu rd base after a h = h
atomic_bytes atomic.Maxu rd base after a h = h

-- what a step writes that is no call is among the bytes that its instruction stores
is_stored : (instr : Instr) (image_end : ℕ) (before after : State) (a : ℕ) → is_call instr ≡ false → WritesBy instr image_end before after a → Contains (bytes_stored before.register instr) a
is_stored (Store op rs1 rs2 imm) image_end before after a call h = among (plus (before.register rs1) imm) (stored_by op) a (subst (λ (n : ℕ). IsOneOfBytes (plus (before.register rs1) imm) n a) (width_is op) h)
is_stored (Amo op rd rs1 rs2) image_end before after a call h = among (plus (before.register rs1) (pos 0)) 4 a (at_base (before.register rs1) a (atomic_bytes op rd (before.register rs1) after.register a h))
is_stored Ecall image_end before after a call h = let bad : ⊥ = cc in absurd bad
is_stored (Lui rd imm) image_end before after a call h = absurd h
is_stored (Auipc rd imm) image_end before after a call h = absurd h
is_stored (Jal rd imm) image_end before after a call h = absurd h
is_stored (Jalr rd rs1 imm) image_end before after a call h = absurd h
is_stored (Branch op rs1 rs2 imm) image_end before after a call h = absurd h
is_stored (Load op rd rs1 imm) image_end before after a call h = absurd h
is_stored (Imm op rd rs1 imm) image_end before after a call h = absurd h
is_stored (Op op rd rs1 rs2) image_end before after a call h = absurd h
is_stored Fence image_end before after a call h = absurd h
is_stored Ebreak image_end before after a call h = absurd h
is_stored (Counter rd csr) image_end before after a call h = absurd h

module _ {W : Type 0} (P : ThreadPath W) (states : ℕ → State) where
  -- a step that is passed over didn't write the byte
  passed_over : (j a : ℕ) (w : Writer) → WritesOnPath P states (spot (j + 1) a) w → (IsNamedRow w (row_of 0 j) → ⊥) → StepOfPathWrites P states j a → ⊥
  passed_over j a (writes r) h other wrote = elim (cases_eq r.step j) [
    | inl here ↦ other (ap (λ (t : ℕ). row_of t r.step) h.0 ∙ ap (row_of 0) here)
    | inr ne ↦ let less = h.1.0 in h.1.2 j (omega (arith, less, ne)) (omega arith) wrote
  ]
  passed_over j a (may_write r) h other wrote = elim (cases_eq r.step j) [
    | inl here ↦ other (ap (λ (t : ℕ). row_of t r.step) h.0 ∙ ap (row_of 0) here)
    | inr ne ↦ let less = h.1.0 in h.1.1 j (omega (arith, less, ne)) (omega arith) wrote
  ]
  passed_over j a several h other wrote = h
  passed_over j a none h other wrote = h j (omega arith) wrote

  stores_elsewhere : (s : Shown) → s.rows 0 ≡ P.given.rows → (j a : ℕ) → StoresElsewhere (held_on P states) s (at 0 j) a → StepOfPathWrites P states j a → ⊥
  stores_elsewhere s rows j a far wrote =
      let there = far wrote.row (ap (λ (xs : List StepRow). slice_get xs j) rows ∙ wrote.is_row) in
      there.1 (is_stored wrote.row.instr P.given.image_end (states j) (states (j + 1)) a there.0 wrote.writes)

  pub misses_none : (s : Shown) → s.rows 0 ≡ P.given.rows → (q : WritersAsked) (text : List ℕ) → 0 ≡ q.cursor.thread → (is : IsWritersTrue (held_on P states) s q text) → (j a : ℕ) → IsUntold q is.told j → Contains (addresses q.bytes) a → StepOfPathWrites P states j a → ⊥
  misses_none s rows q text thread is j a untold sought =
      by (subst (λ (t : ℕ). StoresElsewhere (held_on P states) s (at t j) a ⊎ IsPassedOver (held_on P states) (at t j) a) (sym thread) (is.others j a untold sought))
    where
      by : StoresElsewhere (held_on P states) s (at 0 j) a ⊎ IsPassedOver (held_on P states) (at 0 j) a → StepOfPathWrites P states j a → ⊥
      by (inl far) = stores_elsewhere s rows j a far
      by (inr (w, holds, other)) = passed_over j a w holds other
