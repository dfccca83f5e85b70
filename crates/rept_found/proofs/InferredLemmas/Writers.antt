-- What is told of last writers by the report and the holding is true.
use Rattle.std.proofs.Common.{◌≡◌, ◌≢◌, ℕ, zero, suc, ◌+◌, ◌<◌, ◌≤◌, ◌^◌, Bool, true, false, length, Option, Some, None, slice_get, inl, inr, refl, sym, ap, subst, ◌∙◌, arith}
use Rattle.std.specs.Prelude.{⊤, ◌&&◌, nat_le, if◌then◌else◌}
use Rattle.std.specs.Option.{option_and_then}
use Rattle.std.proofs.lemmas.Bool.{cases_eq, false≢true}
use Rattle.rept_isa.specs.declared.row.StepRow.{StepRow}
use Rattle.rept_machine.specs.State.{State}
use Rattle.rept_reason.specs.Facts.{Knowledge}
use Rattle.rept_report.specs.OneThread.{ThreadPath}
use Rattle.rept_report.specs.Setting.{Setting}
use Rattle.rept_report.specs.Views.{may_write, is_sure}
use Rattle.rept_report.specs.Spots.{spot}
use Rattle.rept_report.specs.declared.writer.Writer.{Writer}
use Rattle.rept_report.specs.declared.writer.Writer.TheVariants as writer
use Rattle.rept_findings.specs.LastWriters.{named_row}
use Rattle.rept_findings.specs.Shown.{Shown}
use Rattle.rept_found.specs.Single.{last_writer}
use Rattle.rept_found.specs.Truth.{IsTrueOf, StepOfPathWrites, WriterHoldsOnPath}
use Rattle.rept_narrow.specs.Admitted.{Story}
use Rattle.rept_infer.specs.Holding.{Holding, Holds}
use Rattle.rept_found.specs.Inferred.Writing.{greatest, instr_reaches, is_exact_store, is_line, names_step, or_writer, refined_row, refined_step, sharpened, told_if, writer_beyond, writer_if}
use Rattle.rept_found.proofs.InferredLemmas.Greatest.{is_named}
use Rattle.rept_found.proofs.InferredLemmas.Reaching.{missed, sure}

same_row : {x y : StepRow} → Some x ≡ Some y → x ≡ y
same_row e = cc

some_none : {x : StepRow} → Some x ≡ None → ⊥
some_none e = cc

-- of one thread none is told of as several
pub last_single : {W : Type 0} (S : Setting W) (K : Knowledge) (p a : ℕ) → last_writer S K p a ≢ writer.Several
last_single S K zero a e = let bad : ⊥ = cc in bad
last_single S K (suc k) a e = by (last_single S K k a) (may_write S K k a) (is_sure S K k) e
  where
    by : (last_writer S K k a ≡ writer.Several → ⊥) → (b c : Bool) → (if b then (if c then writer.Writes k else writer.MayWrite k) else last_writer S K k a) ≡ writer.Several → ⊥
    by before true true e = let bad : ⊥ = cc in bad
    by before true false e = let bad : ⊥ = cc in bad
    by before false c e = before e

module _ {W : Type 0} (P : ThreadPath W) (s : Shown) (story : Story) (h : Holding) (run : ℕ → State) (same : story.rows ≡ P.given.rows) (rows : s.rows 0 ≡ P.given.rows) (t : IsTrueOf P s run) (holds : Holds story h run) (a : ℕ) (single : (p : ℕ) → p ≤ length P.given.rows → s.writer p a ≢ writer.Several) (small : a < 2 ^ 32) where
  abbrev Told : ℕ → Writer → Type 0
  Told p w = WriterHoldsOnPath P run (spot p a) w

  abbrev Not : ℕ → Type 0
  Not j = StepOfPathWrites P run j a → ⊥

  -- one step more that doesn't write the byte
  extend : (j : ℕ) (w : Writer) → Not j → Told j w → Told (suc j) w
  extend j (writer.Writes i) not h = let less = h.0 in (
    omega (arith, less),
    h.1,
    λ k low high writes. elim (cases_eq k j) [
      | inl here ↦ not (subst (λ (n : ℕ). StepOfPathWrites P run n a) here writes)
      | inr ne ↦ h.2 k low (omega (arith, high, ne)) writes
    ],
  )
  extend j (writer.MayWrite i) not h = let less = h.0 in (
    omega (arith, less),
    λ k low high writes. elim (cases_eq k j) [
      | inl here ↦ not (subst (λ (n : ℕ). StepOfPathWrites P run n a) here writes)
      | inr ne ↦ h.1 k low (omega (arith, high, ne)) writes
    ],
  )
  extend j writer.Several not h = tt
  extend j writer.None not h = λ k high writes. elim (cases_eq k j) [
    | inl here ↦ not (subst (λ (n : ℕ). StepOfPathWrites P run n a) here writes)
    | inr ne ↦ h k (omega (arith, high, ne)) writes
  ]

  size : length (s.rows 0) ≡ length P.given.rows
  size = ap length rows

  -- a step that the report doesn't name at the point after it doesn't write the byte
  quiet : (j : ℕ) (w : Writer) → s.writer (suc j) a ≡ w → w ≢ writer.Several → names_step w j ≡ false → Told (suc j) w → Not j
  quiet j (writer.Writes i) is one e h writes = elim (cases_eq i j) [
    | inl here ↦ false≢true (sym e ∙ is_named (writer.Writes i) j (ap Some here))
    | inr ne ↦ let less = h.0 in h.2 j (omega (arith, less, ne)) (omega arith) writes
  ]
  quiet j (writer.MayWrite i) is one e h writes = elim (cases_eq i j) [
    | inl here ↦ false≢true (sym e ∙ is_named (writer.MayWrite i) j (ap Some here))
    | inr ne ↦ let less = h.0 in h.1 j (omega (arith, less, ne)) (omega arith) writes
  ]
  quiet j writer.Several is one e h writes = one refl
  quiet j writer.None is one e h writes = h j (omega arith) writes

  told_true : (j : ℕ) → suc j ≤ length (s.rows 0) → Told (suc j) (s.writer (suc j) a)
  told_true j le = t.writers (suc j) a (omega (arith, size, le)) small

  unreached : (j : ℕ) (row : StepRow) → j ≤ length story.rows → slice_get (s.rows 0) j ≡ Some row → instr_reaches h a j row.instr ≡ false → Not j
  unreached j row early at e writes =
      let one : row ≡ writes.row = same_row (sym at ∙ ap (λ rs. slice_get rs j) rows ∙ writes.is_row) in
      missed story h run holds j a early writes.row.instr P.given.image_end (run (j + 1)) (subst (λ (r : StepRow). instr_reaches h a j r.instr ≡ false) one e) writes.writes

  reached : (j : ℕ) (row : StepRow) → j ≤ length story.rows → slice_get (s.rows 0) j ≡ Some row → is_exact_store h j row.instr ≡ true → instr_reaches h a j row.instr ≡ true → StepOfPathWrites P run j a
  reached j row early at exact e = record {
    row = row;
    is_row = sym (ap (λ rs. slice_get rs j) rows) ∙ at;
    writes = sure story h run holds j a early row.instr P.given.image_end (run (j + 1)) exact e small;
  }

  line_true : (p : ℕ) → p ≤ length (s.rows 0) → Told p (greatest (refined_step h s a) p)
  line_true zero le = λ k less writes. absurd (omega (arith, less))
  line_true (suc j) le = by_name (line_true j (omega (arith, le))) (names_step (s.writer (suc j) a) j) refl
    where
      early : j ≤ length story.rows
      early = let all = ap length same in omega (arith, le, size, all)

      by_exact : (row : StepRow) (b : Bool) → slice_get (s.rows 0) j ≡ Some row → instr_reaches h a j row.instr ≡ true → is_exact_store h j row.instr ≡ b → Told (suc j) (sharpened b j (s.writer (suc j) a))
      by_exact row true at e exact = (omega arith, reached j row early at exact e, λ k low high writes. absurd (omega (arith, low, high)))
      by_exact row false at e exact = told_true j le

      by_reach : Told j (greatest (refined_step h s a) j) → (row : StepRow) (b : Bool) → slice_get (s.rows 0) j ≡ Some row → instr_reaches h a j row.instr ≡ b → Told (suc j) (or_writer (told_if b (sharpened (is_exact_store h j row.instr) j (s.writer (suc j) a))) (greatest (refined_step h s a) j))
      by_reach before row true at e = by_exact row (is_exact_store h j row.instr) at e refl
      by_reach before row false at e = extend j (greatest (refined_step h s a) j) (unreached j row early at e) before

      by_row : Told j (greatest (refined_step h s a) j) → (o : Option StepRow) → slice_get (s.rows 0) j ≡ o → Told (suc j) (or_writer (refined_row h a j o (s.writer (suc j) a)) (greatest (refined_step h s a) j))
      by_row before None at = told_true j le
      by_row before (Some row) at = by_reach before row (instr_reaches h a j row.instr) at refl

      by_name : Told j (greatest (refined_step h s a) j) → (b : Bool) → names_step (s.writer (suc j) a) j ≡ b → Told (suc j) (or_writer (option_and_then (refined_row h a j (slice_get (s.rows 0) j)) (told_if b (s.writer (suc j) a))) (greatest (refined_step h s a) j))
      by_name before true is = by_row before (slice_get (s.rows 0) j) refl
      by_name before false is =
          extend j (greatest (refined_step h s a) j) (quiet j (s.writer (suc j) a) refl (single (suc j) (omega (arith, size, le))) is (told_true j le)) before

  pub writer_true : (p : ℕ) → p ≤ length P.given.rows → Told p (writer_beyond h s p a)
  writer_true p le = by (is_line s && nat_le p (length (s.rows 0)))
    where
      by : (b : Bool) → Told p (writer_if b h s p a)
      by true = line_true p (omega (arith, size, le))
      by false = t.writers p a le small
