-- Each conclusion of a row of an atomic instruction holds in each step that has all that is seen.
use Rattle.std.proofs.Common.{◌≡◌, ◌≢◌, ℕ, ◌+◌, ◌%◌, ◌<◌, ◌^◌, inl, inr, refl, sym, ap, subst, ◌∙◌, arith, Some, lit<}
use Rattle.std.proofs.lemmas.Nat.{xor_of_32}
use Rattle.rept_isa.specs.declared.instr.Instr.{Instr}
use Rattle.rept_isa.specs.declared.instr.Instr.TheVariants.{Amo}
use Rattle.rept_isa.specs.declared.instr.AmoOp.{AmoOp}
use Rattle.rept_isa.specs.declared.instr.AmoOp.TheVariants as atomic
use Rattle.rept_isa.specs.declared.row.StepRow.{StepRow}
use Rattle.rept_partial.specs.declared.flat.Flat.TheVariants.{Known}
use Rattle.rept_reason.specs.declared.view.inferred.When.{When}
use Rattle.rept_reason.specs.declared.view.inferred.When.TheVariants.{Before, After}
use Rattle.rept_reason.specs.declared.view.inferred.Conclusion.{Conclusion}
use Rattle.rept_reason.specs.View.Seen.{Seen, state_at}
use Rattle.rept_isa.specs.declared.instr.LoadOp.TheVariants.{Lw}
use Rattle.rept_isa.specs.Rows.{Addresses, addresses_of}
use Rattle.rept_isa.specs.Numbers.{beside}
use Rattle.rept_machine.specs.State.{State}
use Rattle.rept_machine.specs.Step.{HasEffect, Acts, Tries}
use Rattle.rept_machine.specs.Arithmetic.{byte_of, word_at, combined}
use Rattle.rept_reason.specs.View.Rules.{IsSeenStep}
use Rattle.rept_rules.specs.Operands.{less}
use Rattle.rept_rules.specs.Conclusions.{AreKnown}
use Rattle.rept_rules.specs.Laws.ValueLemmas.{no_some, same_some}
use Rattle.rept_rules.specs.Laws.SolveLemmas.{known, unknown, xor_back, xor_back_left}
use Rattle.rept_rules.specs.Laws.Sound.{InferredHolds, says_holds, word_back, byte_back, over_none}
use Rattle.rept_amo.specs.declared.form.WordInferred.{WordInferred}
use Rattle.rept_amo.specs.declared.form.Form.{Form}
use Rattle.rept_amo.specs.declared.form.AtomicAccess.{AtomicAccess}
use Rattle.rept_amo.specs.Conclusions.{IsAtomicAccess, ReadsWord, IsOperation, form_of, byte_inferred, word_before, word_after, word_stored, undone, AtomicConcludes}
use Rattle.rept_amo.specs.Conclusions as rules
use Rattle.rept_amo.specs.Laws.Listed.{undone_operation}

pub form_is : (instr : Instr) (form : Form) → form_of instr ≡ Some form → instr ≡ Amo form.op form.rd form.rs1 form.rs2
form_is (Amo op rd rs1 rs2) form e = let f = same_some e in subst (λ (g : Form). Amo op rd rs1 rs2 ≡ Amo g.op g.rd g.rs1 g.rs2) f refl
form_is _ form e = absurd (no_some e)

-- ---- what an atomic instruction does, by its kind

module _ (rd value base : ℕ) (a : Addresses) (s t : State) where
  reads_word : (op : AmoOp) → Acts op rd value base a s t → ReadsWord op → rd ≢ 0 → t.register rd ≡ word_at s.memory base
  reads_word atomic.Lr h reads named = h.result.written named
  reads_word atomic.Sc h reads named = absurd reads
  reads_word atomic.Swap h reads named = h.result.written named
  reads_word atomic.Add h reads named = h.result.written named
  reads_word atomic.Xor h reads named = h.result.written named
  reads_word atomic.And h reads named = h.result.written named
  reads_word atomic.Or h reads named = h.result.written named
  reads_word atomic.Min h reads named = h.result.written named
  reads_word atomic.Max h reads named = h.result.written named
  reads_word atomic.Minu h reads named = h.result.written named
  reads_word atomic.Maxu h reads named = h.result.written named

  leaves_word : (op : AmoOp) (k : ℕ) → Acts op rd value base a s t → IsOperation op → k < 4 → t.memory (beside base k) ≡ byte_of (combined op (word_at s.memory base) value) k
  leaves_word atomic.Lr k h operation below = absurd operation
  leaves_word atomic.Sc k h operation below = absurd operation
  leaves_word atomic.Swap k h operation below = h.memory.written k below
  leaves_word atomic.Add k h operation below = h.memory.written k below
  leaves_word atomic.Xor k h operation below = h.memory.written k below
  leaves_word atomic.And k h operation below = h.memory.written k below
  leaves_word atomic.Or k h operation below = h.memory.written k below
  leaves_word atomic.Min k h operation below = h.memory.written k below
  leaves_word atomic.Max k h operation below = h.memory.written k below
  leaves_word atomic.Minu k h operation below = h.memory.written k below
  leaves_word atomic.Maxu k h operation below = h.memory.written k below

  stores_word : (k : ℕ) → Tries rd value base a s t → rd ≢ 0 → t.register rd ≡ 0 → k < 4 → t.memory (beside base k) ≡ byte_of value k
  stores_word k (inl h) named success below = h.memory.written k below
  stores_word k (inr h) named success below = absurd (h.code named success)

-- ---- words

same_word : (m n : ℕ → ℕ) (base : ℕ) → ((k : ℕ) → k < 4 → m (beside base k) ≡ n (beside base k)) → word_at m base ≡ word_at n base
same_word m n base h = let p = h 0 (lit< tt) in let q = h 1 (lit< tt) in let r = h 2 (lit< tt) in let s = h 3 (lit< tt) in rw (p, q, r, s) refl

word_of_bytes : (m : ℕ → ℕ) (base w : ℕ) → w < 2 ^ 32 → ((k : ℕ) → k < 4 → m (beside base k) ≡ byte_of w k) → word_at m base ≡ w
word_of_bytes m base w small h = let p = h 0 (lit< tt) in let q = h 1 (lit< tt) in let r = h 2 (lit< tt) in let s = h 3 (lit< tt) in rw (p, q, r, s) (word_back w small)

word_small : (m : ℕ → ℕ) (base : ℕ) → ((a : ℕ) → m a < 2 ^ 8) → word_at m base < 2 ^ 32
word_small m base small = let p = small (beside base 0) in let q = small (beside base 1) in let r = small (beside base 2) in let s = small (beside base 3) in omega (arith, p, q, r, s)

-- ---- the operands of an ADD or XOR from what it left

undone_small : (op : AmoOp) (w v a b r : ℕ) → w < 2 ^ 32 → v < 2 ^ 32 → undone op a b ≡ Known r → combined op w v < 2 ^ 32
undone_small atomic.Add w v a b r p q e = omega arith
undone_small atomic.Xor w v a b r p q e = xor_of_32 w v p q
undone_small atomic.Lr w v a b r p q e = absurd (unknown e)
undone_small atomic.Sc w v a b r p q e = absurd (unknown e)
undone_small atomic.Swap w v a b r p q e = absurd (unknown e)
undone_small atomic.And w v a b r p q e = absurd (unknown e)
undone_small atomic.Or w v a b r p q e = absurd (unknown e)
undone_small atomic.Min w v a b r p q e = absurd (unknown e)
undone_small atomic.Max w v a b r p q e = absurd (unknown e)
undone_small atomic.Minu w v a b r p q e = absurd (unknown e)
undone_small atomic.Maxu w v a b r p q e = absurd (unknown e)

less_first : (w v : ℕ) → w < 2 ^ 32 → v < 2 ^ 32 → less ((w + v) % 2 ^ 32) w ≡ v
less_first w v p q = omega arith

less_second : (w v : ℕ) → w < 2 ^ 32 → v < 2 ^ 32 → less ((w + v) % 2 ^ 32) v ≡ w
less_second w v p q = omega arith

source_is : (op : AmoOp) (w v r : ℕ) → w < 2 ^ 32 → v < 2 ^ 32 → undone op (combined op w v) w ≡ Known r → v ≡ r
source_is atomic.Add w v r p q e = sym (less_first w v p q) ∙ known e
source_is atomic.Xor w v r p q e = sym (xor_back_left w v) ∙ known e
source_is atomic.Lr w v r p q e = absurd (unknown e)
source_is atomic.Sc w v r p q e = absurd (unknown e)
source_is atomic.Swap w v r p q e = absurd (unknown e)
source_is atomic.And w v r p q e = absurd (unknown e)
source_is atomic.Or w v r p q e = absurd (unknown e)
source_is atomic.Min w v r p q e = absurd (unknown e)
source_is atomic.Max w v r p q e = absurd (unknown e)
source_is atomic.Minu w v r p q e = absurd (unknown e)
source_is atomic.Maxu w v r p q e = absurd (unknown e)

word_is : (op : AmoOp) (w v r : ℕ) → w < 2 ^ 32 → v < 2 ^ 32 → undone op (combined op w v) v ≡ Known r → w ≡ r
word_is atomic.Add w v r p q e = sym (less_second w v p q) ∙ known e
word_is atomic.Xor w v r p q e = sym (xor_back w v) ∙ known e
word_is atomic.Lr w v r p q e = absurd (unknown e)
word_is atomic.Sc w v r p q e = absurd (unknown e)
word_is atomic.Swap w v r p q e = absurd (unknown e)
word_is atomic.And w v r p q e = absurd (unknown e)
word_is atomic.Or w v r p q e = absurd (unknown e)
word_is atomic.Min w v r p q e = absurd (unknown e)
word_is atomic.Max w v r p q e = absurd (unknown e)
word_is atomic.Minu w v r p q e = absurd (unknown e)
word_is atomic.Maxu w v r p q e = absurd (unknown e)

-- ---- each conclusion

module _ (image_end : ℕ) (row : StepRow) (view : Seen) (before after : State) (d : Conclusion) (step : IsSeenStep image_end row view before after) where
  acts : (x : AtomicAccess) → IsAtomicAccess row view x → Acts x.form.op x.form.rd (before.register x.form.rs2) x.base (addresses_of row) before after
  acts x acc =
      let e : HasEffect (Amo x.form.op x.form.rd x.form.rs1 x.form.rs2) image_end (addresses_of row) before after = subst (λ (i : Instr). HasEffect i image_end (addresses_of row) before after) (form_is row.instr x.form acc.is_row) step.step in
      subst (λ (b : ℕ). Acts x.form.op x.form.rd (before.register x.form.rs2) b (addresses_of row) before after) (step.meets.register Before x.form.rs1 x.base acc.base) e

  known_word : (when : When) (base : ℕ) (m : ℕ → ℕ) → AreKnown view when base 4 m → word_at (state_at before after when).memory base ≡ word_at m base
  known_word when base m bytes = same_word (state_at before after when).memory m base (λ k below. step.meets.byte when (beside base k) (m (beside base k)) (bytes k below))

  byte_holds : (w : WordInferred) (k : ℕ) → d ≡ byte_inferred w k → (state_at before after w.when).memory (beside w.base k) ≡ byte_of w.word k → InferredHolds before after d
  byte_holds w k is h = subst (λ (x : Conclusion). InferredHolds before after x) (sym is) h

  there_small : (x : AtomicAccess) → word_at before.memory x.base < 2 ^ 32
  there_small x = word_small before.memory x.base step.state_before.bytes

  there_byte : (x : AtomicAccess) (w k : ℕ) → word_at before.memory x.base ≡ w → k < 4 → before.memory (beside x.base k) ≡ byte_of w k
  there_byte x w k e below = byte_back Lw before.memory x.base k step.state_before.bytes below ∙ ap (λ (n : ℕ). byte_of n k) e

  left_word : (x : AtomicAccess) → IsAtomicAccess row view x → IsOperation x.form.op → combined x.form.op (word_at before.memory x.base) (before.register x.form.rs2) < 2 ^ 32 → word_at after.memory x.base ≡ combined x.form.op (word_at before.memory x.base) (before.register x.form.rs2)
  left_word x acc operation small = word_of_bytes after.memory x.base _ small (λ k below. leaves_word x.form.rd (before.register x.form.rs2) x.base (addresses_of row) before after x.form.op k (acts x acc) operation below)

  -- what an ADD or XOR left, from what is known of it
  left_known : (x : AtomicAccess) (n : ℕ → ℕ) (a b r : ℕ) → IsAtomicAccess row view x → AreKnown view After x.base 4 n → undone x.form.op a b ≡ Known r → word_at n x.base ≡ combined x.form.op (word_at before.memory x.base) (before.register x.form.rs2)
  left_known x n a b r acc bytes solved =
      sym (known_word After x.base n bytes)
      ∙ left_word x acc (undone_operation x.form.op a b r solved) (undone_small x.form.op (word_at before.memory x.base) (before.register x.form.rs2) a b r (there_small x) (step.state_before.words x.form.rs2) solved)

  pub sound_by : AtomicConcludes row view d → InferredHolds before after d
  sound_by (rules.read x m acc reads bytes says) =
      says_holds before after d 19 After x.form.rd (word_at m x.base) says
      (reads_word x.form.rd (before.register x.form.rs2) x.base (addresses_of row) before after x.form.op (acts x acc) reads (over_none x.form.rd says.named) ∙ known_word Before x.base m bytes)
  sound_by (rules.written x m v k acc operation value bytes below e) =
      byte_holds (word_after x.base (combined x.form.op (word_at m x.base) v)) k e
      (leaves_word x.form.rd (before.register x.form.rs2) x.base (addresses_of row) before after x.form.op k (acts x acc) operation below
      ∙ ap (λ (n : ℕ). byte_of (combined x.form.op n (before.register x.form.rs2)) k) (known_word Before x.base m bytes)
      ∙ ap (λ (n : ℕ). byte_of (combined x.form.op (word_at m x.base) n) k) (step.meets.register Before x.form.rs2 v value))
  sound_by (rules.read_back x v k acc reads named value below e) =
      byte_holds (word_before 21 x.base v) k e
      (there_byte x v k (sym (reads_word x.form.rd (before.register x.form.rs2) x.base (addresses_of row) before after x.form.op (acts x acc) reads named) ∙ step.meets.register After x.form.rd v value) below)
  sound_by (rules.swapped x m acc swap bytes says) =
      let small = step.state_before.words x.form.rs2 in
      let left = left_word x acc (subst IsOperation (sym swap) tt) (subst (λ (op : AmoOp). combined op (word_at before.memory x.base) (before.register x.form.rs2) < 2 ^ 32) (sym swap) small) in
      says_holds before after d 22 Before x.form.rs2 (word_at m x.base) says
      (sym (ap (λ (op : AmoOp). combined op (word_at before.memory x.base) (before.register x.form.rs2)) swap) ∙ sym left ∙ known_word After x.base m bytes)
  sound_by (rules.source x m n v acc there left solved says) =
      let p = left_known x n (word_at n x.base) (word_at m x.base) v acc left solved in
      let q = known_word Before x.base m there in
      let e = ap (λ (a : ℕ). undone x.form.op a (word_at before.memory x.base)) (sym p) ∙ ap (λ (a : ℕ). undone x.form.op (word_at n x.base) a) q ∙ solved in
      says_holds before after d 22 Before x.form.rs2 v says (source_is x.form.op (word_at before.memory x.base) (before.register x.form.rs2) v (there_small x) (step.state_before.words x.form.rs2) e)
  sound_by (rules.word_back x n v w k acc value left solved below is) =
      let p = left_known x n (word_at n x.base) v w acc left solved in
      let q = step.meets.register Before x.form.rs2 v value in
      let e = ap (λ (a : ℕ). undone x.form.op a (before.register x.form.rs2)) (sym p) ∙ ap (λ (a : ℕ). undone x.form.op (word_at n x.base) a) q ∙ solved in
      byte_holds (word_before 23 x.base w) k is (there_byte x w k (word_is x.form.op (word_at before.memory x.base) (before.register x.form.rs2) w (there_small x) (step.state_before.words x.form.rs2) e) below)
  sound_by (rules.stored x v k acc sc named value success below e) =
      let a = subst (λ (op : AmoOp). Acts op x.form.rd (before.register x.form.rs2) x.base (addresses_of row) before after) sc (acts x acc) in
      byte_holds (word_stored x.base v) k e
      (stores_word x.form.rd (before.register x.form.rs2) x.base (addresses_of row) before after k a named (step.meets.register After x.form.rd 0 success) below
      ∙ ap (λ (n : ℕ). byte_of n k) (step.meets.register Before x.form.rs2 v value))
