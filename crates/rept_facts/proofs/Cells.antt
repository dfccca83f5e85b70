-- Where more is known around a row, no fewer of its cells are; where just as many are, they are the
-- same.
use Rattle.std.proofs.Common.{◌≡◌, ℕ, ◌<◌, ◌≤◌, Option, Some, None, inl, inr, refl, sym, ◌∙◌, arith, is_some, min}
use Rattle.std.proofs.lemmas.Bool.{cases_lt}
use Rattle.rept_isa.specs.declared.row.StepRow.{StepRow}
use Rattle.rept_isa.specs.Numbers.{plus, beside}
use Rattle.rept_isa.specs.Operands.{first_read, second_read, written_by}
use Rattle.rept_reason.specs.declared.fact.Cell.{Cell}
use Rattle.rept_reason.specs.declared.fact.Cell.TheVariants.{Register, Byte}
use Rattle.rept_reason.specs.declared.view.inferred.When.{When}
use Rattle.rept_reason.specs.declared.view.inferred.When.TheVariants.{Before, After}
use Rattle.rept_reason.specs.View.Seen.{Seen, seen_cell}
use Rattle.rept_reason.specs.View.Rules.{Rules, offset_of, IsRowByte, IsRowCell}
use Rattle.rept_facts.specs.Sums.{one_if}
use Rattle.rept_facts.specs.Cells.{operand_known, byte_known, base_known, bytes_from, bytes_known, cells_known}
use Rattle.rept_facts.proofs.Sums.{sum_le, sum_less}

some_le : (x y : Option ℕ) → ((v : ℕ) → x ≡ Some v → y ≡ Some v) → one_if (is_some x) ≤ one_if (is_some y)
some_le None y h = omega arith
some_le (Some v) y h = rw (h v refl) (omega arith)

some_back : (x y : Option ℕ) (v : ℕ) → ((w : ℕ) → x ≡ Some w → y ≡ Some w) → one_if (is_some x) ≡ one_if (is_some y) → y ≡ Some v → x ≡ Some v
some_back None y v h e is = let one : one_if (is_some y) ≡ 1 = rw is refl in absurd (omega (arith, one, e))
some_back (Some w) y v h e is = sym (h w refl) ∙ is

module _ (rules : Rules) (row : StepRow) (s t : Seen) (less : (w : When) (c : Cell) (v : ℕ) → seen_cell s w c ≡ Some v → seen_cell t w c ≡ Some v) where
  operand_le : (w : When) (r : Option ℕ) → operand_known s w r ≤ operand_known t w r
  operand_le w None = omega arith
  operand_le w (Some r) = some_le (s.register w r) (t.register w r) (λ v e. less w (Register r) v e)

  before_le : (a : ℕ) → one_if (is_some (s.byte Before a)) ≤ one_if (is_some (t.byte Before a))
  before_le a = some_le (s.byte Before a) (t.byte Before a) (λ v e. less Before (Byte a) v e)

  after_le : (a : ℕ) → one_if (is_some (s.byte After a)) ≤ one_if (is_some (t.byte After a))
  after_le a = some_le (s.byte After a) (t.byte After a) (λ v e. less After (Byte a) v e)

  byte_le : (a : ℕ) → byte_known s a ≤ byte_known t a
  byte_le a = let p = before_le a in let q = after_le a in omega (arith, p, q)

  from_le : (start n : ℕ) → bytes_from s start n ≤ bytes_from t start n
  from_le start n = sum_le (λ k. byte_known t (beside start k)) (λ k. byte_known s (beside start k)) n (λ k lt. byte_le (beside start k))

  base_more : (r : Option ℕ) (b : ℕ) → base_known r s ≡ Some b → base_known r t ≡ Some b
  base_more None b e = e
  base_more (Some r) b e = less Before (Register r) b e

  bytes_le : (x : Option ℕ) → base_known (first_read row.instr) s ≡ x → bytes_known rules row s x ≤ bytes_known rules row t (base_known (first_read row.instr) t)
  bytes_le None e = omega arith
  bytes_le (Some b) e = rw (base_more (first_read row.instr) b e) (from_le (plus b (offset_of row.instr)) (min (rules.places row) 4))

  all_bytes : bytes_known rules row s (base_known (first_read row.instr) s) ≤ bytes_known rules row t (base_known (first_read row.instr) t)
  all_bytes = bytes_le (base_known (first_read row.instr) s) refl

  pub cells_less : cells_known rules row s ≤ cells_known rules row t
  cells_less =
      let a = operand_le Before (first_read row.instr) in
      let b = operand_le Before (second_read row.instr) in
      let c = operand_le After (written_by row.instr) in
      let d = all_bytes in
      omega (arith, a, b, c, d)

  module _ (same : cells_known rules row s ≡ cells_known rules row t) where
    first_same : operand_known s Before (first_read row.instr) ≡ operand_known t Before (first_read row.instr)
    first_same =
        let a = operand_le Before (first_read row.instr) in
        let b = operand_le Before (second_read row.instr) in
        let c = operand_le After (written_by row.instr) in
        let d = all_bytes in
        omega (arith, a, b, c, d, same)

    second_same : operand_known s Before (second_read row.instr) ≡ operand_known t Before (second_read row.instr)
    second_same =
        let a = operand_le Before (first_read row.instr) in
        let b = operand_le Before (second_read row.instr) in
        let c = operand_le After (written_by row.instr) in
        let d = all_bytes in
        omega (arith, a, b, c, d, same)

    written_same : operand_known s After (written_by row.instr) ≡ operand_known t After (written_by row.instr)
    written_same =
        let a = operand_le Before (first_read row.instr) in
        let b = operand_le Before (second_read row.instr) in
        let c = operand_le After (written_by row.instr) in
        let d = all_bytes in
        omega (arith, a, b, c, d, same)

    bytes_same : bytes_known rules row s (base_known (first_read row.instr) s) ≡ bytes_known rules row t (base_known (first_read row.instr) t)
    bytes_same =
        let a = operand_le Before (first_read row.instr) in
        let b = operand_le Before (second_read row.instr) in
        let c = operand_le After (written_by row.instr) in
        let d = all_bytes in
        omega (arith, a, b, c, d, same)

    register_back : (w : When) (r v : ℕ) → operand_known s w (Some r) ≡ operand_known t w (Some r) → t.register w r ≡ Some v → s.register w r ≡ Some v
    register_back w r v e is = some_back (s.register w r) (t.register w r) v (λ x h. less w (Register r) x h) e is

    each_same : (start n k : ℕ) → k < n → bytes_from s start n ≡ bytes_from t start n → byte_known s (beside start k) ≡ byte_known t (beside start k)
    each_same start n k lt e =
        let le = byte_le (beside start k) in
        elim (cases_lt (byte_known s (beside start k)) (byte_known t (beside start k))) [
          | inl less_here ↦ let sums = sum_less (λ j. byte_known t (beside start j)) (λ j. byte_known s (beside start j)) n k (λ j below. byte_le (beside start j)) lt less_here in absurd (omega (arith, sums, e))
          | inr more_here ↦ omega (arith, le, more_here)
        ]

    byte_back : (w : When) (a v : ℕ) → byte_known s a ≡ byte_known t a → seen_cell t w (Byte a) ≡ Some v → seen_cell s w (Byte a) ≡ Some v
    byte_back Before a v e is = let p = before_le a in let q = after_le a in some_back (s.byte Before a) (t.byte Before a) v (λ x h. less Before (Byte a) x h) (omega (arith, p, q, e)) is
    byte_back After a v e is = let p = before_le a in let q = after_le a in some_back (s.byte After a) (t.byte After a) v (λ x h. less After (Byte a) x h) (omega (arith, p, q, e)) is

    row_byte : (a : ℕ) → IsRowByte rules row t a → byte_known s a ≡ byte_known t a
    row_byte a h =
        let there : t.register Before h.base_register ≡ Some h.base = h.base_known in
        let here : s.register Before h.base_register ≡ Some h.base = register_back Before h.base_register h.base (rw h.read at first_same) there in
        let base_s : base_known (first_read row.instr) s ≡ Some h.base = rw h.read here in
        let base_t : base_known (first_read row.instr) t ≡ Some h.base = rw h.read there in
        let sums = rw (base_s, base_t) at bytes_same in
        let below : h.k < min (rules.places row) 4 = let p = h.below_places in let q = h.below_four in omega (arith, p, q) in
        rw h.address (each_same (plus h.base (offset_of row.instr)) (min (rules.places row) 4) h.k below sums)

    pub cells_back : (w : When) (c : Cell) → IsRowCell rules row t w c → (v : ℕ) → seen_cell t w c ≡ Some v → seen_cell s w c ≡ Some v
    cells_back Before (Register r) (inl e) v is = register_back Before r v (rw e at first_same) is
    cells_back Before (Register r) (inr e) v is = register_back Before r v (rw e at second_same) is
    cells_back After (Register r) e v is = register_back After r v (rw e at written_same) is
    cells_back Before (Byte a) h v is = byte_back Before a v (row_byte a h) is
    cells_back After (Byte a) h v is = byte_back After a v (row_byte a h) is
