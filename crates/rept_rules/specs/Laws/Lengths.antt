-- The lists of a row keep within their room.
use Rattle.std.proofs.Common.{ℕ, zero, suc, ◌+◌, ◌≤◌, true, false, Bool, if◌then◌else◌, arith, Option, Some, None, List, [], ◌∷◌, ◌++◌, length, length-append, ℤ, lit≤, ◌==◌}
use Rattle.rept_isa.specs.declared.instr.Instr.{Instr}
use Rattle.rept_isa.specs.declared.instr.Instr.TheVariants.{Lui, Auipc, Jal, Jalr, Branch, Load, Store, Imm, Op, Amo, Fence, Ecall, Ebreak, Counter}
use Rattle.rept_isa.specs.declared.instr.LoadOp.{LoadOp}
use Rattle.rept_isa.specs.declared.instr.LoadOp.TheVariants.{Lb, Lh, Lw, Lbu, Lhu}
use Rattle.rept_isa.specs.declared.instr.StoreOp.{StoreOp}
use Rattle.rept_isa.specs.declared.instr.StoreOp.TheVariants.{Sb, Sh, Sw}
use Rattle.rept_isa.specs.declared.class.Turn.{Turn}
use Rattle.rept_isa.specs.declared.row.StepRow.{StepRow}
use Rattle.rept_isa.specs.declared.instr.RegOp.{RegOp}
use Rattle.rept_isa.specs.Numbers.{word}
use Rattle.rept_isa.specs.Operands.{turn_of, written_by, first_read, second_read, unless_zero}
use Rattle.rept_isa.specs.Rows.{from_of}
use Rattle.rept_partial.specs.declared.flat.Flat.{Flat}
use Rattle.rept_partial.specs.declared.flat.Flat.TheVariants.{Unknown, Known}
use Rattle.rept_machine.specs.Arithmetic.{store_width, register_form}
use Rattle.rept_reason.specs.declared.fact.Cell.TheVariants.{Register}
use Rattle.rept_rules.specs.Results.{operand, absorbs, cancels, forward_of}
use Rattle.rept_reason.specs.declared.view.inferred.When.{When}
use Rattle.rept_reason.specs.declared.view.inferred.When.TheVariants.{Before, After}
use Rattle.rept_reason.specs.declared.view.inferred.Conclusion.{Conclusion}
use Rattle.rept_reason.specs.declared.view.inferred.Premise.{Premise}
use Rattle.rept_reason.specs.View.Seen.{Seen}
use Rattle.rept_rules.specs.declared.operand.Side.{Side}
use Rattle.rept_rules.specs.declared.operand.Side.TheVariants.{First, Second}
use Rattle.rept_rules.specs.Operands.{copied_register, copied, operand_of, opposite}
use Rattle.rept_rules.specs.Conclusions.{load_width, on_register, equates, solving_rule, seen_operand}
use Rattle.rept_rules.specs.Listing.{is_named, known_at, known_after, at_known, word_from, loaded_from, solve_known, register_inferred, some_inferred, bytes_inferred, known_bytes_inferred, result_inferred, by_rule, solved_inferred, copied_between, copy_inferred, operation_inferred, store_back_inferred, others_inferred, conclusions}
use Rattle.rept_rules.specs.Needs.{register_need, both_needs, byte_needs, known_byte_needs, result_needs, source_need, other_register, decides, by_when, copy_needs, needs_of}
use Rattle.rept_rules.specs.MayWrite.{places_of}

-- two lists of a limited length
pub joined : {A : Type 0} (xs ys : List A) (n m : ℕ) → length xs ≤ n → length ys ≤ m → length (xs ++ ys) ≤ n + m
joined xs ys n m f g = omega (arith, length-append xs ys, f, g)

pub either_list : {A : Type 0} (b : Bool) (xs ys : List A) (n : ℕ) → length xs ≤ n → length ys ≤ n → length (if b then xs else ys) ≤ n
either_list true xs ys n f g = f
either_list false xs ys n f g = g

pub wider : (k n m : ℕ) → n ≤ m → k ≤ n → k ≤ m
wider k n m h g = omega (arith, h, g)

pub one_register : (rule : ℕ) (when : When) (r : ℕ) (x : Flat) → length (register_inferred rule when r x) ≤ 1
one_register rule when r Unknown = lit≤ tt
one_register rule when r (Known v) = either_list {A = Conclusion} (is_named r) (on_register rule when r v ∷ []) [] 1 (lit≤ tt) (lit≤ tt)

one_some : (rule : ℕ) (when : When) (o : Option ℕ) (x : Flat) → length (some_inferred rule when o x) ≤ 1
one_some rule when None x = lit≤ tt
one_some rule when (Some r) x = one_register rule when r x

some_bytes : (rule : ℕ) (when : When) (base v width : ℕ) → length (bytes_inferred rule when base v width) ≤ width
some_bytes rule when base v zero = lit≤ tt
some_bytes rule when base v (suc k) = wider _ (k + 1) (suc k) (omega arith) (joined (bytes_inferred rule when base v k) _ k 1 (some_bytes rule when base v k) (lit≤ tt))

some_known_bytes : (rule : ℕ) (when : When) (x : Flat) (imm : ℤ) (y : Flat) (width : ℕ) → width ≤ 4 → length (known_bytes_inferred rule when x imm y width) ≤ 4
some_known_bytes rule when Unknown imm y width few = lit≤ tt
some_known_bytes rule when (Known b) imm Unknown width few = lit≤ tt
some_known_bytes rule when (Known b) imm (Known v) width few = wider _ width 4 few (some_bytes rule when _ v width)

pub few_load : (op : LoadOp) → load_width op ≤ 4
few_load Lb = lit≤ tt
few_load Lh = lit≤ tt
few_load Lw = lit≤ tt
few_load Lbu = lit≤ tt
few_load Lhu = lit≤ tt

pub few_store : (op : StoreOp) → store_width op ≤ 4
few_store Sb = lit≤ tt
few_store Sh = lit≤ tt
few_store Sw = lit≤ tt

one_rule : (rule r : Option ℕ) (x : Flat) → length (by_rule rule r x) ≤ 1
one_rule None r x = lit≤ tt
one_rule (Some rule) r x = one_some rule Before r x

two_copies : (rd source : Option ℕ) (s : Seen) → length (copied_between rd source s) ≤ 2
two_copies None source s = lit≤ tt
two_copies (Some rd) None s = lit≤ tt
two_copies (Some rd) (Some source) s = joined (register_inferred 18 After rd (known_at s Before source)) (register_inferred 18 Before source (known_at s After rd)) 1 1 (one_register 18 After rd (known_at s Before source)) (one_register 18 Before source (known_at s After rd))

one_solved : (instr : Instr) (side : Side) (s : Seen) → length (solved_inferred instr side s) ≤ 1
one_solved instr side s = one_rule (solving_rule instr) (operand_of instr side) (solve_known instr side (known_after s (written_by instr)) (seen_operand s (operand_of instr (opposite side))))

four_operands : (instr : Instr) (s : Seen) → length (operation_inferred instr s) ≤ 4
four_operands instr s = joined (solved_inferred instr First s ++ solved_inferred instr Second s) (copy_inferred instr s) 2 2 (joined (solved_inferred instr First s) (solved_inferred instr Second s) 1 1 (one_solved instr First s) (one_solved instr Second s)) (two_copies (written_by instr) (copied instr) s)

one_back : (op : StoreOp) (x : Flat) (rs2 : ℕ) (imm : ℤ) (s : Seen) → length (store_back_inferred op x rs2 imm s) ≤ 1
one_back Sb x rs2 imm s = lit≤ tt
one_back Sh x rs2 imm s = lit≤ tt
one_back Sw x rs2 imm s = one_register 16 Before rs2 (at_known x imm (word_from (s.byte After)))

five_others : (instr : Instr) (turn : Turn) (s : Seen) → length (others_inferred instr turn s) ≤ 5
five_others (Load op rd rs1 imm) turn s = let x = at_known (known_at s Before rs1) imm (loaded_from op (s.byte Before)) in let y = known_after s (unless_zero rd) in joined (register_inferred 8 After rd x) (known_bytes_inferred 15 Before (known_at s Before rs1) imm y (load_width op)) 1 4 (one_register 8 After rd x) (some_known_bytes 15 Before (known_at s Before rs1) imm y (load_width op) (few_load op))
five_others (Store op rs1 rs2 imm) turn s = let x = known_at s Before rs1 in let y = known_at s Before rs2 in joined (known_bytes_inferred 9 After x imm y (store_width op)) (store_back_inferred op x rs2 imm s) 4 1 (some_known_bytes 9 After x imm y (store_width op) (few_store op)) (one_back op x rs2 imm s)
five_others (Imm op rd rs1 imm) turn s = wider _ 4 5 (lit≤ tt) (four_operands (Imm op rd rs1 imm) s)
five_others (Op op rd rs1 rs2) turn s = wider _ 4 5 (lit≤ tt) (four_operands (Op op rd rs1 rs2) s)
five_others (Branch op rs1 rs2 imm) turn s = either_list {A = Conclusion} (equates op turn) (register_inferred 14 Before rs2 (known_at s Before rs1) ++ register_inferred 14 Before rs1 (known_at s Before rs2)) [] 5 (wider _ 2 5 (lit≤ tt) (joined (register_inferred 14 Before rs2 (known_at s Before rs1)) (register_inferred 14 Before rs1 (known_at s Before rs2)) 1 1 (one_register 14 Before rs2 (known_at s Before rs1)) (one_register 14 Before rs1 (known_at s Before rs2)))) (lit≤ tt)
five_others (Lui rd imm) turn s = lit≤ tt
five_others (Auipc rd imm) turn s = lit≤ tt
five_others (Jal rd imm) turn s = lit≤ tt
five_others (Jalr rd rs1 imm) turn s = lit≤ tt
five_others (Amo op rd rs1 rs2) turn s = lit≤ tt
five_others Fence turn s = lit≤ tt
five_others Ecall turn s = lit≤ tt
five_others Ebreak turn s = lit≤ tt
five_others (Counter rd csr) turn s = lit≤ tt

pub few_conclusions : (row : StepRow) (s : Seen) → length (conclusions row s) ≤ 16
few_conclusions row s = wider _ 6 16 (lit≤ tt) (joined (result_inferred row s) (others_inferred row.instr (turn_of row) s) 1 5 (one_some 7 After (written_by row.instr) (forward_of row.instr (from_of row) (seen_operand s (first_read row.instr)) (seen_operand s (second_read row.instr)))) (five_others row.instr (turn_of row) s))

-- ---- needs

pub one_need : (when : When) (r : ℕ) → length (register_need when r) ≤ 1
one_need when r = either_list {A = Premise} (r == 0) [] (record { when = when; cell = Register r } ∷ []) 1 (lit≤ tt) (lit≤ tt)

pub two_needs : (r q : ℕ) → length (both_needs r q) ≤ 2
two_needs r q = either_list (r == q) (register_need Before r) (register_need Before r ++ register_need Before q) 2 (wider _ 1 2 (lit≤ tt) (one_need Before r)) (joined (register_need Before r) (register_need Before q) 1 1 (one_need Before r) (one_need Before q))

pub some_byte_needs : (when : When) (base width : ℕ) → length (byte_needs when base width) ≤ width
some_byte_needs when base zero = lit≤ tt
some_byte_needs when base (suc k) = wider _ (k + 1) (suc k) (omega arith) (joined (byte_needs when base k) _ k 1 (some_byte_needs when base k) (lit≤ tt))

four_byte_needs : (when : When) (x : Flat) (imm : ℤ) (width : ℕ) → width ≤ 4 → length (known_byte_needs when x imm width) ≤ 4
four_byte_needs when Unknown imm width few = lit≤ tt
four_byte_needs when (Known b) imm width few = wider _ width 4 few (some_byte_needs when _ width)

either_moment : (when : When) (xs ys : List Premise) (n : ℕ) → length xs ≤ n → length ys ≤ n → length (by_when when xs ys) ≤ n
either_moment Before xs ys n f g = f
either_moment After xs ys n f g = g

one_source : (o : Option ℕ) → length (source_need o) ≤ 1
one_source None = lit≤ tt
one_source (Some r) = one_need Before r

two_results : (op : RegOp) (rs1 rs2 : ℕ) (s : Seen) → length (result_needs op rs1 rs2 s) ≤ 2
two_results op rs1 rs2 s = by (cancels op rs1 rs2) (decides op (operand rs1 (known_at s Before rs1))) (decides op (operand rs2 (known_at s Before rs2)))
  where
    by : (c f g : Bool) → length (if c then [] else if f then register_need Before rs1 else if g then register_need Before rs2 else both_needs rs1 rs2) ≤ 2
    by true f g = lit≤ tt
    by false true g = wider _ 1 2 (lit≤ tt) (one_need Before rs1)
    by false false true = wider _ 1 2 (lit≤ tt) (one_need Before rs2)
    by false false false = two_needs rs1 rs2

pub few_needs_of : (instr : Instr) (s : Seen) (d : Conclusion) → length (needs_of instr s d) ≤ 10
few_needs_of (Imm op rd rs1 imm) s d = wider _ 1 10 (lit≤ tt) (either_list (d.rule == 7) (if absorbs (register_form op) (word imm) then [] else register_need Before rs1) (by_when d.when (register_need After rd) (register_need Before rs1)) 1 (either_list {A = Premise} (absorbs (register_form op) (word imm)) [] (register_need Before rs1) 1 (lit≤ tt) (one_need Before rs1)) (either_moment d.when (register_need After rd) (register_need Before rs1) 1 (one_need After rd) (one_need Before rs1)))
few_needs_of (Op op rd rs1 rs2) s d = wider _ 2 10 (lit≤ tt) (either_list (d.rule == 7) (result_needs op rs1 rs2 s) (if d.rule == 18 then copy_needs d.when rd (copied_register op rs1 rs2) else register_need After rd ++ register_need Before (other_register d.cell rs1 rs2)) 2
    (two_results op rs1 rs2 s)
    (either_list (d.rule == 18) (copy_needs d.when rd (copied_register op rs1 rs2)) (register_need After rd ++ register_need Before (other_register d.cell rs1 rs2)) 2 (wider _ 1 2 (lit≤ tt) (either_moment d.when (register_need After rd) (source_need (copied_register op rs1 rs2)) 1 (one_need After rd) (one_source (copied_register op rs1 rs2)))) (joined (register_need After rd) (register_need Before (other_register d.cell rs1 rs2)) 1 1 (one_need After rd) (one_need Before (other_register d.cell rs1 rs2)))))
few_needs_of (Branch op rs1 rs2 imm) s d = wider _ 1 10 (lit≤ tt) (one_need Before _)
few_needs_of (Load op rd rs1 imm) s d = wider _ 5 10 (lit≤ tt) (either_moment d.when (register_need After rd ++ register_need Before rs1) (register_need Before rs1 ++ known_byte_needs Before _ imm (load_width op)) 5
    (wider _ 2 5 (lit≤ tt) (joined (register_need After rd) (register_need Before rs1) 1 1 (one_need After rd) (one_need Before rs1)))
    (joined (register_need Before rs1) (known_byte_needs Before _ imm (load_width op)) 1 4 (one_need Before rs1) (four_byte_needs Before _ imm (load_width op) (few_load op))))
few_needs_of (Store op rs1 rs2 imm) s d = wider _ 5 10 (lit≤ tt) (either_moment d.when (register_need Before rs1 ++ known_byte_needs After _ imm 4) (both_needs rs1 rs2) 5
    (joined (register_need Before rs1) (known_byte_needs After _ imm 4) 1 4 (one_need Before rs1) (four_byte_needs After _ imm 4 (lit≤ tt)))
    (wider _ 2 5 (lit≤ tt) (two_needs rs1 rs2)))
few_needs_of (Lui rd imm) s d = lit≤ tt
few_needs_of (Auipc rd imm) s d = lit≤ tt
few_needs_of (Jal rd imm) s d = lit≤ tt
few_needs_of (Jalr rd rs1 imm) s d = lit≤ tt
few_needs_of (Amo op rd rs1 rs2) s d = lit≤ tt
few_needs_of Fence s d = lit≤ tt
few_needs_of Ecall s d = lit≤ tt
few_needs_of Ebreak s d = lit≤ tt
few_needs_of (Counter rd csr) s d = lit≤ tt

pub few_places_of : (instr : Instr) → places_of instr ≤ 8
few_places_of (Load op rd rs1 imm) = wider _ 4 8 (lit≤ tt) (few_load op)
few_places_of (Store op rs1 rs2 imm) = wider _ 4 8 (lit≤ tt) (few_store op)
few_places_of _ = lit≤ tt
