-- The list of a row's conclusions has exactly those of the relation.
use Rattle.std.proofs.Common.{◌≡◌, ℕ, true, false, inl, inr, refl, sym, ap, subst, ◌∙◌, Bool, if◌then◌else◌, Option, Some, None, List, [], ◌++◌, ℤ}
use Rattle.std.specs.List.{Contains}
use Rattle.std.proofs.lemmas.List.Elements.{Contains-append_left, Contains-append_right, Contains-append_cases}
use Rattle.rept_isa.specs.declared.instr.Instr.{Instr}
use Rattle.rept_isa.specs.declared.instr.Instr.TheVariants.{Lui, Auipc, Jal, Jalr, Branch, Load, Store, Imm, Op, Amo, Fence, Ecall, Ebreak, Counter}
use Rattle.rept_isa.specs.declared.instr.BranchOp.{BranchOp}
use Rattle.rept_isa.specs.declared.instr.LoadOp.{LoadOp}
use Rattle.rept_isa.specs.declared.instr.StoreOp.{StoreOp}
use Rattle.rept_isa.specs.declared.instr.StoreOp.TheVariants.{Sb, Sh, Sw}
use Rattle.rept_isa.specs.declared.row.StepRow.{StepRow}
use Rattle.rept_isa.specs.Numbers.{plus}
use Rattle.rept_isa.specs.Operands.{written_by, turn_of, unless_zero}
use Rattle.rept_partial.specs.declared.flat.Flat.{Flat}
use Rattle.rept_partial.specs.declared.flat.Flat.TheVariants.{Unknown, Known}
use Rattle.rept_machine.specs.Arithmetic.{loaded, word_at, store_width}
use Rattle.rept_reason.specs.declared.view.inferred.When.TheVariants.{Before, After}
use Rattle.rept_reason.specs.declared.view.inferred.Conclusion.{Conclusion}
use Rattle.rept_reason.specs.View.Seen.{Seen}
use Rattle.rept_rules.specs.declared.operand.Side.{Side}
use Rattle.rept_rules.specs.declared.operand.Side.TheVariants.{First, Second}
use Rattle.rept_rules.specs.Operands.{copied, operand_of, opposite, solve_of}
use Rattle.rept_rules.specs.Conclusions.{ConcludesByRow, IsOnRegister, IsKnown, AreKnown, on_register, on_byte, seen_operand, load_width, solving_rule, equates}
use Rattle.rept_rules.specs.Conclusions as rules
use Rattle.rept_rules.specs.Listing.{register_inferred, some_inferred, known_bytes_inferred, word_from, loaded_from, at_known, known_at, known_after, result_inferred, solve_known, by_rule, solved_inferred, both_inferred, copied_between, copy_inferred, operation_inferred, load_inferred, store_back_inferred, store_inferred, others_inferred, conclusions}
use Rattle.rept_rules.specs.Laws.ValueLemmas.{no_some, destination}
use Rattle.rept_rules.specs.Laws.SolveLemmas.{unknown}
use Rattle.rept_rules.specs.Laws.ListLemmas.{nothing, flat_some, some_flat, in_register, register_in, in_some, some_in, in_known_bytes, known_bytes_in, at_known_is, known_after_is, is_known_after, memory_of, word_is, loaded_is, word_there, loaded_there}

-- ---- from the list to the relation

result_listed : (row : StepRow) (s : Seen) (d : Conclusion) → Contains (result_inferred row s) d → ConcludesByRow row s d
result_listed row s d has = let i = in_some 7 After (written_by row.instr) _ d has in rules.result i.0 i.1 i.2 i.3 i.4

solve_known_is : (instr : Instr) (side : Side) (x other : Flat) (w : ℕ) → solve_known instr side x other ≡ Known w → (v : ℕ) × (x ≡ Known v) × (solve_of instr side v other ≡ Known w)
solve_known_is instr side Unknown other w e = absurd (unknown e)
solve_known_is instr side (Known v) other w e = (v, refl, e)

by_rule_is : (rule r : Option ℕ) (x : Flat) (d : Conclusion) → Contains (by_rule rule r x) d → (n : ℕ) × (rule ≡ Some n) × Contains (some_inferred n Before r x) d
by_rule_is None r x d has = absurd (nothing d has)
by_rule_is (Some n) r x d has = (n, refl, has)

solved_listed : (row : StepRow) (side : Side) (s : Seen) (d : Conclusion) → Contains (solved_inferred row.instr side s) d → ConcludesByRow row s d
solved_listed row side s d has =
    let b = by_rule_is (solving_rule row.instr) (operand_of row.instr side) _ d has in
    let i = in_some b.0 Before (operand_of row.instr side) _ d b.2 in
    let k = solve_known_is row.instr side (known_after s (written_by row.instr)) (seen_operand s (operand_of row.instr (opposite side))) i.1 i.3 in
    let a = known_after_is s (written_by row.instr) k.0 k.1 in
    rules.solved b.0 a.0 i.0 k.0 i.1 side b.1 a.1 i.2 a.2 k.2 i.4

copied_listed : (row : StepRow) (rd source : Option ℕ) (s : Seen) (d : Conclusion) → written_by row.instr ≡ rd → copied row.instr ≡ source → Contains (copied_between rd source s) d → ConcludesByRow row s d
copied_listed row None source s d e f has = absurd (nothing d has)
copied_listed row (Some rd) None s d e f has = absurd (nothing d has)
copied_listed row (Some rd) (Some source) s d e f has = elim (Contains-append_cases (register_inferred 18 After rd (known_at s Before source)) (register_inferred 18 Before source (known_at s After rd)) d has) [
  | inl h ↦ let i = in_register 18 After rd (known_at s Before source) d h in rules.copy rd source i.0 e f (flat_some (s.register Before source) i.0 i.1) i.2
  | inr h ↦ let i = in_register 18 Before source (known_at s After rd) d h in rules.copy_back rd source i.0 e f (flat_some (s.register After rd) i.0 i.1) i.2
]

operation_listed : (row : StepRow) (s : Seen) (d : Conclusion) → Contains (operation_inferred row.instr s) d → ConcludesByRow row s d
operation_listed row s d has = elim (Contains-append_cases (solved_inferred row.instr First s ++ solved_inferred row.instr Second s) (copy_inferred row.instr s) d has) [
  | inl h ↦ elim (Contains-append_cases (solved_inferred row.instr First s) (solved_inferred row.instr Second s) d h) [
    | inl g ↦ solved_listed row First s d g
    | inr g ↦ solved_listed row Second s d g
  ]
  | inr h ↦ copied_listed row (written_by row.instr) (copied row.instr) s d refl refl h
]

load_listed : (row : StepRow) (op : LoadOp) (rd rs1 : ℕ) (imm : ℤ) (s : Seen) (d : Conclusion) → row.instr ≡ Load op rd rs1 imm → Contains (load_inferred op rd rs1 imm s) d → ConcludesByRow row s d
load_listed row op rd rs1 imm s d is has = elim (Contains-append_cases (register_inferred 8 After rd (at_known (known_at s Before rs1) imm (loaded_from op (s.byte Before)))) (known_bytes_inferred 15 Before (known_at s Before rs1) imm (known_after s (unless_zero rd)) (load_width op)) d has) [
  | inl h ↦
      let i = in_register 8 After rd _ d h in
      let a = at_known_is (known_at s Before rs1) imm (loaded_from op (s.byte Before)) i.0 i.1 in
      let l = loaded_is op (s.byte Before) (plus a.0 imm) i.0 a.2 in
      rules.load op rd rs1 imm a.0 (memory_of (s.byte Before)) is (flat_some (s.register Before rs1) a.0 a.1) l.0 (subst (λ (v : ℕ). IsOnRegister d 8 After rd v) l.1 i.2)
  | inr h ↦
      let i = in_known_bytes 15 Before (known_at s Before rs1) imm (known_after s (unless_zero rd)) (load_width op) d h in
      let a = known_after_is s (unless_zero rd) i.1 i.4 in
      let same = (destination rd a.0 a.1).0 in
      rules.load_back op rd rs1 imm i.0 i.1 i.2 is (ap written_by is ∙ a.1 ∙ ap Some (sym same)) (flat_some (s.register Before rs1) i.0 i.3) (ap (s.register After) same ∙ a.2) i.5 i.6
]

store_back_listed : (row : StepRow) (op : StoreOp) (rs1 rs2 : ℕ) (imm : ℤ) (s : Seen) (d : Conclusion) → row.instr ≡ Store op rs1 rs2 imm → Contains (store_back_inferred op (known_at s Before rs1) rs2 imm s) d → ConcludesByRow row s d
store_back_listed row Sb rs1 rs2 imm s d is has = absurd (nothing d has)
store_back_listed row Sh rs1 rs2 imm s d is has = absurd (nothing d has)
store_back_listed row Sw rs1 rs2 imm s d is has =
    let i = in_register 16 Before rs2 _ d has in
    let a = at_known_is (known_at s Before rs1) imm (word_from (s.byte After)) i.0 i.1 in
    let w = word_is (s.byte After) (plus a.0 imm) i.0 a.2 in
    rules.store_back rs1 rs2 imm a.0 (memory_of (s.byte After)) is (flat_some (s.register Before rs1) a.0 a.1) w.0 (subst (λ (v : ℕ). IsOnRegister d 16 Before rs2 v) w.1 i.2)

store_listed : (row : StepRow) (op : StoreOp) (rs1 rs2 : ℕ) (imm : ℤ) (s : Seen) (d : Conclusion) → row.instr ≡ Store op rs1 rs2 imm → Contains (store_inferred op rs1 rs2 imm s) d → ConcludesByRow row s d
store_listed row op rs1 rs2 imm s d is has = elim (Contains-append_cases (known_bytes_inferred 9 After (known_at s Before rs1) imm (known_at s Before rs2) (store_width op)) (store_back_inferred op (known_at s Before rs1) rs2 imm s) d has) [
  | inl h ↦
      let i = in_known_bytes 9 After (known_at s Before rs1) imm (known_at s Before rs2) (store_width op) d h in
      rules.store op rs1 rs2 imm i.0 i.1 i.2 is (flat_some (s.register Before rs1) i.0 i.3) (flat_some (s.register Before rs2) i.1 i.4) i.5 i.6
  | inr h ↦ store_back_listed row op rs1 rs2 imm s d is h
]

abbrev if_equal : Bool → ℕ → ℕ → Seen → List Conclusion
if_equal b rs1 rs2 s = if b then register_inferred 14 Before rs2 (known_at s Before rs1) ++ register_inferred 14 Before rs1 (known_at s Before rs2) else []

branch_listed : (row : StepRow) (op : BranchOp) (rs1 rs2 : ℕ) (imm : ℤ) (s : Seen) (d : Conclusion) (b : Bool) → row.instr ≡ Branch op rs1 rs2 imm → equates op (turn_of row) ≡ b → Contains (if_equal b rs1 rs2 s) d → ConcludesByRow row s d
branch_listed row op rs1 rs2 imm s d false is way has = absurd (nothing d has)
branch_listed row op rs1 rs2 imm s d true is way has = elim (Contains-append_cases (register_inferred 14 Before rs2 (known_at s Before rs1)) (register_inferred 14 Before rs1 (known_at s Before rs2)) d has) [
  | inl h ↦ let i = in_register 14 Before rs2 (known_at s Before rs1) d h in rules.equal_second op rs1 rs2 imm i.0 is way (flat_some (s.register Before rs1) i.0 i.1) i.2
  | inr h ↦ let i = in_register 14 Before rs1 (known_at s Before rs2) d h in rules.equal_first op rs1 rs2 imm i.0 is way (flat_some (s.register Before rs2) i.0 i.1) i.2
]

others_listed : (instr : Instr) (row : StepRow) (s : Seen) (d : Conclusion) → row.instr ≡ instr → Contains (others_inferred instr (turn_of row) s) d → ConcludesByRow row s d
others_listed (Load op rd rs1 imm) row s d is has = load_listed row op rd rs1 imm s d is has
others_listed (Store op rs1 rs2 imm) row s d is has = store_listed row op rs1 rs2 imm s d is has
others_listed (Imm op rd rs1 imm) row s d is has = operation_listed row s d (subst (λ (i : Instr). Contains (operation_inferred i s) d) (sym is) has)
others_listed (Op op rd rs1 rs2) row s d is has = operation_listed row s d (subst (λ (i : Instr). Contains (operation_inferred i s) d) (sym is) has)
others_listed (Branch op rs1 rs2 imm) row s d is has = branch_listed row op rs1 rs2 imm s d (equates op (turn_of row)) is refl has
others_listed (Lui rd imm) row s d is has = absurd (nothing d has)
others_listed (Auipc rd imm) row s d is has = absurd (nothing d has)
others_listed (Jal rd imm) row s d is has = absurd (nothing d has)
others_listed (Jalr rd rs1 imm) row s d is has = absurd (nothing d has)
others_listed (Amo op rd rs1 rs2) row s d is has = absurd (nothing d has)
others_listed Fence row s d is has = absurd (nothing d has)
others_listed Ecall row s d is has = absurd (nothing d has)
others_listed Ebreak row s d is has = absurd (nothing d has)
others_listed (Counter rd csr) row s d is has = absurd (nothing d has)

-- each listed conclusion is one
pub listed : (row : StepRow) (s : Seen) (d : Conclusion) → Contains (conclusions row s) d → ConcludesByRow row s d
listed row s d has = elim (Contains-append_cases (result_inferred row s) (others_inferred row.instr (turn_of row) s) d has) [
  | inl h ↦ result_listed row s d h
  | inr h ↦ others_listed row.instr row s d refl h
]

-- ---- from the relation to the list

others_in : (row : StepRow) (instr : Instr) (s : Seen) (d : Conclusion) → row.instr ≡ instr → Contains (others_inferred instr (turn_of row) s) d → Contains (conclusions row s) d
others_in row instr s d is has = Contains-append_right (result_inferred row s) (others_inferred row.instr (turn_of row) s) d (subst (λ (i : Instr). Contains (others_inferred i (turn_of row) s) d) (sym is) has)

-- the rules of operations belong to operations
operation_in : (row : StepRow) (instr : Instr) (s : Seen) (d : Conclusion) (rule : ℕ) → row.instr ≡ instr → solving_rule instr ≡ Some rule → Contains (operation_inferred instr s) d → Contains (conclusions row s) d
operation_in row (Imm op rd rs1 imm) s d rule is by has = others_in row (Imm op rd rs1 imm) s d is has
operation_in row (Op op rd rs1 rs2) s d rule is by has = others_in row (Op op rd rs1 rs2) s d is has
operation_in row _ s d rule is by has = absurd (no_some by)

copy_in : (row : StepRow) (instr : Instr) (s : Seen) (d : Conclusion) (source : ℕ) → row.instr ≡ instr → copied instr ≡ Some source → Contains (operation_inferred instr s) d → Contains (conclusions row s) d
copy_in row (Imm op rd rs1 imm) s d source is by has = others_in row (Imm op rd rs1 imm) s d is has
copy_in row (Op op rd rs1 rs2) s d source is by has = others_in row (Op op rd rs1 rs2) s d is has
copy_in row _ s d source is by has = absurd (no_some by)

by_rule_in : (rule : Option ℕ) (n : ℕ) (r : Option ℕ) (x : Flat) (d : Conclusion) → rule ≡ Some n → Contains (some_inferred n Before r x) d → Contains (by_rule rule r x) d
by_rule_in rule n r x d e has = subst (λ (o : Option ℕ). Contains (by_rule o r x) d) (sym e) has

solved_in : (row : StepRow) (side : Side) (s : Seen) (d : Conclusion) → Contains (solved_inferred row.instr side s) d → Contains (operation_inferred row.instr s) d
solved_in row First s d has = Contains-append_left (solved_inferred row.instr First s ++ solved_inferred row.instr Second s) (copy_inferred row.instr s) d (Contains-append_left (solved_inferred row.instr First s) (solved_inferred row.instr Second s) d has)
solved_in row Second s d has = Contains-append_left (solved_inferred row.instr First s ++ solved_inferred row.instr Second s) (copy_inferred row.instr s) d (Contains-append_right (solved_inferred row.instr First s) (solved_inferred row.instr Second s) d has)

copied_in : (row : StepRow) (rd source : ℕ) (s : Seen) (d : Conclusion) → written_by row.instr ≡ Some rd → copied row.instr ≡ Some source → Contains (both_inferred rd source s) d → Contains (operation_inferred row.instr s) d
copied_in row rd source s d e f has =
    Contains-append_right (solved_inferred row.instr First s ++ solved_inferred row.instr Second s) (copy_inferred row.instr s) d
    (subst (λ (o : Option ℕ). Contains (copied_between o (copied row.instr) s) d) (sym e) (subst (λ (o : Option ℕ). Contains (copied_between (Some rd) o s) d) (sym f) has))

-- each conclusion is listed
pub concluded : (row : StepRow) (s : Seen) (d : Conclusion) → ConcludesByRow row s d → Contains (conclusions row s) d
concluded row s d (rules.result rd v named value says) = Contains-append_left (result_inferred row s) (others_inferred row.instr (turn_of row) s) d (some_in 7 After rd v (written_by row.instr) _ d named value says)
concluded row s d (rules.load op rd rs1 imm b memory is base bytes says) =
    others_in row (Load op rd rs1 imm) s d is (Contains-append_left (register_inferred 8 After rd (at_known (known_at s Before rs1) imm (loaded_from op (s.byte Before)))) (known_bytes_inferred 15 Before (known_at s Before rs1) imm (known_after s (unless_zero rd)) (load_width op)) d
    (register_in 8 After rd (loaded op memory (plus b imm)) _ d (ap (λ (x : Flat). at_known x imm (loaded_from op (s.byte Before))) (some_flat (s.register Before rs1) b base) ∙ loaded_there op (s.byte Before) (plus b imm) memory bytes) says))
concluded row s d (rules.store op rs1 rs2 imm b v k is base value below e) =
    others_in row (Store op rs1 rs2 imm) s d is (Contains-append_left (known_bytes_inferred 9 After (known_at s Before rs1) imm (known_at s Before rs2) (store_width op)) (store_back_inferred op (known_at s Before rs1) rs2 imm s) d
    (known_bytes_in 9 After (known_at s Before rs1) imm (known_at s Before rs2) (store_width op) b v k d (some_flat (s.register Before rs1) b base) (some_flat (s.register Before rs2) v value) below e))
concluded row s d (rules.solved rule rd r v w side by named read value solved says) =
    operation_in row row.instr s d rule refl by (solved_in row side s d (by_rule_in (solving_rule row.instr) rule (operand_of row.instr side) _ d by
    (some_in rule Before r w (operand_of row.instr side) _ d read (ap (λ (x : Flat). solve_known row.instr side x (seen_operand s (operand_of row.instr (opposite side)))) (is_known_after s (written_by row.instr) rd v named value) ∙ solved) says)))
concluded row s d (rules.equal_second op rs1 rs2 imm v is way value says) =
    others_in row (Branch op rs1 rs2 imm) s d is (subst (λ (b : Bool). Contains (if_equal b rs1 rs2 s) d) (sym way) (Contains-append_left (register_inferred 14 Before rs2 (known_at s Before rs1)) (register_inferred 14 Before rs1 (known_at s Before rs2)) d (register_in 14 Before rs2 v (known_at s Before rs1) d (some_flat (s.register Before rs1) v value) says)))
concluded row s d (rules.equal_first op rs1 rs2 imm v is way value says) =
    others_in row (Branch op rs1 rs2 imm) s d is (subst (λ (b : Bool). Contains (if_equal b rs1 rs2 s) d) (sym way) (Contains-append_right (register_inferred 14 Before rs2 (known_at s Before rs1)) (register_inferred 14 Before rs1 (known_at s Before rs2)) d (register_in 14 Before rs1 v (known_at s Before rs2) d (some_flat (s.register Before rs2) v value) says)))
concluded row s d (rules.load_back op rd rs1 imm b v k is named base value below e) =
    others_in row (Load op rd rs1 imm) s d is (Contains-append_right (register_inferred 8 After rd (at_known (known_at s Before rs1) imm (loaded_from op (s.byte Before)))) (known_bytes_inferred 15 Before (known_at s Before rs1) imm (known_after s (unless_zero rd)) (load_width op)) d
    (known_bytes_in 15 Before (known_at s Before rs1) imm (known_after s (unless_zero rd)) (load_width op) b v k d (some_flat (s.register Before rs1) b base) (is_known_after s (unless_zero rd) rd v (sym (ap written_by is) ∙ named) value) below e))
concluded row s d (rules.store_back rs1 rs2 imm b memory is base bytes says) =
    others_in row (Store Sw rs1 rs2 imm) s d is (Contains-append_right (known_bytes_inferred 9 After (known_at s Before rs1) imm (known_at s Before rs2) 4) (store_back_inferred Sw (known_at s Before rs1) rs2 imm s) d
    (register_in 16 Before rs2 (word_at memory (plus b imm)) _ d (ap (λ (x : Flat). at_known x imm (word_from (s.byte After))) (some_flat (s.register Before rs1) b base) ∙ word_there (s.byte After) (plus b imm) memory bytes) says))
concluded row s d (rules.copy rd source v named from value says) =
    copy_in row row.instr s d source refl from (copied_in row rd source s d named from (Contains-append_left (register_inferred 18 After rd (known_at s Before source)) (register_inferred 18 Before source (known_at s After rd)) d (register_in 18 After rd v (known_at s Before source) d (some_flat (s.register Before source) v value) says)))
concluded row s d (rules.copy_back rd source v named from value says) =
    copy_in row row.instr s d source refl from (copied_in row rd source s d named from (Contains-append_right (register_inferred 18 After rd (known_at s Before source)) (register_inferred 18 Before source (known_at s After rd)) d (register_in 18 Before source v (known_at s After rd) d (some_flat (s.register After rd) v value) says)))
