-- What a conclusion rests on is known, and is enough.
use Rattle.std.proofs.Common.{◌≡◌, ◌≢◌, ℕ, zero, suc, ◌<◌, ◌≤◌, ◌^◌, ◌⊎◌, true, false, inl, inr, refl, sym, ap, subst, ◌∙◌, Bool, if◌then◌else◌, arith, Option, Some, None, List, [], ◌∷◌, ◌++◌, ℤ, ◌==◌, lit<, lit≤}
use Rattle.std.specs.List.{Contains}
use Rattle.std.proofs.lemmas.List.Elements.{Contains-append_left, Contains-append_right, Contains-append_cases}
use Rattle.std.proofs.lemmas.Bool.{cases_order}
use Rattle.rept_isa.specs.declared.instr.Instr.{Instr}
use Rattle.rept_isa.specs.declared.instr.Instr.TheVariants.{Lui, Auipc, Jal, Jalr, Branch, Load, Store, Imm, Op, Amo, Fence, Ecall, Ebreak, Counter}
use Rattle.rept_isa.specs.declared.instr.LoadOp.{LoadOp}
use Rattle.rept_isa.specs.declared.instr.LoadOp.TheVariants.{Lb, Lh, Lw, Lbu, Lhu}
use Rattle.rept_isa.specs.declared.instr.StoreOp.{StoreOp}
use Rattle.rept_isa.specs.declared.instr.StoreOp.TheVariants.{Sw}
use Rattle.rept_isa.specs.declared.instr.ImmOp.{ImmOp}
use Rattle.rept_isa.specs.declared.instr.RegOp.{RegOp}
use Rattle.rept_isa.specs.declared.instr.RegOp.TheVariants.{Add, Sub, Xor, Mul}
use Rattle.rept_isa.specs.declared.row.StepRow.{StepRow}
use Rattle.rept_isa.specs.Numbers.{plus, word, beside}
use Rattle.rept_isa.specs.Operands.{written_by, first_read, second_read}
use Rattle.rept_isa.specs.Rows.{from_of}
use Rattle.rept_partial.specs.declared.flat.Flat.{Flat}
use Rattle.rept_partial.specs.declared.flat.Flat.TheVariants.{Unknown, Known}
use Rattle.rept_machine.specs.Arithmetic.{register_form}
use Rattle.rept_reason.specs.declared.fact.Cell.{Cell}
use Rattle.rept_reason.specs.declared.fact.Cell.TheVariants.{Register, Byte}
use Rattle.rept_reason.specs.Facts.{flat}
use Rattle.rept_reason.specs.declared.view.inferred.When.{When}
use Rattle.rept_reason.specs.declared.view.inferred.When.TheVariants.{Before, After}
use Rattle.rept_reason.specs.declared.view.inferred.Conclusion.{Conclusion}
use Rattle.rept_reason.specs.declared.view.inferred.Premise.{Premise}
use Rattle.rept_reason.specs.View.Seen.{Seen, IsLawful, seen_cell}
use Rattle.rept_reason.specs.View.Rules.{IsRowCell, IsRowByte, offset_of}
use Rattle.rept_rules.specs.declared.operand.Side.{Side}
use Rattle.rept_rules.specs.declared.operand.Side.TheVariants.{First, Second}
use Rattle.rept_rules.specs.Results.{operand, absorbs, cancels, result_of, forward_of}
use Rattle.rept_rules.specs.Operands.{solved, solved_by, copied, copied_register, operand_of, opposite, on, solve_of, registers_solved, is_neutral}
use Rattle.rept_rules.specs.Conclusions.{ConcludesByRow, IsOnRegister, IsKnown, AreKnown, on_register, on_byte, seen_operand, load_width, operation_rule, solving_rule, equates}
use Rattle.rept_rules.specs.Conclusions as rules
use Rattle.rept_rules.specs.Listing.{known_at}
use Rattle.rept_rules.specs.Needs.{register_need, both_needs, byte_needs, known_byte_needs, decides, result_needs, other_register, source_need, immediate_needs, copy_needs, operation_needs, load_needs, store_needs, needs_of}
use Rattle.rept_rules.specs.MayWrite.{places_of}
use Rattle.rept_rules.specs.Base.{base_rules}
use Rattle.rept_rules.specs.Laws.ValueLemmas.{either_way, true≢false, same_some, no_some, equal, over_zero, destination, decides_first, decides_second}
use Rattle.rept_rules.specs.Laws.SolveLemmas.{unknown}
use Rattle.rept_rules.specs.Laws.ListLemmas.{nothing, single, has_single, flat_some}
use Rattle.rept_rules.specs.Laws.Own.{copied_read}

abbrev pub need : When → Cell → Premise
need when cell = record { when = when; cell = cell }

-- ---- what stands in the lists

pub in_need : (when : When) (r : ℕ) (n : Premise) → Contains (register_need when r) n → (r ≢ 0) × (n ≡ need when (Register r))
in_need when zero n has = absurd (nothing n has)
in_need when (suc r) n has = (λ e. omega (arith, e), single (need when (Register (suc r))) n (subst (λ (b : Bool). Contains (if b then [] else need when (Register (suc r)) ∷ []) n) (over_zero r) has))

pub need_in : (when : When) (r : ℕ) → r ≢ 0 → Contains (register_need when r) (need when (Register r))
need_in when zero named = absurd (named refl)
need_in when (suc r) named = subst (λ (b : Bool). Contains (if b then [] else need when (Register (suc r)) ∷ []) (need when (Register (suc r)))) (sym (over_zero r)) (has_single (need when (Register (suc r))) _ refl)

pub in_byte_needs : (when : When) (base width : ℕ) (n : Premise) → Contains (byte_needs when base width) n → (k : ℕ) × (k < width) × (n ≡ need when (Byte (beside base k)))
in_byte_needs when base zero n has = absurd (nothing n has)
in_byte_needs when base (suc w) n has = elim (Contains-append_cases (byte_needs when base w) (need when (Byte (beside base w)) ∷ []) n has) [
  | inl h ↦ let i = in_byte_needs when base w n h in (i.0, omega (arith, i.1), i.2)
  | inr h ↦ (w, omega arith, single (need when (Byte (beside base w))) n h)
]

pub byte_needs_in : (when : When) (base width k : ℕ) → k < width → Contains (byte_needs when base width) (need when (Byte (beside base k)))
byte_needs_in when base zero k below = absurd (omega (arith, below))
byte_needs_in when base (suc w) k below = elim (cases_order k w) [
  | inl e ↦ Contains-append_right (byte_needs when base w) (need when (Byte (beside base w)) ∷ []) _ (has_single (need when (Byte (beside base w))) _ (ap (λ (i : ℕ). need when (Byte (beside base i))) e))
  | inr (inl l) ↦ Contains-append_left (byte_needs when base w) (need when (Byte (beside base w)) ∷ []) _ (byte_needs_in when base w k l)
  | inr (inr g) ↦ absurd (omega (arith, below, g))
]

-- ---- two views agree on a list

abbrev pub Agree : Seen → Seen → List Premise → Type 0
Agree s t ns = (n : Premise) → Contains ns n → seen_cell t n.when n.cell ≡ seen_cell s n.when n.cell

pub agree_left : (s t : Seen) (xs ys : List Premise) → Agree s t (xs ++ ys) → Agree s t xs
agree_left s t xs ys h n has = h n (Contains-append_left xs ys n has)

pub agree_right : (s t : Seen) (xs ys : List Premise) → Agree s t (xs ++ ys) → Agree s t ys
agree_right s t xs ys h n has = h n (Contains-append_right xs ys n has)

pub agree_register : (s t : Seen) (when : When) (r : ℕ) → IsLawful s → IsLawful t → Agree s t (register_need when r) → t.register when r ≡ s.register when r
agree_register s t when zero ls lt h = lt.zero_known when ∙ sym (ls.zero_known when)
agree_register s t when (suc r) ls lt h = h (need when (Register (suc r))) (need_in when (suc r) (λ e. omega (arith, e)))

pub agree_byte : (s t : Seen) (when : When) (base width k : ℕ) → k < width → Agree s t (byte_needs when base width) → t.byte when (beside base k) ≡ s.byte when (beside base k)
agree_byte s t when base width k below h = h (need when (Byte (beside base k))) (byte_needs_in when base width k below)

pub agree_first : (s t : Seen) (r q : ℕ) → IsLawful s → IsLawful t → Agree s t (both_needs r q) → t.register Before r ≡ s.register Before r
agree_first s t r q ls lt h = elim (either_way (r == q)) [
  | inl u ↦ agree_register s t Before r ls lt (subst (λ (b : Bool). Agree s t (if b then register_need Before r else register_need Before r ++ register_need Before q)) u h)
  | inr f ↦ agree_register s t Before r ls lt (agree_left s t (register_need Before r) (register_need Before q) (subst (λ (b : Bool). Agree s t (if b then register_need Before r else register_need Before r ++ register_need Before q)) f h))
]

pub agree_second : (s t : Seen) (r q : ℕ) → IsLawful s → IsLawful t → Agree s t (both_needs r q) → t.register Before q ≡ s.register Before q
agree_second s t r q ls lt h = elim (either_way (r == q)) [
  | inl u ↦ subst (λ (x : ℕ). t.register Before x ≡ s.register Before x) (equal r q u) (agree_first s t r q ls lt h)
  | inr f ↦ agree_register s t Before q ls lt (agree_right s t (register_need Before r) (register_need Before q) (subst (λ (b : Bool). Agree s t (if b then register_need Before r else register_need Before r ++ register_need Before q)) f h))
]

-- ---- what is needed is the row's and known

pub record IsGoodRow (row : StepRow) (s : Seen) (n : Premise) : Type 0 where
  pub own : IsRowCell base_rules row s n.when n.cell
  pub value : ℕ
  pub is_known : seen_cell s n.when n.cell ≡ Some value

abbrev pub AreGood : StepRow → Seen → List Premise → Type 0
AreGood row s ns = (n : Premise) → Contains ns n → IsGoodRow row s n

good_none : (row : StepRow) (s : Seen) → AreGood row s []
good_none row s n has = absurd (nothing n has)

good_both : (row : StepRow) (s : Seen) (xs ys : List Premise) → AreGood row s xs → AreGood row s ys → AreGood row s (xs ++ ys)
good_both row s xs ys f g n has = elim (Contains-append_cases xs ys n has) [ inl h ↦ f n h | inr h ↦ g n h ]

good_register : (row : StepRow) (s : Seen) (when : When) (r : ℕ) → IsRowCell base_rules row s when (Register r) → (r ≢ 0 → (v : ℕ) × (s.register when r ≡ Some v)) → AreGood row s (register_need when r)
good_register row s when r own value n has =
    let i = in_need when r n has in
    let v = value i.0 in
    subst (λ (m : Premise). IsGoodRow row s m) (sym i.1) (record { own = own; value = v.0; is_known = v.1 })

good_pair : (row : StepRow) (s : Seen) (r q : ℕ) → AreGood row s (register_need Before r) → AreGood row s (register_need Before q) → AreGood row s (both_needs r q)
good_pair row s r q f g = elim (either_way (r == q)) [
  | inl u ↦ subst (λ (b : Bool). AreGood row s (if b then register_need Before r else register_need Before r ++ register_need Before q)) (sym u) f
  | inr h ↦ subst (λ (b : Bool). AreGood row s (if b then register_need Before r else register_need Before r ++ register_need Before q)) (sym h) (good_both row s (register_need Before r) (register_need Before q) f g)
]

byte_at : (row : StepRow) (s : Seen) (when : When) (a : ℕ) → IsRowByte base_rules row s a → IsRowCell base_rules row s when (Byte a)
byte_at row s Before a h = h
byte_at row s After a h = h

good_bytes : (row : StepRow) (s : Seen) (when : When) (r b width : ℕ) (imm : ℤ) (memory : ℕ → ℕ) → first_read row.instr ≡ Some r → s.register Before r ≡ Some b → offset_of row.instr ≡ imm → width ≡ places_of row.instr → width ≤ 4 → AreKnown s when (plus b imm) width memory → AreGood row s (byte_needs when (plus b imm) width)
good_bytes row s when r b width imm memory read base offset places few bytes n has =
    let i = in_byte_needs when (plus b imm) width n has in
    let here : IsRowByte base_rules row s (beside (plus b imm) i.0) = record { base_register = r; base = b; k = i.0; read = read; base_known = base; below_places = subst (λ (w : ℕ). i.0 < w) places i.1; below_four = omega (arith, i.1, few); address = ap (λ (x : ℤ). beside (plus b x) i.0) (sym offset) } in
    subst (λ (m : Premise). IsGoodRow row s m) (sym i.2) (record { own = byte_at row s when _ here; value = memory (beside (plus b imm) i.0); is_known = bytes i.0 i.1 })

-- ---- rule 7

known_first : (op : RegOp) (x : Flat) (w v : ℕ) → absorbs op w ≡ false → result_of op x (Known w) ≡ Known v → (a : ℕ) × (x ≡ Known a)
known_first op (Known a) w v f e = (a, refl)
known_first op Unknown w v f e = absurd (unknown (subst (λ (b : Bool). (if b then Known w else Unknown) ≡ Known v) f e))

operand_known : (r : ℕ) (x : Flat) (a : ℕ) → r ≢ 0 → operand r x ≡ Known a → x ≡ Known a
operand_known zero x a named e = absurd (named refl)
operand_known (suc r) x a named e = subst (λ (b : Bool). (if b then Known 0 else x) ≡ Known a) (over_zero r) e

decides_known : (op : RegOp) (x : Flat) → decides op x ≡ true → (a : ℕ) × (x ≡ Known a) × (absorbs op a ≡ true)
decides_known op Unknown t = absurd (true≢false (sym t))
decides_known op (Known a) t = (a, refl, t)

both_known : (op : RegOp) (x y : Flat) (v : ℕ) → decides op x ≡ false → decides op y ≡ false → result_of op x y ≡ Known v → ((a : ℕ) × (x ≡ Known a)) × ((b : ℕ) × (y ≡ Known b))
both_known op (Known a) (Known b) v f g e = ((a, refl), (b, refl))
both_known op (Known a) Unknown v f g e = absurd (unknown (subst (λ (b : Bool). (if b then Known a else Unknown) ≡ Known v) f e))
both_known op Unknown (Known b) v f g e = absurd (unknown (subst (λ (c : Bool). (if c then Known b else Unknown) ≡ Known v) g e))
both_known op Unknown Unknown v f g e = absurd (unknown e)

-- the operand is known where the register isn't x0
operand_value : (s : Seen) (r a : ℕ) → operand r (known_at s Before r) ≡ Known a → r ≢ 0 → (v : ℕ) × (s.register Before r ≡ Some v)
operand_value s r a e named = (a, flat_some (s.register Before r) a (operand_known r (known_at s Before r) a named e))

abbrev choose_needs : Bool → Bool → Bool → ℕ → ℕ → List Premise
choose_needs c f g rs1 rs2 = if c then [] else if f then register_need Before rs1 else if g then register_need Before rs2 else both_needs rs1 rs2

abbrev first_of : Seen → ℕ → Flat
first_of s r = operand r (known_at s Before r)

good_choice : (row : StepRow) (s : Seen) (op : RegOp) (rs1 rs2 v : ℕ) (c f g : Bool) → IsRowCell base_rules row s Before (Register rs1) → IsRowCell base_rules row s Before (Register rs2) → decides op (first_of s rs1) ≡ f → decides op (first_of s rs2) ≡ g → (if c then Known 0 else result_of op (first_of s rs1) (first_of s rs2)) ≡ Known v → AreGood row s (choose_needs c f g rs1 rs2)
good_choice row s op rs1 rs2 v true f g own also df dg e = good_none row s
good_choice row s op rs1 rs2 v false true g own also df dg e = let k = decides_known op (first_of s rs1) df in good_register row s Before rs1 own (operand_value s rs1 k.0 k.1)
good_choice row s op rs1 rs2 v false false true own also df dg e = let k = decides_known op (first_of s rs2) dg in good_register row s Before rs2 also (operand_value s rs2 k.0 k.1)
good_choice row s op rs1 rs2 v false false false own also df dg e =
    let k = both_known op (first_of s rs1) (first_of s rs2) v df dg e in
    good_pair row s rs1 rs2 (good_register row s Before rs1 own (operand_value s rs1 k.0.0 k.0.1)) (good_register row s Before rs2 also (operand_value s rs2 k.1.0 k.1.1))

good_immediate : (row : StepRow) (s : Seen) (op : RegOp) (rs1 w v : ℕ) (b : Bool) → absorbs op w ≡ b → IsRowCell base_rules row s Before (Register rs1) → result_of op (first_of s rs1) (Known w) ≡ Known v → AreGood row s (if b then [] else register_need Before rs1)
good_immediate row s op rs1 w v true t own e = good_none row s
good_immediate row s op rs1 w v false f own e = let k = known_first op (first_of s rs1) w v f e in good_register row s Before rs1 own (operand_value s rs1 k.0 k.1)

good_result : (instr : Instr) (row : StepRow) (s : Seen) (rd v : ℕ) → row.instr ≡ instr → forward_of instr (from_of row) (seen_operand s (first_read instr)) (seen_operand s (second_read instr)) ≡ Known v → AreGood row s (needs_of instr s (on_register 7 After rd v))
good_result (Imm op n rs1 imm) row s rd v is e = good_immediate row s (register_form op) rs1 (word imm) v (absorbs (register_form op) (word imm)) refl (inl (ap first_read is)) e
good_result (Op op n rs1 rs2) row s rd v is e = good_choice row s op rs1 rs2 v (cancels op rs1 rs2) (decides op (first_of s rs1)) (decides op (first_of s rs2)) (inl (ap first_read is)) (inr (ap second_read is)) refl refl e
good_result (Lui n imm) row s rd v is e = good_none row s
good_result (Auipc n imm) row s rd v is e = good_none row s
good_result (Jal n imm) row s rd v is e = good_none row s
good_result (Jalr n rs1 imm) row s rd v is e = good_none row s
good_result (Branch op rs1 rs2 imm) row s rd v is e = absurd (unknown e)
good_result (Load op n rs1 imm) row s rd v is e = absurd (unknown e)
good_result (Store op rs1 rs2 imm) row s rd v is e = absurd (unknown e)
good_result (Amo op q rs1 rs2) row s rd v is e = absurd (unknown e)
good_result Fence row s rd v is e = absurd (unknown e)
good_result Ecall row s rd v is e = absurd (unknown e)
good_result Ebreak row s rd v is e = absurd (unknown e)
good_result (Counter n csr) row s rd v is e = absurd (unknown e)

-- a word, where it is known
abbrev IsWordOr : Flat → Type 0
IsWordOr Unknown = Unit {0}
IsWordOr (Known a) = a < 2 ^ 32

known_word : (s : Seen) (when : When) (r v : ℕ) → IsLawful s → s.register when r ≡ Some v → v < 2 ^ 32
known_word s when r v lawful e = let k = lawful.known when r v e in let small = (s.range when r).small in omega (arith, k, small)

flat_word : (x : Option ℕ) → ((v : ℕ) → x ≡ Some v → v < 2 ^ 32) → IsWordOr (flat x)
flat_word None h = tt
flat_word (Some v) h = h v refl

first_word : (s : Seen) (r : ℕ) → IsLawful s → IsWordOr (first_of s r)
first_word s zero lawful = lit< tt
first_word s (suc r) lawful = subst (λ (b : Bool). IsWordOr (if b then Known 0 else known_at s Before (suc r))) (sym (over_zero r)) (flat_word (s.register Before (suc r)) (λ v e. known_word s Before (suc r) v lawful e))

decided_second : (op : RegOp) (x : Flat) (w : ℕ) → IsWordOr x → absorbs op w ≡ true → result_of op x (Known w) ≡ Known w
decided_second op (Known a) w fits t = ap Known (decides_second op a w fits t)
decided_second op Unknown w fits t = rw t refl

decided_first : (op : RegOp) (a : ℕ) (y : Flat) → IsWordOr y → absorbs op a ≡ true → result_of op (Known a) y ≡ Known a
decided_first op a (Known b) fits t = ap Known (decides_first op a b fits t)
decided_first op a Unknown fits t = rw t refl

same_first : (s t : Seen) (r : ℕ) → t.register Before r ≡ s.register Before r → first_of t r ≡ first_of s r
same_first s t r e = ap (λ (x : Option ℕ). operand r (flat x)) e

again_choice : (s t : Seen) (op : RegOp) (rs1 rs2 v : ℕ) (c f g : Bool) → IsLawful s → IsLawful t → decides op (first_of s rs1) ≡ f → decides op (first_of s rs2) ≡ g → (if c then Known 0 else result_of op (first_of s rs1) (first_of s rs2)) ≡ Known v → Agree s t (choose_needs c f g rs1 rs2) → (if c then Known 0 else result_of op (first_of t rs1) (first_of t rs2)) ≡ Known v
again_choice s t op rs1 rs2 v true f g ls lt df dg e h = e
again_choice s t op rs1 rs2 v false true g ls lt df dg e h =
    let k = decides_known op (first_of s rs1) df in
    let here : first_of t rs1 ≡ Known k.0 = same_first s t rs1 (agree_register s t Before rs1 ls lt h) ∙ k.1 in
    let was : result_of op (Known k.0) (first_of s rs2) ≡ Known v = subst (λ (x : Flat). result_of op x (first_of s rs2) ≡ Known v) k.1 e in
    subst (λ (x : Flat). result_of op x (first_of t rs2) ≡ Known v) (sym here) (decided_first op k.0 (first_of t rs2) (first_word t rs2 lt) k.2 ∙ sym (decided_first op k.0 (first_of s rs2) (first_word s rs2 ls) k.2) ∙ was)
again_choice s t op rs1 rs2 v false false true ls lt df dg e h =
    let k = decides_known op (first_of s rs2) dg in
    let here : first_of t rs2 ≡ Known k.0 = same_first s t rs2 (agree_register s t Before rs2 ls lt h) ∙ k.1 in
    let was : result_of op (first_of s rs1) (Known k.0) ≡ Known v = subst (λ (x : Flat). result_of op (first_of s rs1) x ≡ Known v) k.1 e in
    subst (λ (x : Flat). result_of op (first_of t rs1) x ≡ Known v) (sym here) (decided_second op (first_of t rs1) k.0 (first_word t rs1 lt) k.2 ∙ sym (decided_second op (first_of s rs1) k.0 (first_word s rs1 ls) k.2) ∙ was)
again_choice s t op rs1 rs2 v false false false ls lt df dg e h =
    let p = same_first s t rs1 (agree_first s t rs1 rs2 ls lt h) in
    let q = same_first s t rs2 (agree_second s t rs1 rs2 ls lt h) in
    ap (λ (x : Flat). result_of op x (first_of t rs2)) p ∙ ap (λ (x : Flat). result_of op (first_of s rs1) x) q ∙ e

again_immediate : (s t : Seen) (op : RegOp) (rs1 w v : ℕ) (b : Bool) → absorbs op w ≡ b → IsLawful s → IsLawful t → result_of op (first_of s rs1) (Known w) ≡ Known v → Agree s t (if b then [] else register_need Before rs1) → result_of op (first_of t rs1) (Known w) ≡ Known v
again_immediate s t op rs1 w v true u ls lt e h = decided_second op (first_of t rs1) w (first_word t rs1 lt) u ∙ sym (decided_second op (first_of s rs1) w (first_word s rs1 ls) u) ∙ e
again_immediate s t op rs1 w v false f ls lt e h = ap (λ (x : Flat). result_of op x (Known w)) (same_first s t rs1 (agree_register s t Before rs1 ls lt h)) ∙ e

again_result : (instr : Instr) (row : StepRow) (s t : Seen) (rd v : ℕ) → IsLawful s → IsLawful t → forward_of instr (from_of row) (seen_operand s (first_read instr)) (seen_operand s (second_read instr)) ≡ Known v → Agree s t (needs_of instr s (on_register 7 After rd v)) → forward_of instr (from_of row) (seen_operand t (first_read instr)) (seen_operand t (second_read instr)) ≡ Known v
again_result (Imm op n rs1 imm) row s t rd v ls lt e h = again_immediate s t (register_form op) rs1 (word imm) v (absorbs (register_form op) (word imm)) refl ls lt e h
again_result (Op op n rs1 rs2) row s t rd v ls lt e h = again_choice s t op rs1 rs2 v (cancels op rs1 rs2) (decides op (first_of s rs1)) (decides op (first_of s rs2)) ls lt refl refl e h
again_result (Lui n imm) row s t rd v ls lt e h = e
again_result (Auipc n imm) row s t rd v ls lt e h = e
again_result (Jal n imm) row s t rd v ls lt e h = e
again_result (Jalr n rs1 imm) row s t rd v ls lt e h = e
again_result (Branch op rs1 rs2 imm) row s t rd v ls lt e h = e
again_result (Load op n rs1 imm) row s t rd v ls lt e h = e
again_result (Store op rs1 rs2 imm) row s t rd v ls lt e h = e
again_result (Amo op q rs1 rs2) row s t rd v ls lt e h = e
again_result Fence row s t rd v ls lt e h = e
again_result Ecall row s t rd v ls lt e h = e
again_result Ebreak row s t rd v ls lt e h = e
again_result (Counter n csr) row s t rd v ls lt e h = e

-- ---- the lists of the other rules

load_list : (row : StepRow) (s : Seen) (d : Conclusion) (op : LoadOp) (rd rs1 b v : ℕ) (imm : ℤ) → row.instr ≡ Load op rd rs1 imm → s.register Before rs1 ≡ Some b → d ≡ on_register 8 After rd v → needs_of row.instr s d ≡ register_need Before rs1 ++ byte_needs Before (plus b imm) (load_width op)
load_list row s d op rd rs1 b v imm is base e =
    ap (λ (i : Instr). needs_of i s d) is ∙ ap (λ (x : Conclusion). load_needs op rd rs1 imm s x.when) e ∙ ap (λ (x : Option ℕ). register_need Before rs1 ++ known_byte_needs Before (flat x) imm (load_width op)) base

load_back_list : (row : StepRow) (s : Seen) (d : Conclusion) (op : LoadOp) (rd rs1 base v k : ℕ) (imm : ℤ) → row.instr ≡ Load op rd rs1 imm → d ≡ on_byte 15 Before base v k → needs_of row.instr s d ≡ register_need After rd ++ register_need Before rs1
load_back_list row s d op rd rs1 base v k imm is e = ap (λ (i : Instr). needs_of i s d) is ∙ ap (λ (x : Conclusion). load_needs op rd rs1 imm s x.when) e

store_list : (row : StepRow) (s : Seen) (d : Conclusion) (op : StoreOp) (rs1 rs2 base v k : ℕ) (imm : ℤ) → row.instr ≡ Store op rs1 rs2 imm → d ≡ on_byte 9 After base v k → needs_of row.instr s d ≡ both_needs rs1 rs2
store_list row s d op rs1 rs2 base v k imm is e = ap (λ (i : Instr). needs_of i s d) is ∙ ap (λ (x : Conclusion). store_needs rs1 rs2 imm s x.when) e

store_back_list : (row : StepRow) (s : Seen) (d : Conclusion) (rs1 rs2 b v : ℕ) (imm : ℤ) → row.instr ≡ Store Sw rs1 rs2 imm → s.register Before rs1 ≡ Some b → d ≡ on_register 16 Before rs2 v → needs_of row.instr s d ≡ register_need Before rs1 ++ byte_needs After (plus b imm) 4
store_back_list row s d rs1 rs2 b v imm is base e =
    ap (λ (i : Instr). needs_of i s d) is ∙ ap (λ (x : Conclusion). store_needs rs1 rs2 imm s x.when) e ∙ ap (λ (x : Option ℕ). register_need Before rs1 ++ known_byte_needs After (flat x) imm 4) base

-- of two registers the one that the conclusion isn't on
other_is : (side : Side) (rs1 rs2 : ℕ) → other_register (Register (on side rs1 rs2)) rs1 rs2 ≡ on (opposite side) rs1 rs2
other_is First rs1 rs2 = let u : (rs1 == rs1) ≡ true = grind arith in rw u refl
other_is Second rs1 rs2 = elim (either_way (rs2 == rs1)) [
  | inl u ↦ rw u (equal rs2 rs1 u)
  | inr f ↦ rw f refl
]

branch_list : (row : StepRow) (s : Seen) (d : Conclusion) (side : Side) (op : _) (rs1 rs2 v : ℕ) (imm : ℤ) → row.instr ≡ Branch op rs1 rs2 imm → d ≡ on_register 14 Before (on side rs1 rs2) v → needs_of row.instr s d ≡ register_need Before (on (opposite side) rs1 rs2)
branch_list row s d side op rs1 rs2 v imm is e = ap (λ (i : Instr). needs_of i s d) is ∙ ap (λ (x : Conclusion). register_need Before (other_register x.cell rs1 rs2)) e ∙ ap (λ (r : ℕ). register_need Before r) (other_is side rs1 rs2)

-- the rules of operands are neither that of results nor that of copies
other_rule : (op : RegOp) (rule : ℕ) → operation_rule op ≡ Some rule → ((rule == 7) ≡ false) × ((rule == 18) ≡ false)
other_rule Add rule e = by 10 (same_some e) refl refl
  where
    by : (n : ℕ) → n ≡ rule → (n == 7) ≡ false → (n == 18) ≡ false → ((rule == 7) ≡ false) × ((rule == 18) ≡ false)
    by n is f g = subst (λ (x : ℕ). ((x == 7) ≡ false) × ((x == 18) ≡ false)) is (f, g)
other_rule Sub rule e = by 11 (same_some e) refl refl
  where
    by : (n : ℕ) → n ≡ rule → (n == 7) ≡ false → (n == 18) ≡ false → ((rule == 7) ≡ false) × ((rule == 18) ≡ false)
    by n is f g = subst (λ (x : ℕ). ((x == 7) ≡ false) × ((x == 18) ≡ false)) is (f, g)
other_rule Xor rule e = by 12 (same_some e) refl refl
  where
    by : (n : ℕ) → n ≡ rule → (n == 7) ≡ false → (n == 18) ≡ false → ((rule == 7) ≡ false) × ((rule == 18) ≡ false)
    by n is f g = subst (λ (x : ℕ). ((x == 7) ≡ false) × ((x == 18) ≡ false)) is (f, g)
other_rule Mul rule e = by 13 (same_some e) refl refl
  where
    by : (n : ℕ) → n ≡ rule → (n == 7) ≡ false → (n == 18) ≡ false → ((rule == 7) ≡ false) × ((rule == 18) ≡ false)
    by n is f g = subst (λ (x : ℕ). ((x == 7) ≡ false) × ((x == 18) ≡ false)) is (f, g)
other_rule _ rule e = absurd (no_some e)

-- what an operand rests on
data Solving (instr : Instr) (side : Side) (rd : ℕ) (s : Seen) (d : Conclusion) : Type 0 where
  alone : needs_of instr s d ≡ register_need After rd → ((v : ℕ) (x y : Flat) → solve_of instr side v x ≡ solve_of instr side v y) → Solving instr side rd s d
  with_other : (q : ℕ) → needs_of instr s d ≡ register_need After rd ++ register_need Before q → operand_of instr (opposite side) ≡ Some q → ((v w : ℕ) (x : Flat) → solve_of instr side v x ≡ Known w → q ≢ 0 → (a : ℕ) × (x ≡ Known a)) → Solving instr side rd s d

operand_or : (r : ℕ) (x : Flat) (op : RegOp) (side : Side) (v w : ℕ) → solved_by op side v (operand r x) ≡ Known w → r ≢ 0 → (a : ℕ) × (x ≡ Known a)
operand_or zero x op side v w e named = absurd (named refl)
operand_or (suc r) Unknown op side v w e named = absurd (unknown (subst (λ (b : Bool). solved_by op side v (if b then Known 0 else Unknown) ≡ Known w) (over_zero r) e))
operand_or (suc r) (Known a) op side v w e named = (a, refl)

solved_other : (op : RegOp) (rule : ℕ) (side : Side) (rs1 rs2 v w : ℕ) (x : Flat) → operation_rule op ≡ Some rule → registers_solved op side rs1 rs2 v x ≡ Known w → on (opposite side) rs1 rs2 ≢ 0 → (a : ℕ) × (x ≡ Known a)
solved_other Add rule side rs1 rs2 v w x by e named = operand_or (on (opposite side) rs1 rs2) x Add side v w e named
solved_other Sub rule side rs1 rs2 v w x by e named = operand_or (on (opposite side) rs1 rs2) x Sub side v w e named
solved_other Xor rule side rs1 rs2 v w x by e named = operand_or (on (opposite side) rs1 rs2) x Xor side v w e named
solved_other Mul rule side rs1 rs2 v w x by e named = operand_or (on (opposite side) rs1 rs2) x Mul side v w e named
solved_other _ rule side rs1 rs2 v w x by e named = absurd (no_some by)

-- the operand on a side, by its register
side_register : (op : RegOp) (n rs1 rs2 r : ℕ) (side : Side) → operand_of (Op op n rs1 rs2) side ≡ Some r → r ≡ on side rs1 rs2
side_register op n rs1 rs2 r First e = sym (same_some e)
side_register op n rs1 rs2 r Second e = sym (same_some e)

opposite_register : (op : RegOp) (n rs1 rs2 : ℕ) (side : Side) → operand_of (Op op n rs1 rs2) (opposite side) ≡ Some (on (opposite side) rs1 rs2)
opposite_register op n rs1 rs2 First = refl
opposite_register op n rs1 rs2 Second = refl

immediate_alone : (op : ImmOp) (n rs1 r rd rule w : ℕ) (imm : ℤ) (side : Side) (s : Seen) (d : Conclusion) → n ≡ rd → operation_rule (register_form op) ≡ Some rule → operand_of (Imm op n rs1 imm) side ≡ Some r → d ≡ on_register rule Before r w → Solving (Imm op n rs1 imm) side rd s d
immediate_alone op n rs1 r rd rule w imm Second s d same by read e = absurd (no_some read)
immediate_alone op n rs1 r rd rule w imm First s d same by read e =
    let o = other_rule (register_form op) rule by in
    alone (ap (λ (x : Conclusion). immediate_needs op n rs1 imm x) e ∙ ap (λ (b : Bool). if b then (if absorbs (register_form op) (word imm) then [] else register_need Before rs1) else register_need After n) o.0 ∙ ap (λ (x : ℕ). register_need After x) same) (λ v x y. refl)

solving : (instr : Instr) (side : Side) (rule rd r w : ℕ) (s : Seen) (d : Conclusion) → solving_rule instr ≡ Some rule → written_by instr ≡ Some rd → operand_of instr side ≡ Some r → d ≡ on_register rule Before r w → Solving instr side rd s d
solving (Imm op n rs1 imm) side rule rd r w s d by named read e = immediate_alone op n rs1 r rd rule w imm side s d ((destination n rd named).0) by read e
solving (Op op n rs1 rs2) side rule rd r w s d by named read e =
    let o = other_rule op rule by in
    let same = (destination n rd named).0 in
    let here : d ≡ on_register rule Before (on side rs1 rs2) w = e ∙ ap (λ (x : ℕ). on_register rule Before x w) (side_register op n rs1 rs2 r side read) in
    with_other (on (opposite side) rs1 rs2)
    (ap (λ (x : Conclusion). operation_needs op n rs1 rs2 s x) here
    ∙ ap (λ (b : Bool). if b then result_needs op rs1 rs2 s else if rule == 18 then copy_needs Before n (copied_register op rs1 rs2) else register_need After n ++ register_need Before (other_register (Register (on side rs1 rs2)) rs1 rs2)) o.0
    ∙ ap (λ (b : Bool). if b then copy_needs Before n (copied_register op rs1 rs2) else register_need After n ++ register_need Before (other_register (Register (on side rs1 rs2)) rs1 rs2)) o.1
    ∙ ap (λ (x : ℕ). register_need After x ++ register_need Before (other_register (Register (on side rs1 rs2)) rs1 rs2)) same
    ∙ ap (λ (x : ℕ). register_need After rd ++ register_need Before x) (other_is side rs1 rs2))
    (opposite_register op n rs1 rs2 side)
    (λ v u x f named_other. solved_other op rule side rs1 rs2 v u x by f named_other)
solving _ side rule rd r w s d by named read e = absurd (no_some by)

-- a copy rests on its source, the source on the copy
copy_list : (instr : Instr) (s : Seen) (d : Conclusion) (rd source v : ℕ) → copied instr ≡ Some source → d ≡ on_register 18 After rd v → needs_of instr s d ≡ register_need Before source
copy_list (Imm op n rs1 imm) s d rd source v from e = elim (either_way (is_neutral op imm)) [
  | inl u ↦ ap (λ (x : Conclusion). immediate_needs op n rs1 imm x) e ∙ ap (λ (x : ℕ). register_need Before x) (same_some (rw u at from))
  | inr f ↦ absurd (no_some (rw f at from))
]
copy_list (Op op n rs1 rs2) s d rd source v from e = ap (λ (x : Conclusion). operation_needs op n rs1 rs2 s x) e ∙ ap (λ (o : Option ℕ). source_need o) from
copy_list _ s d rd source v from e = absurd (no_some from)

copy_back_list : (instr : Instr) (s : Seen) (d : Conclusion) (rd source v : ℕ) → written_by instr ≡ Some rd → copied instr ≡ Some source → d ≡ on_register 18 Before source v → needs_of instr s d ≡ register_need After rd
copy_back_list (Imm op n rs1 imm) s d rd source v named from e = ap (λ (x : Conclusion). immediate_needs op n rs1 imm x) e ∙ ap (λ (x : ℕ). register_need After x) ((destination n rd named).0)
copy_back_list (Op op n rs1 rs2) s d rd source v named from e = ap (λ (x : Conclusion). operation_needs op n rs1 rs2 s x) e ∙ ap (λ (x : ℕ). register_need After x) ((destination n rd named).0)
copy_back_list _ s d rd source v named from e = absurd (no_some from)

-- ---- each rule

few_load : (op : LoadOp) → load_width op ≤ 4
few_load Lb = lit≤ tt
few_load Lh = lit≤ tt
few_load Lw = lit≤ tt
few_load Lbu = lit≤ tt
few_load Lhu = lit≤ tt

known_value : (s : Seen) (when : When) (r v : ℕ) → s.register when r ≡ Some v → r ≢ 0 → (w : ℕ) × (s.register when r ≡ Some w)
known_value s when r v e named = (v, e)

good_list : (row : StepRow) (s : Seen) (d : Conclusion) (ns : List Premise) → needs_of row.instr s d ≡ ns → AreGood row s ns → AreGood row s (needs_of row.instr s d)
good_list row s d ns e h = subst (λ (x : List Premise). AreGood row s x) (sym e) h

read_row : (row : StepRow) (s : Seen) (r : ℕ) → (first_read row.instr ≡ Some r) ⊎ (second_read row.instr ≡ Some r) → IsRowCell base_rules row s Before (Register r)
read_row row s r h = h

read_side : (instr : Instr) (side : Side) (r : ℕ) → operand_of instr side ≡ Some r → (first_read instr ≡ Some r) ⊎ (second_read instr ≡ Some r)
read_side instr First r e = inl e
read_side instr Second r e = inr e

good_solving : (row : StepRow) (s : Seen) (d : Conclusion) (side : Side) (rd v w : ℕ) → written_by row.instr ≡ Some rd → s.register After rd ≡ Some v → solve_of row.instr side v (seen_operand s (operand_of row.instr (opposite side))) ≡ Known w → Solving row.instr side rd s d → AreGood row s (needs_of row.instr s d)
good_solving row s d side rd v w named value e (alone is same) = good_list row s d _ is (good_register row s After rd named (known_value s After rd v value))
good_solving row s d side rd v w named value e (with_other q is read other) =
    let f : solve_of row.instr side v (known_at s Before q) ≡ Known w = subst (λ (o : Option ℕ). solve_of row.instr side v (seen_operand s o) ≡ Known w) read e in
    good_list row s d _ is (good_both row s (register_need After rd) (register_need Before q)
    (good_register row s After rd named (known_value s After rd v value))
    (good_register row s Before q (read_side row.instr (opposite side) q read) (λ n. let k = other v w (known_at s Before q) f n in (k.0, flat_some (s.register Before q) k.0 k.1))))

-- what a conclusion rests on is the row's, and known
pub good_by : (row : StepRow) (s : Seen) (d : Conclusion) → ConcludesByRow row s d → AreGood row s (needs_of row.instr s d)
good_by row s d (rules.result rd v named value says) = subst (λ (x : Conclusion). AreGood row s (needs_of row.instr s x)) (sym says.is) (good_result row.instr row s rd v refl value)
good_by row s d (rules.load op rd rs1 imm b memory is base bytes says) =
    good_list row s d _ (load_list row s d op rd rs1 b _ imm is base says.is) (good_both row s (register_need Before rs1) (byte_needs Before (plus b imm) (load_width op))
    (good_register row s Before rs1 (inl (ap first_read is)) (known_value s Before rs1 b base))
    (good_bytes row s Before rs1 b (load_width op) imm memory (ap first_read is) base (ap offset_of is) (sym (ap places_of is)) (few_load op) bytes))
good_by row s d (rules.store op rs1 rs2 imm b v k is base value below e) =
    good_list row s d _ (store_list row s d op rs1 rs2 _ v k imm is e) (good_pair row s rs1 rs2
    (good_register row s Before rs1 (inl (ap first_read is)) (known_value s Before rs1 b base))
    (good_register row s Before rs2 (inr (ap second_read is)) (known_value s Before rs2 v value)))
good_by row s d (rules.solved rule rd r v w side by named read value solved says) = good_solving row s d side rd v w named value solved (solving row.instr side rule rd r w s d by named read says.is)
good_by row s d (rules.equal_second op rs1 rs2 imm v is way value says) =
    good_list row s d _ (branch_list row s d Second op rs1 rs2 v imm is says.is) (good_register row s Before rs1 (inl (ap first_read is)) (known_value s Before rs1 v value))
good_by row s d (rules.equal_first op rs1 rs2 imm v is way value says) =
    good_list row s d _ (branch_list row s d First op rs1 rs2 v imm is says.is) (good_register row s Before rs2 (inr (ap second_read is)) (known_value s Before rs2 v value))
good_by row s d (rules.load_back op rd rs1 imm b v k is named base value below e) =
    good_list row s d _ (load_back_list row s d op rd rs1 _ v k imm is e) (good_both row s (register_need After rd) (register_need Before rs1)
    (good_register row s After rd named (known_value s After rd v value))
    (good_register row s Before rs1 (inl (ap first_read is)) (known_value s Before rs1 b base)))
good_by row s d (rules.store_back rs1 rs2 imm b memory is base bytes says) =
    good_list row s d _ (store_back_list row s d rs1 rs2 b _ imm is base says.is) (good_both row s (register_need Before rs1) (byte_needs After (plus b imm) 4)
    (good_register row s Before rs1 (inl (ap first_read is)) (known_value s Before rs1 b base))
    (good_bytes row s After rs1 b 4 imm memory (ap first_read is) base (ap offset_of is) (sym (ap places_of is)) (lit≤ tt) bytes))
good_by row s d (rules.copy rd source v named from value says) =
    good_list row s d _ (copy_list row.instr s d rd source v from says.is) (good_register row s Before source (copied_read row.instr source from) (known_value s Before source v value))
good_by row s d (rules.copy_back rd source v named from value says) =
    good_list row s d _ (copy_back_list row.instr s d rd source v named from says.is) (good_register row s After rd named (known_value s After rd v value))

agree_list : (row : StepRow) (s t : Seen) (d : Conclusion) (ns : List Premise) → needs_of row.instr s d ≡ ns → Agree s t (needs_of row.instr s d) → Agree s t ns
agree_list row s t d ns e h = subst (λ (x : List Premise). Agree s t x) e h

again_solving : (row : StepRow) (s t : Seen) (d : Conclusion) (rule rd r v w : ℕ) (side : Side) → IsLawful s → IsLawful t → solving_rule row.instr ≡ Some rule → written_by row.instr ≡ Some rd → operand_of row.instr side ≡ Some r → s.register After rd ≡ Some v → solve_of row.instr side v (seen_operand s (operand_of row.instr (opposite side))) ≡ Known w → IsOnRegister d rule Before r w → Agree s t (needs_of row.instr s d) → Solving row.instr side rd s d → ConcludesByRow row t d
again_solving row s t d rule rd r v w side ls lt by named read value e says h (alone is same) =
    let a = agree_register s t After rd ls lt (agree_list row s t d _ is h) in
    rules.solved rule rd r v w side by named read (a ∙ value) (same v _ _ ∙ e) says
again_solving row s t d rule rd r v w side ls lt by named read value e says h (with_other q is other_read other) =
    let g = agree_list row s t d _ is h in
    let a = agree_register s t After rd ls lt (agree_left s t (register_need After rd) (register_need Before q) g) in
    let b = agree_register s t Before q ls lt (agree_right s t (register_need After rd) (register_need Before q) g) in
    let f : solve_of row.instr side v (known_at s Before q) ≡ Known w = subst (λ (o : Option ℕ). solve_of row.instr side v (seen_operand s o) ≡ Known w) other_read e in
    let k : solve_of row.instr side v (known_at t Before q) ≡ Known w = ap (λ (x : Option ℕ). solve_of row.instr side v (flat x)) b ∙ f in
    rules.solved rule rd r v w side by named read (a ∙ value) (subst (λ (o : Option ℕ). solve_of row.instr side v (seen_operand t o) ≡ Known w) (sym other_read) k) says

-- and it is enough
pub again_by : (row : StepRow) (s t : Seen) (d : Conclusion) → IsLawful s → IsLawful t → Agree s t (needs_of row.instr s d) → ConcludesByRow row s d → ConcludesByRow row t d
again_by row s t d ls lt h (rules.result rd v named value says) = rules.result rd v named (again_result row.instr row s t rd v ls lt value (subst (λ (x : Conclusion). Agree s t (needs_of row.instr s x)) says.is h)) says
again_by row s t d ls lt h (rules.load op rd rs1 imm b memory is base bytes says) =
    let g = agree_list row s t d _ (load_list row s d op rd rs1 b _ imm is base says.is) h in
    let a = agree_register s t Before rs1 ls lt (agree_left s t (register_need Before rs1) (byte_needs Before (plus b imm) (load_width op)) g) in
    let c = agree_right s t (register_need Before rs1) (byte_needs Before (plus b imm) (load_width op)) g in
    rules.load op rd rs1 imm b memory is (a ∙ base) (λ k below. agree_byte s t Before (plus b imm) (load_width op) k below c ∙ bytes k below) says
again_by row s t d ls lt h (rules.store op rs1 rs2 imm b v k is base value below e) =
    let g = agree_list row s t d _ (store_list row s d op rs1 rs2 _ v k imm is e) h in
    rules.store op rs1 rs2 imm b v k is (agree_first s t rs1 rs2 ls lt g ∙ base) (agree_second s t rs1 rs2 ls lt g ∙ value) below e
again_by row s t d ls lt h (rules.solved rule rd r v w side by named read value solved says) =
    again_solving row s t d rule rd r v w side ls lt by named read value solved says h (solving row.instr side rule rd r w s d by named read says.is)
again_by row s t d ls lt h (rules.equal_second op rs1 rs2 imm v is way value says) =
    rules.equal_second op rs1 rs2 imm v is way (agree_register s t Before rs1 ls lt (agree_list row s t d _ (branch_list row s d Second op rs1 rs2 v imm is says.is) h) ∙ value) says
again_by row s t d ls lt h (rules.equal_first op rs1 rs2 imm v is way value says) =
    rules.equal_first op rs1 rs2 imm v is way (agree_register s t Before rs2 ls lt (agree_list row s t d _ (branch_list row s d First op rs1 rs2 v imm is says.is) h) ∙ value) says
again_by row s t d ls lt h (rules.load_back op rd rs1 imm b v k is named base value below e) =
    let g = agree_list row s t d _ (load_back_list row s d op rd rs1 _ v k imm is e) h in
    rules.load_back op rd rs1 imm b v k is named (agree_register s t Before rs1 ls lt (agree_right s t (register_need After rd) (register_need Before rs1) g) ∙ base) (agree_register s t After rd ls lt (agree_left s t (register_need After rd) (register_need Before rs1) g) ∙ value) below e
again_by row s t d ls lt h (rules.store_back rs1 rs2 imm b memory is base bytes says) =
    let g = agree_list row s t d _ (store_back_list row s d rs1 rs2 b _ imm is base says.is) h in
    let a = agree_register s t Before rs1 ls lt (agree_left s t (register_need Before rs1) (byte_needs After (plus b imm) 4) g) in
    let c = agree_right s t (register_need Before rs1) (byte_needs After (plus b imm) 4) g in
    rules.store_back rs1 rs2 imm b memory is (a ∙ base) (λ k below. agree_byte s t After (plus b imm) 4 k below c ∙ bytes k below) says
again_by row s t d ls lt h (rules.copy rd source v named from value says) =
    rules.copy rd source v named from (agree_register s t Before source ls lt (agree_list row s t d _ (copy_list row.instr s d rd source v from says.is) h) ∙ value) says
again_by row s t d ls lt h (rules.copy_back rd source v named from value says) =
    rules.copy_back rd source v named from (agree_register s t After rd ls lt (agree_list row s t d _ (copy_back_list row.instr s d rd source v named from says.is) h) ∙ value) says
