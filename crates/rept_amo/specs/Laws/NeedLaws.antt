-- What a conclusion of a row of an atomic instruction rests on is the row's and known, and is
-- enough.
use Rattle.std.proofs.Common.{◌≡◌, ◌≢◌, ℕ, inl, inr, refl, sym, ap, subst, ◌∙◌, Bool, if◌then◌else◌, Option, Some, List, ◌++◌, ◌==◌}
use Rattle.std.specs.List.{Contains}
use Rattle.std.proofs.lemmas.List.Elements.{Contains-append_cases}
use Rattle.rept_isa.specs.declared.instr.AmoOp.{AmoOp}
use Rattle.rept_isa.specs.declared.instr.AmoOp.TheVariants as atomic
use Rattle.rept_isa.specs.declared.row.StepRow.{StepRow}
use Rattle.rept_partial.specs.declared.flat.Flat.TheVariants.{Known}
use Rattle.rept_reason.specs.declared.view.inferred.When.{When}
use Rattle.rept_reason.specs.declared.view.inferred.When.TheVariants.{Before, After}
use Rattle.rept_reason.specs.declared.view.inferred.Conclusion.{Conclusion}
use Rattle.rept_reason.specs.View.Seen.{Seen, IsLawful, seen_cell}
use Rattle.rept_isa.specs.Operands.{first_read}
use Rattle.rept_isa.specs.Numbers.{beside}
use Rattle.rept_machine.specs.Arithmetic.{word_at}
use Rattle.rept_reason.specs.declared.fact.Cell.TheVariants.{Register}
use Rattle.rept_reason.specs.Facts.{flat}
use Rattle.rept_reason.specs.declared.view.inferred.Premise.{Premise}
use Rattle.rept_reason.specs.View.Rules.{IsRowCell}
use Rattle.rept_rules.specs.Conclusions.{IsOnRegister, IsKnown, AreKnown}
use Rattle.rept_rules.specs.Needs.{register_need, both_needs, byte_needs}
use Rattle.rept_rules.specs.Laws.ValueLemmas.{either_way}
use Rattle.rept_rules.specs.Laws.SolveLemmas.{unknown}
use Rattle.rept_rules.specs.Laws.NeedLemmas.{in_need, in_byte_needs, Agree, agree_left, agree_right, agree_register, agree_byte, agree_first, agree_second}
use Rattle.rept_amo.specs.declared.form.WordInferred.{WordInferred}
use Rattle.rept_amo.specs.declared.form.Form.{Form}
use Rattle.rept_amo.specs.declared.form.AtomicAccess.{AtomicAccess}
use Rattle.rept_amo.specs.Conclusions.{IsAtomicAccess, IsOperation, form_of, byte_inferred, undone, AtomicConcludes}
use Rattle.rept_amo.specs.Conclusions as rules
use Rattle.rept_amo.specs.Needs.{source_needs, access_needs, needs_at, needs_by}
use Rattle.rept_amo.specs.Atomic.{atomic_rules}
use Rattle.rept_amo.specs.Laws.Listed.{undone_operation}
use Rattle.rept_amo.specs.Laws.Sound.{form_is}
use Rattle.rept_amo.specs.Laws.Own.{access_byte, cell_byte, own_source, own_stored, destination_of}

-- ---- the list of a conclusion

list_is : (row : StepRow) (s : Seen) (d : Conclusion) (x : AtomicAccess) (rule : ℕ) → IsAtomicAccess row s x → d.rule ≡ rule → needs_by (form_of row.instr) row s d ≡ access_needs x rule
list_is row s d x rule acc e =
    ap (λ (o : Option Form). needs_by o row s d) acc.is_row ∙ ap (λ (o : Option ℕ). needs_at x.form (flat o) d.rule) acc.base ∙ ap (λ (n : ℕ). access_needs x n) e

says_rule : (d : Conclusion) (rule : ℕ) (when : When) (r v : ℕ) → IsOnRegister d rule when r v → d.rule ≡ rule
says_rule d rule when r v says = ap (λ (x : Conclusion). x.rule) says.is

byte_rule : (d : Conclusion) (w : WordInferred) (k : ℕ) → d ≡ byte_inferred w k → d.rule ≡ w.rule
byte_rule d w k is = ap (λ (x : Conclusion). x.rule) is

-- the source of an ADD or XOR rests on the words before and after it
two_words : (op : AmoOp) (base a b v : ℕ) → undone op a b ≡ Known v → source_needs op base ≡ byte_needs Before base 4 ++ byte_needs After base 4
two_words atomic.Lr base a b v e = refl
two_words atomic.Sc base a b v e = refl
two_words atomic.Swap base a b v e = absurd (unknown e)
two_words atomic.Add base a b v e = refl
two_words atomic.Xor base a b v e = refl
two_words atomic.And base a b v e = refl
two_words atomic.Or base a b v e = refl
two_words atomic.Min base a b v e = refl
two_words atomic.Max base a b v e = refl
two_words atomic.Minu base a b v e = refl
two_words atomic.Maxu base a b v e = refl

-- ---- what is needed is the row's and known

pub record IsGoodAtomic (row : StepRow) (s : Seen) (n : Premise) : Type 0 where
  pub own : IsRowCell atomic_rules row s n.when n.cell
  pub value : ℕ
  pub is_known : seen_cell s n.when n.cell ≡ Some value

abbrev pub AreGood : StepRow → Seen → List Premise → Type 0
AreGood row s ns = (n : Premise) → Contains ns n → IsGoodAtomic row s n

good_both : (row : StepRow) (s : Seen) (xs ys : List Premise) → AreGood row s xs → AreGood row s ys → AreGood row s (xs ++ ys)
good_both row s xs ys f g n has = elim (Contains-append_cases xs ys n has) [ inl h ↦ f n h | inr h ↦ g n h ]

good_register : (row : StepRow) (s : Seen) (when : When) (r v : ℕ) → IsRowCell atomic_rules row s when (Register r) → IsKnown s when r v → AreGood row s (register_need when r)
good_register row s when r v own value n has =
    let i = in_need when r n has in
    subst (λ (m : Premise). IsGoodAtomic row s m) (sym i.1) (record { own = own; value = v; is_known = value })

good_pair : (row : StepRow) (s : Seen) (r q : ℕ) → AreGood row s (register_need Before r) → AreGood row s (register_need Before q) → AreGood row s (both_needs r q)
good_pair row s r q f g = elim (either_way (r == q)) [
  | inl u ↦ subst (λ (b : Bool). AreGood row s (if b then register_need Before r else register_need Before r ++ register_need Before q)) (sym u) f
  | inr h ↦ subst (λ (b : Bool). AreGood row s (if b then register_need Before r else register_need Before r ++ register_need Before q)) (sym h) (good_both row s (register_need Before r) (register_need Before q) f g)
]

good_bytes : (row : StepRow) (s : Seen) (when : When) (x : AtomicAccess) (m : ℕ → ℕ) → IsAtomicAccess row s x → AreKnown s when x.base 4 m → AreGood row s (byte_needs when x.base 4)
good_bytes row s when x m acc bytes n has =
    let i = in_byte_needs when x.base 4 n has in
    subst (λ (q : Premise). IsGoodAtomic row s q) (sym i.2) (record { own = cell_byte row s when (beside x.base i.0) (access_byte row s x i.0 acc i.1); value = m (beside x.base i.0); is_known = bytes i.0 i.1 })

good_address : (row : StepRow) (s : Seen) (x : AtomicAccess) → IsAtomicAccess row s x → AreGood row s (register_need Before x.form.rs1)
good_address row s x acc = good_register row s Before x.form.rs1 x.base (inl (ap first_read (form_is row.instr x.form acc.is_row))) acc.base

good_answer : (row : StepRow) (s : Seen) (x : AtomicAccess) (v : ℕ) → IsAtomicAccess row s x → x.form.rd ≢ 0 → IsKnown s After x.form.rd v → AreGood row s (register_need After x.form.rd)
good_answer row s x v acc named value = good_register row s After x.form.rd v (destination_of row s x acc named) value

module _ (row : StepRow) (s : Seen) (d : Conclusion) where
  abbrev pub Good : Type 0
  Good = AreGood row s (needs_by (form_of row.instr) row s d)

  good_list : (xs : List Premise) → needs_by (form_of row.instr) row s d ≡ xs → AreGood row s xs → Good
  good_list xs e h = subst (λ (ys : List Premise). AreGood row s ys) (sym e) h

  pub good_by : AtomicConcludes row s d → Good
  good_by (rules.read x m acc reads bytes says) =
      good_list _ (list_is row s d x 19 acc (says_rule d 19 After x.form.rd _ says)) (good_both row s (register_need Before x.form.rs1) (byte_needs Before x.base 4) (good_address row s x acc) (good_bytes row s Before x m acc bytes))
  good_by (rules.written x m v k acc operation value bytes below is) =
      good_list _ (list_is row s d x 20 acc (byte_rule d _ k is)) (good_both row s (both_needs x.form.rs1 x.form.rs2) (byte_needs Before x.base 4)
      (good_pair row s x.form.rs1 x.form.rs2 (good_address row s x acc) (good_register row s Before x.form.rs2 v (own_source row s x acc operation) value)) (good_bytes row s Before x m acc bytes))
  good_by (rules.read_back x v k acc reads named value below is) =
      good_list _ (list_is row s d x 21 acc (byte_rule d _ k is)) (good_both row s (register_need Before x.form.rs1) (register_need After x.form.rd) (good_address row s x acc) (good_answer row s x v acc named value))
  good_by (rules.swapped x m acc swap bytes says) =
      good_list _ (list_is row s d x 22 acc (says_rule d 22 Before x.form.rs2 _ says) ∙ ap (λ (op : AmoOp). register_need Before x.form.rs1 ++ source_needs op x.base) swap)
      (good_both row s (register_need Before x.form.rs1) (byte_needs After x.base 4) (good_address row s x acc) (good_bytes row s After x m acc bytes))
  good_by (rules.source x m n v acc there left solved says) =
      good_list _ (list_is row s d x 22 acc (says_rule d 22 Before x.form.rs2 v says) ∙ ap (λ (ys : List Premise). register_need Before x.form.rs1 ++ ys) (two_words x.form.op x.base (word_at n x.base) (word_at m x.base) v solved))
      (good_both row s (register_need Before x.form.rs1) (byte_needs Before x.base 4 ++ byte_needs After x.base 4) (good_address row s x acc)
      (good_both row s (byte_needs Before x.base 4) (byte_needs After x.base 4) (good_bytes row s Before x m acc there) (good_bytes row s After x n acc left)))
  good_by (rules.word_back x n v w k acc value left solved below is) =
      let operation = undone_operation x.form.op (word_at n x.base) v w solved in
      good_list _ (list_is row s d x 23 acc (byte_rule d _ k is)) (good_both row s (both_needs x.form.rs1 x.form.rs2) (byte_needs After x.base 4)
      (good_pair row s x.form.rs1 x.form.rs2 (good_address row s x acc) (good_register row s Before x.form.rs2 v (own_source row s x acc operation) value)) (good_bytes row s After x n acc left))
  good_by (rules.stored x v k acc sc named value success below is) =
      good_list _ (list_is row s d x 24 acc (byte_rule d _ k is)) (good_both row s (both_needs x.form.rs1 x.form.rs2) (register_need After x.form.rd)
      (good_pair row s x.form.rs1 x.form.rs2 (good_address row s x acc) (good_register row s Before x.form.rs2 v (own_stored row s x acc sc) value)) (good_answer row s x 0 acc named success))

-- ---- and it is enough

module _ (row : StepRow) (s t : Seen) (d : Conclusion) (ls : IsLawful s) (lt : IsLawful t) (h : Agree s t (needs_by (form_of row.instr) row s d)) where
  agree_list : (xs : List Premise) → needs_by (form_of row.instr) row s d ≡ xs → Agree s t xs
  agree_list xs e = subst (λ (ys : List Premise). Agree s t ys) e h

  still_at : (x : AtomicAccess) → IsAtomicAccess row s x → t.register Before x.form.rs1 ≡ s.register Before x.form.rs1 → IsAtomicAccess row t x
  still_at x acc same = record { is_row = acc.is_row; base = same ∙ acc.base }

  still_bytes : (when : When) (base : ℕ) (m : ℕ → ℕ) → AreKnown s when base 4 m → Agree s t (byte_needs when base 4) → AreKnown t when base 4 m
  still_bytes when base m bytes g k below = agree_byte s t when base 4 k below g ∙ bytes k below

  pub again_by : AtomicConcludes row s d → AtomicConcludes row t d
  again_by (rules.read x m acc reads bytes says) =
      let g = agree_list _ (list_is row s d x 19 acc (says_rule d 19 After x.form.rd _ says)) in
      let p = agree_left s t (register_need Before x.form.rs1) (byte_needs Before x.base 4) g in
      let q = agree_right s t (register_need Before x.form.rs1) (byte_needs Before x.base 4) g in
      rules.read x m (still_at x acc (agree_register s t Before x.form.rs1 ls lt p)) reads (still_bytes Before x.base m bytes q) says
  again_by (rules.written x m v k acc operation value bytes below is) =
      let g = agree_list _ (list_is row s d x 20 acc (byte_rule d _ k is)) in
      let p = agree_left s t (both_needs x.form.rs1 x.form.rs2) (byte_needs Before x.base 4) g in
      let q = agree_right s t (both_needs x.form.rs1 x.form.rs2) (byte_needs Before x.base 4) g in
      rules.written x m v k (still_at x acc (agree_first s t x.form.rs1 x.form.rs2 ls lt p)) operation (agree_second s t x.form.rs1 x.form.rs2 ls lt p ∙ value) (still_bytes Before x.base m bytes q) below is
  again_by (rules.read_back x v k acc reads named value below is) =
      let g = agree_list _ (list_is row s d x 21 acc (byte_rule d _ k is)) in
      let p = agree_left s t (register_need Before x.form.rs1) (register_need After x.form.rd) g in
      let q = agree_right s t (register_need Before x.form.rs1) (register_need After x.form.rd) g in
      rules.read_back x v k (still_at x acc (agree_register s t Before x.form.rs1 ls lt p)) reads named (agree_register s t After x.form.rd ls lt q ∙ value) below is
  again_by (rules.swapped x m acc swap bytes says) =
      let g = agree_list _ (list_is row s d x 22 acc (says_rule d 22 Before x.form.rs2 _ says) ∙ ap (λ (op : AmoOp). register_need Before x.form.rs1 ++ source_needs op x.base) swap) in
      let p = agree_left s t (register_need Before x.form.rs1) (byte_needs After x.base 4) g in
      let q = agree_right s t (register_need Before x.form.rs1) (byte_needs After x.base 4) g in
      rules.swapped x m (still_at x acc (agree_register s t Before x.form.rs1 ls lt p)) swap (still_bytes After x.base m bytes q) says
  again_by (rules.source x m n v acc there left solved says) =
      let g = agree_list _ (list_is row s d x 22 acc (says_rule d 22 Before x.form.rs2 v says) ∙ ap (λ (ys : List Premise). register_need Before x.form.rs1 ++ ys) (two_words x.form.op x.base (word_at n x.base) (word_at m x.base) v solved)) in
      let p = agree_left s t (register_need Before x.form.rs1) (byte_needs Before x.base 4 ++ byte_needs After x.base 4) g in
      let q = agree_right s t (register_need Before x.form.rs1) (byte_needs Before x.base 4 ++ byte_needs After x.base 4) g in
      rules.source x m n v (still_at x acc (agree_register s t Before x.form.rs1 ls lt p))
      (still_bytes Before x.base m there (agree_left s t (byte_needs Before x.base 4) (byte_needs After x.base 4) q))
      (still_bytes After x.base n left (agree_right s t (byte_needs Before x.base 4) (byte_needs After x.base 4) q)) solved says
  again_by (rules.word_back x n v w k acc value left solved below is) =
      let g = agree_list _ (list_is row s d x 23 acc (byte_rule d _ k is)) in
      let p = agree_left s t (both_needs x.form.rs1 x.form.rs2) (byte_needs After x.base 4) g in
      let q = agree_right s t (both_needs x.form.rs1 x.form.rs2) (byte_needs After x.base 4) g in
      rules.word_back x n v w k (still_at x acc (agree_first s t x.form.rs1 x.form.rs2 ls lt p)) (agree_second s t x.form.rs1 x.form.rs2 ls lt p ∙ value) (still_bytes After x.base n left q) solved below is
  again_by (rules.stored x v k acc sc named value success below is) =
      let g = agree_list _ (list_is row s d x 24 acc (byte_rule d _ k is)) in
      let p = agree_left s t (both_needs x.form.rs1 x.form.rs2) (register_need After x.form.rd) g in
      let q = agree_right s t (both_needs x.form.rs1 x.form.rs2) (register_need After x.form.rd) g in
      rules.stored x v k (still_at x acc (agree_first s t x.form.rs1 x.form.rs2 ls lt p)) sc named (agree_second s t x.form.rs1 x.form.rs2 ls lt p ∙ value) (agree_register s t After x.form.rd ls lt q ∙ success) below is
