-- What operations on words tell of the words of terms.
use Rattle.std.proofs.Common.{◌≡◌, ℕ, ◌+◌, ◌-◌, ◌%◌, ◌^◌, ◌<◌, true, List, [], ◌∷◌, ◌++◌, Some, inl, inr, refl, sym, ap, subst, ◌∙◌, arith}
use Rattle.std.specs.Prelude.{Result, Ok, Err, OnErr, ◌==◌, if◌then◌else◌}
use Rattle.rept_isa.specs.declared.instr.RegOp.{RegOp}
use Rattle.rept_isa.specs.declared.instr.RegOp.TheVariants.{Add, Sub, Sll, Slt, Sltu, Xor, Srl, Sra, Or, And, Mul, Mulh, Mulhsu, Mulhu, Div, Divu, Rem, Remu}
use Rattle.rept_machine.specs.Arithmetic.{computed}
use Rattle.rept_known.specs.declared.both.Both.{Both}
use Rattle.rept_known.specs.Both.{both_has, both_sets}
use Rattle.rept_known.specs.Laws.BothLaws.{both_lawful}
use Rattle.rept_relate.specs.declared.classes.node.Term.{Term}
use Rattle.rept_relate.specs.Classes.Valuations.{word_of}
use Rattle.rept_relate.specs.declared.operations.Operation.{Operation}
use Rattle.rept_relate.specs.Relations.{IsResult, AreResults, AreBelow, code_of}
use Rattle.rept_relate.proofs.Counting.{pushed_cases}

pub any_err : {T E P : Type 0} (r : Result T E) → P → OnErr r P
any_err (Ok x) p = tt
any_err (Err e) p = p

abbrev pub own : ℕ → Term
own node = record { node = node; offset = 0 }

pub plain : (value : ℕ → ℕ) (node : ℕ) → value node < 2 ^ 32 → word_of value (own node) ≡ value node
plain value node small = omega (arith, small)

pub plain_sum : (value : ℕ → ℕ) (node : ℕ) (sum : Term) → value node ≡ word_of value sum → word_of value (own node) ≡ word_of value sum
plain_sum value node sum e =
    let small : value node < 2 ^ 32 = omega (arith, e) in
    plain value node small ∙ e

pub plain_both : (value : ℕ → ℕ) (a b : ℕ) → value a ≡ value b → word_of value (own a) ≡ word_of value (own b)
plain_both value a b e = ap (λ (n : ℕ). (n + 0) % 2 ^ 32) e

-- a word that is known
pub known_word : (value : ℕ → ℕ) (node v : ℕ) (set : Both) → value 0 ≡ 0 → value node < 2 ^ 32 → both_sets.as_exact set ≡ Some v → both_has set (word_of value (own node)) ≡ true → value node ≡ word_of value (record { node = 0; offset = v })
known_word value node v set zero small exact has =
    let is : word_of value (own node) ≡ v = both_lawful.as_exact set v (word_of value (own node)) exact has in
    let same = plain value node small in
    omega (arith, zero, small, is, same)

-- ---- sums and differences
added_first : (n v1 o1 v2 o2 : ℕ) → v2 ≡ 0 → n ≡ ((v1 + o1) % 2 ^ 32 + (v2 + o2) % 2 ^ 32) % 2 ^ 32 → n ≡ (v1 + (o1 + o2) % 2 ^ 32) % 2 ^ 32
added_first n v1 o1 v2 o2 z e = omega (arith, z, e)

added_second : (n v1 o1 v2 o2 : ℕ) → v1 ≡ 0 → n ≡ ((v1 + o1) % 2 ^ 32 + (v2 + o2) % 2 ^ 32) % 2 ^ 32 → n ≡ (v2 + (o1 + o2) % 2 ^ 32) % 2 ^ 32
added_second n v1 o1 v2 o2 z e = omega (arith, z, e)

taken_first : (n v1 o1 v2 o2 : ℕ) → v2 ≡ 0 → o2 < 2 ^ 32 → n ≡ ((v1 + o1) % 2 ^ 32 + (2 ^ 32 - (v2 + o2) % 2 ^ 32)) % 2 ^ 32 → n ≡ (v1 + (o1 + (2 ^ 32 - o2)) % 2 ^ 32) % 2 ^ 32
taken_first n v1 o1 v2 o2 z s e = omega (arith, z, s, e)

taken_alike : (n v o1 o2 z : ℕ) → z ≡ 0 → o2 < 2 ^ 32 → n ≡ ((v + o1) % 2 ^ 32 + (2 ^ 32 - (v + o2) % 2 ^ 32)) % 2 ^ 32 → n ≡ (z + (o1 + (2 ^ 32 - o2)) % 2 ^ 32) % 2 ^ 32
taken_alike n v o1 o2 z is s e = omega (arith, is, s, e)

module _ (value : ℕ → ℕ) (node : ℕ) (first second : Term) (zero : value 0 ≡ 0) where
  pub sum_of_first : second.node ≡ 0 → value node ≡ (word_of value first + word_of value second) % 2 ^ 32 → value node ≡ (value first.node + (first.offset + second.offset) % 2 ^ 32) % 2 ^ 32
  sum_of_first none e = added_first (value node) (value first.node) first.offset (value second.node) second.offset (ap value none ∙ zero) e

  pub sum_of_second : first.node ≡ 0 → value node ≡ (word_of value first + word_of value second) % 2 ^ 32 → value node ≡ (value second.node + (first.offset + second.offset) % 2 ^ 32) % 2 ^ 32
  sum_of_second none e = added_second (value node) (value first.node) first.offset (value second.node) second.offset (ap value none ∙ zero) e

  pub rest_of_first : second.node ≡ 0 → second.offset < 2 ^ 32 → value node ≡ (word_of value first + (2 ^ 32 - word_of value second)) % 2 ^ 32 → value node ≡ (value first.node + (first.offset + (2 ^ 32 - second.offset)) % 2 ^ 32) % 2 ^ 32
  rest_of_first none small e = taken_first (value node) (value first.node) first.offset (value second.node) second.offset (ap value none ∙ zero) small e

  pub rest_of_alike : first.node ≡ second.node → second.offset < 2 ^ 32 → value node ≡ (word_of value first + (2 ^ 32 - word_of value second)) % 2 ^ 32 → value node ≡ (value 0 + (first.offset + (2 ^ 32 - second.offset)) % 2 ^ 32) % 2 ^ 32
  rest_of_alike same small e =
      let f : value node ≡ ((value first.node + first.offset) % 2 ^ 32 + (2 ^ 32 - (value first.node + second.offset) % 2 ^ 32)) % 2 ^ 32 = subst (λ (m : ℕ). value node ≡ ((value first.node + first.offset) % 2 ^ 32 + (2 ^ 32 - (value m + second.offset) % 2 ^ 32)) % 2 ^ 32) (sym same) e in
      taken_alike (value node) (value first.node) first.offset second.offset (value 0) zero small f

-- ---- the same operation
-- no numeral is a pattern: by tests
op_of : ℕ → RegOp
op_of n = if n == 0 then Add else if n == 1 then Sub else if n == 2 then Sll else if n == 3 then Slt else if n == 4 then Sltu else if n == 5 then Xor else if n == 6 then Srl else if n == 7 then Sra else if n == 8 then Or else if n == 9 then And else if n == 10 then Mul else if n == 11 then Mulh else if n == 12 then Mulhsu else if n == 13 then Mulhu else if n == 14 then Div else if n == 15 then Divu else if n == 16 then Rem else Remu

op_back : (op : RegOp) → op_of (code_of op) ≡ op
unfolding op_of
op_back Add = refl
op_back Sub = refl
op_back Sll = refl
op_back Slt = refl
op_back Sltu = refl
op_back Xor = refl
op_back Srl = refl
op_back Sra = refl
op_back Or = refl
op_back And = refl
op_back Mul = refl
op_back Mulh = refl
op_back Mulhsu = refl
op_back Mulhu = refl
op_back Div = refl
op_back Divu = refl
op_back Rem = refl
op_back Remu = refl

same_op : (a b : RegOp) → code_of a ≡ code_of b → a ≡ b
same_op a b e = sym (op_back a) ∙ (ap op_of e ∙ op_back b)

same_term : (value : ℕ → ℕ) (a b : Term) → a.node ≡ b.node → a.offset ≡ b.offset → word_of value a ≡ word_of value b
same_term value a b n o = rw (n, o) refl

pub same_result : (value : ℕ → ℕ) (a b : Operation) → code_of a.op ≡ code_of b.op → a.first.node ≡ b.first.node → a.first.offset ≡ b.first.offset → a.second.node ≡ b.second.node → a.second.offset ≡ b.second.offset → IsResult value a → IsResult value b → value a.node ≡ value b.node
same_result value a b c p q r s e f =
    let op = same_op a.op b.op c in
    let one = same_term value a.first b.first p q in
    let other = same_term value a.second b.second r s in
    e ∙ ap (λ (o : RegOp). computed o (word_of value a.first) (word_of value a.second)) op ∙ ap (λ (n : ℕ). computed b.op n (word_of value a.second)) one ∙ ap (λ (n : ℕ). computed b.op (word_of value b.first) n) other ∙ sym f

-- ---- one operation more
pub results_more : (old new : List Operation) (operation : Operation) → new ≡ old ++ operation ∷ [] → (value : ℕ → ℕ) → AreResults old value → IsResult value operation → AreResults new value
results_more old new operation pushed value results is k other at = elim (pushed_cases old new operation other k pushed at) [
  | inl before ↦ results k other before
  | inr (last, same) ↦ subst (λ (o : Operation). IsResult value o) same is
]

pub below_more : (old new : List Operation) (operation : Operation) → new ≡ old ++ operation ∷ [] → (limit : ℕ) → AreBelow old limit → operation.node < limit → AreBelow new limit
below_more old new operation pushed limit below is k other at = elim (pushed_cases old new operation other k pushed at) [
  | inl before ↦ below k other before
  | inr (last, same) ↦ subst (λ (o : Operation). o.node < limit) same is
]
