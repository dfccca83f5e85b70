-- A store that writes a byte reaches it, and one of known address that reaches it writes it.
use Rattle.std.proofs.Common.{◌≡◌, ◌≢◌, ℕ, zero, suc, ◌+◌, ◌-◌, ◌%◌, ◌^◌, ◌<◌, ◌≤◌, ℤ, Bool, true, false, List, length, Option, Some, None, is_some, slice_get, inl, inr, refl, sym, ap, subst, ◌∙◌, arith}
use Rattle.std.specs.Prelude.{⊤, ◌||◌}
use Rattle.std.proofs.lemmas.Bool.{cases_eq, false≢true}
use Rattle.rept_isa.specs.declared.instr.Instr.{Instr}
use Rattle.rept_isa.specs.declared.instr.Instr.TheVariants.{Lui, Auipc, Jal, Jalr, Branch, Load, Store, Imm, Op, Amo, Fence, Ecall, Ebreak, Counter}
use Rattle.rept_isa.specs.declared.instr.StoreOp.{StoreOp}
use Rattle.rept_isa.specs.declared.instr.StoreOp.TheVariants.{Sb, Sh, Sw}
use Rattle.rept_isa.specs.declared.row.StepRow.{StepRow}
use Rattle.rept_isa.specs.Numbers.{beside, plus, word}
use Rattle.rept_machine.specs.Arithmetic.{store_width}
use Rattle.rept_machine.specs.State.{State}
use Rattle.rept_machine.specs.Writes.{IsOneOfBytes, WritesBy}
use Rattle.rept_known.specs.declared.both.Both.{Both}
use Rattle.rept_known.specs.Both.{both_has, both_sets}
use Rattle.rept_known.specs.Laws.BothLaws.{both_lawful}
use Rattle.rept_span.specs.Laws.RangeBounds.{word_small}
use Rattle.rept_narrow.specs.Admitted.{Story}
use Rattle.rept_infer.specs.Holding.{Holding, Holds}
use Rattle.rept_found.specs.Inferred.Writing.{base_for, instr_reaches, is_exact, is_exact_store, reaches, set_reaches}

clash : {b : Bool} → b ≡ true → b ≡ false → ⊥
clash e f = false≢true (sym f ∙ e)

-- ---- places
base_is : (from first w : ℕ) → from < 2 ^ 32 → w < 2 ^ 32 → first ≡ (from + w) % 2 ^ 32 → (first + (2 ^ 32 - w)) % 2 ^ 32 ≡ from
base_is from first w small less is = omega (arith, small, less, is)

base_found : (v a k : ℕ) (imm : ℤ) → k < 4 → v < 2 ^ 32 → a ≡ beside (plus v imm) k → base_for (word imm) a k ≡ v
base_found v a k imm less small at =
    let first : (a + (2 ^ 32 - k)) % 2 ^ 32 ≡ plus v imm = omega (arith, less, at) in
    base_is v ((a + (2 ^ 32 - k)) % 2 ^ 32) (word imm) small (word_small imm) first

mod_small : (x : ℕ) → x % 2 ^ 32 < 2 ^ 32
mod_small x = omega arith

sum_back : (first w : ℕ) → first < 2 ^ 32 → w < 2 ^ 32 → ((first + (2 ^ 32 - w)) % 2 ^ 32 + w) % 2 ^ 32 ≡ first
sum_back first w small fits = omega (arith, small, fits)

byte_back : (a k : ℕ) → k < 4 → a < 2 ^ 32 → ((a + (2 ^ 32 - k)) % 2 ^ 32 + k) % 2 ^ 32 ≡ a
byte_back a k less small = omega (arith, less, small)

at_base : (a k : ℕ) (imm : ℤ) → k < 4 → a < 2 ^ 32 → a ≡ beside (plus (base_for (word imm) a k) imm) k
at_base a k imm less small =
    let first = (a + (2 ^ 32 - k)) % 2 ^ 32 in
    let back = sum_back first (word imm) (mod_small (a + (2 ^ 32 - k))) (word_small imm) in
    sym (ap (λ (n : ℕ). (n + k) % 2 ^ 32) back ∙ byte_back a k less small)

width_few : (op : StoreOp) → store_width op ≤ 4
width_few Sb = omega arith
width_few Sh = omega arith
width_few Sw = omega arith

or_left : (x y : Bool) → x ≡ true → (x || y) ≡ true
or_left true y e = refl
or_left false y e = absurd (false≢true e)

or_right : (x y : Bool) → y ≡ true → (x || y) ≡ true
or_right true y e = refl
or_right false y e = e

or_cases : (x y : Bool) → (x || y) ≡ true → x ≡ false → y ≡ true
or_cases x y e f = sym (ap (λ (b : Bool). b || y) f) ∙ e

-- where a base of the set has the byte it is reached
pub there_reached : (base : Both) (offset : ℕ) (a k width : ℕ) → k < width → both_has base (base_for offset a k) ≡ true → set_reaches base offset a width ≡ true
there_reached base offset a k zero less has = absurd (omega (arith, less))
there_reached base offset a k (suc m) less has = elim (cases_eq k m) [
  | inl here ↦ or_left (both_has base (base_for offset a m)) (set_reaches base offset a m) (subst (λ (n : ℕ). both_has base (base_for offset a n) ≡ true) here has)
  | inr ne ↦ or_right (both_has base (base_for offset a m)) (set_reaches base offset a m) (there_reached base offset a k m (omega (arith, less, ne)) has)
]

-- a byte of an access from a base of the set is reached
hit_reaches : (base : Both) (imm : ℤ) (a v k width : ℕ) → k < width → width ≤ 4 → both_has base v ≡ true → a ≡ beside (plus v imm) k → set_reaches base (word imm) a width ≡ true
hit_reaches base imm a v k width less few has at =
    there_reached base (word imm) a k width less (ap (both_has base) (base_found v a k imm (omega (arith, less, few)) (both_lawful.words base v has) at) ∙ has)

-- one byte more that isn't
pub missed_next : (base : Both) (offset : ℕ) (a k : ℕ) → set_reaches base offset a k ≡ false → both_has base (base_for offset a k) ≡ false → set_reaches base offset a (k + 1) ≡ false
missed_next base offset a k before here =
    let next : k + 1 ≡ suc k = omega arith in
    subst (λ (n : ℕ). set_reaches base offset a n ≡ false) (sym next) (ap (λ (b : Bool). b || set_reaches base offset a k) here ∙ before)

-- and where one is reached there is such a byte
pub record IsReached (base : Both) (imm : ℤ) (a width : ℕ) : Type 0 where
  pub k : ℕ
  pub less : k < width
  pub has : both_has base (base_for (word imm) a k) ≡ true

reaches_hit : (base : Both) (imm : ℤ) (a width : ℕ) → set_reaches base (word imm) a width ≡ true → IsReached base imm a width
reaches_hit base imm a zero e = absurd (false≢true e)
reaches_hit base imm a (suc m) e = by (reaches_hit base imm a m) (both_has base (base_for (word imm) a m)) refl
  where
    by : (set_reaches base (word imm) a m ≡ true → IsReached base imm a m) → (b : Bool) → both_has base (base_for (word imm) a m) ≡ b → IsReached base imm a (suc m)
    by before true is = record { k = m; less = omega arith; has = is }
    by before false is =
        let more = before (or_cases (both_has base (base_for (word imm) a m)) (set_reaches base (word imm) a m) e is) in
        let less = more.less in
        record { k = more.k; less = omega (arith, less); has = more.has }

-- ---- steps
module _ (story : Story) (h : Holding) (run : ℕ → State) (holds : Holds story h run) (j a : ℕ) (early : j ≤ length story.rows) where
  store_missed : (r : ℕ) (imm : ℤ) (op : StoreOp) (o : Option Both) → h.set j r ≡ o → reaches o (word imm) a (store_width op) ≡ false → IsOneOfBytes (plus ((run j).register r) imm) (store_width op) a → ⊥
  store_missed r imm op None is e (k, less, at) = false≢true (sym e)
  store_missed r imm op (Some base) is e (k, less, at) = clash (hit_reaches base imm a ((run j).register r) k (store_width op) less (width_few op) (holds.sets j r base early is) at) e

  -- a step that doesn't reach the byte doesn't write it
  pub missed : (instr : Instr) (image_end : ℕ) (after : State) → instr_reaches h a j instr ≡ false → WritesBy instr image_end (run j) after a → ⊥
  missed (Store op rs1 rs2 imm) image_end after e writes = store_missed rs1 imm op (h.set j rs1) refl e writes
  missed (Lui rd imm) image_end after e writes = writes
  missed (Auipc rd imm) image_end after e writes = writes
  missed (Jal rd imm) image_end after e writes = writes
  missed (Jalr rd rs1 imm) image_end after e writes = writes
  missed (Branch op rs1 rs2 imm) image_end after e writes = writes
  missed (Load op rd rs1 imm) image_end after e writes = writes
  missed (Imm op rd rs1 imm) image_end after e writes = writes
  missed (Op op rd rs1 rs2) image_end after e writes = writes
  missed (Amo op rd rs1 rs2) image_end after e writes = false≢true (sym e)
  missed Fence image_end after e writes = writes
  missed Ecall image_end after e writes = false≢true (sym e)
  missed Ebreak image_end after e writes = writes
  missed (Counter c rd) image_end after e writes = writes

  store_sure : (r : ℕ) (imm : ℤ) (op : StoreOp) (o : Option Both) → h.set j r ≡ o → is_exact o ≡ true → reaches o (word imm) a (store_width op) ≡ true → a < 2 ^ 32 → IsOneOfBytes (plus ((run j).register r) imm) (store_width op) a
  store_sure r imm op None is exact e small = absurd (false≢true exact)
  store_sure r imm op (Some base) is exact e small = by (both_sets.as_exact base) refl exact
    where
      by : (x : Option ℕ) → both_sets.as_exact base ≡ x → is_some x ≡ true → IsOneOfBytes (plus ((run j).register r) imm) (store_width op) a
      by None known some = absurd (false≢true some)
      by (Some v) known some =
          let hit = reaches_hit base imm a (store_width op) e in
          let few = width_few op in
          let less = hit.less in
          let here : (run j).register r ≡ v = both_lawful.as_exact base v ((run j).register r) known (holds.sets j r base early is) in
          let there : base_for (word imm) a hit.k ≡ v = both_lawful.as_exact base v (base_for (word imm) a hit.k) known hit.has in
          (hit.k, hit.less, subst (λ (n : ℕ). a ≡ beside (plus n imm) hit.k) (there ∙ sym here) (at_base a hit.k imm (omega (arith, less, few)) small))

  -- a store whose address is known and that reaches the byte writes it
  pub sure : (instr : Instr) (image_end : ℕ) (after : State) → is_exact_store h j instr ≡ true → instr_reaches h a j instr ≡ true → a < 2 ^ 32 → WritesBy instr image_end (run j) after a
  sure (Store op rs1 rs2 imm) image_end after exact e small = store_sure rs1 imm op (h.set j rs1) refl exact e small
  sure (Lui rd imm) image_end after exact e small = absurd (false≢true exact)
  sure (Auipc rd imm) image_end after exact e small = absurd (false≢true exact)
  sure (Jal rd imm) image_end after exact e small = absurd (false≢true exact)
  sure (Jalr rd rs1 imm) image_end after exact e small = absurd (false≢true exact)
  sure (Branch op rs1 rs2 imm) image_end after exact e small = absurd (false≢true exact)
  sure (Load op rd rs1 imm) image_end after exact e small = absurd (false≢true exact)
  sure (Imm op rd rs1 imm) image_end after exact e small = absurd (false≢true exact)
  sure (Op op rd rs1 rs2) image_end after exact e small = absurd (false≢true exact)
  sure (Amo op rd rs1 rs2) image_end after exact e small = absurd (false≢true exact)
  sure Fence image_end after exact e small = absurd (false≢true exact)
  sure Ecall image_end after exact e small = absurd (false≢true exact)
  sure Ebreak image_end after exact e small = absurd (false≢true exact)
  sure (Counter c rd) image_end after exact e small = absurd (false≢true exact)
