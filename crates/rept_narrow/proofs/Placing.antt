-- A store that writes a byte has a place, and what is known of the bytes of its source.
use Rattle.std.proofs.Common.{◌≡◌, ℕ, ◌+◌, ◌-◌, ◌*◌, ◌/◌, ◌%◌, ◌^◌, ◌<◌, ◌≤◌, Bool, true, false, ℤ, pos, Option, Some, slice_get, List, refl, sym, ap, subst, ◌∙◌, arith, lit<}
use Rattle.std.specs.Prelude.{bit_and}
use Rattle.std.proofs.lemmas.Grind.{and_numeral}
use Rattle.std.proofs.lemmas.Nat.{and_le_r}
use Rattle.std.proofs.lemmas.Bool.{and_parts, false≢true}
use Rattle.std.proofs.Math.Nat.{div-le_self}
use Rattle.rept_partial.specs.Ranges.{range_has}
use Rattle.rept_span.specs.Laws.RangeBounds.{word_small}
use Rattle.rept_isa.specs.declared.instr.Instr.{Instr}
use Rattle.rept_isa.specs.declared.instr.Instr.TheVariants.{Lui, Auipc, Jal, Jalr, Branch, Load, Store, Imm, Op, Amo, Fence, Ecall, Ebreak, Counter}
use Rattle.rept_isa.specs.declared.instr.StoreOp.{StoreOp}
use Rattle.rept_isa.specs.declared.instr.RegOp.TheVariants.{Srl, And}
use Rattle.rept_isa.specs.declared.row.StepRow.{StepRow}
use Rattle.rept_isa.specs.Numbers.{word, plus, beside}
use Rattle.rept_isa.specs.Rows.{Addresses, addresses_of}
use Rattle.rept_machine.specs.State.{State}
use Rattle.rept_machine.specs.Step.{HasEffect, Stores}
use Rattle.rept_machine.specs.Writes.{IsOneOfBytes, WritesBy}
use Rattle.rept_machine.specs.Arithmetic.{byte_of, store_width, computed}
use Rattle.rept_known.specs.declared.bits.Bits.{Bits}
use Rattle.rept_known.specs.declared.both.Both.{Both}
use Rattle.rept_known.specs.Bits.{bits_has}
use Rattle.rept_known.specs.Both.{both_has}
use Rattle.rept_known.specs.BitsMoves.{operation_covers}
use Rattle.rept_known.specs.Operations.{all_known, operation_bits}
use Rattle.rept_known.specs.Laws.BitsLaws.{has_agrees, agrees_has, one_agrees}
use Rattle.rept_known.specs.Laws.BothLaws.{both_lawful}
use Rattle.rept_span.specs.Filled.{View}
use Rattle.rept_narrow.specs.Admitted.{Story}
use Rattle.rept_narrow.specs.Rules.{set_at, HasSets, AreBytes, WritesNot}
use Rattle.rept_narrow.specs.Stores.{Leaves, IsStorePlaced, names_bytes}
use Rattle.rept_narrow.proofs.Sentences.{inside_rows}

-- ---- the bytes of a word
pub word_pos : (n : ℕ) → n < 2 ^ 32 → word (pos n) ≡ n
unfolding word
word_pos n small = omega (arith, small)

pub low_byte : (n : ℕ) → bit_and n 255 ≡ n % 2 ^ 8
low_byte n = and_numeral n 254 refl

byte_agrees : (a : Bits) (v k m : ℕ) → k < 4 → m ≡ 8 * k → bits_has a v ≡ true → bits_has (operation_bits And (operation_bits Srl a (all_known m)) (all_known 255)) (byte_of v k) ≡ true
byte_agrees a v k m less is h =
    let agrees = has_agrees a v h in
    let small : v < 2 ^ 32 = agrees.small in
    let below : v / 2 ^ (m % 32) ≤ v = div-le_self v (2 ^ (m % 32)) in
    let low : computed Srl v m < 2 ^ 32 = omega (arith, small, below) in
    let shifted = operation_covers Srl a (all_known m) v m low agrees (one_agrees m (omega (arith, is, less))) in
    let amount : m % 32 ≡ 8 * k = omega (arith, is, less) in
    let e : bit_and (computed Srl v m) 255 ≡ byte_of v k = low_byte (v / 2 ^ (m % 32)) ∙ ap (λ n. v / 2 ^ n % 2 ^ 8) amount in
    let most : bit_and (computed Srl v m) 255 ≤ 255 = and_le_r (computed Srl v m) 255 in
    let cut = operation_covers And (operation_bits Srl a (all_known m)) (all_known 255) (computed Srl v m) 255 (omega (arith, most)) shifted (one_agrees 255 (lit< tt)) in
    subst (λ (n : ℕ). bits_has (operation_bits And (operation_bits Srl a (all_known m)) (all_known 255)) n ≡ true) e (agrees_has (operation_bits And (operation_bits Srl a (all_known m)) (all_known 255)) (bit_and (computed Srl v m) 255) cut)

pub byte_known : (a shifted result : Bits) (k : ℕ) (imm : ℤ) → k < 4 → imm ≡ pos (8 * k) → shifted ≡ operation_bits Srl a (all_known (word imm)) → result ≡ operation_bits And shifted (all_known (word (pos 255))) → (v : ℕ) → bits_has a v ≡ true → bits_has result (byte_of v k) ≡ true
byte_known a shifted result k imm less i s r v h =
    let m : word imm ≡ 8 * k = ap (λ (z : ℤ). word z) i ∙ word_pos (8 * k) (omega (arith, less)) in
    let first : shifted ≡ operation_bits Srl a (all_known (8 * k)) = s ∙ ap (λ (n : ℕ). operation_bits Srl a (all_known n)) m in
    let second : result ≡ operation_bits And (operation_bits Srl a (all_known (8 * k))) (all_known 255) = r ∙ ap (λ (b : Bits). operation_bits And b (all_known (word (pos 255)))) first ∙ ap (λ (n : ℕ). operation_bits And (operation_bits Srl a (all_known (8 * k))) (all_known n)) (word_pos 255 (lit< tt)) in
    subst (λ (b : Bits). bits_has b (byte_of v k) ≡ true) (sym second) (byte_agrees a v k (8 * k) less refl h)

-- ---- the place of a byte
first_is : (from a k : ℕ) (imm : ℤ) → k < 4 → a ≡ beside (plus from imm) k → (a + (2 ^ 32 - k)) % 2 ^ 32 ≡ plus from imm
first_is from a k imm less at = omega (arith, less, at)

pub base_is : (from first w : ℕ) → from < 2 ^ 32 → w < 2 ^ 32 → first ≡ (from + w) % 2 ^ 32 → (first + (2 ^ 32 - w)) % 2 ^ 32 ≡ from
base_is from first w small less is = omega (arith, small, less, is)

-- a place that is ruled out by its base or by the bytes after it
pub place_missed : (base source : Both) (imm : ℤ) (width a k offset first from : ℕ) (told : ℕ → ℕ → Type 0) → k < 4 → offset ≡ word imm → first ≡ (a + (2 ^ 32 - k)) % 2 ^ 32 → from ≡ (first + (2 ^ 32 - offset)) % 2 ^ 32 → (both_has base from ≡ true → (v : ℕ) → bits_has source.bits v ≡ true → Leaves told first width v → ⊥) → IsStorePlaced base source imm width told a k → ⊥
place_missed base source imm width a k offset first from told less o f g out p =
    let starts : first ≡ plus p.from imm = f ∙ first_is p.from a k imm less p.here in
    let small : p.from < 2 ^ 32 = both_lawful.words base p.from p.in_base in
    let fits : offset < 2 ^ 32 = subst (λ (n : ℕ). n < 2 ^ 32) (sym o) (word_small imm) in
    let based : from ≡ p.from = g ∙ base_is p.from first offset small fits (starts ∙ ap (λ (n : ℕ). (p.from + n) % 2 ^ 32) (sym o)) in
    out (subst (λ (n : ℕ). both_has base n ≡ true) (sym based) p.in_base) p.value (and_parts (range_has source.range p.value) (bits_has source.bits p.value) p.in_source).1 (subst (λ (n : ℕ). Leaves told n width p.value) (sym starts) p.left)

-- ---- rows
silent : (instr : Instr) (image_end : ℕ) (s t : State) (a : ℕ) → names_bytes instr ≡ false → WritesBy instr image_end s t a → ⊥
silent (Store op rs1 rs2 imm) image_end s t a e w = absurd (false≢true (sym e))
silent (Amo op rd rs1 rs2) image_end s t a e w = absurd (false≢true (sym e))
silent Ecall image_end s t a e w = absurd (false≢true (sym e))
silent (Lui rd imm) image_end s t a e w = w
silent (Auipc rd imm) image_end s t a e w = w
silent (Jal rd imm) image_end s t a e w = w
silent (Jalr rd rs1 imm) image_end s t a e w = w
silent (Branch op rs1 rs2 imm) image_end s t a e w = w
silent (Load op rd rs1 imm) image_end s t a e w = w
silent (Imm op rd rs1 imm) image_end s t a e w = w
silent (Op op rd rs1 rs2) image_end s t a e w = w
silent Fence image_end s t a e w = w
silent Ebreak image_end s t a e w = w
silent (Counter rd csr) image_end s t a e w = w

same_row : (rows : List StepRow) (i : ℕ) (row other : StepRow) → slice_get rows i ≡ Some row → slice_get rows i ≡ Some other → row ≡ other
same_row rows i row other at is = cc

pub silent_row : (story : Story) (run : ℕ → State) (i a : ℕ) (row : StepRow) → slice_get story.rows i ≡ Some row → names_bytes row.instr ≡ false → WritesNot story run i a
silent_row story run i a row at e = λ other is w.
    let alike : other ≡ row = same_row story.rows i other row is at in
    silent row.instr story.image_end (run i) (run (i + 1)) a e (subst (λ (x : StepRow). WritesBy x.instr story.image_end (run i) (run (i + 1)) a) alike w)

store_writes : (instr : Instr) (op : StoreOp) (rs1 rs2 : ℕ) (imm : ℤ) (image_end : ℕ) (place : Addresses) (s t : State) (a : ℕ) (base source : Both) (told : ℕ → ℕ → Type 0) → instr ≡ Store op rs1 rs2 imm → both_has base (s.register rs1) ≡ true → both_has source (s.register rs2) ≡ true → ((b v : ℕ) → told b v → t.memory b ≡ v) → HasEffect instr image_end place s t → WritesBy instr image_end s t a → (k : ℕ) × (k < store_width op) × IsStorePlaced base source imm (store_width op) told a k
store_writes instr op rs1 rs2 imm image_end place s t a base source told e x y bytes step w =
    let stored : Stores op (s.register rs2) (plus (s.register rs1) imm) place s t = subst (λ (n : Instr). HasEffect n image_end place s t) e step in
    let one : IsOneOfBytes (plus (s.register rs1) imm) (store_width op) a = subst (λ (n : Instr). WritesBy n image_end s t a) e w in (
      one.0,
      one.1,
      record {
        from = s.register rs1;
        value = s.register rs2;
        in_base = x;
        in_source = y;
        here = one.2;
        left = λ j v less is. sym (stored.written j less) ∙ bytes (beside (plus (s.register rs1) imm) j) v is;
      },
    )

pub store_missed : (story : Story) (run : ℕ → State) (table : View Both) (tells : ℕ → ℕ → ℕ → Type 0) (i a : ℕ) (row : StepRow) (op : StoreOp) (rs1 rs2 : ℕ) (imm read : ℤ) (width : ℕ) (base source : Both) → slice_get story.rows i ≡ Some row → row.instr ≡ Store op rs1 rs2 imm → set_at table i rs1 ≡ Some base → set_at table i rs2 ≡ Some source → read ≡ imm → width ≡ store_width op → ((k : ℕ) → k < width → IsStorePlaced base source read width (tells (i + 1)) a k → ⊥) → HasSets story table run → AreBytes story tells run → WritesNot story run i a
store_missed story run table tells i a row op rs1 rs2 imm read width base source at e first second r n missed h bytes = λ other is w.
    let alike : other ≡ row = same_row story.rows i other row is at in
    let inside = inside_rows story.rows i row at in
    let place = store_writes row.instr op rs1 rs2 imm story.image_end (addresses_of row) (run i) (run (i + 1)) a base source (tells (i + 1)) e (h.sets i rs1 base (omega (arith, inside)) first) (h.sets i rs2 source (omega (arith, inside)) second) (λ b v t. bytes (i + 1) b v (omega (arith, inside)) t) (h.admitted.execution.steps i row at) (subst (λ (x : StepRow). WritesBy x.instr story.image_end (run i) (run (i + 1)) a) alike w) in
    missed place.0 (subst (λ (m : ℕ). place.0 < m) (sym n) place.1) (subst (λ (m : ℕ). IsStorePlaced base source read m (tells (i + 1)) a place.0) (sym n) (subst (λ (z : ℤ). IsStorePlaced base source z (store_width op) (tells (i + 1)) a place.0) (sym r) place.2))
