-- Words of memory over a row.
use Rattle.std.proofs.Common.{◌≡◌, ◌≢◌, ℕ, ◌+◌, ◌*◌, ◌%◌, ◌^◌, ◌<◌, ◌≤◌, ℤ, true, List, [], ◌∷◌, length, Some, slice_get, inl, inr, refl, sym, ap, subst, ◌∙◌, lit<, arith}
use Rattle.std.proofs.lemmas.Bool.{cases_lt, false≢true}
use Rattle.rept_isa.specs.declared.instr.Instr.{Instr}
use Rattle.rept_isa.specs.declared.instr.Instr.TheVariants.{Lui, Auipc, Jal, Jalr, Branch, Load, Store, Imm, Op, Amo, Fence, Ecall, Ebreak, Counter}
use Rattle.rept_isa.specs.declared.instr.AmoOp.{AmoOp}
use Rattle.rept_isa.specs.declared.instr.AmoOp.TheVariants as atomic
use Rattle.rept_isa.specs.declared.instr.StoreOp.{StoreOp}
use Rattle.rept_isa.specs.declared.instr.LoadOp.{LoadOp}
use Rattle.rept_isa.specs.declared.instr.LoadOp.TheVariants.{Lb, Lh, Lw, Lbu, Lhu}
use Rattle.rept_isa.specs.declared.row.StepRow.{StepRow}
use Rattle.rept_isa.specs.Numbers.{word, beside}
use Rattle.rept_isa.specs.Operands.{written_by, first_read, second_read}
use Rattle.rept_isa.specs.Rows.{addresses_of}
use Rattle.rept_machine.specs.Arithmetic.{extended, half_at, loaded, word_at, byte_of, store_width}
use Rattle.rept_machine.specs.State.{State}
use Rattle.rept_machine.specs.Step.{HasEffect}
use Rattle.rept_machine.specs.Writes.{IsOneOfBytes, WritesAtomic, WritesBy}
use Rattle.rept_machine.proofs.StepLaws.{effect_keeps_byte}
use Rattle.rept_known.specs.declared.both.Both.{Both}
use Rattle.rept_known.specs.Both.{both_has, both_sets}
use Rattle.rept_known.specs.Laws.BothLaws.{both_lawful}
use Rattle.rept_relate.specs.declared.classes.node.Term.{Term}
use Rattle.rept_relate.specs.Classes.Valuations.{word_of}
use Rattle.rept_relate.proofs.ClassesLemmas.Changing.{further}
use Rattle.rept_relate.specs.declared.numbering.OperandNodes.{OperandNodes}
use Rattle.rept_relate.specs.declared.words.WordPlace.{WordPlace}
use Rattle.rept_relate.specs.declared.words.WordSlot.{WordSlot}
use Rattle.rept_relate.specs.Relations.{IsRowOf}
use Rattle.rept_relate.specs.Holding.{IsPlaceOf, IsWordHeld, AreHeld, IsCleared, AreCleared, KeepsOthers, is_quiet}
use Rattle.rept_relate.proofs.Rowing.{effect, unless_named}

-- ---- places
pub placed : (value : ℕ → ℕ) (root : Term) (base offset lo hi : ℕ) (set : Both) → value base ≡ word_of value root → both_has set (word_of value (record { node = root.node; offset = (root.offset + offset) % 2 ^ 32 })) ≡ true → lo ≡ both_sets.lo set → hi ≡ both_sets.hi set → IsPlaceOf value (record { address = record { node = root.node; offset = (root.offset + offset) % 2 ^ 32 }; lo = lo; hi = hi }) (beside (value base) offset)
placed value root base offset lo hi set e has l h =
    let stands : (value root.node + (root.offset + offset) % 2 ^ 32) % 2 ^ 32 ≡ beside (value base) offset = further (value base) (value root.node) root.offset offset e in
    let bounds = both_lawful.bounds set ((value root.node + (root.offset + offset) % 2 ^ 32) % 2 ^ 32) has in
    record {
      stands = stands;
      low = let b = bounds.0 in subst (λ (n : ℕ). lo ≤ n) stands (subst (λ (n : ℕ). n ≤ (value root.node + (root.offset + offset) % 2 ^ 32) % 2 ^ 32) (sym l) b);
      high = let b = bounds.1 in subst (λ (n : ℕ). n ≤ hi) stands (subst (λ (n : ℕ). (value root.node + (root.offset + offset) % 2 ^ 32) % 2 ^ 32 ≤ n) (sym h) b);
    }

own_place : (value : ℕ → ℕ) (place : WordPlace) (a : ℕ) → IsPlaceOf value place a → IsPlaceOf value place (word_of value place.address)
own_place value place a p = subst (λ (n : ℕ). IsPlaceOf value place n) (sym p.stands) p

pub held_new : (value : ℕ → ℕ) (s : State) (place : WordPlace) (op : LoadOp) (a node : ℕ) → IsPlaceOf value place a → loaded op s.memory a ≡ value node → IsWordHeld value s (record { live = true; place = place; op = op; node = node })
held_new value s place op a node p e = record { place = own_place value place a p; word = ap (λ (n : ℕ). loaded op s.memory n) p.stands ∙ e }

pub word_there : (value : ℕ → ℕ) (s : State) (place : WordPlace) (op : LoadOp) (a node known : ℕ) → IsPlaceOf value place a → value node ≡ loaded op s.memory a → loaded op s.memory (word_of value place.address) ≡ value known → value node ≡ value known
word_there value s place op a node known p e f = e ∙ ap (λ (n : ℕ). loaded op s.memory n) (sym p.stands) ∙ f

-- ---- the words that are left
pub word_same : (m n : ℕ → ℕ) (a : ℕ) → ((k : ℕ) → k < 4 → m (beside a k) ≡ n (beside a k)) → word_at m a ≡ word_at n a
word_same m n a same =
    let p = same 0 (lit< tt) in
    let q = same 1 (lit< tt) in
    let r = same 2 (lit< tt) in
    let s = same 3 (lit< tt) in
    rw (p, q, r, s) refl

half_same : (m n : ℕ → ℕ) (a : ℕ) → ((k : ℕ) → k < 4 → m (beside a k) ≡ n (beside a k)) → half_at m a ≡ half_at n a
half_same m n a same =
    let p = same 0 (lit< tt) in
    let q = same 1 (lit< tt) in
    rw (p, q) refl

pub loaded_same : (op : LoadOp) (m n : ℕ → ℕ) (a : ℕ) → ((k : ℕ) → k < 4 → m (beside a k) ≡ n (beside a k)) → loaded op m a ≡ loaded op n a
loaded_same Lb m n a same = ap (extended 8) (same 0 (lit< tt))
loaded_same Lh m n a same = ap (extended 16) (half_same m n a same)
loaded_same Lw m n a same = word_same m n a same
loaded_same Lbu m n a same = same 0 (lit< tt)
loaded_same Lhu m n a same = half_same m n a same

pub cleared_held : (old new : List WordSlot) (place : WordPlace) (width : ℕ) (value : ℕ → ℕ) (s t : State) (base : ℕ) → AreCleared old new place width → IsPlaceOf value place base → KeepsOthers s t base width → AreHeld old value s → AreHeld new value t
cleared_held old new place width value s t base cleared at others held k slot is live =
    let c = cleared k slot is live in
    let h = held k slot c.kept live in
    let a = word_of value slot.place.address in
    record {
      place = h.place;
      word = loaded_same slot.op t.memory s.memory a (λ j less. others (beside a j) (λ i inside e. c.apart value a base h.place at j i less inside e)) ∙ h.word;
    }

pub held_same : (slots : List WordSlot) (value : ℕ → ℕ) (s t : State) → ((a : ℕ) → t.memory a ≡ s.memory a) → AreHeld slots value s → AreHeld slots value t
held_same slots value s t same held k slot is live =
    let h = held k slot is live in
    record { place = h.place; word = loaded_same slot.op t.memory s.memory (word_of value slot.place.address) (λ j less. same (beside (word_of value slot.place.address) j)) ∙ h.word }

pub none_held : (slots : List WordSlot) (value : ℕ → ℕ) (t : State) → length slots ≡ 0 → AreHeld slots value t
none_held [] value t none k slot is live = absurd (nothing is)
  where
    nothing : {W : Type 0} {x : W} → slice_get {X = W} [] k ≡ Some x → ⊥
    nothing e = cc
none_held (x ∷ xs) value t none k slot is live = absurd (omega (arith, none))

pub cleared_more : (before old new : List WordSlot) (place : WordPlace) (width i : ℕ) → ((m : ℕ) (slot : WordSlot) → m < i → slice_get old m ≡ Some slot → slot.live ≡ true → IsCleared before m slot place width) → ((m : ℕ) → i ≤ m → slice_get old m ≡ slice_get before m) → ((slot : WordSlot) → slice_get new i ≡ Some slot → slot.live ≡ true → IsCleared old i slot place width) → ((m : ℕ) → (m ≡ i → ⊥) → slice_get new m ≡ slice_get old m) → (m : ℕ) (slot : WordSlot) → m < i + 1 → slice_get new m ≡ Some slot → slot.live ≡ true → IsCleared before m slot place width
cleared_more before old new place width i done rest here others m slot less at live = elim (cases_lt m i) [
  | inl lt ↦ done m slot lt (sym (others m (λ e. let f = e in omega (arith, lt, f))) ∙ at) live
  | inr le ↦
      let same : m ≡ i = omega (arith, le, less) in
      let there : slice_get new i ≡ Some slot = ap (λ (j : ℕ). slice_get new j) (sym same) ∙ at in
      let c = here slot there live in
      subst (λ (j : ℕ). IsCleared before j slot place width) (sym same) (record { kept = sym (rest i (omega arith)) ∙ c.kept; apart = c.apart })
]

-- ---- rows
quiet_writes : (instr : Instr) (image_end : ℕ) (s t : State) (a : ℕ) → is_quiet instr ≡ true → WritesBy instr image_end s t a → ⊥
quiet_writes (Store op rs1 rs2 imm) image_end s t a e w = false≢true e
quiet_writes (Amo op rd rs1 rs2) image_end s t a e w = false≢true e
quiet_writes Ecall image_end s t a e w = false≢true e
quiet_writes (Lui rd imm) image_end s t a e w = w
quiet_writes (Auipc rd imm) image_end s t a e w = w
quiet_writes (Jal rd imm) image_end s t a e w = w
quiet_writes (Jalr rd rs1 imm) image_end s t a e w = w
quiet_writes (Branch op rs1 rs2 imm) image_end s t a e w = w
quiet_writes (Load op rd rs1 imm) image_end s t a e w = w
quiet_writes (Imm op rd rs1 imm) image_end s t a e w = w
quiet_writes (Op op rd rs1 rs2) image_end s t a e w = w
quiet_writes Fence image_end s t a e w = w
quiet_writes Ebreak image_end s t a e w = w
quiet_writes (Counter rd csr) image_end s t a e w = w

pub quiet_same : (row : StepRow) (node : ℕ) (nodes : OperandNodes) (value : ℕ → ℕ) (image_end : ℕ) (s t : State) → is_quiet row.instr ≡ true → IsRowOf row node nodes value image_end s t → (a : ℕ) → t.memory a ≡ s.memory a
quiet_same row node nodes value image_end s t quiet w a = effect_keeps_byte row.instr image_end (addresses_of row) s t a w.step (quiet_writes row.instr image_end s t a quiet)

pub first_small : (row : StepRow) (node : ℕ) (nodes : OperandNodes) (value : ℕ → ℕ) (image_end : ℕ) (s t : State) (r : ℕ) → first_read row.instr ≡ Some r → IsRowOf row node nodes value image_end s t → value nodes.first < 2 ^ 32
first_small row node nodes value image_end s t r e w = subst (λ (n : ℕ). n < 2 ^ 32) (sym (w.first r e)) (w.before.words r)

pub loaded_value : (row : StepRow) (node : ℕ) (nodes : OperandNodes) (value : ℕ → ℕ) (image_end : ℕ) (s t : State) (op : LoadOp) (rd rs1 : ℕ) (imm : ℤ) → row.instr ≡ Load op rd rs1 imm → rd ≢ 0 → IsRowOf row node nodes value image_end s t → value node ≡ loaded op s.memory (beside (value nodes.first) (word imm))
loaded_value row node nodes value image_end s t op rd rs1 imm is named w =
    let h : HasEffect (Load op rd rs1 imm) image_end (addresses_of row) s t = effect (Load op rd rs1 imm) image_end row s t is w.step in
    w.result rd (ap written_by is ∙ unless_named rd named) ∙ h.result.written named ∙ ap (λ (n : ℕ). loaded op s.memory (beside n (word imm))) (sym (w.first rs1 (ap first_read is)))

pub stored_others : (row : StepRow) (node : ℕ) (nodes : OperandNodes) (value : ℕ → ℕ) (image_end : ℕ) (s t : State) (op : StoreOp) (rs1 rs2 : ℕ) (imm : ℤ) → row.instr ≡ Store op rs1 rs2 imm → IsRowOf row node nodes value image_end s t → KeepsOthers s t (beside (value nodes.first) (word imm)) (store_width op)
stored_others row node nodes value image_end s t op rs1 rs2 imm is w a out =
    let h : HasEffect (Store op rs1 rs2 imm) image_end (addresses_of row) s t = effect (Store op rs1 rs2 imm) image_end row s t is w.step in
    h.others a (λ k less e. out k less (e ∙ ap (λ (n : ℕ). beside (beside n (word imm)) k) (sym (w.first rs1 (ap first_read is)))))

word_back : (w : ℕ) → w < 2 ^ 32 → byte_of w 0 + 2 ^ 8 * byte_of w 1 + 2 ^ 16 * byte_of w 2 + 2 ^ 24 * byte_of w 3 ≡ w
word_back w small = omega arith

pub stored_word : (row : StepRow) (node : ℕ) (nodes : OperandNodes) (value : ℕ → ℕ) (image_end : ℕ) (s t : State) (op : StoreOp) (rs1 rs2 : ℕ) (imm : ℤ) → row.instr ≡ Store op rs1 rs2 imm → IsRowOf row node nodes value image_end s t → store_width op ≡ 4 → word_at t.memory (beside (value nodes.first) (word imm)) ≡ value nodes.second
stored_word row node nodes value image_end s t op rs1 rs2 imm is w four =
    let h : HasEffect (Store op rs1 rs2 imm) image_end (addresses_of row) s t = effect (Store op rs1 rs2 imm) image_end row s t is w.step in
    let base : beside (value nodes.first) (word imm) ≡ beside (s.register rs1) (word imm) = ap (λ (n : ℕ). beside n (word imm)) (w.first rs1 (ap first_read is)) in
    let p = h.written 0 (rw four (lit< tt)) in
    let q = h.written 1 (rw four (lit< tt)) in
    let r = h.written 2 (rw four (lit< tt)) in
    let u = h.written 3 (rw four (lit< tt)) in
    let there : word_at t.memory (beside (s.register rs1) (word imm)) ≡ s.register rs2 = rw (p, q, r, u) (word_back (s.register rs2) (w.before.words rs2)) in
    ap (λ (n : ℕ). word_at t.memory n) base ∙ there ∙ sym (w.second rs2 (ap second_read is))

atomic_writes : (op : AmoOp) (rd base : ℕ) (after : ℕ → ℕ) (a : ℕ) → WritesAtomic op rd base after a → IsOneOfBytes base 4 a
atomic_writes atomic.Lr rd base after a w = absurd w
atomic_writes atomic.Sc rd base after a w = w.1
atomic_writes atomic.Swap rd base after a w = w
atomic_writes atomic.Add rd base after a w = w
atomic_writes atomic.Xor rd base after a w = w
atomic_writes atomic.And rd base after a w = w
atomic_writes atomic.Or rd base after a w = w
atomic_writes atomic.Min rd base after a w = w
atomic_writes atomic.Max rd base after a w = w
atomic_writes atomic.Minu rd base after a w = w
atomic_writes atomic.Maxu rd base after a w = w

pub atomic_others : (row : StepRow) (node : ℕ) (nodes : OperandNodes) (value : ℕ → ℕ) (image_end : ℕ) (s t : State) (op : AmoOp) (rd rs1 rs2 : ℕ) → row.instr ≡ Amo op rd rs1 rs2 → IsRowOf row node nodes value image_end s t → KeepsOthers s t (beside (value nodes.first) 0) 4
atomic_others row node nodes value image_end s t op rd rs1 rs2 is w a out =
    let first = w.first rs1 (ap first_read is) in
    let small = w.before.words rs1 in
    let base : beside (value nodes.first) 0 ≡ s.register rs1 = omega (arith, first, small) in
    let h : HasEffect (Amo op rd rs1 rs2) image_end (addresses_of row) s t = effect (Amo op rd rs1 rs2) image_end row s t is w.step in
    effect_keeps_byte (Amo op rd rs1 rs2) image_end (addresses_of row) s t a h (λ writes.
    let byte = atomic_writes op rd (s.register rs1) t.register a writes in
    out byte.0 byte.1 (byte.2 ∙ ap (λ (n : ℕ). beside n byte.0) (sym base)))
