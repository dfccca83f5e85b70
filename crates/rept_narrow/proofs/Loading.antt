-- What loads and stores tell.
use Rattle.std.proofs.Common.{◌≡◌, ◌≢◌, ℕ, zero, suc, nat_lt, ◌+◌, ◌-◌, ◌*◌, ◌/◌, ◌%◌, ◌^◌, ◌<◌, ◌≤◌, Bool, true, false, ℤ, List, length, Option, Some, None, slice_get, refl, sym, ap, subst, ◌∙◌, arith}
use Rattle.std.specs.Prelude.{if◌then◌else◌}
use Rattle.rept_isa.specs.declared.instr.Instr.{Instr}
use Rattle.rept_isa.specs.declared.instr.Instr.TheVariants.{Load, Store}
use Rattle.rept_isa.specs.declared.instr.LoadOp.{LoadOp}
use Rattle.rept_isa.specs.declared.instr.LoadOp.TheVariants.{Lb, Lh, Lw, Lbu, Lhu}
use Rattle.rept_isa.specs.declared.instr.StoreOp.{StoreOp}
use Rattle.rept_isa.specs.declared.row.StepRow.{StepRow}
use Rattle.rept_isa.specs.Numbers.{plus, beside}
use Rattle.rept_isa.specs.Rows.{addresses_of}
use Rattle.rept_machine.specs.Arithmetic.{byte_of, loaded, store_width, word_at}
use Rattle.rept_machine.specs.State.{State, IsState}
use Rattle.rept_machine.specs.Step.{HasEffect, Stores}
use Rattle.rept_known.specs.declared.both.Both.{Both}
use Rattle.rept_known.specs.Both.{both_has, both_sets}
use Rattle.rept_known.specs.Laws.BothLaws.{both_lawful}
use Rattle.rept_span.specs.Filled.{View}
use Rattle.rept_narrow.specs.Admitted.{Story}
use Rattle.rept_narrow.specs.Rules.{set_at, HasSets, AreBytes, IsSoundIn}
use Rattle.rept_narrow.specs.Sweeps.{load_width}
use Rattle.rept_narrow.proofs.Sentences.{inside_rows}

-- the address of a base that has one value
pub placed : (story : Story) (run : ℕ → State) (table : View Both) (p r base : ℕ) (imm : ℤ) (set : Both) (a : ℕ) → set_at table p r ≡ Some set → both_sets.as_exact set ≡ Some base → a ≡ plus base imm → HasSets story table run → p ≤ length story.rows → plus ((run p).register r) imm ≡ a
placed story run table p r base imm set a at exact is h le =
    let value : (run p).register r ≡ base = both_lawful.as_exact set base ((run p).register r) exact (h.sets p r set le at) in
    ap (λ (n : ℕ). plus n imm) value ∙ sym is

-- the register of a load
pub load_sound : (story : Story) (run : ℕ → State) (table : View Both) (i rd rs1 : ℕ) (imm : ℤ) (op : LoadOp) (row : StepRow) (place x : ℕ) (one : Both) → slice_get story.rows i ≡ Some row → row.instr ≡ Load op rd rs1 imm → rd ≢ 0 → one ≡ both_sets.exact x → HasSets story table run → plus ((run i).register rs1) imm ≡ place → loaded op (run i).memory place ≡ x → IsSoundIn story run (i + 1) rd one
load_sound story run table i rd rs1 imm op row place x one at form named e h there value le =
    let step : HasEffect (Load op rd rs1 imm) story.image_end (addresses_of row) (run i) (run (i + 1)) = subst (λ (n : Instr). HasEffect n story.image_end (addresses_of row) (run i) (run (i + 1))) form (h.admitted.execution.steps i row at) in
    let got : (run (i + 1)).register rd ≡ x = step.result.written named ∙ ap (λ (n : ℕ). loaded op (run i).memory n) there ∙ value in
    let small : (run (i + 1)).register rd < 2 ^ 32 = (h.admitted.execution.states (i + 1) le).words rd in
    let fits : x < 2 ^ 32 = subst (λ (n : ℕ). n < 2 ^ 32) got small in
    subst (λ (n : ℕ). both_has one n ≡ true) (sym got) (subst (λ (b : Both). both_has b x ≡ true) (sym e) (both_lawful.exact x fits))

-- a word is made of its bytes
word_of_bytes : (v b0 b1 b2 b3 : ℕ) → v < 2 ^ 32 → b0 ≡ byte_of v 0 → b1 ≡ byte_of v 1 → b2 ≡ byte_of v 2 → b3 ≡ byte_of v 3 → b0 + 2 ^ 8 * b1 + 2 ^ 16 * b2 + 2 ^ 24 * b3 ≡ v
word_of_bytes v b0 b1 b2 b3 small e f g h = omega (arith, small, e, f, g, h)

-- the source of a word's store
pub source_sound : (story : Story) (run : ℕ → State) (table : View Both) (i rs1 rs2 : ℕ) (imm : ℤ) (op : StoreOp) (row : StepRow) (place x : ℕ) (one : Both) → slice_get story.rows i ≡ Some row → row.instr ≡ Store op rs1 rs2 imm → store_width op ≡ 4 → one ≡ both_sets.exact x → HasSets story table run → plus ((run i).register rs1) imm ≡ place → word_at (run (i + 1)).memory place ≡ x → IsSoundIn story run i rs2 one
source_sound story run table i rs1 rs2 imm op row place x one at form wide e h there value le =
    let stored : Stores op ((run i).register rs2) (plus ((run i).register rs1) imm) (addresses_of row) (run i) (run (i + 1)) = subst (λ (n : Instr). HasEffect n story.image_end (addresses_of row) (run i) (run (i + 1))) form (h.admitted.execution.steps i row at) in
    let v = (run i).register rs2 in
    let small : v < 2 ^ 32 = (h.admitted.execution.states i le).words rs2 in
    let t = (run (i + 1)).memory in
    let at_place = λ (k : ℕ) (less : k < 4). subst (λ (n : ℕ). t (beside n k) ≡ byte_of v k) there (stored.written k (omega (arith, less, wide))) in
    let is : word_at t place ≡ v = word_of_bytes v (t (beside place 0)) (t (beside place 1)) (t (beside place 2)) (t (beside place 3)) small (at_place 0 (omega arith)) (at_place 1 (omega arith)) (at_place 2 (omega arith)) (at_place 3 (omega arith)) in
    let same : v ≡ x = sym is ∙ value in
    subst (λ (n : ℕ). both_has one n ≡ true) (sym same) (subst (λ (b : Both). both_has b x ≡ true) (sym e) (both_lawful.exact x (subst (λ (n : ℕ). n < 2 ^ 32) same small)))

-- ---- bytes
below_one : (P : ℕ → Type 0) (k : ℕ) → k < 1 → P 0 → P k
below_one P zero less p = p
below_one P (suc k) less p = absurd (omega (arith, less))

below_two : (P : ℕ → Type 0) (k : ℕ) → k < 2 → P 0 → P 1 → P k
below_two P zero less p q = p
below_two P (suc zero) less p q = q
below_two P (suc (suc k)) less p q = absurd (omega (arith, less))

below_four : (P : ℕ → Type 0) (k : ℕ) → k < 4 → P 0 → P 1 → P 2 → P 3 → P k
below_four P zero less p q r s = p
below_four P (suc zero) less p q r s = q
below_four P (suc (suc zero)) less p q r s = r
below_four P (suc (suc (suc zero))) less p q r s = s
below_four P (suc (suc (suc (suc k)))) less p q r s = absurd (omega (arith, less))

low_of_byte : (t : Bool) (b : ℕ) → b < 2 ^ 8 → byte_of (if t then b else b + (2 ^ 32 - 2 ^ 8)) 0 ≡ b
low_of_byte true b small = omega (arith, small)
low_of_byte false b small = omega (arith, small)

low_of_half : (t : Bool) (b c : ℕ) → b < 2 ^ 8 → c < 2 ^ 8 → byte_of (if t then b + 2 ^ 8 * c else b + 2 ^ 8 * c + (2 ^ 32 - 2 ^ 16)) 0 ≡ b
low_of_half true b c s t = omega (arith, s, t)
low_of_half false b c s t = omega (arith, s, t)

high_of_half : (t : Bool) (b c : ℕ) → b < 2 ^ 8 → c < 2 ^ 8 → byte_of (if t then b + 2 ^ 8 * c else b + 2 ^ 8 * c + (2 ^ 32 - 2 ^ 16)) 1 ≡ c
high_of_half true b c s t = omega (arith, s, t)
high_of_half false b c s t = omega (arith, s, t)

first_of_word : (b c d e : ℕ) → b < 2 ^ 8 → c < 2 ^ 8 → d < 2 ^ 8 → e < 2 ^ 8 → byte_of (b + 2 ^ 8 * c + 2 ^ 16 * d + 2 ^ 24 * e) 0 ≡ b
first_of_word b c d e p q r s = omega (arith, p, q, r, s)

second_of_word : (b c d e : ℕ) → b < 2 ^ 8 → c < 2 ^ 8 → d < 2 ^ 8 → e < 2 ^ 8 → byte_of (b + 2 ^ 8 * c + 2 ^ 16 * d + 2 ^ 24 * e) 1 ≡ c
second_of_word b c d e p q r s = omega (arith, p, q, r, s)

third_of_word : (b c d e : ℕ) → b < 2 ^ 8 → c < 2 ^ 8 → d < 2 ^ 8 → e < 2 ^ 8 → byte_of (b + 2 ^ 8 * c + 2 ^ 16 * d + 2 ^ 24 * e) 2 ≡ d
third_of_word b c d e p q r s = omega (arith, p, q, r, s)

fourth_of_word : (b c d e : ℕ) → b < 2 ^ 8 → c < 2 ^ 8 → d < 2 ^ 8 → e < 2 ^ 8 → byte_of (b + 2 ^ 8 * c + 2 ^ 16 * d + 2 ^ 24 * e) 3 ≡ e
fourth_of_word b c d e p q r s = omega (arith, p, q, r, s)

-- byte k of what a load puts into its register is the byte that it read there
pub loaded_is : (op : LoadOp) (m : ℕ → ℕ) (base k : ℕ) → ((a : ℕ) → m a < 2 ^ 8) → k < load_width op → byte_of (loaded op m base) k ≡ m (beside base k)
loaded_is Lb m base k small less = below_one (λ n. byte_of (loaded Lb m base) n ≡ m (beside base n)) k less (low_of_byte (nat_lt (m (beside base 0)) (2 ^ 7)) (m (beside base 0)) (small (beside base 0)))
loaded_is Lbu m base k small less = below_one (λ n. byte_of (loaded Lbu m base) n ≡ m (beside base n)) k less (low_of_byte true (m (beside base 0)) (small (beside base 0)))
loaded_is Lh m base k small less =
    let b = m (beside base 0) in
    let c = m (beside base 1) in
    below_two (λ n. byte_of (loaded Lh m base) n ≡ m (beside base n)) k less (low_of_half (nat_lt (b + 2 ^ 8 * c) (2 ^ 15)) b c (small (beside base 0)) (small (beside base 1))) (high_of_half (nat_lt (b + 2 ^ 8 * c) (2 ^ 15)) b c (small (beside base 0)) (small (beside base 1)))
loaded_is Lhu m base k small less =
    let b = m (beside base 0) in
    let c = m (beside base 1) in
    below_two (λ n. byte_of (loaded Lhu m base) n ≡ m (beside base n)) k less (low_of_half true b c (small (beside base 0)) (small (beside base 1))) (high_of_half true b c (small (beside base 0)) (small (beside base 1)))
loaded_is Lw m base k small less =
    let b = m (beside base 0) in
    let c = m (beside base 1) in
    let d = m (beside base 2) in
    let e = m (beside base 3) in
    let p = small (beside base 0) in
    let q = small (beside base 1) in
    let r = small (beside base 2) in
    let s = small (beside base 3) in
    below_four (λ n. byte_of (loaded Lw m base) n ≡ m (beside base n)) k less (first_of_word b c d e p q r s) (second_of_word b c d e p q r s) (third_of_word b c d e p q r s) (fourth_of_word b c d e p q r s)

-- what the register of a load tells of a byte
pub load_tells : (story : Story) (run : ℕ → State) (table : View Both) (i rd rs1 : ℕ) (imm : ℤ) (op : LoadOp) (row : StepRow) (place k a b : ℕ) (set : Both) → slice_get story.rows i ≡ Some row → row.instr ≡ Load op rd rs1 imm → rd ≢ 0 → k < load_width op → set_at table (i + 1) rd ≡ Some set → ((v : ℕ) → both_has set v ≡ true → byte_of v k ≡ b) → HasSets story table run → plus ((run i).register rs1) imm ≡ place → a ≡ beside place k → (run i).memory a ≡ b
load_tells story run table i rd rs1 imm op row place k a b set at form named less is tells h there here =
    let inside = inside_rows story.rows i row at in
    let step : HasEffect (Load op rd rs1 imm) story.image_end (addresses_of row) (run i) (run (i + 1)) = subst (λ (n : Instr). HasEffect n story.image_end (addresses_of row) (run i) (run (i + 1))) form (h.admitted.execution.steps i row at) in
    let got : (run (i + 1)).register rd ≡ loaded op (run i).memory place = step.result.written named ∙ ap (λ (n : ℕ). loaded op (run i).memory n) there in
    let byte : byte_of ((run (i + 1)).register rd) k ≡ b = tells ((run (i + 1)).register rd) (h.sets (i + 1) rd set (omega (arith, inside)) is) in
    let small = (h.admitted.execution.states i (omega (arith, inside))).bytes in
    let read : byte_of (loaded op (run i).memory place) k ≡ (run i).memory (beside place k) = loaded_is op (run i).memory place k small less in
    ap (λ (n : ℕ). (run i).memory n) here ∙ sym read ∙ ap (λ (n : ℕ). byte_of n k) (sym got) ∙ byte

-- what the source of a store tells of a byte
pub store_tells : (story : Story) (run : ℕ → State) (table : View Both) (i rs1 rs2 : ℕ) (imm : ℤ) (op : StoreOp) (row : StepRow) (place k a b : ℕ) (set : Both) → slice_get story.rows i ≡ Some row → row.instr ≡ Store op rs1 rs2 imm → k < store_width op → set_at table i rs2 ≡ Some set → ((v : ℕ) → both_has set v ≡ true → byte_of v k ≡ b) → HasSets story table run → plus ((run i).register rs1) imm ≡ place → a ≡ beside place k → (run (i + 1)).memory a ≡ b
store_tells story run table i rs1 rs2 imm op row place k a b set at form less is tells h there here =
    let inside = inside_rows story.rows i row at in
    let stored : Stores op ((run i).register rs2) (plus ((run i).register rs1) imm) (addresses_of row) (run i) (run (i + 1)) = subst (λ (n : Instr). HasEffect n story.image_end (addresses_of row) (run i) (run (i + 1))) form (h.admitted.execution.steps i row at) in
    let byte : byte_of ((run i).register rs2) k ≡ b = tells ((run i).register rs2) (h.sets i rs2 set (omega (arith, inside)) is) in
    ap (λ (n : ℕ). (run (i + 1)).memory n) here ∙ subst (λ (n : ℕ). (run (i + 1)).memory (beside n k) ≡ byte_of ((run i).register rs2) k) there (stored.written k less) ∙ byte
