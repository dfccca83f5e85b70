-- What calls and atomic instructions may write lies in the access that the sets give.
use Rattle.std.proofs.Common.{◌≡◌, ◌≢◌, ℕ, zero, suc, ◌+◌, ◌-◌, ◌*◌, ◌%◌, ◌^◌, ◌<◌, ◌≤◌, ℤ, pos, Bool, true, false, List, [], ◌∷◌, length, Option, Some, None, slice_get, inl, inr, refl, sym, ap, subst, ◌∙◌, arith, lit<}
use Rattle.std.specs.Prelude.{nat_eq, ◌||◌}
use Rattle.std.proofs.lemmas.Bool.{cases_eq, eqb-true}
use Rattle.std.proofs.lemmas.Option.{slice_get_within}
use Rattle.std.proofs.lemmas.Map.Entries.{place_from_lookup}
use Rattle.rept_isa.specs.declared.instr.Instr.{Instr}
use Rattle.rept_isa.specs.declared.instr.Instr.TheVariants.{Lui, Auipc, Jal, Jalr, Branch, Load, Store, Imm, Op, Amo, Fence, Ecall, Ebreak, Counter}
use Rattle.rept_isa.specs.declared.instr.AmoOp.{AmoOp}
use Rattle.rept_isa.specs.declared.instr.AmoOp.TheVariants as atomic
use Rattle.rept_isa.specs.declared.row.StepRow.{StepRow}
use Rattle.rept_isa.specs.Numbers.{word, plus, beside}
use Rattle.rept_machine.specs.State.{State}
use Rattle.rept_machine.specs.Writes.{IsOneOfBytes, WritesAtomic, WritesBy}
use Rattle.rept_machine.specs.Calls.{may_change}
use Rattle.rept_partial.specs.declared.range.Range.{Range}
use Rattle.rept_partial.specs.declared.flat.Flat.{Flat}
use Rattle.rept_partial.specs.Flats.{flat}
use Rattle.rept_known.specs.declared.both.Both.{Both}
use Rattle.rept_known.specs.Both.{both_has, both_sets}
use Rattle.rept_known.specs.Laws.BothLaws.{both_lawful}
use Rattle.rept_alias.specs.declared.addresses.Access.{Access}
use Rattle.rept_alias.specs.Accesses.{hits, call_hits}
use Rattle.rept_havoc.specs.Havoc.{Lies, IsNumber, MeetsArguments, argument}
use Rattle.rept_span.specs.Filled.{View}
use Rattle.rept_narrow.specs.declared.lanes.held.Held.{Held}
use Rattle.rept_narrow.specs.Lanes.{held_at, IsListed}
use Rattle.rept_narrow.specs.Admitted.{Story, RowWrites}
use Rattle.rept_narrow.specs.Rules.{set_at, HasSets, WritesNot}
use Rattle.rept_narrow.specs.Stores.{IsAtomicAt}
use Rattle.rept_narrow.specs.Sweeps.{ListsWritten}
use Rattle.rept_narrow.proofs.Placing.{word_pos}
use Rattle.rept_narrow.proofs.Sentences.{same_some, inside_rows}

pub lies : (story : Story) (run : ℕ → State) (table : View Both) (p r n : ℕ) (set : Both) (range : Range) → r ≡ n → set_at table p r ≡ Some set → range ≡ set.range → HasSets story table run → p ≤ length story.rows → Lies ((run p).register n) range
lies story run table p r n set range e at is h le =
    let has : both_has set ((run p).register r) ≡ true = h.sets p r set le at in
    let within : Lies ((run p).register r) set.range = both_lawful.bounds set ((run p).register r) has in
    subst (λ (m : ℕ). Lies ((run p).register m) range) e (subst (λ (x : Range). Lies ((run p).register r) x) (sym is) within)

pub number_is : (o : Option ℕ) (n : Flat) (v : ℕ) → n ≡ flat o → ((w : ℕ) → o ≡ Some w → v ≡ w) → IsNumber n v
number_is None n v e f = subst (λ (x : Flat). IsNumber x v) (sym e) tt
number_is (Some w) n v e f = subst (λ (x : Flat). IsNumber x v) (sym e) (f w refl)

six : (P : ℕ → Type 0) (k : ℕ) → k < 6 → P 0 → P 1 → P 2 → P 3 → P 4 → P 5 → P k
six P zero less a b c d e f = a
six P (suc zero) less a b c d e f = b
six P (suc (suc zero)) less a b c d e f = c
six P (suc (suc (suc zero))) less a b c d e f = d
six P (suc (suc (suc (suc zero)))) less a b c d e f = e
six P (suc (suc (suc (suc (suc zero))))) less a b c d e f = f
six P (suc (suc (suc (suc (suc (suc k)))))) less a b c d e f = absurd (omega (arith, less))

pub meets : (register : ℕ → ℕ) (a b c d e f : Range) → Lies (register 10) a → Lies (register 11) b → Lies (register 12) c → Lies (register 13) d → Lies (register 14) e → Lies (register 15) f → MeetsArguments (argument (a ∷ b ∷ c ∷ d ∷ e ∷ f ∷ [])) register
meets register a b c d e f p q r s t u = λ n low high.
    let k : ℕ = n - 10 in
    let is : 10 + k ≡ n = omega (arith, low) in
    subst (λ (m : ℕ). Lies (register m) (argument (a ∷ b ∷ c ∷ d ∷ e ∷ f ∷ []) m)) is (six (λ m. Lies (register (10 + m)) (argument (a ∷ b ∷ c ∷ d ∷ e ∷ f ∷ []) (10 + m))) k (omega (arith, high)) p q r s t u)

-- an atomic instruction writes one of its four bytes
atomic_one : (op : AmoOp) (rd base : ℕ) (after : ℕ → ℕ) (a : ℕ) → WritesAtomic op rd base after a → IsOneOfBytes base 4 a
atomic_one atomic.Lr rd base after a w = absurd w
atomic_one atomic.Sc rd base after a w = w.1
atomic_one atomic.Swap rd base after a w = w
atomic_one atomic.Add rd base after a w = w
atomic_one atomic.Xor rd base after a w = w
atomic_one atomic.And rd base after a w = w
atomic_one atomic.Or rd base after a w = w
atomic_one atomic.Min rd base after a w = w
atomic_one atomic.Max rd base after a w = w
atomic_one atomic.Minu rd base after a w = w
atomic_one atomic.Maxu rd base after a w = w

pub plus_zero : (v : ℕ) → v < 2 ^ 32 → plus v (pos 0) ≡ v
plus_zero v small = let z : word (pos 0) ≡ 0 = word_pos 0 (lit< tt) in omega (arith, small, z)

pub at_base : (access : Access) (lo hi v : ℕ) → ((w k : ℕ) → lo ≤ w → w ≤ hi → k < 4 → hits access (beside (plus w (pos 0)) k) ≡ true) → v < 2 ^ 32 → (lo ≤ v) × (v ≤ hi) → (k : ℕ) → k < 4 → hits access (beside v k) ≡ true
at_base access lo hi v covers small within k less = subst (λ (n : ℕ). hits access (beside n k) ≡ true) (plus_zero v small) (covers v k within.0 within.1 less)

pub atomic_hit : (instr : Instr) (image_end : ℕ) (s t : State) (a r : ℕ) (access : Access) → IsAtomicAt instr r → WritesBy instr image_end s t a → ((k : ℕ) → k < 4 → hits access (beside (s.register r) k) ≡ true) → hits access a ≡ true
atomic_hit (Amo op rd rs1 rs2) image_end s t a r access e w f =
    let one = atomic_one op rd (s.register rs1) t.register a w in
    let here : a ≡ beside (s.register r) one.0 = subst (λ (n : ℕ). a ≡ beside (s.register n) one.0) e one.2 in
    subst (λ (n : ℕ). hits access n ≡ true) (sym here) (f one.0 one.1)
atomic_hit Ecall image_end s t a r access e w f = absurd e
atomic_hit (Store op rs1 rs2 imm) image_end s t a r access e w f = absurd e
atomic_hit (Lui rd imm) image_end s t a r access e w f = absurd e
atomic_hit (Auipc rd imm) image_end s t a r access e w f = absurd e
atomic_hit (Jal rd imm) image_end s t a r access e w f = absurd e
atomic_hit (Jalr rd rs1 imm) image_end s t a r access e w f = absurd e
atomic_hit (Branch op rs1 rs2 imm) image_end s t a r access e w f = absurd e
atomic_hit (Load op rd rs1 imm) image_end s t a r access e w f = absurd e
atomic_hit (Imm op rd rs1 imm) image_end s t a r access e w f = absurd e
atomic_hit (Op op rd rs1 rs2) image_end s t a r access e w f = absurd e
atomic_hit Fence image_end s t a r access e w f = absurd e
atomic_hit Ebreak image_end s t a r access e w f = absurd e
atomic_hit (Counter rd csr) image_end s t a r access e w f = absurd e

pub first_part : (x : Bool) → x ≡ true → (x || false) ≡ true
first_part x e = rw e refl

-- an LR writes nothing, nor does an SC whose register isn't 0
pub none_of_lr : (op : AmoOp) (rd base : ℕ) (after : ℕ → ℕ) (a : ℕ) → op ≡ atomic.Lr → WritesAtomic op rd base after a → ⊥
none_of_lr op rd base after a is w = subst (λ (o : AmoOp). WritesAtomic o rd base after a) is w

pub none_of_sc : (op : AmoOp) (rd base : ℕ) (after : ℕ → ℕ) (a : ℕ) → op ≡ atomic.Sc → rd ≢ 0 → 0 < after rd → WritesAtomic op rd base after a → ⊥
none_of_sc op rd base after a is named more w =
    let written : WritesAtomic atomic.Sc rd base after a = subst (λ (o : AmoOp). WritesAtomic o rd base after a) is w in
    let none : after rd ≡ 0 = written.0 named in
    omega (arith, more, none)

pub none_of_row : (instr : Instr) (op : AmoOp) (rd rs1 rs2 image_end : ℕ) (s t : State) (a : ℕ) → instr ≡ Amo op rd rs1 rs2 → ((base : ℕ) → WritesAtomic op rd base t.register a → ⊥) → WritesBy instr image_end s t a → ⊥
none_of_row instr op rd rs1 rs2 image_end s t a form none w = none (s.register rs1) (subst (λ (n : Instr). WritesBy n image_end s t a) form w)

pub at_least : (set : Both) (low v : ℕ) → low ≡ both_sets.lo set → 0 < low → both_has set v ≡ true → 0 < v
at_least set low v is more has =
    let b = (both_lawful.bounds set v has).0 in
    omega (arith, is, more, b)

-- what a list of touched bytes leaves isn't written
pub touched_written : (story : Story) (run : ℕ → State) (i : ℕ) (row : StepRow) (held : List (ℕ × Held)) (list : List ℕ) (hit : ℕ → Bool) → slice_get story.rows i ≡ Some row → ((a : ℕ) → RowWrites story run i row a → hit a ≡ true) → ((a : ℕ) (h : Held) → held_at held a ≡ Some h → hit a ≡ true → IsListed list a) → ListsWritten story run i held list
touched_written story run i row held list hit at hits_ lists a h is out = λ other found w.
    let alike : other ≡ row = same_some (sym found ∙ at) in
    out (lists a h is (hits_ a (subst (λ (x : StepRow). RowWrites story run i x a) alike w)))

pub all_touched : (n : ℕ) (held : List (ℕ × Held)) (list : List ℕ) (hit : ℕ → Bool) → length held ≤ n → ((j a : ℕ) (h : Held) → j < n → slice_get held j ≡ Some (a, h) → hit a ≡ true → IsListed list a) → (a : ℕ) (h : Held) → held_at held a ≡ Some h → hit a ≡ true → IsListed list a
all_touched n held list hit long each a h at yes_ =
    let found = place_from_lookup (nat_eq a) held h at in
    let same : a ≡ found.1 = eqb-true a found.1 found.3 in
    let here : slice_get held found.0 ≡ Some (a, h) = subst (λ (b : ℕ). slice_get held found.0 ≡ Some (b, h)) (sym same) found.2 in
    let inside = slice_get_within held found.0 (a, h) here in
    each found.0 a h (omega (arith, inside, long)) here yes_
