-- The bits of rows, and one move.
use Rattle.std.proofs.Common.{◌≡◌, ◌≢◌, ℕ, zero, suc, ◌<◌, ◌==◌, nat_le, ℤ, List, [], ◌∷◌, ◌++◌, length, slice_get, Option, Some, Bool, true, false, not, cond, Result, Ok, Err, refl, sym, ◌∙◌, ap, arith, ◌⊎◌, inl, inr}
use Rattle.std.proofs.lemmas.Bool.Decides.{eqb_tells, leb_tells}
use Rattle.rept_path.specs.Code.{Code}
use Rattle.rept_isa.specs.declared.instr.Instr.{Instr}
use Rattle.rept_isa.specs.declared.row.StepRow.{StepRow}
use Rattle.rept_isa.specs.Numbers.{plus, following}
use Rattle.rept_isa.specs.Rows.{Addresses, from_of, addresses_of}
use Rattle.rept_path.specs.declared.flow.Flow.{Flow}
use Rattle.rept_path.specs.declared.flow.Flow.TheVariants.{Plain, Branch, Jump, Fixed, Far, Call, Stop}
use Rattle.rept_path.specs.declared.fault.PathFault.{PathFault}
use Rattle.rept_path.specs.declared.fault.PathFault.TheVariants.{TooLong}
use Rattle.rept_path.specs.Code.{look, is_short, after_instruction, flow_of, branches, jumps_far, branches_at}
use Rattle.rept_path.specs.Moves.{Lead, Place, Site, place_along, site, successor, by_bit, position, next_of, IsMove, ◌>>=◌, way_by}
use Rattle.rept_path.proofs.MoveLemmas.{branch_of}
use Rattle.rept_encode.specs.Bits.{passed_by, passed, branch_row, count, bit_list}
use Rattle.rept_encode.specs.Walkable.{MayLead, calls}
use Rattle.rept_encode.specs.State.{AreMoved, MovedRow}

length_bit : (b x : Bool) → length (cond b (x ∷ []) []) ≡ cond b 1 0
length_bit true x = refl
length_bit false x = refl

pub length_bits : (row : StepRow) → length (bit_list row) ≡ count row
length_bits row = length_bit (branch_row row) (passed row)

get_seam : (xs ys : List Bool) (t : Bool) → slice_get (xs ++ t ∷ ys) (length xs) ≡ Some t
get_seam [] ys t = refl
get_seam (x ∷ xs) ys t = get_seam xs ys t

pub get_front : (xs ys : List Bool) (i : ℕ) (t : Bool) → slice_get xs i ≡ Some t → slice_get (xs ++ ys) i ≡ Some t
get_front [] ys i t h = cc
get_front (x ∷ xs) ys zero t h = h
get_front (x ∷ xs) ys (suc i) t h = get_front xs ys i t h

get_if : (b x : Bool) (xs : List Bool) → b ≡ true → slice_get (xs ++ cond b (x ∷ []) []) (length xs) ≡ Some x
get_if true x xs h = get_seam xs [] x
get_if false x xs h = cc

pub get_bit : (row : StepRow) (xs : List Bool) (n : ℕ) → branch_row row ≡ true → n ≡ length xs → slice_get (xs ++ bit_list row) n ≡ Some (passed row)
get_bit row xs n h e = rw e (get_if (branch_row row) (passed row) xs h)

-- what stands at a row's address
pub counted : (code : Code) (row : StepRow) → look code row.at ≡ Ok row.instr → branches_at code row.at ≡ count row
counted code row h = rw (branch_of code row.at row.instr h) refl

-- the successor of a branch is the row's next address
pub branch_to : (k : ℕ) (p : Site) (next to : ℕ) (imm : ℤ) (b : Bool) → to ≡ plus p.at imm → ((b ≡ true) × (next ≡ to)) ⊎ ((b ≡ false) × (next ≢ to)) → (next ≡ to) ⊎ (next ≡ p.onward) → by_bit k p imm (Some (not b)) ≡ Ok next
branch_to k p next to imm true same t l = elim t [ inl e ↦ ap (λ (n : ℕ). Ok n) (sym same ∙ sym e.1) | inr e ↦ absurd (cc) ]
branch_to k p next to imm false same t l = elim t [ inl e ↦ absurd (cc) | inr e ↦ elim l [ inl m ↦ absurd (e.1 m) | inr m ↦ ap (λ (n : ℕ). Ok n) (sym m) ] ]

-- what follows a row
pub onward_is : (code : Code) (row : StepRow) → row.short ≡ is_short code row.at → after_instruction code row.at ≡ following (from_of row)
unfolding after_instruction
onward_is code row short = rw (← short) refl

pub either_onward : (onward from next to : ℕ) → onward ≡ following from → (next ≡ to) ⊎ (next ≡ following from) → (next ≡ to) ⊎ (next ≡ onward)
either_onward onward from next to on l = elim l [ inl m ↦ inl m | inr m ↦ inr (m ∙ sym on) ]

-- the site of an instruction with these addresses
pub leads : (halves : Bool) (k onward : ℕ) (a : Addresses) (flow : Flow) (bit : Option Bool) (target : Option ℕ) → onward ≡ following a.from → MayLead halves flow a → calls flow ≡ false → (branches flow ≡ true → bit ≡ Some (passed_by flow a.at a.next)) → (jumps_far flow ≡ true → target ≡ Some a.next) → successor k (record { at = a.at; onward = onward }) flow (way_by bit target) ≡ Ok a.next
leads halves k onward a Plain bit target on l c b t = ap (λ (n : ℕ). Ok n) (on ∙ sym l)
leads halves k onward a (Jump imm) bit target on l c b t = ap (λ (n : ℕ). Ok n) (sym l)
leads halves k onward a (Fixed to) bit target on l c b t = ap (λ (n : ℕ). Ok n) (sym l)
leads halves k onward a (Branch imm) bit target on l c b t = let e = b refl in rw e (branch_to k (record { at = a.at; onward = onward }) a.next (plus a.at imm) imm (a.next == plus a.at imm) refl (eqb_tells a.next (plus a.at imm)) (either_onward onward a.from a.next (plus a.at imm) on l))
leads halves k onward a Far bit target on l c b t = let e = t refl in rw e refl
leads halves k onward a Call bit target on l c b t = cc
leads halves k onward a Stop bit target on l c b t = elim l [ ]

pub room : (most n k : ℕ) (r : Result ℕ PathFault) → n < most → cond (nat_le most n) (Err (TooLong k)) r ≡ r
room most n k r lt = elim (leb_tells most n) [ inl t ↦ absurd (omega arith) | inr t ↦ rw t.0 refl ]

pub position_ok : (code : Code) (a : ℕ) (i : Instr) → look code a ≡ Ok i → position code a ≡ Ok a
position_ok code a i h = rw h refl

next_is : (code : Code) (how : Lead) (p : Place) (i j : Instr) (next : ℕ) → look code p.at ≡ Ok i → look code next ≡ Ok j → successor how.packet (site code p.at) (flow_of i) (way_by (slice_get how.bits p.branches) how.target) ≡ Ok next → length p.rows < how.room → next_of code how p ≡ Ok next
unfolding next_of
next_is code how p i j next here there leads lt =
    let f : ℕ → Result ℕ PathFault = λ a. cond (nat_le how.room (length p.rows)) (Err (TooLong how.packet)) (position code a) in
    let g : Instr → Result ℕ PathFault = λ i. successor how.packet (site code p.at) (flow_of i) (way_by (slice_get how.bits p.branches) how.target) >>= f in
    let one : next_of code how p ≡ (Ok i >>= g) = ap (λ (r : Result Instr PathFault). r >>= g) here in
    let two : (Ok i >>= g) ≡ (Ok next >>= f) = ap (λ (r : Result ℕ PathFault). r >>= f) leads in
    one ∙ two ∙ room how.room (length p.rows) how.packet (position code next) lt ∙ position_ok code next j there

pub moved_more : (code : Code) (all more : List Bool) (p : Place) (row : StepRow) → MovedRow code all p row → MovedRow code (all ++ more) p row
moved_more code all more p row m = record { at = m.at; here = m.here; short = m.short; goes = m.goes; there = m.there; step = m.step; plain = m.plain; bit = λ t. get_front all more p.branches (passed row) (m.bit t); room = m.room }

pub move_is : (code : Code) (how : Lead) (p : Place) (row : StepRow) → how.room ≡ 65536 → MovedRow code how.bits p row → (jumps_far (flow_of row.instr) ≡ true → how.target ≡ Some row.next) → IsMove code how p row
move_is code how p row limit m t =
    let lead = m.step.lead in
    let here : look code p.at ≡ Ok row.instr = rw m.at m.here in
    let s : successor how.packet (site code p.at) (flow_of row.instr) (way_by (slice_get how.bits p.branches) how.target) ≡ Ok row.next = rw m.at (leads code.halves how.packet (after_instruction code row.at) (addresses_of row) (flow_of row.instr) (slice_get how.bits p.branches) how.target (onward_is code row m.short) lead m.plain m.bit t) in
    record {
      next = next_is code how p row.instr m.goes row.next here m.there s (rw limit m.room);
      at = sym m.at;
      instr = here;
      call = m.step.call ∙ m.plain;
      short = m.short ∙ ap (is_short code) (sym m.at);
    }

pub moves_more : (code : Code) (all more : List Bool) (past : Place) (leg : List StepRow) → AreMoved code all past leg → AreMoved code (all ++ more) past leg
moves_more code all more past [] m = tt
moves_more code all more past (row ∷ leg) m = (moves_more code all more past leg m.0, moved_more code all more (place_along code past leg) row m.1, m.2)
