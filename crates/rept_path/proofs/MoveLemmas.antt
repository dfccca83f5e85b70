-- One move, and what it keeps.
use Rattle.std.proofs.Common.{◌≡◌, ℕ, ◌+◌, ◌<◌, ◌≤◌, [], ◌∷◌, ◌++◌, length, reverse, Bool, true, false, cond, nat_le, Option, Some, None, Result, Ok, Err, slice_get, refl, ◌∙◌, ap, arith, inl, inr}
use Rattle.std.proofs.lemmas.List.{reverse-append, length-reverse}
use Rattle.std.proofs.lemmas.Option.{slice_get_within}
use Rattle.std.proofs.lemmas.Bool.Decides.{leb_tells}
use Rattle.rept_path.specs.Code.{Code}
use Rattle.rept_path.specs.declared.flow.Flow.TheVariants.{Plain, Branch, Jump, Fixed, Far, Call, Stop}
use Rattle.rept_path.specs.declared.fault.PathFault.{PathFault}
use Rattle.rept_path.specs.declared.fault.PathFault.TheVariants.{TooLong}
use Rattle.rept_isa.specs.declared.row.StepRow.{StepRow}
use Rattle.rept_path.specs.declared.walk.Walk.{Walk}
use Rattle.rept_isa.specs.declared.instr.Instr.{Instr}
use Rattle.rept_steps.specs.Linked.{EndBefore}
use Rattle.rept_path.specs.declared.flow.Flow.{Flow}
use Rattle.rept_path.specs.Code.{look, is_short, flow_of, branches, is_branch, branches_at, branches_there}
use Rattle.rept_path.specs.Moves.{Lead, Place, Site, next_of, site, successor, position, ◌>>=◌, way_by}
use Rattle.rept_path.specs.State.{here, Counts, Keeps, MovedWalk}

pub bind_ok : {A B : Type 0} (r : Result A PathFault) (f : A → Result B PathFault) (y : B) → (r >>= f) ≡ Ok y → (x : A) × (r ≡ Ok x) × (f x ≡ Ok y)
bind_ok (Ok x) f y h = (x, refl, h)
bind_ok (Err e) f y h = cc

-- a branch goes on only with its bit
bit_there : (k : ℕ) (p : Site) (flow : Flow) (bit : Option Bool) (target : Option ℕ) (a : ℕ) → successor k p flow (way_by bit target) ≡ Ok a → branches flow ≡ true → (b : Bool) × (bit ≡ Some b)
bit_there k p Plain bit target a h t = cc
bit_there k p (Jump imm) bit target a h t = cc
bit_there k p (Fixed to) bit target a h t = cc
bit_there k p (Branch imm) None target a h t = cc
bit_there k p (Branch imm) (Some b) target a h t = (b, refl)
bit_there k p Far bit target a h t = cc
bit_there k p Call bit target a h t = cc
bit_there k p Stop bit target a h t = cc

has_room : (room n k : ℕ) (r : Result ℕ PathFault) (a : ℕ) → cond (nat_le room n) (Err (TooLong k)) r ≡ Ok a → n < room
has_room room n k r a h = elim (leb_tells room n) [ inl t ↦ absurd (let e = rw t.0 at h in cc) | inr t ↦ t.1 ]

abbrev limited : Code → Lead → Place → ℕ → Result ℕ PathFault
limited code how p x = cond (nat_le how.room (length p.rows)) (Err (TooLong how.packet)) (position code x)

abbrev from : Code → Lead → Place → Instr → Result ℕ PathFault
from code how p i = successor how.packet (site code p.at) (flow_of i) (way_by (slice_get how.bits p.branches) how.target)

module _ (code : Code) (how : Lead) (p : Place) where
  -- a move has an instruction, and its successor
  pub made : (a : ℕ) → next_of code how p ≡ Ok a → (i : Instr) × (look code p.at ≡ Ok i) × ((x : ℕ) × (from code how p i ≡ Ok x) × (limited code how p x ≡ Ok a))
  unfolding next_of
  made a h =
      let b = bind_ok (look code p.at) (λ (i : Instr). from code how p i >>= limited code how p) a h in
      let c = bind_ok (from code how p b.0) (limited code how p) a b.2 in
      (b.0, b.1, (c.0, c.1, c.2))

  pub few_before : (a : ℕ) → next_of code how p ≡ Ok a → length p.rows < how.room
  few_before a h = let m = made a h in has_room how.room (length p.rows) how.packet (position code m.2.0) a m.2.2

  pub bit_before : (a : ℕ) → next_of code how p ≡ Ok a → is_branch code p.at ≡ true → p.branches < length how.bits
  unfolding is_branch
  bit_before a h t =
      let m = made a h in
      let u : branches (flow_of m.0) ≡ true = rw m.1 at t in
      let s = bit_there how.packet (site code p.at) (flow_of m.0) (slice_get how.bits p.branches) how.target m.2.0 m.2.1 u in
      slice_get_within how.bits p.branches s.0 s.1

-- where nothing stands there is no move
pub no_place : (code : Code) (how : Lead) (p : Place) (e : PathFault) → look code p.at ≡ Err e → next_of code how p ≡ Err e
unfolding next_of
no_place code how p e h = ap (λ (r : Result Instr PathFault). r >>= (λ i. from code how p i >>= limited code how p)) h

-- whether an instruction that stands there is a branch
pub branch_of : (code : Code) (a : ℕ) (i : Instr) → look code a ≡ Ok i → is_branch code a ≡ branches (flow_of i)
unfolding is_branch
branch_of code a i h = ap branches_there h

used_more : (b : Bool) (n all : ℕ) → n ≤ all → (b ≡ true → n < all) → n + cond b 1 0 ≤ all
used_more true n all le more = let m = more refl in omega arith
used_more false n all le more = omega arith

-- a walk that was moved
pub moved : (code : Code) (how : Lead) (old new : Walk) (row : StepRow) → Counts old → how.room ≡ old.room → how.bits ≡ old.bits.items → next_of code how (here old) ≡ Ok row.next → row.at ≡ old.at → look code old.at ≡ Ok row.instr → row.call ≡ false → row.short ≡ is_short code old.at → new.at ≡ row.next → new.steps ≡ old.steps ++ row ∷ []
    → new.used ≡ old.used + branches_at code old.at → Keeps old new → EndBefore new.steps row.next → MovedWalk code how old new
moved code how old new row counts limit same next at there plain short to pushed used kept ends =
    let back : reverse new.steps ≡ row ∷ reverse old.steps = ap reverse pushed ∙ reverse-append old.steps (row ∷ []) in
    let few : length (reverse old.steps) < how.room = few_before code how (here old) row.next next in
    let more : is_branch code old.at ≡ true → old.used < length old.bits.items = λ t. rw (← same) (bit_before code how (here old) row.next next t) in
    let u : old.used + branches_at code old.at ≤ length old.bits.items = used_more (is_branch code old.at) old.used (length old.bits.items) counts.enough more in
    let longer : length (reverse new.steps) ≡ 1 + length (reverse old.steps) = ap (length {A = StepRow}) back ∙ omega arith in
    let branched : new.used ≡ old.used + branches_at code row.at = rw at used in
    record {
      row = row;
      move = record { next = next; at = at; instr = there; call = plain; short = short };
      seen = cc;
      counts = record { enough = rw (used, kept.bits) u; few = (let k = kept.room in omega (arith, length-reverse new.steps, longer, limit, few, k)); spare = (let sp = counts.spare in rw kept.bits (omega arith)); linked = rw to ends };
      kept = kept;
      grows = omega (arith, used);
    }
