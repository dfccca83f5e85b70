-- Where the moves of a packet stop.
use Rattle.std.proofs.Common.{◌≡◌, ℕ, ◌+◌, ◌<◌, ◌≤◌, ◌==◌, List, [], ◌∷◌, length, Some, Bool, true, false, not, ◌&&◌, ◌||◌, Result, Ok, refl, sym, ◌∙◌, ap, arith, inl, inr}
use Rattle.std.proofs.Math.Bool.{or-true, and-false}
use Rattle.std.proofs.lemmas.Bool.Decides.{nat_tests, eqb_tells}
use Rattle.rept_path.specs.Code.{Code}
use Rattle.rept_isa.specs.declared.instr.Instr.{Instr}
use Rattle.rept_isa.specs.declared.row.StepRow.{StepRow}
use Rattle.rept_path.specs.declared.aim.Aim.{Aim}
use Rattle.rept_path.specs.declared.aim.Aim.TheVariants as aims
use Rattle.rept_path.specs.Code.{look, flow_of, jumps_far, is_branch, branches_at}
use Rattle.rept_path.specs.Moves.{Lead, Place, after, place_along, unused, bits_fit, by_jump, stops, misfits, is_inferred, heading_by}
use Rattle.rept_path.specs.Legs.{LegPasses, PhaseLeg}
use Rattle.rept_encode.specs.Walkable.{calls}
use Rattle.rept_encode.specs.State.{AreMoved, MovedRow}
use Rattle.rept_encode.proofs.Turns.{move_is}

-- None of the places after these rows is a stop.
abbrev pub Clear : Code → List Bool → Aim → Place → List StepRow → Type 0
Clear code all aim past [] = Unit {0}
Clear code all aim past (row ∷ leg) = Clear code all aim past leg × (stops code all aim (place_along code past (row ∷ leg)) ≡ false)

pub passes : (code : Code) (how : Lead) (aim : Aim) (past : Place) (leg : List StepRow) → how.room ≡ 65536 → AreMoved code how.bits past leg → Clear code how.bits aim past leg → LegPasses code (heading_by how aim) past leg
passes code how aim past [] limit m c = tt
passes code how aim past (row ∷ leg) limit m c =
    let far = m.2 in
    (passes code how aim past leg limit m.0 c.0, move_is code how (place_along code past leg) row limit m.1 (λ t. absurd (cc)), c.1)

-- The leg of a phase that stops where its last row leads.
pub phase_leg : (code : Code) (how : Lead) (aim : Aim) (past : Place) (row : StepRow) (leg : List StepRow) → how.room ≡ 65536 → AreMoved code how.bits past leg → Clear code how.bits aim past leg → MovedRow code how.bits (place_along code past leg) row → (jumps_far (flow_of row.instr) ≡ true → how.target ≡ Some row.next) → stops code how.bits aim (place_along code past (row ∷ leg)) ≡ true → misfits code how.bits aim (place_along code past (row ∷ leg)) ≡ false → PhaseLeg code (heading_by how aim) past (row ∷ leg)
phase_leg code how aim past row leg limit m c last t stop fit = record {
  reaches = (passes code how aim past leg limit m c, move_is code how (place_along code past leg) row limit last t, stop);
  fits = fit;
}

-- A jump stops the walk of a report that neither notifies nor leaves the discontinuity unsaid, and
-- nothing else does.
no_stop : (a b c : Bool) → c ≡ false → (c || (a && b && (false || not true))) ≡ false
no_stop a b c h = rw (h, and-false) refl

pub clear_jump : (code : Code) (all : List Bool) (a : ℕ) (past : Place) (leg : List StepRow) → AreMoved code all past leg → Clear code all (aims.Report a false true) past leg
unfolding stops by_jump
clear_jump code all a past [] m = tt
clear_jump code all a past (row ∷ leg) m = (clear_jump code all a past leg m.0, no_stop ((place_along code past (row ∷ leg)).at == a) (bits_fit code all (place_along code past (row ∷ leg))) (jumps_far (flow_of row.instr)) m.2)

-- Where more bits are left than fit, no report and no map stops.
unfit : (code : Code) (all : List Bool) (p : Place) → p.branches + branches_at code p.at + 1 ≤ length all → bits_fit code all p ≡ false
unfolding bits_fit
unfit code all p h =
    let e : branches_at code p.at < unused all p = omega arith in
    grind (arith, nat_tests)

unfit_report : (a b c d : Bool) → a ≡ false → b ≡ false → (a || (c && b && d)) ≡ false
unfit_report a b c d x y = rw (x, y, and-false) refl

unfit_map : (a b : Bool) → b ≡ false → (a && b) ≡ false
unfit_map a b y = rw (y, and-false) refl

-- the branches before the last row of a leg
fewer : (code : Code) (all : List Bool) (p : Place) (row : StepRow) → MovedRow code all p row → (after code p row).branches ≡ p.branches + branches_at code p.at
fewer code all p row m = let e = m.at in rw e refl

pub clear_report : (code : Code) (all : List Bool) (a : ℕ) (notify updiscon : Bool) (past : Place) (leg : List StepRow) → AreMoved code all past leg → (place_along code past leg).branches + branches_at code (place_along code past leg).at + 1 ≤ length all → Clear code all (aims.Report a notify updiscon) past leg
unfolding stops by_jump
clear_report code all a notify updiscon past [] m h = tt
clear_report code all a notify updiscon past (row ∷ leg) m h =
    let p : Place = place_along code past leg in
    let e : (after code (place_along code past leg) row).branches ≡ (place_along code past leg).branches + branches_at code (place_along code past leg).at = fewer code all (place_along code past leg) row m.1 in
    (clear_report code all a notify updiscon past leg m.0 (omega arith), unfit_report (jumps_far (flow_of row.instr)) (bits_fit code all (place_along code past (row ∷ leg))) (row.next == a) (notify || not updiscon) m.2 (unfit code all (place_along code past (row ∷ leg)) h))

pub clear_map : (code : Code) (all : List Bool) (past : Place) (leg : List StepRow) → AreMoved code all past leg → (place_along code past leg).branches + branches_at code (place_along code past leg).at + 1 ≤ length all → Clear code all aims.LastBit past leg
unfolding stops
clear_map code all past [] m h = tt
clear_map code all past (row ∷ leg) m h =
    let e : (after code (place_along code past leg) row).branches ≡ (place_along code past leg).branches + branches_at code (place_along code past leg).at = fewer code all (place_along code past leg) row m.1 in
    (clear_map code all past leg m.0 (omega arith), unfit_map (is_branch code row.next) (bits_fit code all (place_along code past (row ∷ leg))) (unfit code all (place_along code past (row ∷ leg)) h))

-- Where a call stands no row of the leg begins, so a report of its address stops at none before.
elsewhere : (a b c d : Bool) → a ≡ false → c ≡ false → (a || (c && b && d)) ≡ false
elsewhere a b c d x y = rw (x, y) refl

other_place : (code : Code) (a b : ℕ) (i j : Instr) → look code a ≡ Ok i → look code b ≡ Ok j → calls (flow_of i) ≡ false → calls (flow_of j) ≡ true → (a == b) ≡ false
other_place code a b i j x y plain call = elim (eqb_tells a b) [
  | inl t ↦ absurd (
      let e : look code a ≡ look code b = ap (λ (n : ℕ). look code n) t.1 in
      let s : ◌≡◌ {A = Result Instr Rattle.rept_path.specs.declared.fault.PathFault.PathFault} (Ok i) (Ok j) = sym x ∙ e ∙ y in
      let same : i ≡ j = cc in
      let c : calls (flow_of i) ≡ calls (flow_of j) = ap (λ (k : Instr). calls (flow_of k)) same in
      cc)
  | inr t ↦ t.0
]

pub clear_call : (code : Code) (all : List Bool) (a : ℕ) (i : Instr) (notify updiscon : Bool) (past : Place) (row : StepRow) (leg : List StepRow) → MovedRow code all (place_along code past leg) row → AreMoved code all past leg → look code a ≡ Ok i → calls (flow_of i) ≡ true → Clear code all (aims.Report a notify updiscon) past leg
unfolding stops by_jump
clear_call code all a i notify updiscon past newer [] n m x y = tt
clear_call code all a i notify updiscon past newer (row ∷ leg) n m x y =
    let at : row.next ≡ newer.at = n.at in
    let away : (row.next == a) ≡ false = rw at (other_place code newer.at a newer.instr i n.here x n.plain y) in
    (clear_call code all a i notify updiscon past row leg m.1 m.0 x y, elsewhere (jumps_far (flow_of row.instr)) (bits_fit code all (place_along code past (row ∷ leg))) (row.next == a) (notify || not updiscon) m.2 away)

-- where bits fit
pub fits_there : (code : Code) (all : List Bool) (p : Place) → length all ≡ p.branches + branches_at code p.at → bits_fit code all p ≡ true
unfolding bits_fit
fits_there code all p h =
    let e : unused all p ≡ branches_at code p.at = omega arith in
    grind (arith, nat_tests)

at_there : (a b : ℕ) → a ≡ b → (a == b) ≡ true
at_there a b h = grind (arith, nat_tests)

reported_there : (a b c : Bool) → b ≡ true → c ≡ true → (a || (c && b && (true || not true))) ≡ true
reported_there a b c x y = rw (x, y) (or-true a)

pub stop_there : (code : Code) (all : List Bool) (a : ℕ) (p : Place) → p.at ≡ a → bits_fit code all p ≡ true → stops code all (aims.Report a true false) p ≡ true
unfolding stops
stop_there code all a p at fit = let e : (p.at == a) ≡ true = at_there p.at a at in rw (e, fit) (or-true _)

pub stop_jump : (code : Code) (all : List Bool) (a : ℕ) (notify updiscon : Bool) (past : Place) (row : StepRow) (leg : List StepRow) → jumps_far (flow_of row.instr) ≡ true → stops code all (aims.Report a notify updiscon) (place_along code past (row ∷ leg)) ≡ true
unfolding stops by_jump
stop_jump code all a notify updiscon past row leg h = rw h refl

pub stop_last : (code : Code) (all : List Bool) (p : Place) → is_branch code p.at ≡ true → bits_fit code all p ≡ true → stops code all aims.LastBit p ≡ true
unfolding stops
stop_last code all p here fit = rw (here, fit) refl

pub fit_report : (code : Code) (all : List Bool) (a : ℕ) (notify updiscon : Bool) (p : Place) → bits_fit code all p ≡ true → misfits code all (aims.Report a notify updiscon) p ≡ false
unfolding misfits
fit_report code all a notify updiscon p fit = rw fit (and-false _)

pub fit_map : (code : Code) (all : List Bool) (p : Place) → misfits code all aims.LastBit p ≡ false
unfolding misfits
fit_map code all p = refl

not_said : (a b c d : Bool) → ((a && b && c) && false && d) ≡ false
not_said a b c d = rw and-false refl

pub not_inferred : (code : Code) (all : List Bool) (r : ℕ) (notify updiscon : Bool) (p : Place) → (notify || updiscon) ≡ true → is_inferred code all (aims.Report r notify updiscon) p ≡ false
unfolding is_inferred
not_inferred code all r true updiscon p h = rw and-false refl
not_inferred code all r false true p h = rw and-false refl
not_inferred code all r false false p h = cc
