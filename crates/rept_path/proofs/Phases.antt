-- From legs of phases to legs of packets.
use Rattle.std.proofs.Common.{◌≡◌, ◌⊎◌, inl, inr, ℕ, arith, List, [], ◌∷◌, ◌++◌, Bool, true, false, Option, Some, refl, sym, ◌∙◌, ap, subst}
use Rattle.rept_path.specs.Code.{Code}
use Rattle.rept_path.specs.declared.aim.Aim.{Aim}
use Rattle.rept_path.specs.declared.aim.Aim.TheVariants as aims
use Rattle.rept_isa.specs.declared.row.StepRow.{StepRow}
use Rattle.rept_path.specs.declared.walk.Walk.{Walk}
use Rattle.rept_path.specs.Moves.{Place, after, heading_by, place_along}
use Rattle.rept_path.specs.declared.fault.PathFault.{PathFault}
use Rattle.rept_path.specs.declared.fault.PathFault.TheVariants.{OutOfMemory}
use Rattle.rept_path.specs.Legs.{PhaseFault, PhaseLeg}
use Rattle.rept_path.specs.Route.{PhasesFault, first_phase}
use Rattle.rept_path.specs.State.{here, lead, standing, WalkedPhase, WalkedAll, from_to}
use Rattle.rept_path.proofs.Loop.{Keeps-twice}

pub along-append : (code : Code) (p : Place) (rest first : List StepRow) → place_along code p (rest ++ first) ≡ place_along code (place_along code p first) rest
along-append code p [] first = refl
along-append code p (row ∷ rest) first = ap (λ (q : Place). after code q row) (along-append code p rest first)

-- one phase
pub one_phase : (code : Code) (k before : ℕ) (target : Option ℕ) (aim : Aim) (old new : Walk) → old.inferred ≡ false → WalkedPhase code (heading_by (lead old k target) aim) old new
    → WalkedAll code (first_phase old.inferred before ++ record { target = target; aim = aim } ∷ []) (from_to k old new)
one_phase code k before target aim old new unmarked w =
    subst (λ (b : Bool). WalkedAll code (first_phase b before ++ record { target = target; aim = aim } ∷ []) (from_to k old new)) (sym unmarked) (record { leg = w.leg; goes = (w.leg, [], refl, w.goes, refl); seen = w.seen; counts = w.counts; kept = w.kept; grows = w.grows })

-- the first phase, and another
pub two_phases : (code : Code) (k before : ℕ) (target : Option ℕ) (aim : Aim) (old mid new : Walk) → old.inferred ≡ true → WalkedPhase code (heading_by (lead old k (Some before)) aims.Jumped) old mid → WalkedPhase code (heading_by (lead mid k target) aim) mid new
    → WalkedAll code (first_phase old.inferred before ++ record { target = target; aim = aim } ∷ []) (from_to k old new)
two_phases code k before target aim old mid new is_marked w v =
    let second : PhaseLeg code (heading_by (lead old k target) aim) (place_along code (here old) w.leg) v.leg = rw (← w.kept.bits, ← w.kept.room, ← w.seen) v.goes in
    subst (λ (b : Bool). WalkedAll code (first_phase b before ++ record { target = target; aim = aim } ∷ []) (from_to k old new)) (sym is_marked) (record {
      leg = v.leg ++ w.leg;
      goes = (w.leg, v.leg, refl, w.goes, (v.leg, [], refl, second, refl));
      seen = v.seen ∙ ap (λ (p : Place). place_along code p v.leg) w.seen ∙ sym (along-append code (here old) v.leg w.leg);
      counts = v.counts;
      kept = Keeps-twice old mid new w.kept v.kept;
      grows = (let a = w.grows in let b = v.grows in omega arith);
    })

-- a fault in one phase
pub one_fault : (code : Code) (k before : ℕ) (target : Option ℕ) (aim : Aim) (old : Walk) (e : PathFault) → old.inferred ≡ false → (e ≡ OutOfMemory) ⊎ PhaseFault code (heading_by (lead old k target) aim) (here old) e
    → (e ≡ OutOfMemory) ⊎ PhasesFault code (standing k old) (first_phase old.inferred before ++ record { target = target; aim = aim } ∷ []) e
one_fault code k before target aim old e unmarked (inl h) = inl h
one_fault code k before target aim old e unmarked (inr h) = inr (subst (λ (b : Bool). PhasesFault code (standing k old) (first_phase b before ++ record { target = target; aim = aim } ∷ []) e) (sym unmarked) (inl h))

-- a fault in the phase after the first
pub second_fault : (code : Code) (k before : ℕ) (target : Option ℕ) (aim : Aim) (old mid : Walk) (e : PathFault) → old.inferred ≡ true → WalkedPhase code (heading_by (lead old k (Some before)) aims.Jumped) old mid → (e ≡ OutOfMemory) ⊎ PhaseFault code (heading_by (lead mid k target) aim) (here mid) e
    → (e ≡ OutOfMemory) ⊎ PhasesFault code (standing k old) (first_phase old.inferred before ++ record { target = target; aim = aim } ∷ []) e
second_fault code k before target aim old mid e is_marked w (inl h) = inl h
second_fault code k before target aim old mid e is_marked w (inr h) =
    let second : PhaseFault code (heading_by (lead old k target) aim) (place_along code (here old) w.leg) e = rw (← w.kept.bits, ← w.kept.room, ← w.seen) h in
    inr (subst (λ (b : Bool). PhasesFault code (standing k old) (first_phase b before ++ record { target = target; aim = aim } ∷ []) e) (sym is_marked) (inr (w.leg, w.goes, inl second)))
