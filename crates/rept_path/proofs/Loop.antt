-- What the loop over moves keeps.
use Rattle.std.proofs.lemmas.List.{length-reverse}
use Rattle.std.proofs.Common.{◌≡◌, ℕ, suc, ◌+◌, ◌-◌, ◌<◌, ◌≤◌, reverse, ◌==◌, refl, ◌&&◌, ◌||◌, not, cond, length, arith, List, [], ◌∷◌, Bool, true, false, Option, Err, ◌∙◌, ap, subst, ◌⊎◌, inl, inr}
use Rattle.rept_path.specs.Code.{Code}
use Rattle.std.proofs.lemmas.Bool.Decides.{nat_tests}
use Rattle.rept_path.specs.declared.aim.Aim.{Aim}
use Rattle.rept_path.specs.declared.aim.Aim.TheVariants.{Jumped, Start, Report, LastBit}
use Rattle.rept_path.specs.Code.{is_branch}
use Rattle.rept_path.specs.declared.fault.PathFault.{PathFault}
use Rattle.rept_path.specs.declared.fault.PathFault.TheVariants.{BranchesLeft, OutOfMemory}
use Rattle.rept_isa.specs.declared.row.StepRow.{StepRow}
use Rattle.rept_path.specs.declared.walk.Walk.{Walk}
use Rattle.rept_path.specs.Moves.{Lead, Place, after, place_along, next_of, IsMove, stops, misfits, unused, by_jump, bits_fit, heading_by}
use Rattle.rept_path.specs.Legs.{LegPasses, Reaches, PhaseFault}
use Rattle.rept_path.specs.State.{here, Counts, Keeps, lead, MovedWalk, WalkedPhase, ends_fit}

-- The walk stands after a leg whose rows but the last lead to no stop.
pub record Coming (code : Code) (how : Lead) (aim : Aim) (old new : Walk) : Type 0 where
  pub row : StepRow
  pub leg : List StepRow
  pub passes : LegPasses code (heading_by how aim) (here old) leg
  pub move : IsMove code how (place_along code (here old) leg) row
  pub seen : here new ≡ place_along code (here old) (row ∷ leg)
  pub counts : Counts new
  pub kept : Keeps old new
  pub grows : old.used ≤ new.used

pub Keeps-twice : (a b c : Walk) → Keeps a b → Keeps b c → Keeps a c
Keeps-twice a b c x y = record { bits = y.bits ∙ x.bits; reported = y.reported ∙ x.reported; inferred = y.inferred ∙ x.inferred; waiting = y.waiting ∙ x.waiting; room = y.room ∙ x.room }

pub came_first : (code : Code) (how : Lead) (aim : Aim) (old new : Walk) → MovedWalk code how old new → Coming code how aim old new
came_first code how aim old new m = record { row = m.row; leg = []; passes = tt; move = m.move; seen = m.seen; counts = m.counts; kept = m.kept; grows = m.grows }

module _ (code : Code) (packet : ℕ) (target : Option ℕ) (aim : Aim) (old mid : Walk) (came : Coming code (lead old packet target) aim old mid) where
  same_lead : lead mid packet target ≡ lead old packet target
  same_lead = let a = came.kept.bits in let b = came.kept.room in cc

  longer : stops code mid.bits.items aim (here mid) ≡ false → LegPasses code (heading_by (lead old packet target) aim) (here old) (came.row ∷ came.leg)
  longer stays = (came.passes, came.move, rw (← came.seen, ← came.kept.bits) stays)

  pub goes_on : (new : Walk) → stops code mid.bits.items aim (here mid) ≡ false → MovedWalk code (lead mid packet target) mid new → Coming code (lead old packet target) aim old new
  goes_on new stays moved = record {
    row = moved.row;
    leg = came.row ∷ came.leg;
    passes = longer stays;
    move = let h = rw (same_lead, came.seen) at moved.move in h;
    seen = moved.seen ∙ ap (λ (p : Place). after code p moved.row) came.seen;
    counts = moved.counts;
    kept = Keeps-twice old mid new came.kept moved.kept;
    grows = (let a = came.grows in let b = moved.grows in omega arith);
  }

  reached : stops code mid.bits.items aim (here mid) ≡ true → Reaches code (heading_by (lead old packet target) aim) (here old) (came.row ∷ came.leg)
  reached stopped = (came.passes, came.move, rw (← came.seen, ← came.kept.bits) stopped)

  pub arrives : stops code mid.bits.items aim (here mid) ≡ true → misfits code mid.bits.items aim (here mid) ≡ false → WalkedPhase code (heading_by (lead old packet target) aim) old mid
  arrives stopped fits = record {
    leg = came.row ∷ came.leg;
    goes = record { reaches = reached stopped; fits = rw (← came.seen, ← came.kept.bits) fits };
    seen = came.seen;
    counts = came.counts;
    kept = came.kept;
    grows = came.grows;
  }

  pub is_blocked : (e : PathFault) → stops code mid.bits.items aim (here mid) ≡ false → next_of code (lead mid packet target) (here mid) ≡ Err e → PhaseFault code (heading_by (lead old packet target) aim) (here old) e
  is_blocked e stays h = inl (record { leg = came.row ∷ came.leg; passes = longer stays; blocked = rw (same_lead, came.seen) at h })

  pub has_left : (n : ℕ) → stops code mid.bits.items aim (here mid) ≡ true → misfits code mid.bits.items aim (here mid) ≡ true → n ≡ unused mid.bits.items (here mid)
      → PhaseFault code (heading_by (lead old packet target) aim) (here old) (BranchesLeft packet n)
  has_left n stopped left is = inr (record {
    leg = came.row ∷ came.leg;
    reaches = reached stopped;
    left = rw (← came.seen, ← came.kept.bits) left;
    fault = ap (λ (m : ℕ). BranchesLeft packet m) (let h = rw (came.kept.bits) at is in h ∙ ap (λ (p : Place). unused old.bits.items p) came.seen);
  })

  pub blocked_or : (e : PathFault) → stops code mid.bits.items aim (here mid) ≡ false → (e ≡ OutOfMemory) ⊎ (next_of code (lead mid packet target) (here mid) ≡ Err e) → (e ≡ OutOfMemory) ⊎ PhaseFault code (heading_by (lead old packet target) aim) (here old) e
  blocked_or e stays h = elim h [ inl m ↦ inl m | inr b ↦ inr (is_blocked e stays b) ]

-- The same where the facts of a step speak of code that is the same, as that of a dump near a
-- position.
module _ (code near : Code) (same : near ≡ code) (packet : ℕ) (target : Option ℕ) (aim : Aim) (old mid : Walk) where
  pub came_first_near : MovedWalk near (lead old packet target) old mid → Coming code (lead old packet target) aim old mid
  came_first_near m = came_first code (lead old packet target) aim old mid (subst (λ (c : Code). MovedWalk c (lead old packet target) old mid) same m)

  module _ (came : Coming code (lead old packet target) aim old mid) where
    stops_there : (b : Bool) → stops near mid.bits.items aim (here mid) ≡ b → stops code mid.bits.items aim (here mid) ≡ b
    stops_there b h = subst (λ (c : Code). stops c mid.bits.items aim (here mid) ≡ b) same h

    misfits_there : (b : Bool) → misfits near mid.bits.items aim (here mid) ≡ b → misfits code mid.bits.items aim (here mid) ≡ b
    misfits_there b h = subst (λ (c : Code). misfits c mid.bits.items aim (here mid) ≡ b) same h

    pub goes_on_near : (new : Walk) → stops near mid.bits.items aim (here mid) ≡ false → MovedWalk near (lead mid packet target) mid new → Coming code (lead old packet target) aim old new
    goes_on_near new stays m = goes_on code packet target aim old mid came new (stops_there false stays) (subst (λ (c : Code). MovedWalk c (lead mid packet target) mid new) same m)

    pub arrives_near : stops near mid.bits.items aim (here mid) ≡ true → misfits near mid.bits.items aim (here mid) ≡ false → WalkedPhase code (heading_by (lead old packet target) aim) old mid
    arrives_near stopped fits = arrives code packet target aim old mid came (stops_there true stopped) (misfits_there false fits)

    pub has_left_near : (n : ℕ) → stops near mid.bits.items aim (here mid) ≡ true → misfits near mid.bits.items aim (here mid) ≡ true → n ≡ unused mid.bits.items (here mid) → PhaseFault code (heading_by (lead old packet target) aim) (here old) (BranchesLeft packet n)
    has_left_near n stopped left is = has_left code packet target aim old mid came n (stops_there true stopped) (misfits_there true left) is

    pub blocked_near : (e : PathFault) → stops near mid.bits.items aim (here mid) ≡ false → (e ≡ OutOfMemory) ⊎ (next_of near (lead mid packet target) (here mid) ≡ Err e) → (e ≡ OutOfMemory) ⊎ PhaseFault code (heading_by (lead old packet target) aim) (here old) e
    blocked_near e stays h = blocked_or code packet target aim old mid came e (stops_there false stays) (subst (λ (c : Code). (e ≡ OutOfMemory) ⊎ (next_of c (lead mid packet target) (here mid) ≡ Err e)) same h)

-- Where the bits fit, one is left at most.
fit_few : (code : Code) (bits : List Bool) (p : Place) → bits_fit code bits p ≡ true → length bits ≤ p.branches + 1
unfolding bits_fit
fit_few code bits p h = go (is_branch code p.at) h where
  go : (b : Bool) → (unused bits p == cond b 1 0) ≡ true → length bits ≤ p.branches + 1
  go true h = grind (arith, nat_tests)
  go false h = grind (arith, nat_tests)

jump_fits : (j e f : Bool) → (j || (e && f)) ≡ true → (j && not f) ≡ false → f ≡ true
jump_fits true e true s m = refl
jump_fits true e false s m = cc
jump_fits false true f s m = s
jump_fits false false f s m = cc

report_fits : (j e f g : Bool) → (j || (e && f && g)) ≡ true → (j && not f) ≡ false → f ≡ true
report_fits true e true g s m = refl
report_fits true e false g s m = cc
report_fits false true true g s m = refl
report_fits false true false g s m = cc
report_fits false false f g s m = cc

second : (b f : Bool) → (b && f) ≡ true → f ≡ true
second true f h = h
second false f h = cc

pub rests_at : (code : Code) (aim : Aim) (w : Walk) → stops code w.bits.items aim (here w) ≡ true → misfits code w.bits.items aim (here w) ≡ false → ends_fit aim ≡ true → length w.bits.items ≤ w.used + 1
unfolding stops misfits
rests_at code Jumped w s m f = cc
rests_at code (Start a) w s m f = fit_few code w.bits.items (here w) (jump_fits (by_jump (here w).rows) (w.at == a) (bits_fit code w.bits.items (here w)) s m)
rests_at code (Report a notify updiscon) w s m f = fit_few code w.bits.items (here w) (report_fits (by_jump (here w).rows) (w.at == a) (bits_fit code w.bits.items (here w)) (notify || not updiscon) s m)
rests_at code LastBit w s m f = fit_few code w.bits.items (here w) (second (is_branch code w.at) (bits_fit code w.bits.items (here w)) s)

-- After a move fewer steps are left.
pub one_step_less : (code : Code) (how : Lead) (old new : Walk) → MovedWalk code how old new → new.room - length new.steps < old.room - length old.steps
one_step_less code how old new m =
    let e : length (reverse new.steps) ≡ suc (length (reverse old.steps)) = ap (λ (p : Place). length p.rows) m.seen in
    let few = m.counts.few in
    let room = m.kept.room in
    omega (arith, e, few, room, length-reverse old.steps, length-reverse new.steps)
