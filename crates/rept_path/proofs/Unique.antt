-- There is one leg at most, or one fault.
use Rattle.std.proofs.Common.{◌≡◌, ℕ, ◌<◌, List, [], ◌∷◌, length, Bool, true, false, Ok, Err, refl, sym, ◌∙◌, ap, arith, inl, inr}
use Rattle.std.proofs.lemmas.Bool.{cases_order}
use Rattle.rept_path.specs.Code.{Code}
use Rattle.rept_path.specs.declared.aim.Aim.{Aim}
use Rattle.rept_isa.specs.declared.row.StepRow.{StepRow}
use Rattle.rept_path.specs.declared.fault.PathFault.{PathFault}
use Rattle.rept_path.specs.declared.fault.PathFault.TheVariants.{BranchesLeft}
use Rattle.rept_isa.specs.declared.instr.Instr.{Instr}
use Rattle.rept_path.specs.Code.{look}
use Rattle.rept_path.specs.Moves.{Lead, Place, Stand, place_along, next_of, IsMove, stops, misfits, unused, heading_by}
use Rattle.rept_path.specs.Legs.{LegPasses, Reaches, PhaseLeg, PhaseFault}
use Rattle.rept_path.specs.Route.{Phase, PhaseLegs, PhasesFault, lead_of, further}

one_move : (code : Code) (lead : Lead) (p : Place) (r s : StepRow) → IsMove code lead p r → IsMove code lead p s → r ≡ s
one_move code lead p r s x y =
    let a : next_of code lead p ≡ Ok r.next = x.next in
    let b : next_of code lead p ≡ Ok s.next = y.next in
    let n : r.next ≡ s.next = cc in
    let at : r.at ≡ s.at = x.at ∙ sym y.at in
    let c : r.call ≡ s.call = x.call ∙ sym y.call in
    let d : r.short ≡ s.short = x.short ∙ sym y.short in
    let u : look code p.at ≡ Ok r.instr = x.instr in
    let v : look code p.at ≡ Ok s.instr = y.instr in
    let i : r.instr ≡ s.instr = cc in
    let f : ℕ → Instr → ℕ → Bool → Bool → StepRow = λ a j b c d. record { at = a; instr = j; next = b; call = c; short = d } in
    let one : f r.at r.instr r.next r.call r.short ≡ f s.at s.instr s.next s.call s.short = cc in
    one

module _ (code : Code) (lead : Lead) (aim : Aim) (past : Place) where
  -- no move follows the leg, which has no stop
  abbrev Blocked : List StepRow → PathFault → Type 0
  Blocked leg e = LegPasses code (heading_by lead aim) past leg × (next_of code lead (place_along code past leg) ≡ Err e)

  same_passes : (a b : List StepRow) → LegPasses code (heading_by lead aim) past a → LegPasses code (heading_by lead aim) past b → length a ≡ length b → a ≡ b
  same_passes [] [] x y e = refl
  same_passes [] (q ∷ b) x y e = absurd (omega arith)
  same_passes (p ∷ a) [] x y e = absurd (omega arith)
  same_passes (p ∷ a) (q ∷ b) x y e =
      let s : a ≡ b = same_passes a b x.0 y.0 (omega arith) in
      let m : IsMove code lead (place_along code past b) p = rw s at x.1 in
      let n : p ≡ q = one_move code lead (place_along code past b) p q m y.1 in
      cc

  -- a leg to a stop is not within a leg without one
  stop_within : (q : StepRow) (a b : List StepRow) → Reaches code (heading_by lead aim) past (q ∷ a) → LegPasses code (heading_by lead aim) past b → length a < length b → ⊥
  stop_within q a [] x y lt = omega arith
  stop_within q a (p ∷ b) x y lt = elim (cases_order (length a) (length b)) [
    | inl e ↦
        let s : a ≡ b = same_passes a b x.0 y.0 e in
        let m : IsMove code lead (place_along code past b) q = rw s at x.1 in
        let same : q ≡ p = one_move code lead (place_along code past b) q p m y.1 in
        let stopped : stops code lead.bits aim (place_along code past (p ∷ b)) ≡ true = rw (s, same) at x.2 in
        let stays : stops code lead.bits aim (place_along code past (p ∷ b)) ≡ false = y.2 in
        cc
    | inr (inl l) ↦ stop_within q a b x y.0 l
    | inr (inr l) ↦ omega arith
  ]

  same_reach : (a b : List StepRow) → Reaches code (heading_by lead aim) past a → Reaches code (heading_by lead aim) past b → a ≡ b
  same_reach [] b x y = elim x [ ]
  same_reach (p ∷ a) [] x y = elim y [ ]
  same_reach (p ∷ a) (q ∷ b) x y = elim (cases_order (length a) (length b)) [
    | inl e ↦
        let s : a ≡ b = same_passes a b x.0 y.0 e in
        let m : IsMove code lead (place_along code past b) p = rw s at x.1 in
        let n : p ≡ q = one_move code lead (place_along code past b) p q m y.1 in
        cc
    | inr (inl l) ↦ absurd (stop_within p a b x y.0 l)
    | inr (inr l) ↦ absurd (stop_within q b a y x.0 l)
  ]

  -- no leg goes on past a blocked one
  blocked_within : (a b : List StepRow) (e : PathFault) → Blocked a e → LegPasses code (heading_by lead aim) past b → length a < length b → ⊥
  blocked_within a [] e x y lt = omega arith
  blocked_within a (q ∷ b) e x y lt = elim (cases_order (length a) (length b)) [
    | inl i ↦
        let s : a ≡ b = same_passes a b x.0 y.0 i in
        let n : next_of code lead (place_along code past b) ≡ Err e = rw s at x.1 in
        let m : next_of code lead (place_along code past b) ≡ Ok q.next = y.1.next in
        cc
    | inr (inl l) ↦ blocked_within a b e x y.0 l
    | inr (inr l) ↦ omega arith
  ]

  same_block : (a b : List StepRow) (d e : PathFault) → Blocked a d → Blocked b e → d ≡ e
  same_block a b d e x y = elim (cases_order (length a) (length b)) [
    | inl i ↦
        let s : a ≡ b = same_passes a b x.0 y.0 i in
        let n : next_of code lead (place_along code past b) ≡ Err d = rw s at x.1 in
        let m : next_of code lead (place_along code past b) ≡ Err e = y.1 in
        cc
    | inr (inl l) ↦ absurd (blocked_within a b d x y.0 l)
    | inr (inr l) ↦ absurd (blocked_within b a e y x.0 l)
  ]

  reach_or_block : (a b : List StepRow) (e : PathFault) → Reaches code (heading_by lead aim) past a → Blocked b e → ⊥
  reach_or_block [] b e x y = elim x [ ]
  reach_or_block (q ∷ a) b e x y = elim (cases_order (length a) (length b)) [
    | inl i ↦
        let s : a ≡ b = same_passes a b x.0 y.0 i in
        let n : next_of code lead (place_along code past b) ≡ Ok q.next = rw s at x.1.next in
        let m : next_of code lead (place_along code past b) ≡ Err e = y.1 in
        cc
    | inr (inl l) ↦ stop_within q a b x y.0 l
    | inr (inr l) ↦ blocked_within b a e y x.0 l
  ]

  pub one_leg : (a b : List StepRow) → PhaseLeg code (heading_by lead aim) past a → PhaseLeg code (heading_by lead aim) past b → a ≡ b
  one_leg a b x y = same_reach a b x.reaches y.reaches

  pub leg_or_fault : (a : List StepRow) (e : PathFault) → PhaseLeg code (heading_by lead aim) past a → PhaseFault code (heading_by lead aim) past e → ⊥
  leg_or_fault a e x y = elim y [
    | inl f ↦ reach_or_block a f.leg e x.reaches (f.passes, f.blocked)
    | inr f ↦
        let s : a ≡ f.leg = same_reach a f.leg x.reaches f.reaches in
        let n : misfits code lead.bits aim (place_along code past f.leg) ≡ false = rw s at x.fits in
        let m : misfits code lead.bits aim (place_along code past f.leg) ≡ true = f.left in
        cc
  ]

  pub one_fault : (d e : PathFault) → PhaseFault code (heading_by lead aim) past d → PhaseFault code (heading_by lead aim) past e → d ≡ e
  one_fault d e x y = elim x [
    | inl f ↦ elim y [ inl g ↦ same_block f.leg g.leg d e (f.passes, f.blocked) (g.passes, g.blocked) | inr g ↦ absurd (reach_or_block g.leg f.leg d g.reaches (f.passes, f.blocked)) ]
    | inr f ↦ elim y [
      | inl g ↦ absurd (reach_or_block f.leg g.leg e f.reaches (g.passes, g.blocked))
      | inr g ↦
          let s : f.leg ≡ g.leg = same_reach f.leg g.leg f.reaches g.reaches in
          f.fault ∙ ap (λ (leg : List StepRow). BranchesLeft lead.packet (unused lead.bits (place_along code past leg))) s ∙ sym g.fault
    ]
  ]

module _ (code : Code) where
  pub one_legs : (phases : List Phase) (s : Stand) (a b : List StepRow) → PhaseLegs code s phases a → PhaseLegs code s phases b → a ≡ b
  one_legs [] s a b x y = x ∙ sym y
  one_legs (phase ∷ phases) s a b (f, r, x, p, xs) (g, u, y, q, ys) =
      let first : f ≡ g = one_leg code (lead_of s phase) phase.aim s.place f g p q in
      let h : PhaseLegs code (further code s g) phases r = rw first at xs in
      let rest : r ≡ u = one_legs phases (further code s g) r u h ys in
      cc

  pub legs_or_fault : (phases : List Phase) (s : Stand) (a : List StepRow) (e : PathFault) → PhaseLegs code s phases a → PhasesFault code s phases e → ⊥
  legs_or_fault [] s a e x y = y
  legs_or_fault (phase ∷ phases) s a e (f, r, x, p, xs) y = elim y [
    | inl g ↦ leg_or_fault code (lead_of s phase) phase.aim s.place f e p g
    | inr g ↦
        let first : f ≡ g.0 = one_leg code (lead_of s phase) phase.aim s.place f g.0 p g.1 in
        let h : PhaseLegs code (further code s g.0) phases r = rw first at xs in
        legs_or_fault phases (further code s g.0) r e h g.2
  ]

  pub one_of_faults : (phases : List Phase) (s : Stand) (d e : PathFault) → PhasesFault code s phases d → PhasesFault code s phases e → d ≡ e
  one_of_faults [] s d e x y = elim x [ ]
  one_of_faults (phase ∷ phases) s d e x y = elim x [
    | inl f ↦ elim y [
      | inl g ↦ one_fault code (lead_of s phase) phase.aim s.place d e f g
      | inr g ↦ absurd (leg_or_fault code (lead_of s phase) phase.aim s.place g.0 d g.1 f)
    ]
    | inr f ↦ elim y [
      | inl g ↦ absurd (leg_or_fault code (lead_of s phase) phase.aim s.place f.0 e f.1 g)
      | inr g ↦
          let first : f.0 ≡ g.0 = one_leg code (lead_of s phase) phase.aim s.place f.0 g.0 f.1 g.1 in
          let h : PhasesFault code (further code s g.0) phases d = rw first at f.2 in
          one_of_faults phases (further code s g.0) d e h g.2
    ]
  ]
