-- The rows that the moves of a packet add: what `follow_execution_path` reports in the reference
-- decoder of Efficient Trace for RISC-V 2.0. Lists of rows are newest first.
use Rattle.std.specs.Prelude.{◌≡◌, List, [], ◌∷◌, Err, true, false, ◌⊎◌}
use Rattle.rept_path.specs.Code.{Code}
use Rattle.rept_path.specs.declared.fault.PathFault.{PathFault}
use Rattle.rept_path.specs.declared.fault.PathFault.TheVariants.{BranchesLeft}
use Rattle.rept_isa.specs.declared.row.StepRow.{StepRow}
use Rattle.rept_path.specs.Moves.{Heading, Place, place_along, next_of, IsMove, stops, misfits, unused}

-- Each row of the leg is that of a move, and none leads to a stop.
abbrev pub LegPasses : Code → Heading → Place → List StepRow → Type 0
LegPasses code heading past [] = Unit {0}
LegPasses code heading past (row ∷ leg) = LegPasses code heading past leg × IsMove code heading.lead (place_along code past leg) row × (stops code heading.lead.bits heading.aim (place_along code past (row ∷ leg)) ≡ false)

-- The leg ends at its first stop.
abbrev pub Reaches : Code → Heading → Place → List StepRow → Type 0
Reaches code heading past [] = ⊥
Reaches code heading past (row ∷ leg) = LegPasses code heading past leg × IsMove code heading.lead (place_along code past leg) row × (stops code heading.lead.bits heading.aim (place_along code past (row ∷ leg)) ≡ true)

-- The leg is that of one phase of a packet.
pub record PhaseLeg (code : Code) (heading : Heading) (past : Place) (leg : List StepRow) : Type 0 where
  pub reaches : Reaches code heading past leg
  pub fits : misfits code heading.lead.bits heading.aim (place_along code past leg) ≡ false

-- The phase has no leg, since no move follows one that has no stop. This is why.
pub record BlockedPhase (code : Code) (heading : Heading) (past : Place) (e : PathFault) : Type 0 where
  pub leg : List StepRow
  pub passes : LegPasses code heading past leg
  pub blocked : next_of code heading.lead (place_along code past leg) ≡ Err e

-- It has none, since bits are left at its stop.
pub record MisfitPhase (code : Code) (heading : Heading) (past : Place) (e : PathFault) : Type 0 where
  pub leg : List StepRow
  pub reaches : Reaches code heading past leg
  pub left : misfits code heading.lead.bits heading.aim (place_along code past leg) ≡ true
  pub fault : e ≡ BranchesLeft heading.lead.packet (unused heading.lead.bits (place_along code past leg))

abbrev pub PhaseFault : Code → Heading → Place → PathFault → Type 0
PhaseFault code heading past e = BlockedPhase code heading past e ⊎ MisfitPhase code heading past e
