-- What a walk has done so far.
use Rattle.std.specs.Prelude.{◌≡◌, ℕ, ◌+◌, ◌≤◌, List, [], ◌∷◌, ◌++◌, length, reverse, Option, Ok, Bool, true, false}
use Rattle.rept_path.specs.Code.{Code}
use Rattle.rept_path.specs.declared.aim.Aim.{Aim}
use Rattle.rept_path.specs.declared.aim.Aim.TheVariants.{Jumped, Start, Report, LastBit}
use Rattle.rept_steps.specs.Linked.{EndBefore}
use Rattle.rept_path.specs.Gap.{Goal, gap}
use Rattle.rept_isa.specs.declared.row.StepRow.{StepRow}
use Rattle.rept_trace.specs.declared.packet.Packet.{Packet}
use Rattle.rept_path.specs.declared.walk.Walk.{Walk}
use Rattle.rept_path.specs.Packets.{bits, bits_of, bits_before, reported, reported_after, waiting, waits_after}
use Rattle.rept_path.specs.Moves.{Lead, Heading, Place, Stand, place_along, IsMove}
use Rattle.rept_path.specs.Legs.{PhaseLeg}
use Rattle.rept_path.specs.Route.{Phase, PhaseLegs, Met, LegBy, LegArrival, EarlierPackets, mark_after, meets, Route, place, place_after, marked}

-- where it stands
abbrev pub here : Walk → Place
here w = record { at = w.at; rows = reverse w.steps; branches = w.used }

-- where it stands before a packet
abbrev pub standing : ℕ → Walk → Stand
standing k w = record { packet = k; bits = w.bits.items; place = here w; room = w.room }

-- bits were there for its branches, and it is not too long
pub record Counts (w : Walk) : Type 0 where
  pub enough : w.used ≤ length w.bits.items
  pub few : length w.steps ≤ w.room
  pub spare : length w.bits.items ≤ w.used + 256
  pub linked : EndBefore w.steps w.at

-- what moves leave alone
pub record Keeps (old new : Walk) : Type 0 where
  pub bits : new.bits.items ≡ old.bits.items
  pub reported : new.reported ≡ old.reported
  pub inferred : new.inferred ≡ old.inferred
  pub waiting : new.waiting ≡ old.waiting
  pub room : new.room ≡ old.room

-- what leads a walk's moves
abbrev pub lead : Walk → ℕ → Option ℕ → Lead
lead w packet target = record { packet = packet; target = target; bits = w.bits.items; room = w.room }

-- one move was made
pub record MovedWalk (code : Code) (how : Lead) (old new : Walk) : Type 0 where
  pub row : StepRow
  pub move : IsMove code how (here old) row
  pub seen : here new ≡ place_along code (here old) (row ∷ [])
  pub counts : Counts new
  pub kept : Keeps old new
  pub grows : old.used ≤ new.used

-- a phase was walked
pub record WalkedPhase (code : Code) (heading : Heading) (old new : Walk) : Type 0 where
  pub leg : List StepRow
  pub goes : PhaseLeg code heading (here old) leg
  pub seen : here new ≡ place_along code (here old) leg
  pub counts : Counts new
  pub kept : Keeps old new
  pub grows : old.used ≤ new.used

-- a walk before and after what it did at the packet of this number
pub record WalkChange : Type 0 where
  pub packet : ℕ
  pub old : Walk
  pub new : Walk

abbrev pub from_to : ℕ → Walk → Walk → WalkChange
from_to k old new = record { packet = k; old = old; new = new }

-- phases were walked
pub record WalkedAll (code : Code) (phases : List Phase) (change : WalkChange) : Type 0 where
  pub leg : List StepRow
  pub goes : PhaseLegs code (standing change.packet change.old) phases leg
  pub seen : here change.new ≡ place_along code (here change.old) leg
  pub counts : Counts change.new
  pub kept : Keeps change.old change.new
  pub grows : change.old.used ≤ change.new.used

-- what a packet is met by
abbrev pub met : ℕ → Walk → Met
met k w = record { number = k; bits = w.bits.items; reported = w.reported; marked = w.inferred; waits = w.waiting; place = here w; room = w.room }

-- where it has arrived
abbrev pub arrival : Walk → LegArrival
arrival w = record { bits = w.bits.items; reported = w.reported; place = here w }

-- a packet was followed
pub record Followed (code : Code) (packet : Packet) (change : WalkChange) : Type 0 where
  pub leg : List StepRow
  pub goes : LegBy code packet (met change.packet change.old) leg
  pub seen : here change.new ≡ place_after code packet (meets change.old.waiting (here change.old)) leg
  pub counts : Counts change.new
  pub bits : change.new.bits.items ≡ bits_before packet change.old.waiting change.old.bits.items ++ bits_of code packet
  pub reported : change.new.reported ≡ reported_after packet change.old.reported
  pub waiting : change.new.waiting ≡ waits_after packet change.old.waiting
  pub marked : change.new.inferred ≡ mark_after code packet change.old.inferred (arrival change.new)
  pub rests : length change.new.bits.items ≤ change.new.used + 1
  pub room : change.new.room ≡ change.old.room

-- the walk stands at the end of a route
pub record Stands (code : Code) (passed : EarlierPackets) (w : Walk) : Type 0 where
  pub route : Route code passed.origin passed.packets passed.legs
  pub seen : here w ≡ place code passed.packets passed.legs
  pub counts : Counts w
  pub bits : w.bits.items ≡ bits code passed.packets
  pub reported : w.reported ≡ reported passed.packets
  pub waiting : w.waiting ≡ waiting passed.packets
  pub marked : w.inferred ≡ marked code passed.packets passed.legs
  pub rests : length w.bits.items ≤ w.used + 1
  pub room : w.room ≡ passed.origin.room

-- the rows of a gap were added
pub record Crossed (code : Code) (goal : Goal) (change : WalkChange) : Type 0 where
  pub rows : List StepRow
  pub crosses : gap code (standing change.packet change.old) goal ≡ Ok rows
  pub seen : reverse change.new.steps ≡ rows ++ reverse change.old.steps
  pub few : length change.new.steps ≤ change.old.room
  pub linked : EndBefore change.new.steps goal.address

-- whether the bits fit where moves with this aim end
abbrev pub ends_fit : Aim → Bool
ends_fit Jumped = false
ends_fit (Start a) = true
ends_fit (Report a notify updiscon) = true
ends_fit LastBit = true
