-- One move, and where moves stop: in the reference decoder of Efficient Trace for RISC-V 2.0
-- `next_pc`, and the conditions under which `follow_execution_path` ends. Lists of rows are newest
-- first.
use Rattle.std.specs.Prelude.{◌≡◌, ℕ, ◌+◌, ◌-◌, ◌==◌, nat_le, ℤ, List, [], ◌∷◌, length, slice_get, Option, Some, None, Result, Ok, Err, Bool, true, false, not, ◌&&◌, ◌||◌, if◌then◌else◌}
use Rattle.rept_path.specs.Code.{Code}
use Rattle.rept_path.specs.declared.flow.Flow.TheVariants.{Plain, Branch, Jump, Fixed, Far, Call, Stop}
use Rattle.rept_path.specs.declared.fault.PathFault.{PathFault}
use Rattle.rept_path.specs.declared.fault.PathFault.TheVariants.{NoBranchBit, JumpInMap, TooLong, Trapped}
use Rattle.rept_path.specs.declared.aim.Aim.{Aim}
use Rattle.rept_path.specs.declared.aim.Aim.TheVariants.{Jumped, Start, Report, LastBit}
use Rattle.rept_isa.specs.declared.row.StepRow.{StepRow}
use Rattle.rept_isa.specs.Numbers.{plus}
use Rattle.rept_path.specs.declared.flow.Flow.{Flow}
use Rattle.rept_path.specs.Code.{look, after_instruction, is_short, flow_of, jumps_far, is_branch, branches_at}

infixl 10 ◌>>=◌
abbrev pub ◌>>=◌ : {A B : Type 0} → Result A PathFault → (A → Result B PathFault) → Result B PathFault
(Ok x) >>= f = f x
(Err e) >>= f = Err e

-- where a route has come: its last position, its rows, and how many branches of the stretch they
-- pass
pub record Place : Type 0 where
  pub at : ℕ
  pub rows : List StepRow
  pub branches : ℕ

-- the place after one row more, and after a leg
abbrev pub after : Code → Place → StepRow → Place
after code p row = record { at = row.next; rows = row ∷ p.rows; branches = p.branches + branches_at code row.at }

abbrev pub place_along : Code → Place → List StepRow → Place
place_along code p [] = p
place_along code p (row ∷ leg) = after code (place_along code p leg) row

-- what leads the moves: the packet's number, where an uninferable jump goes, all branch bits of the
-- stretch, and how many rows the route may have
pub record Lead : Type 0 where
  pub packet : ℕ
  pub target : Option ℕ
  pub bits : List Bool
  pub room : ℕ

-- where a walk stands: the number of the packet that comes, all branch bits of the stretch, the
-- place, and how many rows the route may have
pub record Stand : Type 0 where
  pub packet : ℕ
  pub bits : List Bool
  pub place : Place
  pub room : ℕ

-- what leads moves, and where they stop
pub record Heading : Type 0 where
  pub lead : Lead
  pub aim : Aim

abbrev pub heading_by : Lead → Aim → Heading
heading_by lead aim = record { lead = lead; aim = aim }

-- what the trace says of the way on from a position: the bit of a branch there, and where an
-- uninferable jump goes
pub record WayOn : Type 0 where
  pub bit : Option Bool
  pub target : Option ℕ

abbrev pub way_by : Option Bool → Option ℕ → WayOn
way_by bit target = record { bit = bit; target = target }

-- a position, and the address of the instruction that follows the one there
pub record Site : Type 0 where
  pub at : ℕ
  pub onward : ℕ

abbrev pub site : Code → ℕ → Site
site code a = record { at = a; onward = after_instruction code a }

abbrev pub by_bit : ℕ → Site → ℤ → Option Bool → Result ℕ PathFault
by_bit k p imm None = Err (NoBranchBit k p.at)
by_bit k p imm (Some false) = Ok (plus p.at imm)
by_bit k p imm (Some true) = Ok p.onward

abbrev pub by_target : ℕ → ℕ → Option ℕ → Result ℕ PathFault
by_target k p None = Err (JumpInMap k p)
by_target k p (Some a) = Ok a

-- the address after p in packet k, by what stands at p and the way on
abbrev pub successor : ℕ → Site → Flow → WayOn → Result ℕ PathFault
successor k p Plain way = Ok p.onward
successor k p (Jump imm) way = Ok (plus p.at imm)
successor k p (Fixed a) way = Ok a
successor k p (Branch imm) way = by_bit k p imm way.bit
successor k p Far way = by_target k p.at way.target
successor k p Call way = Err (Trapped k p.at)
successor k p Stop way = Err (Trapped k p.at)

-- an address that becomes a position
abbrev pub position : Code → ℕ → Result ℕ PathFault
position code a = look code a >>= (λ i. Ok a)

-- the position after a place: the bit of a branch is the one whose number is the branch's in its
-- stretch, 0 for taken
unfoldable pub next_of : Code → Lead → Place → Result ℕ PathFault
next_of code lead p = do
  i ← look code p.at
  a ← successor lead.packet (site code p.at) (flow_of i) (way_by (slice_get lead.bits p.branches) lead.target)
  if nat_le lead.room (length p.rows) then Err (TooLong lead.packet) else position code a

-- the row of a move is from a place to the position after it
pub record IsMove (code : Code) (lead : Lead) (p : Place) (row : StepRow) : Type 0 where
  pub next : next_of code lead p ≡ Ok row.next
  pub at : row.at ≡ p.at
  pub instr : look code p.at ≡ Ok row.instr
  pub call : row.call ≡ false
  pub short : row.short ≡ is_short code p.at

-- whether the last row is that of an uninferable jump
unfoldable pub by_jump : List StepRow → Bool
by_jump [] = false
by_jump (row ∷ rows) = jumps_far (flow_of row.instr)

-- how many bits the branches before the position have left
abbrev pub unused : List Bool → Place → ℕ
unused bits p = length bits - p.branches

-- whether bits fit at the position: a branch there keeps its bit, which is the only one that is
-- left
unfoldable pub bits_fit : Code → List Bool → Place → Bool
bits_fit code bits p = unused bits p == branches_at code p.at

-- whether the place is a stop: the target of an uninferable jump, the address of a start packet or
-- the reported one, which counts where `notify` says something or `updiscon` says nothing, or the
-- branch of the last bit of a map
unfoldable pub stops : Code → List Bool → Aim → Place → Bool
stops code bits Jumped p = by_jump p.rows
stops code bits (Start a) p = by_jump p.rows || (p.at == a && bits_fit code bits p)
stops code bits (Report a notify updiscon) p = by_jump p.rows || (p.at == a && bits_fit code bits p && (notify || not updiscon))
stops code bits LastBit p = is_branch code p.at && bits_fit code bits p

-- At a stop by an uninferable jump the bits must fit, but for one that ends the first phase.
abbrev pub wants_fit : Aim → Bool
wants_fit Jumped = false
wants_fit (Start a) = true
wants_fit (Report a notify updiscon) = true
wants_fit LastBit = false

unfoldable pub misfits : Code → List Bool → Aim → Place → Bool
misfits code bits aim p = wants_fit aim && by_jump p.rows && not (bits_fit code bits p)

-- whether the place is a stop only since it is at the reported address and `updiscon` says nothing,
-- so that the program may come there again (`inferred_address` in the reference decoder)
unfoldable pub is_inferred : Code → List Bool → Aim → Place → Bool
is_inferred code bits Jumped p = false
is_inferred code bits (Start a) p = false
is_inferred code bits (Report a notify updiscon) p = p.at == a && bits_fit code bits p && not updiscon && not notify && not (by_jump p.rows)
is_inferred code bits LastBit p = false
