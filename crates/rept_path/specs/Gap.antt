-- The rows that lead from the last position of a stretch, of which the trace doesn't say whether it
-- was executed, to a known address: that of the next stretch, or the program counter of the dump.
-- This rule is the project's own, and a call is a row of its own.
use Rattle.std.specs.Prelude.{ℕ, ◌+◌, ◌%◌, ◌==◌, nat_le, List, [], ◌∷◌, length, slice_get, None, Result, Ok, Err, Bool, true, false, ◌&&◌, if◌then◌else◌}
use Rattle.rept_path.specs.Code.{Code}
use Rattle.rept_isa.specs.declared.instr.Instr.{Instr}
use Rattle.rept_isa.specs.declared.instr.Instr.TheVariants.{Ecall}
use Rattle.rept_isa.specs.declared.row.StepRow.{StepRow}
use Rattle.rept_path.specs.declared.flow.Flow.{Flow}
use Rattle.rept_path.specs.declared.flow.Flow.TheVariants.{Plain, Branch, Jump, Fixed, Far, Call, Stop}
use Rattle.rept_path.specs.declared.fault.PathFault.{PathFault}
use Rattle.rept_path.specs.declared.fault.PathFault.TheVariants.{TooLong, Gap, End}
use Rattle.rept_path.specs.Code.{look, after_instruction, is_short, alignment, flow_of, calls_there}
use Rattle.rept_path.specs.Moves.{Stand, way_by, site, successor, ◌>>=◌}

-- the address that the rows must lead to, and the refusal where they don't
pub record Goal : Type 0 where
  pub address : ℕ
  pub otherwise : PathFault

-- the last position, what stands there and whether it is short, and the goal
pub record Edge : Type 0 where
  pub at : ℕ
  pub instr : Instr
  pub short : Bool
  pub to : ℕ
  pub otherwise : PathFault

-- the row of the last position, and that of a call at another one
abbrev pub row : Edge → ℕ → Bool → StepRow
row e next call = record { at = e.at; instr = e.instr; next = next; call = call; short = e.short }

abbrev pub call_row : Code → ℕ → ℕ → StepRow
call_row code at next = record { at = at; instr = Ecall; next = next; call = true; short = is_short code at }

-- the rows by the successor of the last position: it is the address, or it is a call after which
-- the address stands
abbrev pub by_successor : Code → Edge → ℕ → Result (List StepRow) PathFault
by_successor code e n =
    if n == e.to then Ok (row e n false ∷ [])
    else if calls_there (look code n) && e.to == after_instruction code n then Ok (call_row code n e.to ∷ row e n false ∷ [])
    else Err e.otherwise

-- the rows by what stands at the last position: a call goes on after it, an uninferable jump goes
-- to any address that may be a position by its lowest bits, and all others to their successor
abbrev pub by_flow : Code → Edge → Result ℕ PathFault → Flow → Result (List StepRow) PathFault
by_flow code e next Call = if e.to == after_instruction code e.at then Ok (row e e.to true ∷ []) else Err e.otherwise
by_flow code e next Far = if e.to % alignment code == 0 then Ok (row e e.to false ∷ []) else Err e.otherwise
by_flow code e next Stop = Err e.otherwise
by_flow code e next Plain = next >>= by_successor code e
by_flow code e next (Jump imm) = next >>= by_successor code e
by_flow code e next (Fixed to) = next >>= by_successor code e
by_flow code e next (Branch imm) = next >>= by_successor code e

-- the rows from the instruction at the last position
abbrev pub crossing : Code → Stand → Goal → Instr → Result (List StepRow) PathFault
crossing code s goal i =
    let p = s.place in
    by_flow code (record { at = p.at; instr = i; short = is_short code p.at; to = goal.address; otherwise = goal.otherwise }) (successor s.packet (site code p.at) (flow_of i) (way_by (slice_get s.bits p.branches) None)) (flow_of i)

-- the rows of the gap, of which there must be room for each
unfoldable pub gap : Code → Stand → Goal → Result (List StepRow) PathFault
gap code s goal = do
  i ← look code s.place.at
  rows ← crossing code s goal i
  if nat_le (length s.place.rows + length rows) s.room then Ok rows else Err (TooLong s.packet)

-- to the address of a start packet, and to the end
abbrev pub gap_to_start : Code → Stand → ℕ → Result (List StepRow) PathFault
gap_to_start code s a = gap code s (record { address = a; otherwise = Gap s.packet s.place.at a })

abbrev pub gap_to_end : Code → Stand → ℕ → Result (List StepRow) PathFault
gap_to_end code s pc = gap code s (record { address = pc; otherwise = End s.place.at pc })
