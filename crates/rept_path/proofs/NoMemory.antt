-- The definitions refuse no path where memory runs out.
use Rattle.std.proofs.Common.{◌≡◌, ◌≢◌, ℕ, ◌+◌, ◌%◌, ◌==◌, nat_le, List, [], ◌∷◌, length, reverse, drop, slice_get, Bool, true, false, cond, ◌&&◌, Option, Some, None, Result, Ok, Err, refl, subst, inl, inr}
use Rattle.rept_path.specs.Code.{Code}
use Rattle.rept_isa.specs.declared.row.StepRow.{StepRow}
use Rattle.rept_isa.specs.declared.instr.Instr.{Instr}
use Rattle.rept_dump.specs.declared.dump.Dump.{Dump}
use Rattle.rept_trace.specs.declared.packet.Packet.{Packet}
use Rattle.rept_trace.specs.declared.packet.Packet.TheVariants.{Start, Context, Support, Address, Map, MapAddress}
use Rattle.rept_trace.specs.declared.packets.Packets.{Packets}
use Rattle.rept_path.specs.declared.aim.Aim.{Aim}
use Rattle.rept_path.specs.declared.flow.Flow.{Flow}
use Rattle.rept_path.specs.declared.flow.Flow.TheVariants.{Plain, Branch, Jump, Fixed, Far, Call, Stop}
use Rattle.rept_path.specs.declared.fault.PathFault.{PathFault}
use Rattle.rept_path.specs.declared.fault.PathFault.TheVariants.{TooLong, Gap, End, Unaligned, OutOfMemory}
use Rattle.rept_path.specs.Code.{instruction, expansion, short_half, is_short, alignment, after_instruction, by_instruction, by_word, by_code, look, flow_of, calls_there}
use Rattle.rept_path.specs.Gap.{row, call_row, Goal, Edge, by_successor, by_flow, crossing, gap}
use Rattle.rept_path.specs.Legs.{PhaseFault}
use Rattle.rept_path.specs.Moves.{Lead, Place, Stand, Site, place_along, site, successor, position, next_of, ◌>>=◌, heading_by, way_by}
use Rattle.rept_path.specs.Packets.{waiting}
use Rattle.rept_path.specs.Route.{Phase, PhasesFault, lead_of, further, with_bits, phases_of, Met, met_by, stand_of, admits, FirstFault, WaitingFault, RunningFault, Fault, Origin, alone}
use Rattle.rept_path.specs.Trace.{HasNoPathOfPackets, stand_after}
use Rattle.rept_path.specs.Traced.{code_over, pc_of, IsRefusedBy}
use Rattle.rept_path.proofs.Waiting.{FaultIn}

-- each fault of a result is another
abbrev Others : {A : Type 0} → Result A PathFault → Type 0
Others r = (e : PathFault) → r ≡ Err e → e ≢ OutOfMemory

others_ok : {A : Type 0} (x : A) → Others (Ok x)
others_ok x e h = cc

others_bind : {A B : Type 0} (r : Result A PathFault) (f : A → Result B PathFault) → Others r → ((x : A) → Others (f x)) → Others (r >>= f)
others_bind (Ok x) f hr hf = hf x
others_bind (Err d) f hr hf = λ e h. let same : d ≡ e = cc in subst (λ (x : PathFault). x ≢ OutOfMemory) same (hr d refl)

others_cond : {A : Type 0} (b : Bool) (r s : Result A PathFault) → Others r → Others s → Others (cond b r s)
others_cond true r s hr hs = hr
others_cond false r s hr hs = hs

others_instruction : (a spelled : ℕ) (i : Option Instr) → Others (by_instruction a spelled i)
others_instruction a spelled None e h = λ m. cc
others_instruction a spelled (Some i) e h = λ m. cc

others_word : (a : ℕ) (w : Option ℕ) → Others (by_word a w)
others_word a None e h = λ m. cc
others_word a (Some spelled) e h = others_instruction a spelled (instruction spelled) e h

others_code : (a : ℕ) (half w : Option ℕ) → Others (by_code a half w)
others_code a (Some half) w e h = others_instruction a half (expansion half) e h
others_code a None w e h = others_word a w e h

others_unaligned : (a : ℕ) → Others {A = Instr} (Err (Unaligned a))
others_unaligned a e h = λ m. cc

others_bit : (k : ℕ) (p : Site) (bit : Option Bool) (target : Option ℕ) (flow : Flow) → Others (successor k p flow (way_by bit target))
others_bit k p bit target Plain e h = λ m. cc
others_bit k p bit target (Jump imm) e h = λ m. cc
others_bit k p bit target (Fixed to) e h = λ m. cc
others_bit k p None target (Branch imm) e h = λ m. cc
others_bit k p (Some true) target (Branch imm) e h = λ m. cc
others_bit k p (Some false) target (Branch imm) e h = λ m. cc
others_bit k p bit None Far e h = λ m. cc
others_bit k p bit (Some a) Far e h = λ m. cc
others_bit k p bit target Call e h = λ m. cc
others_bit k p bit target Stop e h = λ m. cc

others_long : {A : Type 0} (k : ℕ) → Others {A = A} (Err (TooLong k))
others_long k e h = λ m. cc

others_err : {A : Type 0} (d : PathFault) → d ≢ OutOfMemory → Others {A = A} (Err d)
others_err d other e h = let same : d ≡ e = cc in subst (λ (x : PathFault). x ≢ OutOfMemory) same other

module _ (code : Code) where
  others_look : (a : ℕ) → Others (look code a)
  unfolding look
  others_look a = others_cond (a % alignment code == 0) (by_code a (short_half code a) (code.contents.word a)) (Err (Unaligned a)) (others_code a (short_half code a) (code.contents.word a)) (others_unaligned a)

  others_position : (a : ℕ) → Others (position code a)
  others_position a = others_bind (look code a) (λ _. Ok a) (others_look a) (λ _. others_ok a)

  others_next : (how : Lead) (p : Place) → Others (next_of code how p)
  unfolding next_of
  others_next how p =
      let onward : ℕ → Result ℕ PathFault = λ a. cond (nat_le how.room (length p.rows)) (Err (TooLong how.packet)) (position code a) in
      let from : Instr → Result ℕ PathFault = λ i. successor how.packet (site code p.at) (flow_of i) (way_by (slice_get how.bits p.branches) how.target) in
      others_bind (look code p.at) (λ i. from i >>= onward) (others_look p.at)
      (λ i. others_bind (from i) onward (others_bit how.packet (site code p.at) (slice_get how.bits p.branches) how.target (flow_of i))
      (λ a. others_cond (nat_le how.room (length p.rows)) (Err (TooLong how.packet)) (position code a) (others_long how.packet) (others_position a)))

  module _ (edge : Edge) (other : edge.otherwise ≢ OutOfMemory) where
    others_successor : (n : ℕ) → Others (by_successor code edge n)
    others_successor n =
        others_cond (n == edge.to) _ _ (others_ok (row edge n false ∷ []))
        (others_cond (calls_there (look code n) && edge.to == after_instruction code n) _ _ (others_ok (call_row code n edge.to ∷ row edge n false ∷ [])) (others_err edge.otherwise other))

    others_flow : (next : Result ℕ PathFault) → Others next → (flow : Flow) → Others (by_flow code edge next flow)
    others_flow next h Call = others_cond (edge.to == after_instruction code edge.at) _ _ (others_ok (row edge edge.to true ∷ [])) (others_err edge.otherwise other)
    others_flow next h Far = others_cond (edge.to % alignment code == 0) _ _ (others_ok (row edge edge.to false ∷ [])) (others_err edge.otherwise other)
    others_flow next h Stop = others_err edge.otherwise other
    others_flow next h Plain = others_bind next (by_successor code edge) h others_successor
    others_flow next h (Jump imm) = others_bind next (by_successor code edge) h others_successor
    others_flow next h (Fixed to) = others_bind next (by_successor code edge) h others_successor
    others_flow next h (Branch imm) = others_bind next (by_successor code edge) h others_successor

  others_gap : (s : Stand) (goal : Goal) → goal.otherwise ≢ OutOfMemory → Others (gap code s goal)
  unfolding gap
  others_gap s goal other =
      let p = s.place in
      let room : List StepRow → Result (List StepRow) PathFault = λ rows. cond (nat_le (length p.rows + length rows) s.room) (Ok rows) (Err (TooLong s.packet)) in
      let bit = slice_get s.bits p.branches in
      let cross : Instr → Result (List StepRow) PathFault = λ i. crossing code s goal i in
      others_bind (look code p.at) (λ i. cross i >>= room) (others_look p.at)
      (λ i. others_bind (cross i) room (others_flow (record { at = p.at; instr = i; short = is_short code p.at; to = goal.address; otherwise = goal.otherwise }) other (successor s.packet (site code p.at) (flow_of i) (way_by bit None)) (others_bit s.packet (site code p.at) bit None (flow_of i)) (flow_of i))
      (λ rows. others_cond (nat_le (length p.rows + length rows) s.room) (Ok rows) (Err (TooLong s.packet)) (others_ok rows) (others_long s.packet)))

  phase_other : (how : Lead) (aim : Aim) (past : Place) (e : PathFault) → PhaseFault code (heading_by how aim) past e → e ≢ OutOfMemory
  phase_other how aim past e (inl blocked) = others_next how (place_along code past blocked.leg) e blocked.blocked
  phase_other how aim past e (inr misfit) = λ m. let is = misfit.fault in cc

  phases_other : (s : Stand) (phases : List Phase) (e : PathFault) → PhasesFault code s phases e → e ≢ OutOfMemory
  phases_other s [] e f = elim f [ ]
  phases_other s (phase ∷ phases) e (inl f) = phase_other (lead_of s phase) phase.aim s.place e f
  phases_other s (phase ∷ phases) e (inr (first, leg, f)) = phases_other (further code s first) phases e f

  admits_other : (packet : Packet) → Others (admits code packet)
  admits_other (Start branch privilege a time context) = others_position a
  admits_other (Address report) = others_ok 0
  admits_other (MapAddress count map report) = others_ok 0
  admits_other (Map map) = others_ok 0
  admits_other (Context privilege time context) = others_ok 0
  admits_other (Support enabled status) = others_ok 0

  running_other : (packet : Packet) (met : Met) (e : PathFault) → RunningFault code packet met e → e ≢ OutOfMemory
  running_other packet met e (inl f) = admits_other packet e f
  running_other packet met e (inr (admitted, f)) = phases_other (with_bits code packet met) (phases_of packet met.marked met.reported) e f

  gap_other : (k last a : ℕ) → Gap k last a ≢ OutOfMemory
  gap_other k last a = λ m. cc

  waiting_other : (packet : Packet) (met : Met) (e : PathFault) → WaitingFault code packet met e → e ≢ OutOfMemory
  waiting_other (Start branch privilege a time context) met e (inl f) = others_gap (stand_of met) (record { address = a; otherwise = Gap met.number met.place.at a }) (gap_other met.number met.place.at a) e f
  waiting_other (Start branch privilege a time context) met e (inr (closed, f)) = others_position a e f
  waiting_other (Address report) met e f = λ m. cc
  waiting_other (MapAddress count map report) met e f = λ m. cc
  waiting_other (Map map) met e f = λ m. cc
  waiting_other (Context privilege time context) met e f = elim f [ ]
  waiting_other (Support enabled status) met e f = elim f [ ]

  by_other : (packet : Packet) (waits : Bool) (met : Met) (e : PathFault) → FaultIn code packet waits met e → e ≢ OutOfMemory
  by_other packet true met e f = waiting_other packet met e f
  by_other packet false met e f = running_other packet met e f

  first_other : (packet : Packet) (e : PathFault) → FirstFault code packet e → e ≢ OutOfMemory
  first_other (Start branch privilege a time context) e f = others_position a e f
  first_other (Address report) e f = elim f [ ]
  first_other (MapAddress count map report) e f = elim f [ ]
  first_other (Map map) e f = elim f [ ]
  first_other (Context privilege time context) e f = elim f [ ]
  first_other (Support enabled status) e f = elim f [ ]

  fault_other : (origin : Origin) (packet : Packet) (earlier : List Packet) (legs : List (List StepRow)) (e : PathFault) → Fault code packet (record { origin = origin; packets = earlier; legs = legs }) e → e ≢ OutOfMemory
  fault_other origin packet [] legs e f = first_other packet e f
  fault_other origin packet (last ∷ earlier) legs e f = by_other packet (waiting (last ∷ earlier)) (met_by code origin (last ∷ earlier) legs) e f

  refused_other : (packets : List Packet) (from pc : ℕ) (e : PathFault) → HasNoPathOfPackets (record { code = code; packets = packets; from = from; pc = pc }) e → e ≢ OutOfMemory
  refused_other packets from pc e (inl (none, is)) = λ m. cc
  refused_other packets from pc e (inr (skipped, window, inl s)) = fault_other (alone skipped) s.packet s.earlier s.legs e s.fault
  refused_other packets from pc e (inr (skipped, window, inr s)) =
      let last = stand_after code (length packets) (reverse (drop skipped packets)) s.legs in
      others_gap last (record { address = pc; otherwise = End last.place.at pc }) (λ m. cc) e s.end

pub refused_otherwise : (packets : Packets) (dump : Dump) (from : ℕ) (e : PathFault) → IsRefusedBy packets dump from e → e ≢ OutOfMemory
refused_otherwise packets dump from e (inl (list, refused, fails, is)) = λ m. cc
refused_otherwise packets dump from e (inr (list, hold, f)) = refused_other (code_over packets dump) list from (pc_of dump) e f
