-- Facts about paths: there is a row, each row has the instruction that stands at its address and
-- leads to the one after it.
use Rattle.std.proofs.Common.{◌≡◌, ℕ, ◌+◌, ◌<◌, ◌==◌, nat_le, List, [], ◌∷◌, ◌++◌, length, reverse, drop, slice_get, Bool, true, false, cond, ◌&&◌, None, Result, Ok, Err, refl, sym, ◌∙◌, ap, subst, arith, length-append}
use Rattle.std.proofs.lemmas.Bool.{eqb-true}
use Rattle.std.proofs.lemmas.List.{reverse-append, length-reverse}
use Rattle.std.proofs.lemmas.List.Elements.{All-nil, All-cons, All-head, All-tail, All-append, All-push, All-same}
use Rattle.rept_path.specs.Code.{Code}
use Rattle.rept_isa.specs.declared.row.StepRow.{StepRow}
use Rattle.rept_isa.specs.declared.instr.Instr.{Instr}
use Rattle.rept_isa.specs.declared.instr.Instr.TheVariants as instrs
use Rattle.rept_steps.specs.Linked.{AreLinked, EndBefore}
use Rattle.rept_path.specs.declared.program.Program.{Program}
use Rattle.rept_path.specs.Program.{code_of}
use Rattle.rept_trace.specs.declared.packet.Packet.{Packet}
use Rattle.rept_trace.specs.declared.packet.Packet.TheVariants.{Start, Context, Support, Address, Map, MapAddress}
use Rattle.rept_trace.specs.declared.packets.Packets.{Packets}
use Rattle.rept_path.specs.declared.aim.Aim.{Aim}
use Rattle.rept_path.specs.declared.flow.Flow.{Flow}
use Rattle.rept_path.specs.declared.flow.Flow.TheVariants.{Plain, Branch, Jump, Fixed, Far, Call, Stop}
use Rattle.rept_path.specs.declared.fault.PathFault.{PathFault}
use Rattle.rept_path.specs.declared.fault.PathFault.TheVariants.{TooLong, Gap, End}
use Rattle.rept_path.specs.Code.{look, after_instruction, is_short, flow_of, calls_there}
use Rattle.rept_path.specs.Gap.{row, call_row, Goal, Edge, by_successor, by_flow, crossing, gap}
use Rattle.rept_path.specs.Legs.{LegPasses, Reaches}
use Rattle.rept_path.specs.Moves.{Lead, Place, Stand, place_along, site, successor, IsMove, ◌>>=◌, heading_by, way_by}
use Rattle.rept_path.specs.Packets.{reported_after, begins, waiting}
use Rattle.rept_path.specs.Route.{Phase, PhaseLegs, lead_of, further, with_bits, phases_of, Met, met_by, stand_of, FirstLeg, WaitingLeg, Leg, Origin, alone, Route, place, place_after, meets}
use Rattle.rept_path.specs.Rows.{CarriesCode, CarryCode}
use Rattle.rept_path.specs.Trace.{IsPath, stand_after}
use Rattle.rept_path.specs.Traced.{pc_of, IsTracedPath, raw_by}
use Rattle.rept_path.proofs.MoveLemmas.{bind_ok}
use Rattle.rept_path.proofs.Phases.{along-append}
use Rattle.rept_path.proofs.Waiting.{LegIn}

-- the rows after a leg
pub rows_along : (code : Code) (p : Place) (leg : List StepRow) → (place_along code p leg).rows ≡ leg ++ p.rows
rows_along code p [] = refl
rows_along code p (r ∷ leg) = ap (λ (rows : List StepRow). r ∷ rows) (rows_along code p leg)

pub rows_after : (code : Code) (packet : Packet) (waits : Bool) (p : Place) (leg : List StepRow) → (place_after code packet (meets waits p) leg).rows ≡ leg ++ p.rows
rows_after code packet waits p leg = go (begins packet waits)
  where
    go : (b : Bool) → (cond b (record { at = reported_after packet 0; rows = leg ++ p.rows; branches = 0 }) (place_along code p leg)).rows ≡ leg ++ p.rows
    go true = refl
    go false = rows_along code p leg

-- a call stands there
called : (r : Result Instr PathFault) → calls_there r ≡ true → r ≡ Ok instrs.Ecall
called (Err e) t = cc
called (Ok (instrs.Lui rd imm)) t = cc
called (Ok (instrs.Auipc rd imm)) t = cc
called (Ok (instrs.Jal rd imm)) t = cc
called (Ok (instrs.Jalr rd rs1 imm)) t = cc
called (Ok (instrs.Branch op rs1 rs2 imm)) t = cc
called (Ok (instrs.Load op rd rs1 imm)) t = cc
called (Ok (instrs.Store op rs1 rs2 imm)) t = cc
called (Ok (instrs.Imm op rd rs1 imm)) t = cc
called (Ok (instrs.Op op rd rs1 rs2)) t = cc
called (Ok (instrs.Amo op rd rs1 rs2)) t = cc
called (Ok instrs.Fence) t = cc
called (Ok instrs.Ecall) t = refl
called (Ok instrs.Ebreak) t = cc
called (Ok (instrs.Counter rd csr)) t = cc

-- Newest first, the rows lead one to another, and the last one to the address.
abbrev Chain : List StepRow → ℕ → Type 0
Chain [] a = Unit {0}
Chain (r ∷ rows) a = (r.next ≡ a) × Chain rows r.at

linked_more : (rows : List StepRow) (r : StepRow) → AreLinked rows → EndBefore rows r.at → AreLinked (rows ++ r ∷ [])
linked_more [] r linked end = (tt, tt)
linked_more (x ∷ []) r linked end = (sym end, (tt, tt))
linked_more (x ∷ (y ∷ rows)) r linked end = (linked.0, linked_more (y ∷ rows) r linked.1 end)

end_more : (rows : List StepRow) (r : StepRow) → EndBefore (rows ++ r ∷ []) r.next
end_more [] r = refl
end_more (x ∷ []) r = refl
end_more (x ∷ (y ∷ rows)) r = end_more (y ∷ rows) r

linked_from : (rows : List StepRow) (a : ℕ) → Chain rows a → AreLinked (reverse rows) × EndBefore (reverse rows) a
linked_from [] a x = (tt, tt)
linked_from (r ∷ rows) a x =
    let before = linked_from rows r.at x.1 in
    let end : EndBefore (reverse rows ++ r ∷ []) a = rw (← x.0) (end_more (reverse rows) r) in
    rw (reverse-append (r ∷ []) rows) (linked_more (reverse rows) r before.0 before.1, end)

module _ (code : Code) where
  -- rows that a gap from an address to another may have
  record Crosses (p a : ℕ) (rows : List StepRow) : Type 0 where
    some : 0 < length rows
    carry : CarryCode code rows
    leads : (before : List StepRow) → Chain before p → Chain (rows ++ before) a

  one : (p a : ℕ) (r : StepRow) → CarriesCode code r → r.at ≡ p → r.next ≡ a → Crosses p a (r ∷ [])
  one p a r h at next = record { some = omega arith; carry = All-cons (CarriesCode code) r [] h (All-nil (CarriesCode code)); leads = λ before x. (next, rw at x) }

  one_row : (b : Bool) (p a : ℕ) (r : StepRow) (e : PathFault) (rows : List StepRow) → CarriesCode code r → r.at ≡ p → (b ≡ true → r.next ≡ a) → cond b (Ok (r ∷ [])) (Err e) ≡ Ok rows → Crosses p a rows
  one_row true p a r e rows h at next is = let same : r ∷ [] ≡ rows = cc in subst (λ (xs : List StepRow). Crosses p a xs) same (one p a r h at (next refl))
  one_row false p a r e rows h at next is = absurd (cc)

  one_or_two : (b c d : Bool) (p a : ℕ) (r s : StepRow) (e : PathFault) (rows : List StepRow) → CarriesCode code r → r.at ≡ p → (b ≡ true → r.next ≡ a) → (c ≡ true → CarriesCode code s) → r.next ≡ s.at → s.next ≡ a → cond b (Ok (r ∷ [])) (cond (c && d) (Ok (s ∷ r ∷ [])) (Err e)) ≡ Ok rows → Crosses p a rows
  one_or_two true c d p a r s e rows h at next more mid end is = one_row true p a r e rows h at next is
  one_or_two false true true p a r s e rows h at next more mid end is =
      let same : s ∷ r ∷ [] ≡ rows = cc in
      let first : Crosses p s.at (r ∷ []) = one p s.at r h at mid in
      let two : Crosses p a (s ∷ r ∷ []) = record { some = omega arith; carry = All-cons (CarriesCode code) s (r ∷ []) (more refl) first.carry; leads = λ before x. (end, first.leads before x) } in
      subst (λ (xs : List StepRow). Crosses p a xs) same two
  one_or_two false true false p a r s e rows h at next more mid end is = absurd (cc)
  one_or_two false false d p a r s e rows h at next more mid end is = absurd (cc)

  -- what stands at the last position
  record Standing (e : Edge) : Type 0 where
    instr : look code e.at ≡ Ok e.instr
    short : e.short ≡ is_short code e.at

  stands : (e : Edge) (n : ℕ) (call : Bool) → Standing e → CarriesCode code (row e n call)
  stands e n call there = record { instr = there.instr; short = there.short }

  successor_rows : (e : Edge) (n : ℕ) (rows : List StepRow) → Standing e → by_successor code e n ≡ Ok rows → Crosses e.at e.to rows
  successor_rows e n rows there is = one_or_two (n == e.to) (calls_there (look code n)) (e.to == after_instruction code n) e.at e.to (row e n false) (call_row code n e.to) e.otherwise rows (stands e n false there) refl (eqb-true n e.to) (λ call. record { instr = called (look code n) call; short = refl }) refl refl is

  next_rows : (e : Edge) (next : Result ℕ PathFault) (rows : List StepRow) → Standing e → (next >>= by_successor code e) ≡ Ok rows → Crosses e.at e.to rows
  next_rows e next rows there is = let b = bind_ok next (by_successor code e) rows is in successor_rows e b.0 rows there b.2

  flow_rows : (e : Edge) (next : Result ℕ PathFault) (flow : Flow) (rows : List StepRow) → Standing e → by_flow code e next flow ≡ Ok rows → Crosses e.at e.to rows
  flow_rows e next Call rows there is = one_row _ e.at e.to (row e e.to true) e.otherwise rows (stands e e.to true there) refl (λ _. refl) is
  flow_rows e next Far rows there is = one_row _ e.at e.to (row e e.to false) e.otherwise rows (stands e e.to false there) refl (λ _. refl) is
  flow_rows e next Stop rows there is = absurd (cc)
  flow_rows e next Plain rows there is = next_rows e next rows there is
  flow_rows e next (Jump imm) rows there is = next_rows e next rows there is
  flow_rows e next (Fixed to) rows there is = next_rows e next rows there is
  flow_rows e next (Branch imm) rows there is = next_rows e next rows there is

  kept : (b : Bool) (k p a : ℕ) (xs rows : List StepRow) → Crosses p a xs → cond b (Ok xs) (Err (TooLong k)) ≡ Ok rows → Crosses p a rows
  kept true k p a xs rows h is = let same : xs ≡ rows = cc in subst (λ (ys : List StepRow). Crosses p a ys) same h
  kept false k p a xs rows h is = absurd (cc)

  module _ (s : Stand) (goal : Goal) where
    gap_rows : (rows : List StepRow) → gap code s goal ≡ Ok rows → Crosses s.place.at goal.address rows
    unfolding gap
    gap_rows rows is =
        let p = s.place in
        let f : List StepRow → Result (List StepRow) PathFault = λ xs. cond (nat_le (length p.rows + length xs) s.room) (Ok xs) (Err (TooLong s.packet)) in
        let cross : Instr → Result (List StepRow) PathFault = λ i. crossing code s goal i in
        let g : Instr → Result (List StepRow) PathFault = λ i. cross i >>= f in
        let b = bind_ok (look code p.at) g rows is in
        let c = bind_ok (cross b.0) f rows b.2 in
        let edge : Edge = record { at = p.at; instr = b.0; short = is_short code p.at; to = goal.address; otherwise = goal.otherwise } in
        let rows_there = flow_rows edge (successor s.packet (site code p.at) (flow_of b.0) (way_by (slice_get s.bits p.branches) None)) (flow_of b.0) c.0 (record { instr = b.1; short = refl }) c.1 in
        kept (nat_le (length p.rows + length c.0) s.room) s.packet p.at goal.address c.0 rows rows_there c.2

  moved : (lead : Lead) (p : Place) (r : StepRow) → IsMove code lead p r → CarriesCode code r
  moved lead p r m = record { instr = rw m.at m.instr; short = m.short ∙ ap (is_short code) (sym m.at) }

  passed : (lead : Lead) (aim : Aim) (past : Place) (leg : List StepRow) → LegPasses code (heading_by lead aim) past leg → CarryCode code leg
  passed lead aim past [] x = All-nil (CarriesCode code)
  passed lead aim past (r ∷ leg) x = All-cons (CarriesCode code) r leg (moved lead (place_along code past leg) r x.1) (passed lead aim past leg x.0)

  reached : (lead : Lead) (aim : Aim) (past : Place) (leg : List StepRow) → Reaches code (heading_by lead aim) past leg → CarryCode code leg
  reached lead aim past [] x = elim x [ ]
  reached lead aim past (r ∷ leg) x = All-cons (CarriesCode code) r leg (moved lead (place_along code past leg) r x.1) (passed lead aim past leg x.0)

  none : (rows : List StepRow) → rows ≡ [] → CarryCode code rows
  none rows is = All-same (CarriesCode code) rows [] is (All-nil (CarriesCode code))

  of_phases : (s : Stand) (phases : List Phase) (leg : List StepRow) → PhaseLegs code s phases leg → CarryCode code leg
  of_phases s [] leg x = none leg x
  of_phases s (phase ∷ phases) leg (first, rest, is, x, xs) =
      All-same (CarriesCode code) leg (rest ++ first) is (All-append (CarriesCode code) rest first (of_phases (further code s first) phases rest xs) (reached (lead_of s phase) phase.aim s.place first x.reaches))

  of_first : (packet : Packet) (leg : List StepRow) → FirstLeg code packet leg → CarryCode code leg
  of_first (Start branch privilege a time context) leg x = none leg x.1
  of_first (Address report) leg x = elim x [ ]
  of_first (MapAddress count map report) leg x = elim x [ ]
  of_first (Map map) leg x = elim x [ ]
  of_first (Context privilege time context) leg x = elim x [ ]
  of_first (Support enabled status) leg x = elim x [ ]

  of_waiting : (packet : Packet) (met : Met) (leg : List StepRow) → WaitingLeg code packet met leg → CarryCode code leg
  of_waiting (Start branch privilege a time context) met leg x = let g = gap_rows (stand_of met) (record { address = a; otherwise = Gap met.number met.place.at a }) leg x.0 in g.carry
  of_waiting (Address report) met leg x = elim x [ ]
  of_waiting (MapAddress count map report) met leg x = elim x [ ]
  of_waiting (Map map) met leg x = elim x [ ]
  of_waiting (Context privilege time context) met leg x = none leg x
  of_waiting (Support enabled status) met leg x = none leg x

  of_packet : (packet : Packet) (waits : Bool) (met : Met) (leg : List StepRow) → LegIn code packet waits met leg → CarryCode code leg
  of_packet packet true met leg x = of_waiting packet met leg x
  of_packet packet false met leg x = of_phases (with_bits code packet met) (phases_of packet met.marked met.reported) leg x.legs

  module _ (origin : Origin) where
    of_leg : (packet : Packet) (earlier : List Packet) (legs : List (List StepRow)) (leg : List StepRow) → Leg code packet (record { origin = origin; packets = earlier; legs = legs }) leg → CarryCode code leg
    of_leg packet [] legs leg x = of_first packet leg x
    of_leg packet (last ∷ earlier) legs leg x = of_packet packet (waiting (last ∷ earlier)) (met_by code origin (last ∷ earlier) legs) leg x

    of_route : (packets : List Packet) (legs : List (List StepRow)) → Route code origin packets legs → CarryCode code (place code packets legs).rows
    unfolding place
    of_route [] [] x = All-nil (CarriesCode code)
    of_route [] (leg ∷ legs) x = elim x [ ]
    of_route (packet ∷ earlier) [] x = elim x [ ]
    of_route (packet ∷ earlier) (leg ∷ legs) x =
        let before = place code earlier legs in
        All-same (CarriesCode code) (place_after code packet (meets (waiting earlier) before) leg).rows (leg ++ before.rows) (rows_after code packet (waiting earlier) before leg) (All-append (CarriesCode code) leg before.rows (of_leg packet earlier legs leg x.0) (of_route earlier legs x.1))

  abbrev OnChain : Place → Type 0
  OnChain p = Chain p.rows p.at

  move_on_chain : (lead : Lead) (past : Place) (r : StepRow) (leg : List StepRow) → IsMove code lead (place_along code past leg) r → OnChain (place_along code past leg) → OnChain (place_along code past (r ∷ leg))
  move_on_chain lead past r leg m h = (refl, rw m.at h)

  passes_on_chain : (lead : Lead) (aim : Aim) (past : Place) (leg : List StepRow) → OnChain past → LegPasses code (heading_by lead aim) past leg → OnChain (place_along code past leg)
  passes_on_chain lead aim past [] h x = h
  passes_on_chain lead aim past (r ∷ leg) h x = move_on_chain lead past r leg x.1 (passes_on_chain lead aim past leg h x.0)

  reach_on_chain : (lead : Lead) (aim : Aim) (past : Place) (leg : List StepRow) → OnChain past → Reaches code (heading_by lead aim) past leg → OnChain (place_along code past leg)
  reach_on_chain lead aim past [] h x = elim x [ ]
  reach_on_chain lead aim past (r ∷ leg) h x = move_on_chain lead past r leg x.1 (passes_on_chain lead aim past leg h x.0)

  phases_on_chain : (s : Stand) (phases : List Phase) (leg : List StepRow) → OnChain s.place → PhaseLegs code s phases leg → OnChain (place_along code s.place leg)
  phases_on_chain s [] leg h x = rw x h
  phases_on_chain s (phase ∷ phases) leg h (first, rest, is, x, xs) =
      let there : place_along code s.place leg ≡ place_along code (place_along code s.place first) rest = ap (λ (ys : List StepRow). place_along code s.place ys) is ∙ along-append code s.place rest first in
      rw there (phases_on_chain (further code s first) phases rest (reach_on_chain (lead_of s phase) phase.aim s.place first h x.reaches) xs)

  running_place : (packet : Packet) (p : Place) (leg : List StepRow) → place_after code packet (meets false p) leg ≡ place_along code p leg
  running_place (Start branch privilege a time context) p leg = refl
  running_place (Address report) p leg = refl
  running_place (MapAddress count map report) p leg = refl
  running_place (Map map) p leg = refl
  running_place (Context privilege time context) p leg = refl
  running_place (Support enabled status) p leg = refl

  waiting_on_chain : (packet : Packet) (met : Met) (leg : List StepRow) → OnChain met.place → WaitingLeg code packet met leg → OnChain (place_after code packet (meets true met.place) leg)
  waiting_on_chain (Start branch privilege a time context) met leg h x = let g = gap_rows (stand_of met) (record { address = a; otherwise = Gap met.number met.place.at a }) leg x.0 in g.leads met.place.rows h
  waiting_on_chain (Address report) met leg h x = elim x [ ]
  waiting_on_chain (MapAddress count map report) met leg h x = elim x [ ]
  waiting_on_chain (Map map) met leg h x = elim x [ ]
  waiting_on_chain (Context privilege time context) met leg h x = rw x h
  waiting_on_chain (Support enabled status) met leg h x = rw x h

  packet_on_chain : (packet : Packet) (waits : Bool) (met : Met) (leg : List StepRow) → OnChain met.place → LegIn code packet waits met leg → OnChain (place_after code packet (meets waits met.place) leg)
  packet_on_chain packet true met leg h x = waiting_on_chain packet met leg h x
  packet_on_chain packet false met leg h x = rw (running_place packet met.place leg) (phases_on_chain (with_bits code packet met) (phases_of packet met.marked met.reported) leg h x.legs)

  first_on_chain : (packet : Packet) (leg : List StepRow) (p : Place) → p.rows ≡ [] → FirstLeg code packet leg → OnChain (place_after code packet (meets true p) leg)
  first_on_chain (Start branch privilege a time context) leg p none x = rw (x.1, none) tt
  first_on_chain (Address report) leg p none x = elim x [ ]
  first_on_chain (MapAddress count map report) leg p none x = elim x [ ]
  first_on_chain (Map map) leg p none x = elim x [ ]
  first_on_chain (Context privilege time context) leg p none x = elim x [ ]
  first_on_chain (Support enabled status) leg p none x = elim x [ ]

  route_on_chain : (origin : Origin) (packets : List Packet) (legs : List (List StepRow)) → Route code origin packets legs → OnChain (place code packets legs)
  unfolding place waiting
  route_on_chain origin [] [] x = tt
  route_on_chain origin [] (leg ∷ legs) x = elim x [ ]
  route_on_chain origin (packet ∷ earlier) [] x = elim x [ ]
  route_on_chain origin (packet ∷ []) (leg ∷ legs) x = first_on_chain packet leg (place code [] legs) refl x.0
  route_on_chain origin (packet ∷ (last ∷ earlier)) (leg ∷ legs) x = packet_on_chain packet (waiting (last ∷ earlier)) (met_by code origin (last ∷ earlier) legs) leg (route_on_chain origin (last ∷ earlier) legs x.1) x.0

  turned : (rows : List StepRow) → CarryCode code rows → CarryCode code (reverse rows)
  turned [] h = h
  turned (r ∷ rows) h = All-same (CarriesCode code) (reverse (r ∷ rows)) (reverse rows ++ r ∷ []) (reverse-append (r ∷ []) rows) (All-push (CarriesCode code) (reverse rows) r (turned rows (All-tail (CarriesCode code) r rows h)) (All-head (CarriesCode code) r rows h))

  module _ (packets : List Packet) (from pc skipped : ℕ) (path : List StepRow) (is : IsPath (record { code = code; packets = packets; from = from; pc = pc }) skipped path) where
    crossed : Crosses (place code (reverse (drop skipped packets)) is.legs).at pc is.last
    crossed = let last = stand_after code (length packets) (reverse (drop skipped packets)) is.legs in gap_rows last (record { address = pc; otherwise = End last.place.at pc }) is.last is.end

    -- A path has a row.
    pub path_some : 0 < length path
    path_some =
        let before = (place code (reverse (drop skipped packets)) is.legs).rows in
        let n = ap (length {A = StepRow}) is.order in
        let some = crossed.some in
        omega (arith, n, some, length-reverse (is.last ++ before), length-append is.last before)

    -- Each of its rows has the instruction that stands at its address.
    pub path_carries : CarryCode code path
    path_carries =
        let before = (place code (reverse (drop skipped packets)) is.legs).rows in
        All-same (CarriesCode code) path (reverse (is.last ++ before)) is.order (turned (is.last ++ before) (All-append (CarriesCode code) is.last before crossed.carry (of_route (alone skipped) (reverse (drop skipped packets)) is.legs is.route)))

    -- Its rows lead one to another, and the last one to the end.
    pub path_linked : AreLinked path × EndBefore path pc
    path_linked =
        let before = place code (reverse (drop skipped packets)) is.legs in
        rw is.order (linked_from (is.last ++ before.rows) pc (crossed.leads before.rows (route_on_chain (alone skipped) (reverse (drop skipped packets)) is.legs is.route)))

-- The same of the path of a trace file over a dump.
module _ (packets : Packets) (program : Program) (from skipped : ℕ) (path : List StepRow) (is : IsTracedPath (raw_by packets program from) skipped path) where
  pub some_steps : 0 < length path
  some_steps = path_some (code_of program) is.0 from (pc_of program.dump) skipped path is.2

  pub carry_code : CarryCode (code_of program) path
  carry_code = path_carries (code_of program) is.0 from (pc_of program.dump) skipped path is.2

  pub linked_steps : AreLinked path
  linked_steps = let h = path_linked (code_of program) is.0 from (pc_of program.dump) skipped path is.2 in h.0

  pub steps_end : EndBefore path (pc_of program.dump)
  steps_end = let h = path_linked (code_of program) is.0 from (pc_of program.dump) skipped path is.2 in h.1
