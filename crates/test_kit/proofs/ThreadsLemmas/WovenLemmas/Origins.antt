-- A route from one origin is one from any other that has room for its rows: no row depends on the
-- numbers of packets.
use Rattle.std.proofs.Common.{◌≡◌, inl, inr, ℕ, ◌+◌, ◌<◌, ◌≤◌, ◌%◌, ◌==◌, nat_le, List, [], ◌∷◌, ◌++◌, length, Bool, true, false, cond, ◌&&◌, Option, Some, None, Result, Ok, Err, ◌∙◌, ap, arith, length-append}
use Rattle.std.specs.Prelude.{slice_get}
use Rattle.std.proofs.lemmas.Bool.Decides.{leb_tells}
use Rattle.rept_isa.specs.declared.instr.Instr.{Instr}
use Rattle.rept_isa.specs.declared.row.StepRow.{StepRow}
use Rattle.rept_trace.specs.declared.packet.Packet.{Packet}
use Rattle.rept_trace.specs.declared.packet.Packet.TheVariants.{Start, Context, Support, Address, Map, MapAddress}
use Rattle.rept_path.specs.declared.aim.Aim.{Aim}
use Rattle.rept_path.specs.declared.flow.Flow.{Flow}
use Rattle.rept_path.specs.declared.flow.Flow.TheVariants.{Plain, Branch, Jump, Fixed, Far, Call, Stop}
use Rattle.rept_path.specs.declared.fault.PathFault.{PathFault}
use Rattle.rept_path.specs.declared.fault.PathFault.TheVariants.{TooLong, Gap}
use Rattle.rept_path.specs.Code.{Code, look, after_instruction, is_short, alignment, flow_of, calls_there}
use Rattle.rept_path.specs.Packets.{waiting}
use Rattle.rept_path.specs.Moves.{Lead, heading_by, Place, Stand, Site, site, place_along, successor, position, way_by, next_of, IsMove, ◌>>=◌}
use Rattle.rept_path.specs.Legs.{LegPasses, Reaches, PhaseLeg}
use Rattle.rept_path.specs.Gap.{Goal, Edge, row, call_row, by_successor, by_flow, crossing, gap}
use Rattle.rept_path.specs.Route.{Phase, PhaseLegs, lead_of, further, with_bits, phases_of, Met, met_by, stand_of, WaitingLeg, Leg, Origin, earlier_by, Route, place}
use Rattle.rept_path.proofs.MoveLemmas.{bind_ok, made}
use Rattle.rept_path.proofs.PathFacts.{rows_along, rows_after}
use Rattle.rept_path.proofs.Waiting.{LegIn}

-- An address that follows doesn't depend on the number of the packet.
other_packet : (j k : ℕ) (p : Site) (flow : Flow) (bit : Option Bool) (target : Option ℕ) (x : ℕ) → successor j p flow (way_by bit target) ≡ Ok x → successor k p flow (way_by bit target) ≡ Ok x
other_packet j k p Plain bit target x h = h
other_packet j k p (Jump imm) bit target x h = h
other_packet j k p (Fixed to) bit target x h = h
other_packet j k p (Branch imm) None target x h = absurd (cc)
other_packet j k p (Branch imm) (Some true) target x h = h
other_packet j k p (Branch imm) (Some false) target x h = h
other_packet j k p Far bit None x h = absurd (cc)
other_packet j k p Far bit (Some to) x h = h
other_packet j k p Call bit target x h = absurd (cc)
other_packet j k p Stop bit target x h = absurd (cc)

past_test : (b : Bool) (e : PathFault) (r : Result ℕ PathFault) (a : ℕ) → cond b (Err e) r ≡ Ok a → r ≡ Ok a
past_test true e r a h = absurd (cc)
past_test false e r a h = h

room_is : (room n : ℕ) → n < room → nat_le room n ≡ false
room_is room n few = elim (leb_tells room n) [ inl t ↦ absurd (let le = t.1 in omega (arith, le, few)) | inr t ↦ t.0 ]

fits_is : (n room : ℕ) → n ≤ room → nat_le n room ≡ true
fits_is n room few = elim (leb_tells n room) [ inl t ↦ t.0 | inr t ↦ absurd (let lt = t.1 in omega (arith, lt, few)) ]

-- rows that lead over a gap, with another refusal
other_fault : (b : Bool) (d e : PathFault) (xs rows : List StepRow) → cond b (Ok xs) (Err d) ≡ Ok rows → cond b (Ok xs) (Err e) ≡ Ok rows
other_fault true d e xs rows h = h
other_fault false d e xs rows h = absurd (cc)

these_rows : (b : Bool) (e : PathFault) (xs rows : List StepRow) → cond b (Ok xs) (Err e) ≡ Ok rows → xs ≡ rows
these_rows true e xs rows h = cc
these_rows false e xs rows h = absurd (cc)

module _ (code : Code) (x : Edge) (e : PathFault) where
  abbrev y : Edge
  y = record { at = x.at; instr = x.instr; short = x.short; to = x.to; otherwise = e }

  successor_moved : (n : ℕ) (rows : List StepRow) → by_successor code x n ≡ Ok rows → by_successor code y n ≡ Ok rows
  successor_moved n rows h = go (n == x.to) (calls_there (look code n) && x.to == after_instruction code n) h where
    go : (b c : Bool) → cond b (Ok (row x n false ∷ [])) (cond c (Ok (call_row code n x.to ∷ row x n false ∷ [])) (Err x.otherwise)) ≡ Ok rows → cond b (Ok (row x n false ∷ [])) (cond c (Ok (call_row code n x.to ∷ row x n false ∷ [])) (Err e)) ≡ Ok rows
    go true c h = h
    go false c h = other_fault c x.otherwise e (call_row code n x.to ∷ row x n false ∷ []) rows h

  next_row : (next other : Result ℕ PathFault) (rows : List StepRow) → ((n : ℕ) → next ≡ Ok n → other ≡ Ok n) → (next >>= by_successor code x) ≡ Ok rows → (other >>= by_successor code y) ≡ Ok rows
  next_row next other rows same h =
      let b = bind_ok next (by_successor code x) rows h in
      ap (λ (r : Result ℕ PathFault). r >>= by_successor code y) (same b.0 b.1) ∙ successor_moved b.0 rows b.2

  flow_moved : (next other : Result ℕ PathFault) (flow : Flow) (rows : List StepRow) → ((n : ℕ) → next ≡ Ok n → other ≡ Ok n) → by_flow code x next flow ≡ Ok rows → by_flow code y other flow ≡ Ok rows
  flow_moved next other Call rows same h = other_fault (x.to == after_instruction code x.at) x.otherwise e (row x x.to true ∷ []) rows h
  flow_moved next other Far rows same h = other_fault (x.to % alignment code == 0) x.otherwise e (row x x.to false ∷ []) rows h
  flow_moved next other Stop rows same h = absurd (cc)
  flow_moved next other Plain rows same h = next_row next other rows same h
  flow_moved next other (Jump imm) rows same h = next_row next other rows same h
  flow_moved next other (Fixed to) rows same h = next_row next other rows same h
  flow_moved next other (Branch imm) rows same h = next_row next other rows same h

module _ (code : Code) (k room : ℕ) where
  abbrev led : Lead → Lead
  led how = record { packet = k; target = how.target; bits = how.bits; room = room }

  next_moved : (how : Lead) (p : Place) (a : ℕ) → next_of code how p ≡ Ok a → length p.rows < room → next_of code (led how) p ≡ Ok a
  unfolding next_of
  next_moved how p a h few =
      let m = made code how p a h in
      let rest : ℕ → Result ℕ PathFault = λ x. cond (nat_le room (length p.rows)) (Err (TooLong k)) (position code x) in
      let from : Instr → Result ℕ PathFault = λ i. successor k (site code p.at) (flow_of i) (way_by (slice_get how.bits p.branches) how.target) in
      let there : from m.0 ≡ Ok m.2.0 = other_packet how.packet k (site code p.at) (flow_of m.0) (slice_get how.bits p.branches) how.target m.2.0 m.2.1 in
      let left : position code m.2.0 ≡ Ok a = past_test (nat_le how.room (length p.rows)) (TooLong how.packet) (position code m.2.0) a m.2.2 in
      ap (λ (r : Result Instr PathFault). r >>= (λ i. from i >>= rest)) m.1
      ∙ ap (λ (r : Result ℕ PathFault). r >>= rest) there
      ∙ ap (λ (b : Bool). cond b (Err (TooLong k)) (position code m.2.0)) (room_is room (length p.rows) few)
      ∙ left

  move_moved : (how : Lead) (p : Place) (r : StepRow) → IsMove code how p r → length p.rows < room → IsMove code (led how) p r
  move_moved how p r m few = record { next = next_moved how p r.next m.next few; at = m.at; instr = m.instr; call = m.call; short = m.short }

  few_along : (past : Place) (leg : List StepRow) → length leg + length past.rows < room → length (place_along code past leg).rows < room
  few_along past leg few =
      let e = ap (length {A = StepRow}) (rows_along code past leg) in
      omega (arith, e, few, length-append leg past.rows)

  passes_moved : (how : Lead) (aim : Aim) (past : Place) (leg : List StepRow) → LegPasses code (heading_by how aim) past leg → length leg + length past.rows ≤ room → LegPasses code (heading_by (led how) aim) past leg
  passes_moved how aim past [] h few = tt
  passes_moved how aim past (r ∷ leg) h few = (passes_moved how aim past leg h.0 (omega (arith, few)), move_moved how (place_along code past leg) r h.1 (few_along past leg (omega (arith, few))), h.2)

  reaches_moved : (how : Lead) (aim : Aim) (past : Place) (leg : List StepRow) → Reaches code (heading_by how aim) past leg → length leg + length past.rows ≤ room → Reaches code (heading_by (led how) aim) past leg
  reaches_moved how aim past [] h few = h
  reaches_moved how aim past (r ∷ leg) h few = (passes_moved how aim past leg h.0 (omega (arith, few)), move_moved how (place_along code past leg) r h.1 (few_along past leg (omega (arith, few))), h.2)

  phase_moved : (how : Lead) (aim : Aim) (past : Place) (leg : List StepRow) → PhaseLeg code (heading_by how aim) past leg → length leg + length past.rows ≤ room → PhaseLeg code (heading_by (led how) aim) past leg
  phase_moved how aim past leg h few = record { reaches = reaches_moved how aim past leg h.reaches few; fits = h.fits }

  abbrev stood : Stand → Stand
  stood s = record { packet = k; bits = s.bits; place = s.place; room = room }

  phases_moved : (phases : List Phase) (s : Stand) (leg : List StepRow) → PhaseLegs code s phases leg → length leg + length s.place.rows ≤ room → PhaseLegs code (stood s) phases leg
  phases_moved [] s leg h few = h
  phases_moved (phase ∷ phases) s leg (first, rest, cut, own, others) few =
      let n = ap (length {A = StepRow}) cut in
      let m = ap (length {A = StepRow}) (rows_along code s.place first) in
      let own_few : length first + length s.place.rows ≤ room = omega (arith, few, n, length-append rest first) in
      let rest_few : length rest + length (place_along code s.place first).rows ≤ room = omega (arith, few, n, m, length-append rest first, length-append first s.place.rows) in
      (first, rest, cut, phase_moved (lead_of s phase) phase.aim s.place first own own_few, phases_moved phases (further code s first) rest others rest_few)

  gap_moved : (s : Stand) (to : ℕ) (d e : PathFault) (rows : List StepRow) → gap code s (record { address = to; otherwise = d }) ≡ Ok rows → length rows + length s.place.rows ≤ room → gap code (stood s) (record { address = to; otherwise = e }) ≡ Ok rows
  unfolding gap
  gap_moved s to d e rows h few =
      let p = s.place in
      let old : Goal = record { address = to; otherwise = d } in
      let new : Goal = record { address = to; otherwise = e } in
      let fits : List StepRow → Result (List StepRow) PathFault = λ xs. cond (nat_le (length p.rows + length xs) s.room) (Ok xs) (Err (TooLong s.packet)) in
      let fits_now : List StepRow → Result (List StepRow) PathFault = λ xs. cond (nat_le (length p.rows + length xs) room) (Ok xs) (Err (TooLong k)) in
      let b = bind_ok (look code p.at) (λ i. crossing code s old i >>= fits) rows h in
      let c = bind_ok (crossing code s old b.0) fits rows b.2 in
      let edge : Edge = record { at = p.at; instr = b.0; short = is_short code p.at; to = to; otherwise = d } in
      let same : c.0 ≡ rows = these_rows (nat_le (length p.rows + length c.0) s.room) (TooLong s.packet) c.0 rows c.2 in
      let size = ap (length {A = StepRow}) same in
      let across : crossing code (stood s) new b.0 ≡ Ok c.0 = flow_moved code edge e (successor s.packet (site code p.at) (flow_of b.0) (way_by (slice_get s.bits p.branches) None)) (successor k (site code p.at) (flow_of b.0) (way_by (slice_get s.bits p.branches) None)) (flow_of b.0) c.0
      (λ n. other_packet s.packet k (site code p.at) (flow_of b.0) (slice_get s.bits p.branches) None n) c.1 in
      ap (λ (r : Result Instr PathFault). r >>= (λ i. crossing code (stood s) new i >>= fits_now)) b.1
      ∙ ap (λ (r : Result (List StepRow) PathFault). r >>= fits_now) across
      ∙ ap (λ (t : Bool). cond t (Ok c.0) (Err (TooLong k))) (fits_is (length p.rows + length c.0) room (omega (arith, few, size)))
      ∙ ap (λ (xs : List StepRow). Ok xs) same

  abbrev met_at : Met → Met
  met_at m = record { number = k; bits = m.bits; reported = m.reported; marked = m.marked; waits = m.waits; place = m.place; room = room }

  waiting_moved : (p : Packet) (m : Met) (leg : List StepRow) → WaitingLeg code p m leg → length leg + length m.place.rows ≤ room → WaitingLeg code p (met_at m) leg
  waiting_moved (Start branch privilege a time context) m leg h few = (gap_moved (stand_of m) a (Gap m.number m.place.at a) (Gap k m.place.at a) leg h.0 few, h.1)
  waiting_moved (Context privilege time context) m leg h few = h
  waiting_moved (Support enabled status) m leg h few = h
  waiting_moved (Address report) m leg h few = h
  waiting_moved (Map map) m leg h few = h
  waiting_moved (MapAddress count map report) m leg h few = h

  leg_moved : (p : Packet) (waits : Bool) (m : Met) (leg : List StepRow) → LegIn code p waits m leg → length leg + length m.place.rows ≤ room → LegIn code p waits (met_at m) leg
  leg_moved p true m leg h few = waiting_moved p m leg h few
  leg_moved p false m leg h few = record { admitted = h.admitted; legs = phases_moved (phases_of p m.marked m.reported) (with_bits code p m) leg h.legs few }

-- one packet more
next_leg : (code : Code) (a b : Origin) (p : Packet) (leg : List StepRow) (earlier : List Packet) (legs : List (List StepRow)) → Leg code p (earlier_by a earlier legs) leg → length leg + length (place code earlier legs).rows ≤ b.room → Leg code p (earlier_by b earlier legs) leg
next_leg code a b p leg [] legs h few = h
next_leg code a b p leg (q ∷ earlier) legs h few = leg_moved code (b.number + length (q ∷ earlier)) b.room p (waiting (q ∷ earlier)) (met_by code a (q ∷ earlier) legs) leg h few

pub route_moved : (code : Code) (a b : Origin) (packets : List Packet) (legs : List (List StepRow)) → Route code a packets legs → length (place code packets legs).rows ≤ b.room → Route code b packets legs
unfolding place
route_moved code a b [] [] h few = tt
route_moved code a b [] (leg ∷ legs) h few = h
route_moved code a b (p ∷ earlier) [] h few = h
route_moved code a b (p ∷ earlier) (leg ∷ legs) h few =
    let here : (place code (p ∷ earlier) (leg ∷ legs)).rows ≡ leg ++ (place code earlier legs).rows = rows_after code p (waiting earlier) (place code earlier legs) leg in
    let n = ap (length {A = StepRow}) here in
    let both : length leg + length (place code earlier legs).rows ≤ b.room = omega (arith, n, few, length-append leg (place code earlier legs).rows) in
    (next_leg code a b p leg earlier legs h.0 both, route_moved code a b earlier legs h.1 (omega (arith, both)))
