-- The first packet, what a call makes of a trace, and the end of the path.
use Rattle.std.proofs.Common.{◌≡◌, ℕ, ◌%◌, ◌<◌, ◌≤◌, ◌==◌, List, [], ◌∷◌, ◌++◌, length, reverse, slice_get, Option, None, Some, Bool, true, false, cond, Result, Ok, refl, sym, ◌∙◌, ap, subst, arith}
use Rattle.std.proofs.lemmas.List.{append-nil, reverse-append, reverse-reverse, length-reverse}
use Rattle.std.proofs.lemmas.Bool.Decides.{eqb_tells, nat_tests}
use Rattle.std.proofs.lemmas.List.Folds.{list_any-append}
use Rattle.rept_path.specs.Code.{Code}
use Rattle.rept_isa.specs.declared.row.StepRow.{StepRow}
use Rattle.rept_isa.specs.Numbers.{plus, following}
use Rattle.rept_isa.specs.Rows.{Addresses, from_of}
use Rattle.rept_trace.specs.declared.packet.Packet.{Packet}
use Rattle.rept_trace.specs.declared.packet.Packet.TheVariants.{Start, Support}
use Rattle.rept_trace.specs.declared.packet.Qual.TheVariants.{EndedRep}
use Rattle.rept_path.specs.declared.flow.Flow.{Flow}
use Rattle.rept_path.specs.declared.flow.Flow.TheVariants.{Plain, Branch, Jump, Fixed, Far, Call, Stop}
use Rattle.rept_path.specs.declared.fault.PathFault.{PathFault}
use Rattle.rept_path.specs.declared.fault.PathFault.TheVariants.{Gap, End}
use Rattle.rept_path.specs.Code.{look, is_short, after_instruction, alignment, flow_of, branches}
use Rattle.rept_path.specs.Packets.{bits, bits_of, reported, waiting}
use Rattle.rept_path.specs.Moves.{Place, Stand, by_bit, site, successor, ◌>>=◌, way_by}
use Rattle.rept_path.specs.Gap.{row, Goal, Edge, by_successor, by_flow, crossing, gap, gap_to_start}
use Rattle.rept_path.specs.Rows.{CarriesCode}
use Rattle.rept_path.specs.Route.{alone, Met, stand_of, met_by, place, marked}
use Rattle.rept_path.specs.Trace.{starts, loses, Window, stand_after, IsPath}
use Rattle.rept_path.proofs.GapLemmas.{gap_ok}
use Rattle.rept_path.proofs.MoveLemmas.{branch_of}
use Rattle.rept_encode.specs.Bits.{passed_by, passed, branch_row, bit_list, start_bit}
use Rattle.rept_encode.specs.Walkable.{MayLead, calls, IsStepped}
use Rattle.rept_encode.proofs.Turns.{length_bits, get_bit, position_ok, branch_to, onward_is, either_onward}
use Rattle.rept_steps.specs.Linked.{EndBefore}
use Rattle.rept_encode.specs.Encoded.{start_at, LeadsOver}
use Rattle.rept_encode.specs.State.{Coded, Begun}
use Rattle.rept_encode.proofs.Coding.{Stepping, leg_after}

if_start : (b x y : Bool) → cond b (cond b x true ∷ []) [] ≡ cond b (x ∷ []) []
if_start true x y = refl
if_start false x y = refl

start_bits : (code : Code) (row : StepRow) (privilege : ℕ) → look code row.at ≡ Ok row.instr → bits_of code (Start (start_bit row) privilege row.at 0 0) ≡ bit_list row
start_bits code row privilege h = rw (branch_of code row.at row.instr h) (if_start (branch_row row) (passed row) true)

pub starts_at : (code : Code) (here : StepRow) → look code here.at ≡ Ok here.instr → Coded code (start_at here ∷ []) [] [] here []
unfolding bits reported waiting marked place
starts_at code here h =
    let b : bits_of code (start_at here) ≡ bit_list here = start_bits code here 0 h in
    record {
      legs = [] ∷ [];
      stands = record { route = ((position_ok code here.at here.instr h, refl), tt); runs = refl; plain = refl; some = omega arith };
      seen = refl;
      moves = tt;
      at = refl;
      size = rw b (let e = append-nil (bit_list here) in rw e (length_bits here ∙ omega arith));
      bit = λ t. rw b (let e = append-nil (bit_list here) in rw e (get_bit here [] 0 t refl));
    }

at_there : (a b : ℕ) → a ≡ b → (a == b) ≡ true
at_there a b h = grind (arith, nat_tests)

-- a row crosses to where it leads
by_next : (code : Code) (e : Edge) (next : Result ℕ PathFault) → next ≡ Ok e.to → (next >>= by_successor code e) ≡ Ok (row e e.to false ∷ [])
by_next code e next h =
    let f : ℕ → Result (List StepRow) PathFault = by_successor code e in
    let t : (e.to == e.to) ≡ true = at_there e.to e.to refl in
    let one : (next >>= f) ≡ (Ok e.to >>= f) = ap (λ (x : Result ℕ PathFault). x >>= f) h in
    one ∙ rw t refl

-- the addresses of a row at an edge, by what lies four bytes before what follows it
abbrev pub edge_addresses : Edge → ℕ → Addresses
edge_addresses e from = record { at = e.at; from = from; next = e.to }

pub crosses : (code : Code) (n from : ℕ) (e : Edge) (bit : Option Bool) (flow : Flow) → after_instruction code e.at ≡ following from → MayLead code.halves flow (edge_addresses e from) → (branches flow ≡ true → bit ≡ Some (passed_by flow e.at e.to)) → by_flow code e (successor n (site code e.at) flow (way_by bit None)) flow ≡ Ok (row e e.to (calls flow) ∷ [])
crosses code n from e bit Plain on l b = by_next code e (Ok (after_instruction code e.at)) (ap (λ (x : ℕ). Ok x) (on ∙ sym l))
crosses code n from e bit (Jump imm) on l b = by_next code e (Ok (plus e.at imm)) (ap (λ (x : ℕ). Ok x) (sym l))
crosses code n from e bit (Fixed to) on l b = by_next code e (Ok to) (ap (λ (x : ℕ). Ok x) (sym l))
crosses code n from e bit (Branch imm) on l b =
    let h = b refl in
    by_next code e (by_bit n (site code e.at) imm bit) (rw h (branch_to n (site code e.at) e.to (plus e.at imm) imm (e.to == plus e.at imm) refl (eqb_tells e.to (plus e.at imm)) (either_onward (after_instruction code e.at) from e.to (plus e.at imm) on l)))
crosses code n from e bit Far on l b = let t : (e.to % alignment code == 0) ≡ true = at_there (e.to % alignment code) 0 l in rw t refl
crosses code n from e bit Call on l b = let t : (e.to == after_instruction code e.at) ≡ true = at_there e.to (after_instruction code e.at) (l ∙ sym on) in rw t refl
crosses code n from e bit Stop on l b = elim l [ ]

-- the gap after a row
pub gap_row : (code : Code) (s : Stand) (otherwise : PathFault) (r : StepRow) → s.place.at ≡ r.at → CarriesCode code r → IsStepped code.halves r → (branch_row r ≡ true → slice_get s.bits s.place.branches ≡ Some (passed r)) → length s.place.rows < s.room → gap code s (record { address = r.next; otherwise = otherwise }) ≡ Ok (r ∷ [])
gap_row code s otherwise r at here h b lt =
    let p = s.place in
    let called = h.call in
    let short = here.short in
    let on : after_instruction code p.at ≡ following (from_of r) = rw at (onward_is code r here.short) in
    let lead : MayLead code.halves (flow_of r.instr) (record { at = p.at; from = from_of r; next = r.next }) = rw at h.lead in
    let bit : branches (flow_of r.instr) ≡ true → slice_get s.bits p.branches ≡ Some (passed_by (flow_of r.instr) p.at r.next) = rw at b in
    let goal : Goal = record { address = r.next; otherwise = otherwise } in
    let edge : Edge = record { at = p.at; instr = r.instr; short = is_short code p.at; to = r.next; otherwise = otherwise } in
    let x : crossing code s goal r.instr ≡ Ok (row edge r.next (calls (flow_of r.instr)) ∷ []) = crosses code s.packet (from_of r) edge (slice_get s.bits p.branches) (flow_of r.instr) on lead bit in
    let same : row edge r.next (calls (flow_of r.instr)) ≡ r = rw (at, ← called, ← short) refl in
    let y : crossing code s goal r.instr ≡ Ok (r ∷ []) = x ∙ ap (λ (w : StepRow). Ok (w ∷ [])) same in
    gap_ok code s goal r.instr (rw at here.instr) (r ∷ []) y (omega arith)

-- A call ends the stretch, and the next one begins after it.
module _ (code : Code) (packets : List Packet) (here next : StepRow) (rows : List StepRow) (c : Coded code packets [] [] here rows) (s : Stepping code here next) (call : calls (flow_of here.instr) ≡ true) (room : length rows < 65536) where
  abbrev pub ended : Packet
  ended = Support false EndedRep

  abbrev q : Place
  q = place code (ended ∷ packets) ([] ∷ c.legs)

  abbrev met : Met
  met = met_by code (alone 0) (ended ∷ packets) ([] ∷ c.legs)

  same_place : q ≡ place code packets c.legs
  unfolding place
  same_place = refl

  same_bits : bits code (ended ∷ packets) ≡ bits code packets
  unfolding bits
  same_bits = append-nil (bits code packets)

  gap_call : gap_to_start code (stand_of met) next.at ≡ Ok (here ∷ [])
  gap_call =
      let at : q.at ≡ here.at = ap (λ (x : Place). x.at) same_place ∙ c.at in
      let seen : rows ≡ (place code packets c.legs).rows = c.seen in
      let short : length q.rows < 65536 = rw same_place (rw seen at room) in
      let e = append-nil (bits code packets) in
      let b : branch_row here ≡ true → slice_get (bits code (ended ∷ packets)) q.branches ≡ Some (passed here) = λ t. rw (same_bits, same_place) (rw e at (c.bit t)) in
      let g = gap_row code (stand_of met) (Gap met.number q.at here.next) here at s.placed s.step b short in
      subst (λ (a : ℕ). gap_to_start code (stand_of met) a ≡ Ok (here ∷ [])) s.linked g

  pub by_start : Coded code (start_at next ∷ ended ∷ packets) [] [] next (here ∷ rows)
  unfolding bits reported waiting marked place
  by_start =
      let b : bits_of code (start_at next) ≡ bit_list next = start_bits code next 0 s.there.instr in
      let e = append-nil (bit_list next) in
      record {
        legs = (here ∷ []) ∷ [] ∷ c.legs;
        stands = record {
          route = (leg_after code (start_at next) (ended ∷ packets) ([] ∷ c.legs) (here ∷ []) true (omega arith) refl (gap_call, position_ok code next.at next.instr s.there.instr), (leg_after code ended packets c.legs [] false c.stands.some c.stands.runs (record { admitted = (0, refl); legs = refl }), c.stands.route));
          runs = refl;
          plain = refl;
          some = omega arith;
        };
        seen = ap (λ (xs : List StepRow). here ∷ xs) c.seen;
        moves = tt;
        at = refl;
        size = rw (b, e) (length_bits next ∙ omega arith);
        bit = λ t. rw (b, e) (get_bit next [] 0 t refl);
      }

starts_front : (xs ys : List Packet) → starts (slice_get xs 0) ≡ true → starts (slice_get (xs ++ ys) 0) ≡ true
starts_front [] ys h = absurd (cc)
starts_front (x ∷ xs) ys h = h

pub reverse-cons : (packet : Packet) (packets : List Packet) → reverse (packet ∷ packets) ≡ reverse packets ++ packet ∷ []
reverse-cons packet packets = reverse-append (packet ∷ []) packets

-- one packet more, where packets stand newest first
pub begun_on : (packets : List Packet) (packet : Packet) → Begun (reverse packets) → loses packet ≡ false → Begun (reverse (packet ∷ packets))
begun_on packets packet b keeps =
    let one : Begun (reverse packets ++ packet ∷ []) = record { start = starts_front (reverse packets) (packet ∷ []) b.start; whole = let e = list_any-append loses (reverse packets) (packet ∷ []) in let w = b.whole in rw (e, w, keeps) refl } in
    subst (λ (xs : List Packet). Begun xs) (sym (reverse-cons packet packets)) one

-- Packets that stand at the last row lead over it.
pub leads_on : (code : Code) (packets : List Packet) (here : StepRow) (rows : List StepRow) → Coded code packets [] [] here rows → CarriesCode code here → IsStepped code.halves here → LeadsOver code packets (reverse (here ∷ rows))
leads_on code packets here rows c h s = record {
  legs = c.legs;
  route = c.stands.route;
  last = here;
  all = ap (λ (xs : List StepRow). reverse (here ∷ xs)) c.seen;
  cross = λ stand otherwise bits_are at branches room.
      let e = append-nil (bits code packets) in
      let bit : branch_row here ≡ true → slice_get stand.bits stand.place.branches ≡ Some (passed here) = λ t. rw (bits_are, branches) (rw e at (c.bit t)) in
      gap_row code stand otherwise here (at ∙ c.at) h s bit room;
}

window : (packets : List Packet) → Begun packets → Window packets 0 0
window packets b = record { may = record { late = omega arith; start = b.start; whole = b.whole }; first = λ i m. omega arith }

last_goes : (rows : List StepRow) (last : StepRow) (pc : ℕ) → EndBefore (rows ++ last ∷ []) pc → last.next ≡ pc
last_goes [] last pc h = h
last_goes (r ∷ []) last pc h = h
last_goes (r ∷ (q ∷ rows)) last pc h = last_goes (q ∷ rows) last pc h

-- Packets that lead over the last row have the path of all rows.
pub path_of : (code : Code) (packets : List Packet) (rows : List StepRow) (pc : ℕ) → (l : LeadsOver code packets rows) → Begun (reverse packets) → length rows ≤ 65536 → EndBefore rows pc → IsPath (record { code = code; packets = reverse packets; from = 0; pc = pc }) 0 rows
path_of code packets rows pc l b few end =
    let back : reverse (reverse packets) ≡ packets = reverse-reverse packets in
    let order : rows ≡ reverse (place code packets l.legs).rows ++ l.last ∷ [] = l.all ∙ reverse-append (l.last ∷ []) (place code packets l.legs).rows in
    let goes : l.last.next ≡ pc = last_goes (reverse (place code packets l.legs).rows) l.last pc (subst (λ (xs : List StepRow). EndBefore xs pc) order end) in
    let size : length rows ≡ length (l.last ∷ (place code packets l.legs).rows) = ap (length {A = StepRow}) l.all ∙ length-reverse (l.last ∷ (place code packets l.legs).rows) in
    let cross = l.cross (stand_after code (length (reverse packets)) packets l.legs) (End (place code packets l.legs).at l.last.next) refl refl refl (omega arith) in
    let here : IsPath (record { code = code; packets = reverse packets; from = 0; pc = l.last.next }) 0 rows = record {
      window = window (reverse packets) b;
      legs = l.legs;
      route = rw back l.route;
      last = l.last ∷ [];
      end = rw back cross;
      order = rw back l.all;
    } in
    subst (λ (a : ℕ). IsPath (record { code = code; packets = reverse packets; from = 0; pc = a }) 0 rows) goes here
