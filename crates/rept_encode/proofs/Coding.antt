-- Packets that have led to a row, and what each further packet makes of them.
use Rattle.std.proofs.Common.{◌≡◌, ℕ, zero, suc, ◌+◌, ◌<◌, ◌≤◌, List, [], ◌∷◌, ◌++◌, length, slice_get, Some, None, Bool, true, false, ◌||◌, Ok, refl, sym, ◌∙◌, ap, subst, arith, length-append, append_assoc}
use Rattle.std.proofs.lemmas.List.{append-nil}
use Rattle.rept_path.specs.Code.{Code}
use Rattle.rept_isa.specs.declared.row.StepRow.{StepRow}
use Rattle.rept_trace.specs.declared.packet.Report.{Report}
use Rattle.rept_trace.specs.declared.packet.Packet.{Packet}
use Rattle.rept_trace.specs.declared.packet.Packet.TheVariants.{Map}
use Rattle.rept_path.specs.declared.aim.Aim.TheVariants as aims
use Rattle.rept_path.specs.Code.{look, flow_of, sum, jumps_far, is_branch, branches_at}
use Rattle.rept_path.specs.Packets.{low_bits, bits, bits_of, reported, waits_after, waiting, begins}
use Rattle.rept_path.specs.Moves.{Lead, Place, after, bits_fit, heading_by, place_along}
use Rattle.rept_path.specs.Legs.{PhaseLeg}
use Rattle.rept_path.specs.Route.{alone, Phase, lead_of, with_bits, phases_of, LegArrival, mark_after, by_waiting, RunningLeg, WaitingLeg, met_by, Leg, place, marked, admits}
use Rattle.rept_path.specs.Rows.{CarriesCode}
use Rattle.rept_path.proofs.MoveLemmas.{branch_of}
use Rattle.rept_encode.specs.Bits.{passed, branch_row, count, bit_list}
use Rattle.rept_encode.specs.Walkable.{calls, IsStepped}
use Rattle.rept_encode.specs.State.{MovedRow, AreMoved, StandsOnRoute, Coded, report_packet}
use Rattle.rept_encode.proofs.Turns.{length_bits, get_bit, counted, moved_more, moves_more}
use Rattle.rept_encode.proofs.Walks.{Clear, phase_leg, clear_jump, clear_report, clear_map, clear_call, fits_there, stop_there, stop_jump, stop_last, fit_report, fit_map, not_inferred}

-- What stands at a row's address, and where it leads.
pub record Stepping (code : Code) (here next : StepRow) : Type 0 where
  pub placed : CarriesCode code here
  pub there : CarriesCode code next
  pub linked : here.next ≡ next.at
  pub step : IsStepped code.halves here

rows_along : (code : Code) (p : Place) (leg : List StepRow) → (place_along code p leg).rows ≡ leg ++ p.rows
rows_along code p [] = refl
rows_along code p (r ∷ leg) = ap (λ (rows : List StepRow). r ∷ rows) (rows_along code p leg)

-- the step from a coded row
moved : (code : Code) (all more : List Bool) (p : Place) (here next : StepRow) → Stepping code here next → p.at ≡ here.at → calls (flow_of here.instr) ≡ false → (branch_row here ≡ true → slice_get all p.branches ≡ Some (passed here)) → length p.rows < 65536 → MovedRow code all p here
moved code all more p here next s at plain bit room = record { at = at; here = s.placed.instr; short = s.placed.short; goes = next.instr; there = rw s.linked s.there.instr; step = s.step; plain = plain; bit = bit; room = room }

module _ (code : Code) (packets : List Packet) (wait : List Bool) (kept : List StepRow) (here : StepRow) (rows : List StepRow) (c : Coded code packets wait kept here rows) where
  abbrev p : Place
  p = place code packets c.legs

  abbrev q : Place
  q = place_along code (place code packets c.legs) kept

  abbrev all : List Bool
  all = bits code packets ++ wait

  q_rows : q.rows ≡ rows
  q_rows = rows_along code (place code packets c.legs) kept ∙ sym c.seen

  module _ (next : StepRow) (s : Stepping code here next) (plain : calls (flow_of here.instr) ≡ false) (room : length rows < 65536) where
    pub step_moved : MovedRow code all q here
    step_moved = moved code all [] q here next s c.at plain c.bit (rw q_rows room)

    branches_next : (after code q here).branches ≡ length all
    branches_next =
        let k : branches_at code here.at ≡ count here = counted code here s.placed.instr in
        rw k (sym c.size)

    -- one row more is kept
    pub onward : jumps_far (flow_of here.instr) ≡ false → Coded code packets (wait ++ bit_list next) (here ∷ kept) next (here ∷ rows)
    onward near =
        let e : bits code packets ++ (wait ++ bit_list next) ≡ all ++ bit_list next = sym (append_assoc (bits code packets) wait (bit_list next)) in
        record {
          legs = c.legs;
          stands = c.stands;
          seen = ap (λ (xs : List StepRow). here ∷ xs) c.seen;
          moves = subst (λ (xs : List Bool). AreMoved code xs (place code packets c.legs) (here ∷ kept)) (sym e) (moves_more code all (bit_list next) (place code packets c.legs) kept c.moves, moved_more code all (bit_list next) q here step_moved, near);
          at = s.linked;
          size = rw (e, branches_next) (length-append all (bit_list next) ∙ ap (λ (n : ℕ). length all + n) (length_bits next));
          bit = λ t. rw e (get_bit next all (after code q here).branches t branches_next);
        }

-- What a packet does in a stretch that stands at no inferred stop: it has one phase, and leaves no
-- stop inferred.
pub record Sends (code : Code) (packet : Packet) (before : ℕ) (phase : Phase) : Type 0 where
  pub admitted : admits code packet ≡ Ok 0
  pub phases : phases_of packet false before ≡ phase ∷ []
  pub begun : begins packet false ≡ false
  pub runs : waits_after packet false ≡ false
  pub mark : (x : LegArrival) → mark_after code packet false x ≡ false

pub leg_after : (code : Code) (packet : Packet) (earlier : List Packet) (legs : List (List StepRow)) (leg : List StepRow) (waits : Bool) → 0 < length earlier → waiting earlier ≡ waits → by_waiting waits (WaitingLeg code packet (met_by code (alone 0) earlier legs) leg) (RunningLeg code packet (met_by code (alone 0) earlier legs) leg) → Leg code packet (record { origin = alone 0; packets = earlier; legs = legs }) leg
leg_after code packet [] legs leg waits some w h = absurd (omega arith)
leg_after code packet (last ∷ earlier) legs leg waits some w h = let met = met_by code (alone 0) (last ∷ earlier) legs in subst (λ (b : Bool). by_waiting b (WaitingLeg code packet met leg) (RunningLeg code packet met leg)) (sym w) h

module _ (code : Code) (packet : Packet) (packets : List Packet) (legs : List (List StepRow)) (leg : List StepRow) (phase : Phase) (stands : StandsOnRoute code packets legs) (x : Sends code packet (reported packets) phase) where
  place_next : place code (packet ∷ packets) (leg ∷ legs) ≡ place_along code (place code packets legs) leg
  unfolding place
  place_next =
      let r = stands.runs in
      let b = x.begun in
      rw (r, b) refl

  bits_next : bits code (packet ∷ packets) ≡ bits code packets ++ bits_of code packet
  unfolding bits
  bits_next =
      let r = stands.runs in
      let b = x.begun in
      rw (r, b) refl

  pub by_packet : (next : StepRow) (rows : List StepRow) → PhaseLeg code (heading_by (lead_of (with_bits code packet (met_by code (alone 0) packets legs)) phase) phase.aim) (place code packets legs) leg → rows ≡ leg ++ (place code packets legs).rows → (place_along code (place code packets legs) leg).at ≡ next.at
      → length (bits code packets ++ bits_of code packet) ≡ (place_along code (place code packets legs) leg).branches + count next → (branch_row next ≡ true → slice_get (bits code packets ++ bits_of code packet) (place_along code (place code packets legs) leg).branches ≡ Some (passed next)) → Coded code (packet ∷ packets) [] [] next rows
  unfolding waiting marked
  by_packet next rows taken seen at size bit =
      let m = stands.plain in
      let w = stands.runs in
      let legs_here : RunningLeg code packet (met_by code (alone 0) packets legs) leg = record { admitted = (0, x.admitted); legs = rw (m, x.phases) (leg, [], refl, taken, refl) } in
      let e : bits code (packet ∷ packets) ++ [] ≡ bits code packets ++ bits_of code packet = append-nil (bits code (packet ∷ packets)) ∙ bits_next in
      record {
        legs = leg ∷ legs;
        stands = record {
          route = (leg_after code packet packets legs leg false stands.some w legs_here, stands.route);
          runs = rw w x.runs;
          plain = rw m (x.mark _);
          some = omega arith;
        };
        seen = rw place_next (seen ∙ sym (rows_along code (place code packets legs) leg));
        moves = tt;
        at = rw place_next at;
        size = rw (e, place_next) size;
        bit = λ t. rw (e, place_next) (bit t);
      }

pub report_bits : (code : Code) (count map : ℕ) (report : Report) → bits_of code (report_packet count map report) ≡ low_bits count map
unfolding low_bits
report_bits code zero map report = refl
report_bits code (suc count) map report = refl

pub report_reported : (count map : ℕ) (report : Report) (packets : List Packet) → reported (report_packet count map report ∷ packets) ≡ sum (reported packets) report.difference
unfolding reported
report_reported zero map report packets = refl
report_reported (suc count) map report packets = refl

report_sends : (code : Code) (n map before : ℕ) (report : Report) → (report.notify || report.updiscon) ≡ true → Sends code (report_packet n map report) before (record { target = Some (sum before report.difference); aim = aims.Report (sum before report.difference) report.notify report.updiscon })
report_sends code zero map before report h = record { admitted = refl; phases = refl; begun = refl; runs = refl; mark = λ x. not_inferred code x.bits x.reported report.notify report.updiscon x.place h }
report_sends code (suc n) map before report h = record { admitted = refl; phases = refl; begun = refl; runs = refl; mark = λ x. not_inferred code x.bits x.reported report.notify report.updiscon x.place h }

map_sends : (code : Code) (map before : ℕ) → Sends code (Map map) before (record { target = None; aim = aims.LastBit })
map_sends code map before = record { admitted = refl; phases = refl; begun = refl; runs = refl; mark = λ x. refl }

-- The kept rows are walked by a report of the address of the row that they lead to, which is asked
-- for.
module _ (code : Code) (packets : List Packet) (n map : ℕ) (row : StepRow) (kept : List StepRow) (here : StepRow) (rows : List StepRow) (c : Coded code packets (low_bits n map) (row ∷ kept) here rows) (placed : look code here.at ≡ Ok here.instr) where
  abbrev from : Place
  from = place code packets c.legs

  abbrev bits_there : List Bool
  bits_there = bits code packets ++ low_bits n map

  here_fits : bits_fit code bits_there (place_along code from (row ∷ kept)) ≡ true
  here_fits =
      let at : row.next ≡ here.at = c.at in
      let b : branches_at code row.next ≡ count here = rw at (counted code here placed) in
      fits_there code bits_there (place_along code from (row ∷ kept)) (c.size ∙ ap (λ (k : ℕ). (place_along code from (row ∷ kept)).branches + k) (sym b))

  pub by_report : (difference : ℕ) → sum (reported packets) difference ≡ here.at → Clear code bits_there (aims.Report here.at true false) from kept → Coded code (report_packet n map (record { difference = difference; notify = true; updiscon = false; irreport = false }) ∷ packets) [] [] here rows
  by_report difference to clear =
      let x = report_sends code n map (reported packets) (record { difference = difference; notify = true; updiscon = false; irreport = false }) refl in
      let b = report_bits code n map (record { difference = difference; notify = true; updiscon = false; irreport = false }) in
      let how : Lead = record { packet = 0 + length packets; target = Some here.at; bits = bits_there; room = 65536 } in
      let taken : PhaseLeg code (heading_by how (aims.Report here.at true false)) from (row ∷ kept) = phase_leg code how (aims.Report here.at true false) from row kept refl c.moves.0 clear c.moves.1 (λ t. absurd (let near = c.moves.2 in cc)) (stop_there code bits_there here.at (place_along code from (row ∷ kept)) c.at here_fits) (fit_report code bits_there here.at true false (place_along code from (row ∷ kept)) here_fits) in
      by_packet code (report_packet n map (record { difference = difference; notify = true; updiscon = false; irreport = false })) packets c.legs (row ∷ kept) _ c.stands x here rows (rw (to, b) taken) c.seen c.at (rw b c.size) (λ t. rw b (c.bit t))

  -- a branch keeps its bit
  left_over : branch_row here ≡ true → (place_along code from kept).branches + branches_at code (place_along code from kept).at + 1 ≤ length bits_there
  left_over branch =
      let one : count here ≡ 1 = rw branch refl in
      let e : (place_along code from kept).at ≡ row.at = c.moves.1.at in
      let f : (place_along code from (row ∷ kept)).branches ≡ (place_along code from kept).branches + branches_at code (place_along code from kept).at = rw e refl in
      let size = c.size in omega arith

  pub by_branch : branch_row here ≡ true → (difference : ℕ) → sum (reported packets) difference ≡ here.at → Coded code (report_packet n map (record { difference = difference; notify = true; updiscon = false; irreport = false }) ∷ packets) [] [] here rows
  by_branch branch difference to = by_report difference to (clear_report code bits_there here.at true false from kept c.moves.0 (left_over branch))

  pub by_call : calls (flow_of here.instr) ≡ true → (difference : ℕ) → sum (reported packets) difference ≡ here.at → Coded code (report_packet n map (record { difference = difference; notify = true; updiscon = false; irreport = false }) ∷ packets) [] [] here rows
  by_call call difference to = by_report difference to (clear_call code bits_there here.at here.instr true false from row kept c.moves.1 c.moves.0 placed call)

  -- A map of 31 branches, of which the last is that of the row that the kept rows lead to.
  pub by_map : n ≡ 31 → branch_row here ≡ true → Coded code (Map map ∷ packets) [] [] here rows
  by_map full branch =
      let b : bits_of code (Map map) ≡ low_bits n map = rw full refl in
      let at : row.next ≡ here.at = c.at in
      let k : branches_at code here.at ≡ count here = counted code here placed in
      let one : count here ≡ 1 = rw branch refl in
      let there : is_branch code row.next ≡ true = rw at (branch_of code here.at here.instr placed ∙ branch) in
      let how : Lead = record { packet = 0 + length packets; target = None; bits = bits_there; room = 65536 } in
      let left = left_over branch in
      let taken : PhaseLeg code (heading_by how aims.LastBit) from (row ∷ kept) = phase_leg code how aims.LastBit from row kept refl c.moves.0 (clear_map code bits_there from kept c.moves.0 left) c.moves.1 (λ t. absurd (let near = c.moves.2 in cc)) (stop_last code bits_there (place_along code from (row ∷ kept)) there here_fits) (fit_map code bits_there (place_along code from (row ∷ kept))) in
      by_packet code (Map map) packets c.legs (row ∷ kept) _ c.stands (map_sends code map (reported packets)) here rows (subst (λ (xs : List Bool). PhaseLeg code (heading_by (record { packet = 0 + length packets; target = None; bits = bits code packets ++ xs; room = 65536 }) aims.LastBit) from (row ∷ kept)) (sym b) taken) c.seen c.at (rw b c.size) (λ t. rw b (c.bit t))

-- A report of the address to which an uninferable jump led.
module _ (code : Code) (packets : List Packet) (wait : List Bool) (kept : List StepRow) (here next : StepRow) (rows : List StepRow) (c : Coded code packets wait kept here rows) (s : Stepping code here next) (plain : calls (flow_of here.instr) ≡ false) (room : length rows < 65536) (n map : ℕ) (wanted : low_bits n map ≡ wait ++ bit_list next) where
  abbrev from_there : Place
  from_there = place code packets c.legs

  abbrev all_there : List Bool
  all_there = bits code packets ++ low_bits n map

  all_is : all_there ≡ (bits code packets ++ wait) ++ bit_list next
  all_is = ap (λ (xs : List Bool). bits code packets ++ xs) wanted ∙ sym (append_assoc (bits code packets) wait (bit_list next))

  pub by_jump : jumps_far (flow_of here.instr) ≡ true → (difference : ℕ) → sum (reported packets) difference ≡ next.at → Coded code (report_packet n map (record { difference = difference; notify = false; updiscon = true; irreport = false }) ∷ packets) [] [] next (here ∷ rows)
  by_jump far difference to =
      let report : Report = record { difference = difference; notify = false; updiscon = true; irreport = false } in
      let x = report_sends code n map (reported packets) (record { difference = difference; notify = false; updiscon = true; irreport = false }) refl in
      let b = report_bits code n map (record { difference = difference; notify = false; updiscon = true; irreport = false }) in
      let how : Lead = record { packet = 0 + length packets; target = Some next.at; bits = all_there; room = 65536 } in
      let k : branches_at code next.at ≡ count next = counted code next s.there.instr in
      let branches = branches_next code packets wait kept here rows c next s plain room in
      let size : length all_there ≡ (place_along code from_there (here ∷ kept)).branches + count next = rw (all_is, branches) (length-append (bits code packets ++ wait) (bit_list next) ∙ ap (λ (m : ℕ). length (bits code packets ++ wait) + m) (length_bits next)) in
      let at : here.next ≡ next.at = s.linked in
      let there : branches_at code here.next ≡ count next = rw at k in
      let fit : bits_fit code all_there (place_along code from_there (here ∷ kept)) ≡ true = fits_there code all_there (place_along code from_there (here ∷ kept)) (size ∙ ap (λ (m : ℕ). (place_along code from_there (here ∷ kept)).branches + m) (sym there)) in
      let kept_moves : AreMoved code all_there from_there kept = rw all_is (moves_more code (bits code packets ++ wait) (bit_list next) from_there kept c.moves) in
      let last : MovedRow code all_there (place_along code from_there kept) here = rw all_is (moved_more code (bits code packets ++ wait) (bit_list next) (place_along code from_there kept) here (step_moved code packets wait kept here rows c next s plain room)) in
      let taken : PhaseLeg code (heading_by how (aims.Report next.at false true)) from_there (here ∷ kept) = phase_leg code how (aims.Report next.at false true) from_there here kept refl kept_moves (clear_jump code all_there next.at from_there kept kept_moves) last (λ t. ap (λ (a : ℕ). Some a) (sym at)) (stop_jump code all_there next.at false true from_there here kept far) (fit_report code all_there next.at false true (place_along code from_there (here ∷ kept)) fit) in
      by_packet code (report_packet n map (record { difference = difference; notify = false; updiscon = true; irreport = false })) packets c.legs (here ∷ kept) _ c.stands x next (here ∷ rows) (rw (to, b) taken) (ap (λ (xs : List StepRow). here ∷ xs) c.seen) at (rw b size) (λ t. rw b (rw all_is (get_bit next (bits code packets ++ wait) (place_along code from_there (here ∷ kept)).branches t branches)))
