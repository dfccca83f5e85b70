-- What each thing that is sent makes of the packets before it.
use Rattle.std.proofs.Common.{◌≡◌, ℕ, zero, suc, ◌+◌, ◌*◌, ◌%◌, ◌^◌, ◌<◌, ◌≤◌, ◌-◌, List, [], ◌∷◌, ◌++◌, length, reverse, take, get_or, slice_get, Option, Some, Bool, true, false, Ok, refl, sym, ◌∙◌, ap, subst, arith, inl, inr, length-append, append_assoc}
use Rattle.std.specs.List.{All}
use Rattle.std.proofs.lemmas.List.{append-nil, reverse-append, length-reverse, reverse-reverse, take_more, length-take}
use Rattle.std.proofs.lemmas.List.Elements.{All-get_or}
use Rattle.std.proofs.lemmas.Option.{slice_get_within, slice_get-get_or, get_or_from_slice_get}
use Rattle.std.proofs.lemmas.Bool.{cases_eq, cases_lt}
use Rattle.std.proofs.Math.Seq.{take-length}
use Rattle.rept_path.specs.Code.{Code}
use Rattle.rept_isa.specs.declared.row.StepRow.{StepRow}
use Rattle.rept_steps.specs.Linked.{AreLinked}
use Rattle.rept_trace.specs.declared.packet.Report.{Report}
use Rattle.rept_trace.specs.declared.packet.Packet.{Packet}
use Rattle.rept_trace.specs.declared.packet.Packet.TheVariants.{Support, Map}
use Rattle.rept_trace.specs.declared.packet.Qual.TheVariants.{EndedRep}
use Rattle.rept_trace.specs.declared.parameters.Parameters.{Parameters}
use Rattle.rept_trace.specs.Grammar.{untimed, IsPacket}
use Rattle.rept_trace.specs.Stream.{header, plain, Hold}
use Rattle.rept_path.specs.declared.flow.Flow.{Flow}
use Rattle.rept_path.specs.declared.flow.Flow.TheVariants.{Plain, Branch, Jump, Fixed, Far, Call, Stop}
use Rattle.rept_path.specs.Code.{look, flow_of, sum, branches, jumps_far}
use Rattle.rept_path.specs.Packets.{low_bits, reported}
use Rattle.rept_path.specs.Rows.{CarriesCode}
use Rattle.rept_path.specs.Trace.{loses, IsPath}
use Rattle.rept_encode.specs.declared.bits.PendingBranches.{PendingBranches}
use Rattle.rept_encode.specs.declared.sender.Sender.{Sender}
use Rattle.rept_encode.specs.Bits.{branch_row, bit_list}
use Rattle.rept_encode.specs.Walkable.{alignment_by, calls, AreStraight, IsStepped}
use Rattle.rept_encode.specs.Written.{Appends, AreWritten}
use Rattle.rept_encode.specs.Encoded.{TellsRows, TellsAfter, LeadsOver, coded, start_at, IsReporting, AreReporting}
use Rattle.rept_encode.specs.State.{Coded, report_packet, Begun, said, waiting_bits, IsTextOfPackets, SentRows, sent_rows, HasRows, LeadTo, IsNear, Sent, Stood, tail_bytes, AreSendable, IsBegunAt, IsReported, IsReportSent, IsRestarted, IsWaiting, IsMapped}
use Rattle.rept_encode.proofs.Coding.{Stepping, onward, report_reported, by_report, by_branch, by_call, by_map, by_jump}
use Rattle.rept_encode.proofs.Ends.{starts_at, by_start, begun_on, reverse-cons, leads_on, path_of}
use Rattle.rept_encode.proofs.Maps.{no_low, length_low}

-- rows by their numbers
all_at : (P : StepRow → Type 0) (rows : List StepRow) (i : ℕ) (row : StepRow) → slice_get rows i ≡ Some row → All P rows → P row
all_at P rows i row get all = subst P (get_or_from_slice_get rows i row row get) (All-get_or P rows i row (slice_get_within rows i row get) all)

linked_at : (rows : List StepRow) (i : ℕ) (here next : StepRow) → AreLinked rows → slice_get rows i ≡ Some here → slice_get rows (i + 1) ≡ Some next → here.next ≡ next.at
linked_at [] i here next l x y = cc
linked_at (r ∷ []) zero here next l x y = cc
linked_at (r ∷ (q ∷ rows)) zero here next l x y = let a : r ≡ here = (cc) in let b : q ≡ next = (cc) in let h : q.at ≡ r.next = l.0 in rw (← a, ← b) (sym h)
linked_at (r ∷ rows) (suc i) here next l x y = linked_at rows i here next l.1 x (let e : suc i + 1 ≡ suc (i + 1) = omega arith in subst (λ (k : ℕ). slice_get (r ∷ rows) k ≡ Some next) e y)

rows_more : (rows : List StepRow) (i : ℕ) (row : StepRow) → slice_get rows i ≡ Some row → reverse (take (i + 1) rows) ≡ row ∷ reverse (take i rows)
rows_more rows i row get =
    let e : get_or rows i row ≡ row = get_or_from_slice_get rows i row row get in
    let one : take (i + 1) rows ≡ take i rows ++ row ∷ [] = take_more rows i row (slice_get_within rows i row get) ∙ ap (λ (x : StepRow). take i rows ++ x ∷ []) e in
    ap (reverse {A = StepRow}) one ∙ reverse-append (take i rows) (row ∷ [])

room_at : (rows : List StepRow) (i : ℕ) (row : StepRow) → slice_get rows i ≡ Some row → length rows ≤ 65536 → length (reverse (take i rows)) < 65536
room_at rows i row get few = let w = slice_get_within rows i row get in simp (length-reverse, length-take) (omega arith)

far_plain : (flow : Flow) → jumps_far flow ≡ true → calls flow ≡ false
far_plain Plain h = refl
far_plain (Branch imm) h = refl
far_plain (Jump imm) h = refl
far_plain (Fixed to) h = refl
far_plain Far h = refl
far_plain Call h = cc
far_plain Stop h = refl

call_straight : (flow : Flow) → calls flow ≡ true → branches flow ≡ false
call_straight Plain h = refl
call_straight (Branch imm) h = cc
call_straight (Jump imm) h = refl
call_straight (Fixed to) h = refl
call_straight Far h = refl
call_straight Call h = refl
call_straight Stop h = refl

fewer : (rows : List StepRow) (i n : ℕ) → i ≤ n → AreStraight rows n → AreStraight rows i
fewer rows i n le all j row lt get = all j row (omega arith) get

pub reports_on : (packets : List Packet) (packet : Packet) → AreReporting packets → IsReporting packet → AreReporting (packets ++ packet ∷ [])
reports_on [] packet all one = (one, tt)
reports_on (p ∷ packets) packet all one = (all.0, reports_on packets packet all.1 one)

written_on : (widths : Parameters) (bytes : List ℕ) (packets : List Packet) (packet : Packet) (payload : List ℕ) → AreWritten widths bytes packets → 0 < length payload → IsPacket widths payload packet → AreWritten widths (bytes ++ length payload ∷ payload) (packets ++ packet ∷ [])
written_on widths bytes [] packet payload w some spells =
    let e = append-nil payload in
    rw w (payload, [], ap (λ (xs : List ℕ). length payload ∷ xs) (sym e), some, spells, refl)
written_on widths bytes (p ∷ packets) packet payload w some spells =
    let front : List ℕ = w.0 in
    let rest : List ℕ = w.1 in
    (front, rest ++ length payload ∷ payload, ap (λ (xs : List ℕ). xs ++ length payload ∷ payload) w.2 ∙ ap (λ (xs : List ℕ). length front ∷ xs) (append_assoc front rest (length payload ∷ payload)), w.3, w.4, written_on widths rest packets packet payload w.5 some spells)

-- Packets that are written are held by their bytes.
pub written_held : (widths : Parameters) (bytes : List ℕ) (packets : List Packet) → AreWritten widths bytes packets → Hold (record { widths = widths; bytes = bytes }) packets
written_held widths bytes [] w = record { zeros = 0; layout = w }
written_held widths bytes (p ∷ packets) w = (record { widths = widths; bytes = w.1 }, (w.0, (w.3, record { zeros = 0; layout = w.2 }), w.4, refl), written_held widths w.1 packets w.5)

-- the text with one packet more
pub text_on : (run : SentRows) (i n : ℕ) (text new : List ℕ) (packets : List Packet) (packet : Packet) → IsTextOfPackets run i text packets → Appends run.halves text new packet → (AreStraight run.rows n → AreStraight run.rows i × IsReporting packet) → IsTextOfPackets run n new (packet ∷ packets)
text_on run i n text new packets packet t a tells =
    record {
      first = t.first;
      begins = t.begins;
      more = t.more ++ packet ∷ [];
      order = reverse-cons packet packets ∙ ap (λ (ps : List Packet). ps ++ packet ∷ []) t.order;
      written = (let e = a.appended in rw e (written_on (untimed run.halves) text t.more packet a.payload t.written a.some a.spells));
      told = λ all. let x = tells all in reports_on t.more packet (t.told x.0) x.1;
    }

-- the same text, some rows later or earlier
text_same : (run : SentRows) (i n : ℕ) (text : List ℕ) (packets : List Packet) → IsTextOfPackets run i text packets → (AreStraight run.rows n → AreStraight run.rows i) → IsTextOfPackets run n text packets
text_same run i n text packets t back = record { first = t.first; begins = t.begins; more = t.more; order = t.order; written = t.written; told = λ all. t.told (back all) }

pub longer : (halves : Bool) (text new : List ℕ) (packet : Packet) → Appends halves text new packet → length new ≤ length text + 11
longer halves text new packet a =
    let e = ap (length {A = ℕ}) a.appended in
    let few = a.few in
    omega (arith, e, length-append text (length a.payload ∷ a.payload))

report_keeps : (count map : ℕ) (report : Report) → loses (report_packet count map report) ≡ false
report_keeps zero map report = refl
report_keeps (suc count) map report = refl

report_told : (count map : ℕ) (report : Report) → IsReporting (report_packet count map report)
report_told zero map report = tt
report_told (suc count) map report = tt

nothing_waits : (b : PendingBranches) → b.count ≡ 0 → waiting_bits b ≡ []
nothing_waits b h = rw h (no_low b.map)

-- A walk that stands has sent all.
pub stood_sent : (run : SentRows) (n : ℕ) (s : Sender) → Stood run n s (30 + 22 * n) → Sent run n s
stood_sent run n s t =
    let w : waiting_bits s.bits ≡ [] = nothing_waits s.bits t.count in
    let lead : LeadTo run t.packets s.bits [] n = λ code here carry get. rw w (t.lead code here carry get) in
    let walked = t.walked in
    let base = t.base in
    let count = t.count in
    let map = t.map in
    record {
      packets = t.packets;
      text = t.text;
      few = t.few;
      begun = t.begun;
      last = t.last;
      even = t.even;
      bits = record { few = omega arith; fits = rw (count, map) (omega arith) };
      kept = [];
      lead = lead;
      held = [];
      base = rw base lead;
      size = omega arith;
      span = omega arith;
      below = omega arith;
      none = λ le. t.count;
      branch = λ row lt get. absurd (omega arith);
      calm = λ j row le lt get. absurd (omega arith);
      call = λ row get call. (refl, t.count);
    }

start_reported : (row : StepRow) (packets : List Packet) → reported (start_at row ∷ packets) ≡ row.at
unfolding reported
start_reported row packets = refl

map_reported : (map : ℕ) (packets : List Packet) → reported (Map map ∷ packets) ≡ reported packets
unfolding reported
map_reported map packets = refl

-- A report was added, after which the walk stands.
reported_stood : (run : SentRows) (i n most : ℕ) (old new : Sender) (b : PendingBranches) (row : StepRow) (notify : Bool) (packets : List Packet) → IsTextOfPackets run i old.text packets → (AreStraight run.rows n → AreStraight run.rows i) → length old.text + 11 ≤ most → Begun (reverse packets) → reported packets ≡ old.reported → row.at % alignment_by run.halves ≡ 0 → slice_get run.rows n ≡ Some row → (r : IsReported run.halves old b new row.at notify n) → ((code : Code) → HasRows run code → sum (reported packets) r.difference ≡ row.at → Coded code (report_packet b.count b.map (said r.difference notify) ∷ packets) [] [] row (reverse (take n run.rows))) → Stood run n new most
reported_stood run i n most old new b row notify packets text back few begun last even get r lead =
    let to : sum (reported packets) r.difference ≡ row.at = rw last r.there in
    let more = longer run.halves old.text new.text (report_packet b.count b.map (said r.difference notify)) r.text in
    let reported_is = r.stands.reported in
    record {
      packets = report_packet b.count b.map (said r.difference notify) ∷ packets;
      text = text_on run i n old.text new.text packets (report_packet b.count b.map (said r.difference notify)) text r.text (λ all. (back all, report_told b.count b.map (said r.difference notify)));
      few = omega arith;
      begun = begun_on packets (report_packet b.count b.map (said r.difference notify)) begun (report_keeps b.count b.map (said r.difference notify));
      last = report_reported b.count b.map (said r.difference notify) packets ∙ to ∙ sym r.stands.reported;
      even = rw reported_is even;
      count = r.stands.count;
      map = r.stands.map;
      walked = r.stands.walked;
      base = r.stands.base;
      lead = λ code here carry there.
          let same : row ≡ here = (let e : ◌≡◌ {A = Option StepRow} (Some row) (Some here) = sym get ∙ there in cc) in
          subst (λ (x : StepRow). Coded code (report_packet b.count b.map (said r.difference notify) ∷ packets) [] [] x (reverse (take n run.rows))) same (lead code carry to);
    }

module _ (run : SentRows) (given : AreSendable run) (i : ℕ) (here next : StepRow) (get : slice_get run.rows i ≡ Some here) (then : slice_get run.rows (i + 1) ≡ Some next) where
  step_here : IsStepped run.halves here
  step_here = all_at (IsStepped run.halves) run.rows i here get given.walkable.steps

  step_next : IsStepped run.halves next
  step_next = all_at (IsStepped run.halves) run.rows (i + 1) next then given.walkable.steps

  stepping : (code : Code) → HasRows run code → Stepping code here next
  stepping code carry = record { placed = all_at (CarriesCode code) run.rows i here get carry.placed; there = all_at (CarriesCode code) run.rows (i + 1) next then carry.placed; linked = linked_at run.rows i here next given.linked get then; step = subst (λ (halves : Bool). IsStepped halves here) (sym carry.kind) step_here }

  seen_more : reverse (take (i + 1) run.rows) ≡ here ∷ reverse (take i run.rows)
  seen_more = rows_more run.rows i here get

  room_here : length (reverse (take i run.rows)) < 65536
  room_here = room_at run.rows i here get given.few

  before : AreStraight run.rows (i + 1) → AreStraight run.rows i
  before = fewer run.rows i (i + 1) (omega arith)

  -- after an uninferable jump
  pub sent_jump : (old new : Sender) → Sent run i old → jumps_far (flow_of here.instr) ≡ true → IsReportSent run.halves old new next false (i + 1) → Sent run (i + 1) new
  sent_jump old new s far x =
      let few = s.few in
      stood_sent run (i + 1) new (reported_stood run i (i + 1) (30 + 22 * (i + 1)) old new x.b next false s.packets s.text before (omega arith) s.begun s.last step_next.aligned then x.report (λ code carry to. rw seen_more (by_jump code s.packets (waiting_bits old.bits) s.kept here next (reverse (take i run.rows)) (s.lead code here carry get) (stepping code carry) (far_plain (flow_of here.instr) far) room_here x.b.count x.b.map x.list far x.report.difference to)))

  -- a row that is kept
  kept_on : (old : Sender) (s : Sent run i old) → calls (flow_of here.instr) ≡ false → jumps_far (flow_of here.instr) ≡ false → (n map : ℕ) → low_bits n map ≡ waiting_bits old.bits ++ bit_list next → (code : Code) → HasRows run code → Coded code s.packets (low_bits n map) (here ∷ s.kept) next (here ∷ reverse (take i run.rows))
  kept_on old s plain near n map list code carry =
      subst (λ (xs : List Bool). Coded code s.packets xs (here ∷ s.kept) next (here ∷ reverse (take i run.rows))) (sym list) (onward code s.packets (waiting_bits old.bits) s.kept here (reverse (take i run.rows)) (s.lead code here carry get) next (stepping code carry) plain room_here near)

  -- before a call
  pub sent_call : (old new : Sender) → Sent run i old → calls (flow_of here.instr) ≡ false → jumps_far (flow_of here.instr) ≡ false → calls (flow_of next.instr) ≡ true → IsReportSent run.halves old new next true (i + 1) → Sent run (i + 1) new
  sent_call old new s plain near call x =
      let few = s.few in
      stood_sent run (i + 1) new (reported_stood run i (i + 1) (30 + 22 * (i + 1)) old new x.b next true s.packets s.text before (omega arith) s.begun s.last step_next.aligned then x.report (λ code carry to. rw seen_more (by_call code s.packets x.b.count x.b.map here s.kept next (here ∷ reverse (take i run.rows)) (kept_on old s plain near x.b.count x.b.map x.list code carry) (stepping code carry).there.instr call x.report.difference to)))

  -- a single row, from where the walk stands
  pub sent_single : (most : ℕ) (old new : Sender) → Stood run i old most → calls (flow_of here.instr) ≡ false → jumps_far (flow_of here.instr) ≡ false → IsReportSent run.halves old new next true (i + 1) → Stood run (i + 1) new (most + 11)
  sent_single most old new s plain near x =
      let few = s.few in
      let w : low_bits x.b.count x.b.map ≡ [] ++ bit_list next = x.list ∙ ap (λ (xs : List Bool). xs ++ bit_list next) (nothing_waits old.bits s.count) in
      reported_stood run i (i + 1) (most + 11) old new x.b next true s.packets s.text before (omega arith) s.begun s.last step_next.aligned then x.report (λ code carry to.
      let c : Coded code s.packets (low_bits x.b.count x.b.map) (here ∷ []) next (here ∷ reverse (take i run.rows)) = subst (λ (xs : List Bool). Coded code s.packets xs (here ∷ []) next (here ∷ reverse (take i run.rows))) (sym w) (onward code s.packets [] [] here (reverse (take i run.rows)) (s.lead code here carry get) next (stepping code carry) plain room_here near) in
      rw seen_more (by_report code s.packets x.b.count x.b.map here [] next (here ∷ reverse (take i run.rows)) c (stepping code carry).there.instr x.report.difference to tt))

  crooked : AreStraight run.rows (i + 1) → calls (flow_of here.instr) ≡ true → ⊥
  crooked all call = let one : here.call ≡ false = all i here (omega arith) get in let two : here.call ≡ calls (flow_of here.instr) = step_here.call in cc

  -- after a call
  pub sent_restart : (old new : Sender) → Sent run i old → calls (flow_of here.instr) ≡ true → IsRestarted run.halves old new next (i + 1) → Sent run (i + 1) new
  sent_restart old new s call x =
      let nothing = s.call here get call in
      let few = s.few in
      let one = longer run.halves old.text x.middle (Support false EndedRep) x.end in
      let two = longer run.halves x.middle new.text (start_at next) x.start in
      let stands = x.stands in
      let reported_is = stands.reported in
      stood_sent run (i + 1) new (record {
        packets = start_at next ∷ Support false EndedRep ∷ s.packets;
        text = text_on run (i + 1) (i + 1) x.middle new.text (Support false EndedRep ∷ s.packets) (start_at next) (text_on run i (i + 1) old.text x.middle s.packets (Support false EndedRep) s.text x.end (λ all. absurd (crooked all call))) x.start (λ all. absurd (crooked all call));
        few = omega arith;
        begun = begun_on (Support false EndedRep ∷ s.packets) (start_at next) (begun_on s.packets (Support false EndedRep) s.begun refl) refl;
        last = start_reported next (Support false EndedRep ∷ s.packets) ∙ sym stands.reported;
        even = rw reported_is step_next.aligned;
        count = stands.count;
        map = stands.map;
        walked = stands.walked;
        base = stands.base;
        lead = λ code to carry there.
            let same : next ≡ to = (let e : ◌≡◌ {A = Option StepRow} (Some next) (Some to) = sym then ∙ there in cc) in
            let c : Coded code s.packets (waiting_bits old.bits) s.kept here (reverse (take i run.rows)) = s.lead code here carry get in
            let w : waiting_bits old.bits ≡ [] = nothing_waits old.bits nothing.1 in
            let d : Coded code s.packets [] [] here (reverse (take i run.rows)) = subst (λ (xs : List Bool). Coded code s.packets xs [] here (reverse (take i run.rows))) w (subst (λ (k : List StepRow). Coded code s.packets (waiting_bits old.bits) k here (reverse (take i run.rows))) nothing.0 c) in
            subst (λ (y : StepRow). Coded code (start_at next ∷ Support false EndedRep ∷ s.packets) [] [] y (reverse (take (i + 1) run.rows))) same (rw seen_more (by_start code s.packets here next (reverse (take i run.rows)) d (stepping code carry) call room_here));
      })

  -- a map that the row filled
  pub sent_map : (old new : Sender) → Sent run i old → calls (flow_of here.instr) ≡ false → jumps_far (flow_of here.instr) ≡ false → IsMapped run.halves old new next (i + 1) → Sent run (i + 1) new
  sent_map old new s plain near x =
      let few = s.few in
      let one = longer run.halves old.text new.text (Map x.map) x.text in
      let stands = x.stands in
      stood_sent run (i + 1) new (record {
        packets = Map x.map ∷ s.packets;
        text = text_on run i (i + 1) old.text new.text s.packets (Map x.map) s.text x.text (λ all. (before all, tt));
        few = omega arith;
        begun = begun_on s.packets (Map x.map) s.begun refl;
        last = map_reported x.map s.packets ∙ s.last ∙ sym stands.reported;
        even = (let e = stands.reported in rw e s.even);
        count = stands.count;
        map = stands.map;
        walked = stands.walked;
        base = stands.base;
        lead = λ code to carry there.
            let same : next ≡ to = (let e : ◌≡◌ {A = Option StepRow} (Some next) (Some to) = sym then ∙ there in cc) in
            subst (λ (y : StepRow). Coded code (Map x.map ∷ s.packets) [] [] y (reverse (take (i + 1) run.rows))) same (rw seen_more (by_map code s.packets 31 x.map here s.kept next (here ∷ reverse (take i run.rows)) (kept_on old s plain near 31 x.map x.list code carry) (stepping code carry).there.instr refl x.branch));
      })

  -- a row that is kept, and whose bit waits
  pub sent_keep : (old new : Sender) → Sent run i old → calls (flow_of here.instr) ≡ false → jumps_far (flow_of here.instr) ≡ false → calls (flow_of next.instr) ≡ false → IsWaiting old new next (i + 1) → Sent run (i + 1) new
  sent_keep old new s plain near straight x = go (branch_row next) refl where
    lead_on : LeadTo run s.packets new.bits (here ∷ s.kept) (i + 1)
    lead_on = λ code to carry there.
        let same : next ≡ to = (let e : ◌≡◌ {A = Option StepRow} (Some next) (Some to) = sym then ∙ there in cc) in
        subst (λ (y : StepRow). Coded code s.packets (waiting_bits new.bits) (here ∷ s.kept) y (reverse (take (i + 1) run.rows))) same (rw seen_more (kept_on old s plain near new.bits.count new.bits.map x.list code carry))

    text_there : IsTextOfPackets run (i + 1) new.text s.packets
    text_there = let e = x.text in rw e (text_same run i (i + 1) old.text s.packets s.text before)

    few_same : length new.text ≤ 30 + 22 * (i + 1)
    few_same = let e = ap (length {A = ℕ}) x.text in let few = s.few in omega arith

    no_call : (row : StepRow) → slice_get run.rows (i + 1) ≡ Some row → calls (flow_of row.instr) ≡ true → (here ∷ s.kept ≡ []) × (new.bits.count ≡ 0)
    no_call row there call =
        let e : ◌≡◌ {A = Option StepRow} (Some next) (Some row) = sym then ∙ there in
        let same : next ≡ row = (cc) in
        let c : calls (flow_of next.instr) ≡ calls (flow_of row.instr) = ap (λ (y : StepRow). calls (flow_of y.instr)) same in
        absurd (cc)

    calm_here : (j : ℕ) (row : StepRow) → j ≡ i → slice_get run.rows j ≡ Some row → (calls (flow_of row.instr) ≡ false) × (jumps_far (flow_of row.instr) ≡ false)
    calm_here j row e there =
        let f : ◌≡◌ {A = Option StepRow} (Some here) (Some row) = sym get ∙ sym (ap (λ (k : ℕ). slice_get run.rows k) e) ∙ there in
        let same : here ≡ row = (cc) in
        subst (λ (y : StepRow). (calls (flow_of y.instr) ≡ false) × (jumps_far (flow_of y.instr) ≡ false)) same (plain, near)

    span_more : length (here ∷ s.kept) + new.walked ≡ i + 1
    span_more = let e = x.walked in let span = s.span in omega arith

    go : (b : Bool) → branch_row next ≡ b → Sent run (i + 1) new
    go true branch =
        let base : new.base ≡ i + 1 = x.base ∙ rw branch refl in
        record {
          packets = s.packets;
          text = text_there;
          few = few_same;
          begun = s.begun;
          last = s.last ∙ sym x.reported;
          even = (let e = x.reported in rw e s.even);
          bits = x.bits;
          kept = here ∷ s.kept;
          lead = lead_on;
          held = here ∷ s.kept;
          base = rw base lead_on;
          size = span_more ∙ sym base;
          span = span_more;
          below = omega arith;
          none = λ le. absurd (let w = x.walked in let span = s.span in omega arith);
          branch = λ row lt there.
              let e : ◌≡◌ {A = Option StepRow} (Some next) (Some row) = sym then ∙ (rw base at there) in
              let same : next ≡ row = (cc) in
              subst (λ (y : StepRow). branch_row y ≡ true) same branch;
          calm = λ j row le lt there. absurd (omega arith);
          call = no_call;
        }
    go false straight_on =
        let base : new.base ≡ old.base = x.base ∙ rw straight_on refl in
        let same_bits : waiting_bits new.bits ≡ waiting_bits old.bits = x.list ∙ rw straight_on (append-nil (waiting_bits old.bits)) in
        let w = x.walked in
        let below = s.below in
        record {
          packets = s.packets;
          text = text_there;
          few = few_same;
          begun = s.begun;
          last = s.last ∙ sym x.reported;
          even = (let e = x.reported in rw e s.even);
          bits = x.bits;
          kept = here ∷ s.kept;
          lead = lead_on;
          held = s.held;
          base = λ code row carry there. rw (same_bits, base) (s.base code row carry (rw base at there));
          size = (let size = s.size in omega arith);
          span = span_more;
          below = omega arith;
          none = λ le.
              let all = ap (length {A = Bool}) same_bits in
              let one = length_low new.bits.count new.bits.map in
              let two = length_low old.bits.count old.bits.map in
              let none : old.bits.count ≡ 0 = s.none (omega arith) in
              omega arith;
          branch = λ row lt there. s.branch row (omega arith) (rw base at there);
          calm = λ j row le lt there. elim (cases_eq j i) [ inl e ↦ calm_here j row e there | inr ne ↦ s.calm j row (omega arith) (omega arith) there ];
          call = no_call;
        }

-- The first row.
pub begun_stood : (run : SentRows) (s : Sender) (first : StepRow) → slice_get run.rows 0 ≡ Some first → first.at % alignment_by run.halves ≡ 0 → IsBegunAt s first → Stood run 0 s 30
begun_stood run s first get even x =
    let stands = x.stands in
    let reported_is = stands.reported in
    let nothing = x.text in
    let empty : IsTextOfPackets run 0 [] (start_at first ∷ []) = record { first = first; begins = get; more = []; order = refl; written = refl; told = λ all. tt } in
    let size = ap (length {A = ℕ}) nothing in
    record {
      packets = start_at first ∷ [];
      text = rw nothing empty;
      few = omega arith;
      begun = record { start = refl; whole = refl };
      last = start_reported first [] ∙ sym stands.reported;
      even = rw reported_is even;
      count = stands.count;
      map = stands.map;
      walked = stands.walked;
      base = stands.base;
      lead = λ code here carry there.
          let e : ◌≡◌ {A = Option StepRow} (Some first) (Some here) = sym get ∙ there in
          let same : first ≡ here = (cc) in
          subst (λ (y : StepRow). Coded code (start_at first ∷ []) [] [] y []) same (starts_at code first (all_at (CarriesCode code) run.rows 0 first get carry.placed).instr);
    }

-- Rows from the base on are no calls.
calm_back : (run : SentRows) (i : ℕ) (s : Sender) → AreSendable run → Sent run i s → AreStraight run.rows s.base → AreStraight run.rows i
calm_back run i s given t all j row lt get = elim (cases_lt j s.base) [
  | inl early ↦ all j row early get
  | inr late ↦ let step = all_at (IsStepped run.halves) run.rows j row get given.walkable.steps in let c = t.calm j row late lt get in step.call ∙ c.0
]

-- The last branch is reported, if the walk hasn't come to it.
pub sent_base : (run : SentRows) (i : ℕ) (old new : Sender) (row : StepRow) → AreSendable run → Sent run i old → old.walked < old.base → slice_get run.rows old.base ≡ Some row → IsReported run.halves old old.bits new row.at true old.base → Stood run old.base new (41 + 22 * i)
sent_base run i old new row given s after get x =
    let step = all_at (IsStepped run.halves) run.rows old.base row get given.walkable.steps in
    let few = s.few in
    reported_stood run i old.base (41 + 22 * i) old new old.bits row true s.packets s.text (calm_back run i old given s) (omega arith) s.begun s.last step.aligned get x (λ code carry to. held s.held (let size = s.size in omega arith) code (s.base code row carry get) (all_at (CarriesCode code) run.rows old.base row get carry.placed).instr (s.branch row after get) to)
  where
    held : (kept : List StepRow) → 0 < length kept → (code : Code) → Coded code s.packets (waiting_bits old.bits) kept row (reverse (take old.base run.rows)) → look code row.at ≡ Ok row.instr → branch_row row ≡ true → sum (reported s.packets) x.difference ≡ row.at → Coded code (report_packet old.bits.count old.bits.map (said x.difference true) ∷ s.packets) [] [] row (reverse (take old.base run.rows))
    held [] some code c placed branch to = absurd (omega arith)
    held (k ∷ kept) some code c placed branch to = by_branch code s.packets old.bits.count old.bits.map k kept row (reverse (take old.base run.rows)) c placed branch x.difference to

-- The walk may have come to the base already.
pub sent_there : (run : SentRows) (i : ℕ) (s : Sender) → AreSendable run → Sent run i s → s.base ≤ s.walked → Stood run s.base s (41 + 22 * i)
sent_there run i s given t there =
    let none : s.bits.count ≡ 0 = t.none there in
    let few = t.few in
    let size = t.size in
    let fits : s.bits.map < 2 ^ 0 = rw none at t.bits.fits in
    let w : waiting_bits s.bits ≡ [] = nothing_waits s.bits none in
    record {
      packets = t.packets;
      text = text_same run i s.base s.text t.packets t.text (calm_back run i s given t);
      few = omega arith;
      begun = t.begun;
      last = t.last;
      even = t.even;
      count = none;
      map = omega arith;
      walked = omega arith;
      base = refl;
      lead = λ code here carry get. subst (λ (xs : List Bool). Coded code t.packets xs [] here (reverse (take s.base run.rows))) w (empty t.held (omega arith) code here (t.base code here carry get));
    }
  where
    empty : (kept : List StepRow) → length kept ≤ 0 → (code : Code) (here : StepRow) → Coded code t.packets (waiting_bits s.bits) kept here (reverse (take s.base run.rows)) → Coded code t.packets (waiting_bits s.bits) [] here (reverse (take s.base run.rows))
    empty [] none code here c = c
    empty (k ∷ kept) none code here c = absurd (omega arith)

-- The walk stands at the last row.
pub stood_tells : (run : SentRows) (n most : ℕ) (s : Sender) (last : StepRow) → AreSendable run → Stood run n s most → slice_get run.rows n ≡ Some last → n + 1 ≡ length run.rows → TellsAfter run.halves s.text run.rows
stood_tells run n most s last given t get size = record {
  first = t.text.first;
  begins = t.text.begins;
  packets = t.text.more;
  written = t.text.written;
  whole = (let e = t.text.order in let w = t.begun.whole in rw e at w);
  told = λ all. t.text.told (fewer run.rows n (length run.rows - 1) (omega arith) all);
  leads = λ contents carry.
      let code : Code = coded run.halves contents in
      let carries : HasRows run (coded run.halves contents) = record { kind = refl; placed = carry } in
      let c = t.lead code last carries get in
      let step = all_at (IsStepped run.halves) run.rows n last get given.walkable.steps in
      let p = leads_on code t.packets last (reverse (take n run.rows)) c (all_at (CarriesCode code) run.rows n last get carry) step in
      let all : reverse (last ∷ reverse (take n run.rows)) ≡ run.rows = ap (reverse {A = StepRow}) (sym (rows_more run.rows n last get)) ∙ reverse-reverse (take (n + 1) run.rows) ∙ rw size (take-length run.rows) in
      let order : t.packets ≡ reverse (start_at t.text.first ∷ t.text.more) = sym (reverse-reverse t.packets) ∙ ap (reverse {A = Packet}) t.text.order in
      subst (λ (ps : List Packet). LeadsOver code ps run.rows) order (subst (λ (xs : List StepRow). LeadsOver code t.packets xs) all p);
}

-- A header, the start packet at the first row, and then the other packets.
pub whole_tells : (halves : Bool) (rows : List StepRow) (first : StepRow) (front body trace : List ℕ) → length rows ≤ 65536 → slice_get rows 0 ≡ Some first → Appends halves (header halves) front (start_at first) → TellsAfter halves body rows → trace ≡ front ++ body → TellsRows halves trace rows
whole_tells halves rows first front body trace few get a t is =
    let same : first ≡ t.first = (let e : ◌≡◌ {A = Option StepRow} (Some first) (Some t.first) = sym get ∙ t.begins in cc) in
    let rest : Hold (plain halves body) t.packets = written_held (untimed halves) body t.packets t.written in
    let all : Hold (plain halves ((length a.payload ∷ a.payload) ++ body)) (start_at first ∷ t.packets) = (plain halves body, (a.payload, (a.some, record { zeros = 0; layout = refl }), a.spells, refl), rest) in
    record {
      rest = (length a.payload ∷ a.payload) ++ body;
      layout = is ∙ ap (λ (xs : List ℕ). xs ++ body) a.appended ∙ append_assoc (header halves) (length a.payload ∷ a.payload) body;
      path = λ contents pc carry end.
          let code : Code = coded halves contents in
          let back : reverse (reverse (start_at t.first ∷ t.packets)) ≡ start_at t.first ∷ t.packets = reverse-reverse (start_at t.first ∷ t.packets) in
          let begun : Begun (start_at t.first ∷ t.packets) = record { start = refl; whole = t.whole } in
          let path : IsPath (record { code = code; packets = reverse (reverse (start_at t.first ∷ t.packets)); from = 0; pc = pc }) 0 rows = path_of code (reverse (start_at t.first ∷ t.packets)) rows pc (t.leads contents carry) (subst (λ (ps : List Packet). Begun ps) (sym back) begun) few end in
          let there : IsPath (record { code = code; packets = start_at t.first ∷ t.packets; from = 0; pc = pc }) 0 rows = subst (λ (ps : List Packet). IsPath (record { code = code; packets = ps; from = 0; pc = pc }) 0 rows) back path in
          (start_at first ∷ t.packets, all, subst (λ (row : StepRow). IsPath (record { code = code; packets = start_at row ∷ t.packets; from = 0; pc = pc }) 0 rows) (sym same) there);
    }

pub get_at : (rows : List StepRow) (i : ℕ) (row : StepRow) → row ≡ get_or rows i row → i < length rows → slice_get rows i ≡ Some row
get_at rows i row is lt = slice_get-get_or rows i row lt ∙ ap (λ (x : StepRow). Some x) (sym is)

pub calls_is : (run : SentRows) (i : ℕ) (row : StepRow) (b : Bool) → AreSendable run → slice_get run.rows i ≡ Some row → row.call ≡ b → calls (flow_of row.instr) ≡ b
calls_is run i row b given get h = let s = all_at (IsStepped run.halves) run.rows i row get given.walkable.steps in sym s.call ∙ h

pub stood_more : (run : SentRows) (n few most : ℕ) (s : Sender) → Stood run n s few → few ≤ most → Stood run n s most
stood_more run n few most s t le = record { packets = t.packets; text = t.text; few = (let f = t.few in omega arith); begun = t.begun; last = t.last; even = t.even; count = t.count; map = t.map; walked = t.walked; base = t.base; lead = t.lead }

pub aligned_at : (run : SentRows) (i : ℕ) (row : StepRow) → AreSendable run → slice_get run.rows i ≡ Some row → row.at % alignment_by run.halves ≡ 0
aligned_at run i row given get = let s = all_at (IsStepped run.halves) run.rows i row get given.walkable.steps in s.aligned

pub single_on : (run : SentRows) (i : ℕ) (next : StepRow) → AreSendable run → i + 1 < length run.rows → next ≡ get_or run.rows (i + 1) next → IsNear run.rows i → (old new : Sender) → Stood run i old (tail_bytes run.rows i) → IsReportSent run.halves old new next true (i + 1) → Stood run (i + 1) new (tail_bytes run.rows (i + 1))
single_on run i next given lt is near old new s x =
    let here : StepRow = get_or run.rows i next in
    let get : slice_get run.rows i ≡ Some (get_or run.rows i next) = slice_get-get_or run.rows i next (omega arith) in
    let n = near (get_or run.rows i next) get in
    stood_more run (i + 1) (tail_bytes run.rows i + 11) (tail_bytes run.rows (i + 1)) new (sent_single run given i (get_or run.rows i next) next get (get_at run.rows (i + 1) next is lt) (tail_bytes run.rows i) old new s n.0 n.1 x) (omega arith)

pub stood_all : (halves : Bool) (rows : List StepRow) (n most : ℕ) (s : Sender) → AreSendable (sent_rows halves rows) → Stood (sent_rows halves rows) n s most → n + 1 ≡ length rows → TellsAfter halves s.text rows
stood_all halves rows n most s given t size = go rows given t size where
  go : (rows : List StepRow) → AreSendable (sent_rows halves rows) → Stood (sent_rows halves rows) n s most → n + 1 ≡ length rows → TellsAfter halves s.text rows
  go [] given t size = absurd (omega arith)
  go (r ∷ rows) given t size = stood_tells (sent_rows halves (r ∷ rows)) n most s (get_or (r ∷ rows) n r) given t (slice_get-get_or (r ∷ rows) n r (omega arith)) size
