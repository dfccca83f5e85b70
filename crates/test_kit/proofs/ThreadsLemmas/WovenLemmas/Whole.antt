-- The run of a written trace.
use Rattle.std.proofs.Common.{◌≡◌, ℕ, ◌+◌, ◌≤◌, List, [], ◌∷◌, length, map, Bool, Option, None, Result, Ok, Err, refl, sym, ◌∙◌, ap, subst, arith}
use Rattle.std.specs.Prelude.{IfOk, IfErr, MatchResult}
use Rattle.std.specs.List.{All, AllZip, sum_by}
use Rattle.std.proofs.lemmas.List.Elements.{All-head, All-tail}
use Rattle.std.proofs.lemmas.Option.{slice_get_within}
use Rattle.rept_dump.specs.Dump.{exe_of}
use Rattle.rept_dump.specs.Memory.{Contents}
use Rattle.rept_dump.specs.Program.{contents}
use Rattle.rept_dump.specs.declared.dump.Dump.{Dump}
use Rattle.rept_steps.specs.declared.run.Run.{Run}
use Rattle.rept_steps.specs.declared.threads.ThreadRows.{ThreadRows}
use Rattle.rept_trace.specs.declared.packet.Packet.{Packet}
use Rattle.rept_trace.specs.declared.packet.Packet.TheVariants.{Start, Context, Support, Address, Map, MapAddress}
use Rattle.rept_trace.specs.declared.parameters.Parameters.{Parameters}
use Rattle.rept_trace.specs.declared.fault.TraceFault.{TraceFault}
use Rattle.rept_trace.specs.Grammar.{timed, IsPacket}
use Rattle.rept_trace.specs.Fits.{FieldsFit}
use Rattle.rept_trace.specs.Stream.{Stream, Hold}
use Rattle.rept_trace.specs.Streams.{StreamFile}
use Rattle.rept_trace.proofs.Fitting.{fits}
use Rattle.rept_path.specs.declared.fault.PathFault.{PathFault}
use Rattle.rept_path.specs.Moves.{◌>>=◌}
use Rattle.rept_path.specs.Rows.{CarryCode}
use Rattle.rept_encode.specs.Encoded.{coded}
use Rattle.rept_encode.specs.declared.weaving.stretch.HartStretch.{HartStretch}
use Rattle.rept_encode.specs.Weaving.Woven.{AreSent, AreStreamsOf, IsWoven}
use Rattle.rept_streams.specs.Slices.Parts.{LeftPackets, ToldSlice, slices_told}
use Rattle.rept_streams.specs.Slices.Skipping.{numbered, kept}
use Rattle.rept_streams.specs.Slices.Checks.{first_fault}
use Rattle.rept_streams.specs.Slices.Stretches.{heads, StretchLegs, Walks, RanSlice, ran}
use Rattle.rept_streams.specs.Slices.Joins.{ThreadNote, ran_rows, threads}
use Rattle.rept_streams.specs.Slices.Many.{Traces, ground, overlap_fault, unmet, run_by, IsRunOfStreams}
use Rattle.rept_streams.specs.Slices.Raw.{HoldEach, RawFiles, traces, IsRunOfFiles, note_in, files_of}
use Rattle.rept_streams.proofs.SlicesLemmas.InTime.{Each}
use Rattle.rept_streams.proofs.SlicesLemmas.Whether.{starts_told}
use Rattle.rept_streams.proofs.SlicesLemmas.Following.{kept_follow}
use Rattle.test_kit.specs.Threads.Woven.Told.{AreInTime}
use Rattle.test_kit.specs.Threads.Woven.Ordered.{Piece, pieces, begins, thread_in, run_of_harts, IsThreadJoined, IsNoted, AreApart, AreOrdered, HasStretches}
use Rattle.test_kit.proofs.ThreadsLemmas.WovenLemmas.Zipped.{each_of, zip_each}
use Rattle.test_kit.proofs.ThreadsLemmas.WovenLemmas.Sliced.{Fits, IsPieceOf, all_slices}
use Rattle.test_kit.proofs.ThreadsLemmas.WovenLemmas.Ways.{IsRanOf, rows_before, ways, all_heads, all_ran}
use Rattle.test_kit.proofs.ThreadsLemmas.WovenLemmas.Unskipped.{kept_is, none_skipped, untraced_is, passes, none_overlap, late}
use Rattle.test_kit.proofs.ThreadsLemmas.WovenLemmas.Threaded.{HasSteps, counted, ran_are, all_threads, rooms}

-- times have 64 bits
clock_fits : (halves : Bool) (p : Packet) → FieldsFit (timed halves) p → Fits p
clock_fits halves (Start branch privilege a time context) f = f.2.0
clock_fits halves (Context privilege time context) f = f.1.0
clock_fits halves (Support enabled status) f = omega arith
clock_fits halves (Address report) f = omega arith
clock_fits halves (Map map) f = omega arith
clock_fits halves (MapAddress count map report) f = omega arith

clocks_fit : (halves : Bool) (stream : Stream) (packets : List Packet) → stream.widths ≡ timed halves → Hold stream packets → Each Fits packets
clocks_fit halves stream [] w h = tt
clocks_fit halves stream (p ∷ packets) w h =
    let b = h.1 in
    let spelt : IsPacket (timed halves) b.0 p = subst (λ (x : Parameters). IsPacket x b.0 p) w b.2 in
    (clock_fits halves p (fits (timed halves) b.0 p spelt), clocks_fit halves h.0 packets (b.3 ∙ w) h.2)

-- The packets of all streams.
pub record AreHeld (halves : Bool) (harts : List (List HartStretch)) (streams : List (List ℕ)) : Type 0 where
  pub lists : List (List Packet)
  pub hold : HoldEach (map (λ bytes. record { widths = timed halves; bytes = bytes }) streams) lists
  pub sent : AllZip (AreSent halves) harts lists
  pub fit : Each (Each Fits) lists

held : (halves : Bool) (harts : List (List HartStretch)) (streams : List (List ℕ)) → AreStreamsOf halves harts streams → AreHeld halves harts streams
held halves [] streams h = record {
  lists = [];
  hold = subst (λ (ss : List (List ℕ)). HoldEach (map (λ bytes. record { widths = timed halves; bytes = bytes }) ss) []) (sym h) refl;
  sent = tt;
  fit = tt;
}
held halves (hart ∷ harts) [] h = absurd h
held halves (hart ∷ harts) (bytes ∷ streams) h =
    let rest = held halves harts streams h.1 in
    let own = h.0 in
    record {
      lists = own.0 ∷ rest.lists;
      hold = (own.1, rest.hold);
      sent = (own.2, rest.sent);
      fit = (clocks_fit halves (record { widths = timed halves; bytes = bytes }) own.0 refl own.1, rest.fit);
    }

has_steps : (halves : Bool) (p : Piece) (t : ToldSlice) → IsPieceOf halves p t → HasSteps p
has_steps halves p t i = slice_get_within p.stretch.steps 0 i.sent.first i.sent.begins

each_all : (R : Piece → Piece → Type 0) (ps qs : List Piece) → All (λ q. All (R q) ps) qs → Each (λ (q : Piece). Each (R q) ps) qs
each_all R ps [] h = tt
each_all R ps (q ∷ qs) h = (each_of (R q) ps (All-head (λ (x : Piece). All (R x) ps) q qs h), each_all R ps qs (All-tail (λ (x : Piece). All (R x) ps) q qs h))

-- what a file of streams holds over the code and the notes of a program
abbrev pub files : Contents → StreamFile → List ThreadNote → RawFiles
files program file notes = record { contents = program; file = file; notes = notes; from = 0 }

module _ (program : Contents) (file : StreamFile) (notes : List ThreadNote) (harts : List (List HartStretch)) (carries : HasStretches (coded file.halves program) harts) (o : AreOrdered harts notes) where
  module _ (lists : List (List Packet)) (sent : AllZip (AreSent file.halves) harts lists) (fit : Each (Each Fits) lists) where
    starts : Each (λ n. n ≡ o.time) (begins harts)
    starts = each_of (λ n. n ≡ o.time) (begins harts) o.together

    times : Each (AreInTime 0) harts
    times = each_of (AreInTime 0) harts o.in_time

    noted : Each (IsNoted notes) (pieces harts)
    noted = each_of (IsNoted notes) (pieces harts) o.noted

    kept_whole : kept 0 lists ≡ numbered 0 0 lists
    kept_whole = kept_is file.halves o.time harts lists sent starts o.some

    zip_whole : AllZip (IsPieceOf file.halves) (pieces harts) (slices_told (numbered 0 0 lists))
    zip_whole = all_slices file.halves harts lists 0 0 sent fit

    zip : AllZip (IsPieceOf file.halves) (pieces harts) (slices_told (kept 0 lists))
    zip = subst (λ (ls : List LeftPackets). AllZip (IsPieceOf file.halves) (pieces harts) (slices_told ls)) (sym kept_whole) zip_whole

    carried : Each (λ (p : Piece). CarryCode (coded file.halves program) p.stretch.steps) (pieces harts)
    carried = each_of (λ (p : Piece). CarryCode (coded file.halves program) p.stretch.steps) (pieces harts) carries

    room : rows_before (pieces harts) + counted (pieces harts) notes ≤ 65536
    room = rooms (pieces harts) notes (zip_each (IsPieceOf file.halves) HasSteps (has_steps file.halves) (pieces harts) (slices_told (kept 0 lists)) zip) noted o.few

    -- the slices of the walks
    walked : (ws : List StretchLegs) × Walks (coded file.halves program) 0 (heads (slices_told (kept 0 lists))) ws × AllZip (IsRanOf (coded file.halves program)) (pieces harts) (ran (coded file.halves program) (slices_told (kept 0 lists)) ws)
    walked =
        let few = room in
        let w = ways file.halves program (pieces harts) (slices_told (kept 0 lists)) 0 zip carried (omega (arith, few)) in
        let heads_are : heads (slices_told (kept 0 lists)) ≡ slices_told (kept 0 lists) = all_heads file.halves program (pieces harts) (slices_told (kept 0 lists)) zip in (
          w.0,
          subst (λ (hs : List ToldSlice). Walks (coded file.halves program) 0 hs w.0) (sym heads_are) w.1,
          all_ran file.halves program (slices_told (kept 0 lists)) [] (slices_told (kept 0 lists)) 0 (pieces harts) w.0 refl (starts_told (kept 0 lists)) (kept_follow 0 lists) zip w.1 w.2,
        )

    none_overlaps : first_fault (overlap_fault (slices_told (kept 0 lists))) (map (λ (n : ThreadNote). n.process) notes) ≡ None
    none_overlaps = none_overlap file.halves o.time (pieces harts) (slices_told (kept 0 lists)) zip (each_all AreApart (pieces harts) (pieces harts) o.apart) (map (λ (n : ThreadNote). n.process) notes)

    abbrev own : Traces
    own = traces (files program file notes) lists

    abbrev rs : List RanSlice
    rs = ran (coded file.halves program) (slices_told (kept 0 lists)) walked.0

    all_joined : threads (ground own) (ran_rows rs) notes rs ≡ Ok (map (thread_in harts) notes)
    all_joined =
        let few = room in
        let zipped = walked.2 in
        let rows = ran_are (coded file.halves program) (pieces harts) rs walked.2 in
        all_threads (coded file.halves program) (sum_by (λ packets. length packets) lists) (ran_rows rs) notes (pieces harts) rs walked.2 (omega (arith, few, rows)) (each_of (λ (n : ThreadNote). IsThreadJoined (thread_in harts n) n.pc) notes o.joined)

    run_is : run_by own (map (thread_in harts) notes) ≡ run_of_harts harts notes
    run_is =
        let d = untraced_is file.halves o.time harts lists sent starts o.some (late o.time harts times starts) zip_whole in
        let k = none_skipped file.halves o.time harts lists sent starts o.some in
        λ i. record { threads = map (thread_in harts) notes; untraced = d i; skipped = k i }

    is_run : IsRunOfStreams own (run_of_harts harts notes)
    is_run = record {
      passed = passes file.halves o.time harts lists sent starts o.some notes times noted zip_whole;
      walked = walked.0;
      walks = walked.1;
      result =
          ap (λ (found : Option PathFault). unmet found >>= (λ (none : ℕ). threads (ground own) (ran_rows rs) notes rs >>= (λ (all : List ThreadRows). Ok (run_by own all)))) none_overlaps
          ∙ ap (λ (all : Result (List ThreadRows) PathFault). all >>= (λ (ts : List ThreadRows). Ok (run_by own ts))) all_joined
          ∙ ap (λ (run : Run). Ok run) run_is;
    }

  pub whole_run : AreStreamsOf file.halves harts file.streams → IsRunOfFiles (files program file notes) (run_of_harts harts notes)
  whole_run streams = let all = held file.halves harts file.streams streams in (all.lists, all.hold, is_run all.lists all.sent all.fit)

-- the files of a dump
pub rebuilt : (dump : Dump) (file : StreamFile) (descs : List (List ℕ)) (halves : Bool) (harts : List (List HartStretch)) (trace : List ℕ) (w : IsWoven halves harts trace) → ◌≡◌ {A = Result StreamFile TraceFault} (Ok file) (Ok (record { halves = halves; streams = w.streams })) → HasStretches (coded halves (contents (exe_of dump))) harts → AreOrdered harts (map note_in descs)
    → IsRunOfFiles (files_of dump file descs 0) (run_of_harts harts (map note_in descs))
rebuilt dump file descs halves harts trace w same carries o =
    let all : StreamFile = record { halves = halves; streams = w.streams } in
    let is : file ≡ all = cc in
    subst (λ (f : StreamFile). IsRunOfFiles (files_of dump f descs 0) (run_of_harts harts (map note_in descs))) (sym is) (whole_run (contents (exe_of dump)) all (map note_in descs) harts carries o w.each)

-- one clause of a result from its two
pub either_way : {A E : Type 0} (P : A → Type 0) (Q : E → Type 0) (r : Result A E) → IfOk r P → IfErr r Q → MatchResult r P Q
either_way P Q (Ok x) ok err = ok
either_way P Q (Err e) ok err = err
