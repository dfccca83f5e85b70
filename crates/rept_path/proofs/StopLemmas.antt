-- From the legs of a path to its stop indices, and back.
use Rattle.std.proofs.Common.{◌≡◌, ℕ, ◌+◌, ◌-◌, ◌<◌, ◌≤◌, List, [], ◌∷◌, ◌++◌, length, take, drop, reverse, slice_get, Ok, Bool, true, false, refl, sym, ◌∙◌, ap, subst, arith, append_assoc, length-append}
use Rattle.std.specs.List.{between}
use Rattle.std.proofs.lemmas.List.{reverse-append, reverse-reverse, length-reverse, drop_at, take_at, take-append-drop, drop-drop}
use Rattle.std.proofs.lemmas.List.Edits.{between_none}
use Rattle.std.proofs.lemmas.Slice.{between_from_start}
use Rattle.std.proofs.Math.Seq.{take-add}
use Rattle.rept_path.specs.Code.{Code}
use Rattle.rept_isa.specs.declared.row.StepRow.{StepRow}
use Rattle.rept_trace.specs.declared.packet.Packet.{Packet}
use Rattle.rept_trace.specs.declared.packet.Packet.TheVariants.{Start, Context, Support, Address, Map, MapAddress}
use Rattle.rept_path.specs.Packets.{bits, reported, waiting}
use Rattle.rept_path.specs.Moves.{Stand, heading_by}
use Rattle.rept_path.specs.Index.{LeastStop}
use Rattle.rept_path.specs.Route.{Phase, PhaseLegs, by_waiting, admits, WaitingLeg, lead_of, further, with_bits, phases_of, Met, met_by, FirstLeg, Leg, alone, Route, place, marked}
use Rattle.rept_path.specs.Gap.{gap_to_end}
use Rattle.rept_path.specs.Trace.{starts, stand_after, TracedRun, IsPath}
use Rattle.rept_path.specs.Stops.{PhaseStops, left_by, nothing, StopsFrom, StopIndices}
use Rattle.rept_path.proofs.IndexLemmas.{by_index, from_index}
use Rattle.rept_path.proofs.OneRoute.{one_route, leg_within}
use Rattle.rept_path.proofs.Packeting.{leg_after}
use Rattle.rept_path.proofs.PathFacts.{rows_after}
use Rattle.rept_path.proofs.Whole.{get_drop, size}
use Rattle.rept_path.proofs.Waiting.{LegIn}

-- rows that stand between two indices
part : (before rows more path : List StepRow) (i j : ℕ) → path ≡ before ++ (rows ++ more) → i ≡ length before → j ≡ i + length rows → between i j path ≡ rows
part before rows more path i j is start end =
    let n : length rows ≡ j - i = omega arith in
    rw (is, drop_at before (rows ++ more) i (sym start)) (take_at rows more (j - i) n)

joined : (path : List StepRow) (i m j : ℕ) → i ≤ m → m ≤ j → between i j path ≡ between i m path ++ between m j path
joined path i m j low high =
    let a : j - i ≡ (m - i) + (j - m) = omega arith in
    let b : i + (m - i) ≡ m = omega arith in
    let c : drop (m - i) (drop i path) ≡ drop m path = drop-drop (m - i) i path ∙ ap (λ (n : ℕ). drop n path) b in
    rw a (take-add (m - i) (j - m) (drop i path) ∙ rw c refl)

turned_parts : (path : List StepRow) (i m j : ℕ) → i ≤ m → m ≤ j → reverse (between i j path) ≡ reverse (between m j path) ++ reverse (between i m path)
turned_parts path i m j low high = ap reverse (joined path i m j low high) ∙ reverse-append (between i m path) (between m j path)

front_more : (path : List StepRow) (i j : ℕ) → i ≤ j → take j path ≡ take i path ++ between i j path
front_more path i j le = sym (between_from_start path j) ∙ joined path 0 i j (omega arith) le ∙ ap (λ (xs : List StepRow). xs ++ between i j path) (between_from_start path i)

module _ (code : Code) where
  module _ (path : List StepRow) where
    phase_stops : (s : Stand) (phases : List Phase) (leg before more : List StepRow) (i j : ℕ) → path ≡ before ++ (reverse leg ++ more) → i ≡ length before → j ≡ i + length leg → PhaseLegs code s phases leg → PhaseStops code s phases (record { path = path; from = i; to = j })
    phase_stops s [] leg before more i j is start end x = let n = ap (length {A = StepRow}) x in omega (arith, n)
    phase_stops s (phase ∷ phases) leg before more i j is start end (first, rest, whole, x, xs) =
        let m = i + length first in
        let lead = lead_of s phase in
        let turn : reverse leg ≡ reverse first ++ reverse rest = ap reverse whole ∙ reverse-append rest first in
        let cut : path ≡ before ++ (reverse first ++ (reverse rest ++ more)) = is ∙ ap (λ (ys : List StepRow). before ++ (ys ++ more)) turn ∙ ap (λ (ys : List StepRow). before ++ ys) (append_assoc (reverse first) (reverse rest) more) in
        let there : between i m path ≡ reverse first = part before (reverse first) (reverse rest ++ more) path i m cut start (omega (arith, length-reverse first)) in
        let least : LeastStop code (heading_by lead phase.aim) s.place (reverse first) = by_index code lead phase.aim s.place first x.reaches in
        let some = least.later in
        let same : reverse (between i m path) ≡ first = ap reverse there ∙ reverse-reverse first in
        let n = ap (length {A = StepRow}) whole in
        let later : PhaseStops code (further code s first) phases (record { path = path; from = m; to = j }) =
        phase_stops (further code s first) phases rest (before ++ reverse first) more m j (cut ∙ sym (append_assoc before (reverse first) (reverse rest ++ more))) (omega (arith, start, length-append before (reverse first), length-reverse first)) (omega (arith, end, n, length-append rest first)) xs in
        (m, omega (arith, some, length-reverse first), omega (arith, end, n, length-append rest first), rw there least, rw same x.fits, rw same later)

    phases_from : (s : Stand) (phases : List Phase) (i j : ℕ) → PhaseStops code s phases (record { path = path; from = i; to = j }) → PhaseLegs code s phases (reverse (between i j path))
    phases_from s [] i j x = rw (x, between_none path j) refl
    phases_from s (phase ∷ phases) i j (m, low, high, least, fits, xs) =
        let first = reverse (between i m path) in
        let lead = lead_of s phase in
        let back : LeastStop code (heading_by lead phase.aim) s.place (reverse first) = rw (reverse-reverse (between i m path)) least in
        (first, reverse (between m j path), turned_parts path i m j (omega arith) high, record { reaches = from_index code lead phase.aim s.place first back; fits = fits }, phases_from (further code s first) phases m j xs)

  -- a packet that waits or not
  abbrev StopsIn : Packet → Bool → Met → List StepRow → ℕ → ℕ → Type 0
  StopsIn packet waits met path i j = by_waiting waits (WaitingLeg code packet met (reverse (between i j path))) (((a : ℕ) × (admits code packet ≡ Ok a)) × PhaseStops code (with_bits code packet met) (phases_of packet met.marked met.reported) (record { path = path; from = i; to = j }))

  stop_by : (packet : Packet) (waits : Bool) (met : Met) (path leg before more : List StepRow) (i j : ℕ) → path ≡ before ++ (reverse leg ++ more) → i ≡ length before → j ≡ i + length leg → LegIn code packet waits met leg → StopsIn packet waits met path i j
  stop_by packet true met path leg before more i j is start end x =
      let there : between i j path ≡ reverse leg = part before (reverse leg) more path i j is start (omega (arith, length-reverse leg)) in
      rw (there, reverse-reverse leg) x
  stop_by packet false met path leg before more i j is start end x = (x.admitted, phase_stops path (with_bits code packet met) (phases_of packet met.marked met.reported) leg before more i j is start end x.legs)

  leg_by : (packet : Packet) (waits : Bool) (met : Met) (path : List StepRow) (i j : ℕ) → StopsIn packet waits met path i j → LegIn code packet waits met (reverse (between i j path))
  leg_by packet true met path i j x = x
  leg_by packet false met path i j x = record { admitted = x.0; legs = phases_from path (with_bits code packet met) (phases_of packet met.marked met.reported) i j x.1 }

  first_none : (packet : Packet) (leg : List StepRow) → FirstLeg code packet leg → leg ≡ []
  first_none (Start branch privilege a time context) leg x = x.1
  first_none (Address report) leg x = elim x [ ]
  first_none (MapAddress count map report) leg x = elim x [ ]
  first_none (Map map) leg x = elim x [ ]
  first_none (Context privilege time context) leg x = elim x [ ]
  first_none (Support enabled status) leg x = elim x [ ]

  module _ (skipped : ℕ) where
    same_left : (packet : Packet) (earlier : List Packet) (legs : List (List StepRow)) (leg rows : List StepRow) → reverse rows ≡ leg → left_by code packet (met_by code (alone skipped) earlier legs) rows ≡ met_by code (alone skipped) (packet ∷ earlier) (leg ∷ legs)
    unfolding bits reported marked waiting place
    same_left packet earlier legs leg rows is =
        let n : skipped + length earlier + 1 ≡ skipped + length (packet ∷ earlier) = omega arith in
        rw (is, n) refl

    first_left : (first : Packet) → left_by code first (nothing (alone skipped)) [] ≡ met_by code (alone skipped) (first ∷ []) ([] ∷ [])
    unfolding bits reported marked waiting place
    first_left first =
        let n : skipped + 1 ≡ skipped + length (first ∷ []) = omega arith in
        rw n refl

    more_rows : (packet : Packet) (earlier : List Packet) (leg : List StepRow) (legs : List (List StepRow)) → (place code (packet ∷ earlier) (leg ∷ legs)).rows ≡ leg ++ (place code earlier legs).rows
    unfolding place
    more_rows packet earlier leg legs = rows_after code packet (waiting earlier) (place code earlier legs) leg

    first_rows : (first : Packet) → (place code (first ∷ []) ([] ∷ [])).rows ≡ []
    unfolding place
    first_rows first = rows_after code first (waiting []) (place code [] []) []

    -- the rows of the earlier packets are within those of all
    rows_within : (newer earlier : List Packet) (all legs : List (List StepRow)) → Route code (alone skipped) (newer ++ earlier) all → Route code (alone skipped) earlier legs → (rows : List StepRow) × ((place code (newer ++ earlier) all).rows ≡ rows ++ (place code earlier legs).rows)
    rows_within [] earlier all legs x y = let s : all ≡ legs = one_route code (alone skipped) earlier all legs x y in ([], ap (λ (ls : List (List StepRow)). (place code earlier ls).rows) s)
    rows_within (packet ∷ newer) earlier [] legs x y = elim x [ ]
    rows_within (packet ∷ newer) earlier (leg ∷ all) legs x y =
        let w = rows_within newer earlier all legs x.1 y in
        (leg ++ w.0, more_rows packet (newer ++ earlier) leg all ∙ ap (λ (ys : List StepRow). leg ++ ys) w.1 ∙ sym (append_assoc leg w.0 (place code earlier legs).rows))

    leg_of : (packet : Packet) (earlier : List Packet) (legs : List (List StepRow)) (leg : List StepRow) → 0 < length earlier → Leg code packet (record { origin = alone skipped; packets = earlier; legs = legs }) leg → LegIn code packet (waiting earlier) (met_by code (alone skipped) earlier legs) leg
    leg_of packet [] legs leg some x = absurd (omega arith)
    leg_of packet (last ∷ earlier) legs leg some x = x

    module _ (given : List Packet) (from pc : ℕ) (path : List StepRow) where
      abbrev given_run : TracedRun
      given_run = record { code = code; packets = given; from = from; pc = pc }

      -- the path is that of these packets, newest first
      record Arrives (packets : List Packet) : Type 0 where
        legs : List (List StepRow)
        route : Route code (alone skipped) packets legs
        last : List StepRow
        end : gap_to_end code (stand_after code (skipped + length packets) packets legs) pc ≡ Ok last
        order : path ≡ reverse (last ++ (place code packets legs).rows)

      abbrev Goes : List Packet → List Packet → List (List StepRow) → Type 0
      Goes later done legs = (stops : List ℕ) × StopsFrom given_run later (record { path = path; index = length (place code done legs).rows; met = met_by code (alone skipped) done legs }) stops

      one_step : (packet : Packet) (later done : List Packet) (legs : List (List StepRow)) (leg more : List StepRow) → LegIn code packet (waiting done) (met_by code (alone skipped) done legs) leg → path ≡ reverse (place code done legs).rows ++ (reverse leg ++ more) → Goes later (packet ∷ done) (leg ∷ legs) → Goes (packet ∷ later) done legs
      one_step packet later done legs leg more by is (stops, rest) =
          let rows = (place code done legs).rows in
          let i = length rows in
          let j = length (place code (packet ∷ done) (leg ∷ legs)).rows in
          let met = met_by code (alone skipped) done legs in
          let n : j ≡ length leg + i = ap (length {A = StepRow}) (more_rows packet done leg legs) ∙ length-append leg rows in
          let all = ap (length {A = StepRow}) is in
          let within : j ≤ length path = omega (arith, n, all, length-append (reverse rows) (reverse leg ++ more), length-append (reverse leg) more, length-reverse rows, length-reverse leg) in
          let there : between i j path ≡ reverse leg = part (reverse rows) (reverse leg) more path i j is (sym (length-reverse rows)) (omega (arith, n, length-reverse leg)) in
          let left : left_by code packet met (between i j path) ≡ met_by code (alone skipped) (packet ∷ done) (leg ∷ legs) = same_left packet done legs leg (between i j path) (ap reverse there ∙ reverse-reverse leg) in
          let later : StopsFrom given_run later (record { path = path; index = j; met = left_by code packet met (between i j path) }) stops = rw left rest in
          (j ∷ stops, (omega (arith, n), within, stop_by packet (waiting done) met path leg (reverse rows) more i j is (sym (length-reverse rows)) (omega (arith, n)) by, later))

      in_front : (last newer leg rows after all : List StepRow) → path ≡ reverse (last ++ all) → all ≡ newer ++ after → after ≡ leg ++ rows → path ≡ reverse rows ++ (reverse leg ++ reverse (last ++ newer))
      in_front last newer leg rows after all order is cut =
          let whole : last ++ all ≡ ((last ++ newer) ++ leg) ++ rows = rw (is, cut) (sym (append_assoc last newer (leg ++ rows)) ∙ sym (append_assoc (last ++ newer) leg rows)) in
          order ∙ ap reverse whole ∙ reverse-append ((last ++ newer) ++ leg) rows ∙ ap (λ (xs : List StepRow). reverse rows ++ xs) (reverse-append (last ++ newer) leg)

      turned : (packet : Packet) (later done : List Packet) → reverse (packet ∷ later) ++ done ≡ reverse later ++ packet ∷ done
      turned packet later done = ap (λ (xs : List Packet). xs ++ done) (reverse-append (packet ∷ []) later) ∙ append_assoc (reverse later) (packet ∷ []) done

      stops_from : (later done : List Packet) (legs : List (List StepRow)) → Route code (alone skipped) done legs → 0 < length done → Arrives (reverse later ++ done) → Goes later done legs
      stops_from [] done legs r some x =
          let s : x.legs ≡ legs = one_route code (alone skipped) done x.legs legs x.route r in
          let rows = (place code done legs).rows in
          let order : path ≡ reverse (x.last ++ rows) = x.order ∙ ap (λ (ls : List (List StepRow)). reverse (x.last ++ (place code done ls).rows)) s in
          let rest : reverse (drop (length rows) path) ≡ x.last = ap (λ (xs : List StepRow). reverse (drop (length rows) xs)) (order ∙ reverse-append x.last rows) ∙ ap reverse (drop_at (reverse rows) (reverse x.last) (length rows) (length-reverse rows)) ∙ reverse-reverse x.last in
          let end = subst (λ (ls : List (List StepRow)). gap_to_end code (stand_after code (skipped + length done) done ls) pc ≡ Ok x.last) s x.end in
          ([], rw rest end)
      stops_from (packet ∷ later) done legs r some x =
          let y : Arrives (reverse later ++ packet ∷ done) = subst (λ (ps : List Packet). Arrives ps) (turned packet later done) x in
          let w = leg_within code (alone skipped) (reverse later) packet done y.legs y.route in
          let s : w.1 ≡ legs = one_route code (alone skipped) done w.1 legs w.3 r in
          let leg : Leg code packet (record { origin = alone skipped; packets = done; legs = legs }) w.0 = subst (λ (ls : List (List StepRow)). Leg code packet (record { origin = alone skipped; packets = done; legs = ls }) w.0) s w.2 in
          let route : Route code (alone skipped) (packet ∷ done) (w.0 ∷ legs) = (leg, r) in
          let rows = (place code done legs).rows in
          let v = rows_within (reverse later) (packet ∷ done) y.legs (w.0 ∷ legs) y.route route in
          let after = (place code (packet ∷ done) (w.0 ∷ legs)).rows in
          let all = (place code (reverse later ++ packet ∷ done) y.legs).rows in
          let order : path ≡ reverse rows ++ (reverse w.0 ++ reverse (y.last ++ v.0)) = in_front y.last v.0 w.0 rows after all y.order v.1 (more_rows packet done w.0 legs) in
          one_step packet later done legs w.0 (reverse (y.last ++ v.0)) (leg_of packet done legs w.0 some leg) order (stops_from later (packet ∷ done) (w.0 ∷ legs) route (omega arith) y)

      -- and back
      in_turn : (i j : ℕ) (rows after : List StepRow) → i ≤ j → take i path ≡ reverse rows → after ≡ reverse (between i j path) ++ rows → take j path ≡ reverse after
      in_turn i j rows after le front is =
          let part = between i j path in
          let one : take j path ≡ reverse rows ++ part = rw (← front) (front_more path i j le) in
          let two : reverse after ≡ reverse rows ++ part = ap reverse is ∙ reverse-append (reverse part) rows ∙ ap (λ (xs : List StepRow). reverse rows ++ xs) (reverse-reverse part) in
          one ∙ sym two

      arrives : (later : List Packet) (stops : List ℕ) (done : List Packet) (legs : List (List StepRow)) (i : ℕ) → Route code (alone skipped) done legs → 0 < length done → take i path ≡ reverse (place code done legs).rows → StopsFrom given_run later (record { path = path; index = i; met = met_by code (alone skipped) done legs }) stops → Arrives (reverse later ++ done)
      arrives [] [] done legs i r some front x =
          let rows = (place code done legs).rows in
          record {
            legs = legs;
            route = r;
            last = reverse (drop i path);
            end = x;
            order = sym (take-append-drop i path) ∙ ap (λ (xs : List StepRow). xs ++ drop i path) front ∙ ap (λ (xs : List StepRow). reverse rows ++ xs) (sym (reverse-reverse (drop i path))) ∙ sym (reverse-append (reverse (drop i path)) rows);
          }
      arrives [] (j ∷ stops) done legs i r some front x = elim x [ ]
      arrives (packet ∷ later) [] done legs i r some front x = elim x [ ]
      arrives (packet ∷ later) (j ∷ stops) done legs i r some front (le, within, here, rest) =
          let rows = between i j path in
          let leg = reverse rows in
          let before = (place code done legs).rows in
          let by = leg_by packet (waiting done) (met_by code (alone skipped) done legs) path i j here in
          let l : Leg code packet (record { origin = alone skipped; packets = done; legs = legs }) leg = leg_after code (alone skipped) packet done legs leg some by in
          let on : StopsFrom given_run later (record { path = path; index = j; met = met_by code (alone skipped) (packet ∷ done) (leg ∷ legs) }) stops = rw (same_left packet done legs leg rows refl) at rest in
          let ends : take j path ≡ reverse (place code (packet ∷ done) (leg ∷ legs)).rows = in_turn i j before (place code (packet ∷ done) (leg ∷ legs)).rows le front (more_rows packet done leg legs) in
          subst (λ (ps : List Packet). Arrives ps) (sym (turned packet later done)) (arrives later stops (packet ∷ done) (leg ∷ legs) j (l, r) (omega arith) ends on)

abbrev Begins : List Packet → Type 0
Begins xs = (first : Packet) × (later : List Packet) × (xs ≡ first ∷ later)

begins : (xs : List Packet) → starts (slice_get xs 0) ≡ true → Begins xs
begins [] h = absurd (cc)
begins (x ∷ xs) h = (x, xs, refl)

module _ (code : Code) (packets : List Packet) (from pc skipped : ℕ) (path : List StepRow) where
  abbrev run : TracedRun
  run = record { code = code; packets = packets; from = from; pc = pc }

  counted : (first : Packet) (later : List Packet) → drop skipped packets ≡ first ∷ later → skipped + length (reverse (drop skipped packets)) ≡ length packets
  counted first later cut = let n = size packets skipped first later cut in let m = ap (length {A = Packet}) cut in omega (arith, n, m, length-reverse (drop skipped packets))

  around : (first : Packet) (later : List Packet) → drop skipped packets ≡ first ∷ later → reverse (drop skipped packets) ≡ reverse later ++ first ∷ []
  around first later cut = ap reverse cut ∙ reverse-append (first ∷ []) later

  pub stops_of : IsPath run skipped path → (stops : List ℕ) × StopIndices run skipped path stops
  stops_of h =
      let b = begins (drop skipped packets) (rw (get_drop packets skipped) h.window.may.start) in
      let first = b.0 in
      let later = b.1 in
      let x : Arrives code skipped packets from pc path (reverse (drop skipped packets)) = record { legs = h.legs; route = h.route; last = h.last; end = rw (counted first later b.2) h.end; order = h.order } in
      let y : Arrives code skipped packets from pc path (reverse later ++ first ∷ []) = subst (λ (ps : List Packet). Arrives code skipped packets from pc path ps) (around first later b.2) x in
      let w = leg_within code (alone skipped) (reverse later) first [] y.legs y.route in
      let none = first_none code first w.0 w.2 in
      let start : FirstLeg code first [] = subst (λ (leg : List StepRow). FirstLeg code first leg) none w.2 in
      let g = stops_from code skipped packets from pc path later (first ∷ []) ([] ∷ []) (start, tt) (omega arith) y in
      let zero_rows : length (place code (first ∷ []) ([] ∷ [])).rows ≡ 0 = ap (length {A = StepRow}) (first_rows code skipped first) in
      let each : StopsFrom run later (record { path = path; index = 0; met = met_by code (alone skipped) (first ∷ []) ([] ∷ []) }) g.0 = rw zero_rows at g.1 in
      (g.0, record { window = h.window; first = first; later = later; cut = b.2; start = start; each = rw (first_left code skipped first) each })

  pub path_of : (stops : List ℕ) → StopIndices run skipped path stops → IsPath run skipped path
  path_of stops h =
      let first = h.first in
      let later = h.later in
      let each : StopsFrom run later (record { path = path; index = 0; met = met_by code (alone skipped) (first ∷ []) ([] ∷ []) }) stops = rw (first_left code skipped first) at h.each in
      let front : [] ≡ reverse (place code (first ∷ []) ([] ∷ [])).rows = ap reverse (sym (first_rows code skipped first)) in
      let y = arrives code skipped packets from pc path later stops (first ∷ []) ([] ∷ []) 0 (h.start, tt) (omega arith) front each in
      let x : Arrives code skipped packets from pc path (reverse (drop skipped packets)) = subst (λ (ps : List Packet). Arrives code skipped packets from pc path ps) (sym (around first later h.cut)) y in
      record { window = h.window; legs = x.legs; route = x.route; last = x.last; end = rw (counted first later h.cut) at x.end; order = x.order }
