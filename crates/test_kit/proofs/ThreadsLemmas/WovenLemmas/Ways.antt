-- The walks along the packets of written stretches, and the rows of their slices.
use Rattle.std.proofs.Common.{◌≡◌, ℕ, suc, ◌+◌, ◌-◌, ◌<◌, ◌≤◌, ◌^◌, List, [], ◌∷◌, ◌++◌, length, map, reverse, take, drop, Bool, false, cond, Option, Some, None, Ok, refl, sym, ◌∙◌, ap, subst, arith, append_assoc, length-append}
use Rattle.std.specs.Prelude.{slice_get, is_none}
use Rattle.std.specs.List.{AllZip, filter}
use Rattle.std.proofs.lemmas.List.{reverse-append, length-reverse}
use Rattle.rept_isa.specs.declared.row.StepRow.{StepRow}
use Rattle.rept_dump.specs.Memory.{Contents}
use Rattle.rept_trace.specs.declared.packet.Packet.{Packet}
use Rattle.rept_path.specs.Code.{Code}
use Rattle.rept_path.specs.declared.fault.PathFault.{PathFault}
use Rattle.rept_path.specs.Packets.{waits_after}
use Rattle.rept_path.specs.Gap.{gap}
use Rattle.rept_path.specs.Route.{alone, Route, place}
use Rattle.rept_path.specs.Rows.{CarryCode}
use Rattle.rept_encode.specs.Encoded.{coded, LeadsOver}
use Rattle.rept_encode.specs.Weaving.Woven.{ended, end_of}
use Rattle.rept_streams.specs.Slices.Stamps.{address_of}
use Rattle.rept_streams.specs.Slices.Parts.{ToldSlice, thread_of, begin_of, inner, beyond, first_time}
use Rattle.rept_streams.specs.Slices.Stretches.{same_stretch, stretch, heads, StretchLegs, last_place, count_of, origin_after, Walks, RanSlice, within, rows_of, ran_by, ran_in, ran}
use Rattle.rept_streams.specs.Slices.Joins.{stand_at}
use Rattle.rept_streams.proofs.SlicesLemmas.InTime.{Each}
use Rattle.rept_streams.proofs.SlicesLemmas.Whether.{Started}
use Rattle.rept_streams.proofs.SlicesLemmas.Following.{HeadFirst, Following}
use Rattle.rept_streams.proofs.SlicesLemmas.Packs.{rows_by, first_rows, Cut}
use Rattle.rept_streams.proofs.ThreadsLemmas.Routed.{none_begins, Rowed, rowed}
use Rattle.rept_streams.proofs.ThreadsLemmas.Gathering.{inner_slices, none_inner, gathered}
use Rattle.rept_streams.proofs.ThreadsLemmas.Walking.{Earlier, before_earlier, follow_there, started_there, none_before}
use Rattle.test_kit.specs.Threads.Woven.Ordered.{Piece}
use Rattle.test_kit.proofs.ThreadsLemmas.WovenLemmas.Origins.{route_moved}
use Rattle.test_kit.proofs.ThreadsLemmas.WovenLemmas.Sliced.{IsPieceOf, thread_is, begin_is, end_is, packets_are, all_rows}

-- how many rows a walk along a stretch has: all but the last one
abbrev pub walked_rows : Piece → ℕ
walked_rows p = length p.stretch.steps - 1

abbrev pub rows_before : List Piece → ℕ
rows_before [] = 0
rows_before (p ∷ ps) = walked_rows p + rows_before ps

-- The walk is one along the packets of a stretch.
pub record IsWay (halves : Bool) (contents : Contents) (p : Piece) (w : StretchLegs) : Type 0 where
  pub is : IsPieceOf halves p w.head
  pub leads : LeadsOver (coded halves contents) (reverse (stretch w.head)) p.stretch.steps
  pub legs : w.legs ≡ leads.legs

-- The slice that was walked is that of a stretch: its rows are all but the last one, and from where
-- it ended a gap leads over that one.
pub record IsRanOf (code : Code) (p : Piece) (r : RanSlice) : Type 0 where
  pub stream : r.told.stream ≡ p.hart
  pub thread : thread_of r.told ≡ p.stretch.process
  pub begin : begin_of r.told ≡ p.stretch.begin
  pub waits : r.told.inside ≡ None
  pub end : first_time (beyond r.told) ≡ Some p.stretch.end
  pub fits : p.stretch.end < 2 ^ 64
  pub first : StepRow
  pub begins : slice_get p.stretch.steps 0 ≡ Some first
  pub starts : address_of r.told.start ≡ first.at
  pub last : StepRow
  pub rows : p.stretch.steps ≡ r.rows ++ last ∷ []
  pub cross : (k count : ℕ) (otherwise : PathFault) → count < 65536 → gap code (stand_at k r count) (record { address = last.next; otherwise = otherwise }) ≡ Ok (last ∷ [])

back_to_front : (last : StepRow) (rows : List StepRow) → reverse (last ∷ rows) ≡ reverse rows ++ last ∷ []
back_to_front last rows = reverse-append (last ∷ []) rows

module _ (halves : Bool) (contents : Contents) where
  abbrev code : Code
  code = coded halves contents

  abbrev Carried : Piece → Type 0
  Carried p = CarryCode (coded halves contents) p.stretch.steps

  leads_of : (p : Piece) (t : ToldSlice) → IsPieceOf halves p t → Carried p → LeadsOver (coded halves contents) (reverse (stretch t)) p.stretch.steps
  leads_of p t i carried = subst (λ (ps : List Packet). LeadsOver (coded halves contents) (reverse ps) p.stretch.steps) (sym (packets_are halves p t i)) (i.sent.leads contents carried)

  module _ (p : Piece) (w : StretchLegs) (way : IsWay halves contents p w) where
    all_but_last : p.stretch.steps ≡ reverse (last_place code w).rows ++ way.leads.last ∷ []
    all_but_last =
        way.leads.all ∙ back_to_front way.leads.last (place code (reverse (stretch w.head)) way.leads.legs).rows
        ∙ ap (λ (ls : List (List StepRow)). reverse (place code (reverse (stretch w.head)) ls).rows ++ way.leads.last ∷ []) (sym way.legs)

    count_is : count_of code w ≡ walked_rows p
    count_is =
        let n = ap (length {A = StepRow}) all_but_last in
        omega (arith, n, length-append (reverse (last_place code w).rows) (way.leads.last ∷ []), length-reverse (last_place code w).rows)

    route_is : Route code (alone 0) (reverse (stretch w.head)) w.legs
    route_is = subst (λ (ls : List (List StepRow)). Route code (alone 0) (reverse (stretch w.head)) ls) (sym way.legs) way.leads.route

    rows_are : Started w.head → rows_of w w.head ≡ reverse (last_place code w).rows
    rows_are starts =
        let t = w.head in
        let sheet : Rowed code w.head.start (same_stretch false w.head.later) w.legs = rowed code (alone 0) w.head.start (same_stretch false w.head.later) w.legs starts runs (none_begins false w.head.later) route_is in
        let zero_is : suc (w.head.number - w.head.number) ≡ 1 = omega arith in
        let legs : drop (suc (w.head.number - w.head.number)) (reverse w.legs) ≡ sheet.later = ap (λ (n : ℕ). drop n (reverse w.legs)) zero_is ∙ ap (drop 1) sheet.all in
        let cut : Cut false (way.is.sent.reports ++ (ended ∷ end_of p.stretch ∷ [])) sheet.later = subst (λ (ps : List Packet). Cut false ps sheet.later) way.is.same (subst (λ (b : Bool). Cut b (same_stretch false w.head.later) sheet.later) (runs false) sheet.cut.1) in
        let whole : first_rows w.head.later sheet.later ≡ rows_by sheet.later = ap (λ (ps : List Packet). first_rows ps sheet.later) way.is.later ∙ all_rows way.is.sent.reports (end_of p.stretch) way.is.more sheet.later way.is.sent.told cut in
        ap (λ (ls : List (List StepRow)). rows_by (take (suc (inner w.head)) ls)) legs ∙ whole ∙ sym sheet.rows
      where
        runs : (b : Bool) → waits_after w.head.start b ≡ false
        runs b = ap (λ (q : Packet). waits_after q b) way.is.start

    ran_is : Started w.head → IsRanOf code p (ran_by code w w.head)
    ran_is starts = record {
      stream = way.is.stream;
      thread = thread_is halves p w.head way.is;
      begin = begin_is halves p w.head way.is;
      waits = way.is.waits;
      end = end_is halves p w.head way.is;
      fits = way.is.fits;
      first = way.is.sent.first;
      begins = way.is.sent.begins;
      starts = ap address_of way.is.start;
      last = way.leads.last;
      rows = all_but_last ∙ ap (λ (xs : List StepRow). xs ++ way.leads.last ∷ []) (sym (rows_are starts));
      cross = λ k count otherwise few.
          way.leads.cross (stand_at k (ran_by code w w.head) count) otherwise refl
          (ap (λ (ls : List (List StepRow)). (place code (reverse (stretch w.head)) ls).at) way.legs)
          (ap (λ (ls : List (List StepRow)). (place code (reverse (stretch w.head)) ls).branches) way.legs)
          (omega (arith, few));
    }

  -- All stretches are walked, one after the other.
  pub ways : (ps : List Piece) (ts : List ToldSlice) (count : ℕ) → AllZip (IsPieceOf halves) ps ts → Each Carried ps → count + rows_before ps ≤ 65536 → (ws : List StretchLegs) × Walks code count ts ws × AllZip (IsWay halves contents) ps ws
  ways [] [] count h carried few = ([], refl, tt)
  ways [] (t ∷ ts) count h carried few = absurd h
  ways (p ∷ ps) [] count h carried few = absurd h
  ways (p ∷ ps) (t ∷ ts) count h carried few =
      let l = leads_of p t h.0 carried.0 in
      let w : StretchLegs = record { head = t; legs = l.legs } in
      let way : IsWay halves contents p w = record { is = h.0; leads = l; legs = refl } in
      let size : count_of code w ≡ walked_rows p = count_is p w way in
      let rest = ways ps ts (count + count_of code w) h.1 carried.1 (omega (arith, few, size)) in
      let goes : Route code (origin_after count t) (reverse (stretch t)) w.legs = route_moved code (alone 0) (origin_after count t) (reverse (stretch t)) w.legs (route_is p w way) (omega (arith, few, size)) in
      (w ∷ rest.0, (refl, goes, rest.1), (way, rest.2))

  pub all_heads : (ps : List Piece) (ts : List ToldSlice) → AllZip (IsPieceOf halves) ps ts → heads ts ≡ ts
  all_heads [] [] h = refl
  all_heads [] (t ∷ ts) h = absurd h
  all_heads (p ∷ ps) [] h = absurd h
  all_heads (p ∷ ps) (t ∷ ts) h = ap (λ (o : Option ℕ). cond (is_none o) (t ∷ heads ts) (heads ts)) h.0.waits ∙ ap (λ (us : List ToldSlice). t ∷ us) (all_heads ps ts h.1)

  head_waits : (ps : List Piece) (ts : List ToldSlice) → AllZip (IsPieceOf halves) ps ts → HeadFirst ts
  head_waits [] [] h = tt
  head_waits [] (t ∷ ts) h = absurd h
  head_waits (p ∷ ps) [] h = absurd h
  head_waits (p ∷ ps) (t ∷ ts) h = h.0.waits

  -- each slice is all of its stretch
  pub all_ran : (ts before later : List ToldSlice) (count : ℕ) (ps : List Piece) (ws : List StretchLegs) → ts ≡ before ++ later → Each Started (before ++ later) → Following (before ++ later)
      → AllZip (IsPieceOf halves) ps later → Walks code count later ws → AllZip (IsWay halves contents) ps ws → AllZip (IsRanOf code) ps (ran code ts ws)
  all_ran ts before [] count [] ws e s f h a y = subst (λ (vs : List StretchLegs). AllZip (IsRanOf code) [] (ran code ts vs)) (sym a) tt
  all_ran ts before [] count (p ∷ ps) ws e s f h a y = absurd h
  all_ran ts before (t ∷ later) count [] ws e s f h a y = absurd h
  all_ran ts before (t ∷ later) count (p ∷ ps) [] e s f h a y = absurd a
  all_ran ts before (t ∷ later) count (p ∷ ps) (w ∷ ws) e s f h a y =
      let shift : (before ++ t ∷ []) ++ later ≡ before ++ t ∷ later = append_assoc before (t ∷ []) later in
      let rest = all_ran ts (before ++ t ∷ []) later (count + count_of code w) ps ws (e ∙ sym shift) (subst (Each Started) (sym shift) s) (subst Following (sym shift) f) h.1 a.2 y.1 in
      let x = follow_there before t later f in
      let number = ap (λ (u : ToldSlice). u.number) a.0 in
      let early = subst (λ (n : ℕ). Each (Earlier n) before) (sym number) (before_earlier before t later s f) in
      let starts : Started t = started_there before t later s in
      let own : filter (within w) ts ≡ t ∷ inner_slices later = ap (filter (within w)) e ∙ none_before w before (t ∷ later) early ∙ gathered w t later x.others a.0 starts x.same x.after x.heads in
      let alone_in : filter (within w) ts ≡ w.head ∷ [] = own ∙ ap (λ (us : List ToldSlice). t ∷ us) (none_inner later (head_waits ps later h.1)) ∙ ap (λ (u : ToldSlice). u ∷ []) (sym a.0) in
      let here : ran_in code ts w ≡ ran_by code w w.head ∷ [] = ap (map (ran_by code w)) alone_in in
      let is : IsRanOf code p (ran_by code w w.head) = ran_is p w y.0 (subst Started (sym a.0) starts) in
      subst (λ (rs : List RanSlice). AllZip (IsRanOf code) (p ∷ ps) (rs ++ ran code ts ws)) (sym here) (is, rest)
