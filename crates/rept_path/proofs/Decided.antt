-- Each list of packets has a path or a refusal.
use Rattle.std.proofs.Common.{◌≡◌, ℕ, zero, suc, ◌+◌, ◌<◌, ◌≤◌, List, [], ◌∷◌, ◌++◌, length, reverse, drop, slice_get, Bool, true, false, Option, Some, None, Result, Ok, Err, refl, sym, ◌∙◌, ap, subst, arith, ◌⊎◌, inl, inr, append_assoc, append-nil}
use Rattle.std.proofs.lemmas.Bool.{cases_order}
use Rattle.std.proofs.lemmas.List.{reverse-append, reverse-reverse}
use Rattle.rept_path.specs.Code.{Code}
use Rattle.rept_isa.specs.declared.instr.Instr.{Instr}
use Rattle.rept_isa.specs.declared.row.StepRow.{StepRow}
use Rattle.rept_dump.specs.declared.dump.Dump.{Dump}
use Rattle.rept_trace.specs.declared.packet.Packet.{Packet}
use Rattle.rept_trace.specs.declared.packet.Packet.TheVariants.{Start, Context, Support, Address, Map, MapAddress}
use Rattle.rept_trace.specs.declared.packets.Packets.{Packets}
use Rattle.rept_trace.specs.declared.fault.TraceFault.{TraceFault}
use Rattle.rept_trace.specs.Packets.{rest_of, number_of}
use Rattle.rept_trace.specs.Stream.{Hold, FailsAfter}
use Rattle.rept_path.specs.declared.aim.Aim.{Aim}
use Rattle.rept_path.specs.declared.fault.PathFault.{PathFault}
use Rattle.rept_path.specs.declared.fault.PathFault.TheVariants.{BranchesLeft, NoStart}
use Rattle.rept_path.specs.declared.fault.PathFault.TheVariants as faults
use Rattle.rept_path.specs.Code.{look, is_short}
use Rattle.rept_path.specs.Packets.{waiting}
use Rattle.rept_path.specs.Gap.{gap_to_start, gap_to_end}
use Rattle.rept_path.specs.Moves.{Lead, Place, Stand, place_along, next_of, IsMove, stops, misfits, unused, position, ◌>>=◌, heading_by}
use Rattle.rept_path.specs.Legs.{LegPasses, Reaches, PhaseLeg, PhaseFault}
use Rattle.rept_path.specs.Route.{Phase, PhaseLegs, PhasesFault, lead_of, further, with_bits, phases_of, admits, Met, met_by, stand_of, RunningLeg, RunningFault, WaitingLeg, WaitingFault, FirstLeg, FirstFault, Leg, Fault, Origin, alone, Route}
use Rattle.rept_path.specs.Trace.{starts, loses, IsWindow, stand_after, IsPath, StopsAt, HasNoPathOfPackets}
use Rattle.rept_path.specs.Traced.{code_over, pc_of, IsTracedPath, IsRefusedBy, raw_of}
use Rattle.rept_path.proofs.MoveLemmas.{made, few_before}
use Rattle.rept_path.proofs.Whole.{get_drop}
use Rattle.rept_path.proofs.Windows.{starts_within, lost, found, still, still_none, passed}
use Rattle.rept_path.proofs.Waiting.{LegIn, FaultIn}

result_of : {A : Type 0} (r : Result A PathFault) → ((x : A) × (r ≡ Ok x)) ⊎ ((e : PathFault) × (r ≡ Err e))
result_of (Ok x) = inl (x, refl)
result_of (Err e) = inr (e, refl)

bool_of : (b : Bool) → (b ≡ true) ⊎ (b ≡ false)
bool_of true = inl refl
bool_of false = inr refl

position_of : (code : Code) (a : ℕ) → (position code a ≡ Ok a) ⊎ ((e : PathFault) × (position code a ≡ Err e))
position_of code a = go (look code a) where
  go : (r : Result Instr PathFault) → ((r >>= (λ i. Ok a)) ≡ Ok a) ⊎ ((e : PathFault) × ((r >>= (λ (i : Instr). Ok a)) ≡ Err e))
  go (Ok i) = inl refl
  go (Err e) = inr (e, refl)

module _ (code : Code) (lead : Lead) (aim : Aim) (past : Place) where
  abbrev Ends : Type 0
  Ends = ((leg : List StepRow) × Reaches code (heading_by lead aim) past leg) ⊎ ((e : PathFault) × (leg : List StepRow) × LegPasses code (heading_by lead aim) past leg × (next_of code lead (place_along code past leg) ≡ Err e))

  -- what a move gives
  row_of : (p : Place) (a : ℕ) → next_of code lead p ≡ Ok a → (row : StepRow) × IsMove code lead p row
  row_of p a h = let m = made code lead p a h in (record { at = p.at; instr = m.0; next = a; call = false; short = is_short code p.at }, record { next = h; at = refl; instr = m.1; call = refl; short = refl })

  -- a leg without a stop ends after one row more, or goes on
  moves : (leg : List StepRow) → LegPasses code (heading_by lead aim) past leg → ((row : StepRow) → length (place_along code past leg).rows < lead.room → LegPasses code (heading_by lead aim) past (row ∷ leg) → Ends) → Ends
  moves leg x more = elim (result_of (next_of code lead (place_along code past leg))) [
    | inr f ↦ inr (f.0, leg, x, f.1)
    | inl a ↦
        let r = row_of (place_along code past leg) a.0 a.1 in
        elim (bool_of (stops code lead.bits aim (place_along code past (r.0 ∷ leg)))) [
          | inl s ↦ inl (r.0 ∷ leg, (x, r.1, s))
          | inr s ↦ more r.0 (few_before code lead (place_along code past leg) a.0 a.1) (x, r.1, s)
        ]
  ]

  -- so many rows more are the limit
  go : (room : ℕ) (leg : List StepRow) → LegPasses code (heading_by lead aim) past leg → lead.room ≤ room + length (place_along code past leg).rows → Ends
  go zero leg x full = moves leg x (λ row few y. absurd (omega arith))
  go (suc room) leg x full = moves leg x (λ row few y. go room (row ∷ leg) y (omega arith))

  one_phase : ((leg : List StepRow) × PhaseLeg code (heading_by lead aim) past leg) ⊎ ((e : PathFault) × PhaseFault code (heading_by lead aim) past e)
  one_phase = elim (go lead.room [] tt (omega arith)) [
    | inl r ↦ elim (bool_of (misfits code lead.bits aim (place_along code past r.0))) [
      | inl m ↦ inr (BranchesLeft lead.packet (unused lead.bits (place_along code past r.0)), inr (record { leg = r.0; reaches = r.1; left = m; fault = refl }))
      | inr m ↦ inl (r.0, record { reaches = r.1; fits = m })
    ]
    | inr b ↦ inr (b.0, inl (record { leg = b.1; passes = b.2; blocked = b.3 }))
  ]

module _ (code : Code) where
  all_phases : (s : Stand) (phases : List Phase) → ((leg : List StepRow) × PhaseLegs code s phases leg) ⊎ ((e : PathFault) × PhasesFault code s phases e)
  all_phases s [] = inl ([], refl)
  all_phases s (phase ∷ phases) = elim (one_phase code (lead_of s phase) phase.aim s.place) [
    | inl l ↦ elim (all_phases (further code s l.0) phases) [
      | inl r ↦ inl (r.0 ++ l.0, (l.0, r.0, refl, l.1, r.1))
      | inr f ↦ inr (f.0, inr (l.0, l.1, f.1))
    ]
    | inr f ↦ inr (f.0, inl f.1)
  ]

  of_first : (packet : Packet) → starts (Some packet) ≡ true → ((leg : List StepRow) × FirstLeg code packet leg) ⊎ ((e : PathFault) × FirstFault code packet e)
  of_first (Start branch privilege a time context) s = elim (position_of code a) [ inl p ↦ inl ([], (p, refl)) | inr f ↦ inr f ]
  of_first (Address report) s = cc
  of_first (MapAddress count map report) s = cc
  of_first (Map map) s = cc
  of_first (Context privilege time context) s = cc
  of_first (Support enabled status) s = cc

  of_waiting : (packet : Packet) (met : Met) → ((leg : List StepRow) × WaitingLeg code packet met leg) ⊎ ((e : PathFault) × WaitingFault code packet met e)
  of_waiting (Start branch privilege a time context) met = elim (result_of (gap_to_start code (stand_of met) a)) [
    | inl g ↦ elim (position_of code a) [ inl p ↦ inl (g.0, (g.1, p)) | inr f ↦ inr (f.0, inr (g, f.1)) ]
    | inr f ↦ inr (f.0, inl f.1)
  ]
  of_waiting (Address report) met = inr (NoStart met.number, refl)
  of_waiting (MapAddress count map report) met = inr (NoStart met.number, refl)
  of_waiting (Map map) met = inr (NoStart met.number, refl)
  of_waiting (Context privilege time context) met = inl ([], refl)
  of_waiting (Support enabled status) met = inl ([], refl)

  of_running : (packet : Packet) (met : Met) → ((leg : List StepRow) × RunningLeg code packet met leg) ⊎ ((e : PathFault) × RunningFault code packet met e)
  of_running packet met = elim (result_of (admits code packet)) [
    | inl a ↦ elim (all_phases (with_bits code packet met) (phases_of packet met.marked met.reported)) [
      | inl l ↦ inl (l.0, record { admitted = a; legs = l.1 })
      | inr f ↦ inr (f.0, inr (a, f.1))
    ]
    | inr f ↦ inr (f.0, inl f.1)
  ]

  of_one : (packet : Packet) (waits : Bool) (met : Met) → ((leg : List StepRow) × LegIn code packet waits met leg) ⊎ ((e : PathFault) × FaultIn code packet waits met e)
  of_one packet true met = of_waiting packet met
  of_one packet false met = of_running packet met

  module _ (origin : Origin) where
    leg_of : (packet : Packet) (earlier : List Packet) (legs : List (List StepRow)) → (earlier ≡ [] → starts (Some packet) ≡ true) → ((leg : List StepRow) × Leg code packet (record { origin = origin; packets = earlier; legs = legs }) leg) ⊎ ((e : PathFault) × Fault code packet (record { origin = origin; packets = earlier; legs = legs }) e)
    leg_of packet [] legs s = of_first packet (s refl)
    leg_of packet (last ∷ earlier) legs s = of_one packet (waiting (last ∷ earlier)) (met_by code origin (last ∷ earlier) legs)

    module _ (window : List Packet) where
      goes : (later earlier : List Packet) (legs : List (List StepRow)) → window ≡ reverse earlier ++ later → (earlier ≡ [] → starts (slice_get later 0) ≡ true) → Route code origin earlier legs
          → ((legs : List (List StepRow)) × Route code origin (reverse window) legs) ⊎ ((e : PathFault) × StopsAt code origin window e)
      goes [] earlier legs cut s route =
          let back : reverse window ≡ earlier = ap reverse cut ∙ ap reverse (append-nil (reverse earlier)) ∙ reverse-reverse earlier in
          inl (legs, subst (λ (xs : List Packet). Route code origin xs legs) (sym back) route)
      goes (packet ∷ later) earlier legs cut s route = elim (leg_of packet earlier legs s) [
        | inl l ↦
            let longer : window ≡ reverse (packet ∷ earlier) ++ later = cut ∙ sym (ap (λ (xs : List Packet). xs ++ later) (reverse-append (packet ∷ []) earlier) ∙ append_assoc (reverse earlier) (packet ∷ []) later) in
            goes later (packet ∷ earlier) (l.0 ∷ legs) longer (λ none. absurd (cc)) (l.1, route)
        | inr f ↦ inr (f.0, record { earlier = earlier; packet = packet; later = later; cut = cut; legs = legs; route = route; fault = f.1 })
      ]

      pub route_of : starts (slice_get window 0) ≡ true → ((legs : List (List StepRow)) × Route code origin (reverse window) legs) ⊎ ((e : PathFault) × StopsAt code origin window e)
      route_of s = goes window [] [] refl (λ none. s) tt

-- The window begins at some packet, or at none.
module _ (from : ℕ) where
  one_more : (xs : List Packet) (p : Packet) → (begin : Option ℕ) → IsWindow xs from begin → (begin : Option ℕ) × IsWindow (xs ++ p ∷ []) from begin
  one_more xs p begin w = elim (bool_of (loses p)) [
    | inl l ↦ (None, lost xs p from l)
    | inr k ↦ elim (bool_of (starts (Some p))) [ inl s ↦ start k s begin w | inr s ↦ (begin, passed xs p from begin s k w) ]
  ] where
    start : loses p ≡ false → starts (Some p) ≡ true → (begin : Option ℕ) → IsWindow xs from begin → (begin : Option ℕ) × IsWindow (xs ++ p ∷ []) from begin
    start k s (Some skipped) w = (Some skipped, still xs p from skipped k w)
    start k s None w = elim (cases_order from (length xs)) [
      | inl e ↦ (Some (length xs), found xs p from s k (omega arith) w)
      | inr (inl l) ↦ (Some (length xs), found xs p from s k (omega arith) w)
      | inr (inr l) ↦ (None, still_none xs p from (inr l) w)
    ]

  turned : (newest : List Packet) → (begin : Option ℕ) × IsWindow (reverse newest) from begin
  turned [] = (None, λ i m. absurd (let lt = starts_within [] i m.start in omega arith))
  turned (p ∷ earlier) =
      let w = turned earlier in
      let m = one_more (reverse earlier) p w.0 w.1 in
      (m.0, subst (λ (xs : List Packet). IsWindow xs from m.0) (sym (reverse-append (p ∷ []) earlier)) m.1)

  window_of : (packets : List Packet) → (begin : Option ℕ) × IsWindow packets from begin
  window_of packets = let w = turned (reverse packets) in (w.0, subst (λ (xs : List Packet). IsWindow xs from w.0) (reverse-reverse packets) w.1)

module _ (code : Code) (packets : List Packet) (from pc : ℕ) where
  abbrev IsDecided : Type 0
  IsDecided = ((skipped : ℕ) × (rows : List StepRow) × IsPath (record { code = code; packets = packets; from = from; pc = pc }) skipped rows) ⊎ ((e : PathFault) × HasNoPathOfPackets (record { code = code; packets = packets; from = from; pc = pc }) e)

  in_window : (begin : Option ℕ) → IsWindow packets from begin → IsDecided
  in_window None w = inr (NoStart (length packets), inl (w, refl))
  in_window (Some skipped) w = elim (route_of code (alone skipped) (drop skipped packets) (rw (get_drop packets skipped) w.may.start)) [
    | inl r ↦
        let turned = reverse (drop skipped packets) in
        let last = stand_after code (length packets) turned r.0 in
        elim (result_of (gap_to_end code last pc)) [
          | inl g ↦ inl (skipped, reverse (g.0 ++ last.place.rows), record { window = w; legs = r.0; route = r.1; last = g.0; end = g.1; order = refl })
          | inr f ↦ inr (f.0, inr (skipped, w, inr (record { legs = r.0; route = r.1; end = f.1 })))
        ]
    | inr f ↦ inr (f.0, inr (skipped, w, inl f.1))
  ]

  is_decided : IsDecided
  is_decided = let w = window_of from packets in in_window w.0 w.1

-- The bytes hold whole packets alone, or they begin with some and then have a fault.
abbrev pub IsWhole : Packets → Type 0
IsWhole packets = ((list : List Packet) × Hold (rest_of packets) list) ⊎ ((list : List Packet) × (refused : TraceFault) × FailsAfter (number_of packets) (rest_of packets) list refused)

pub decided : (packets : Packets) (dump : Dump) (from : ℕ) → IsWhole packets → ((skipped : ℕ) × (rows : List StepRow) × IsTracedPath (raw_of packets dump from) skipped rows) ⊎ ((fault : PathFault) × IsRefusedBy packets dump from fault)
decided packets dump from whole = elim whole [
  | inl h ↦ elim (is_decided (code_over packets dump) h.0 from (pc_of dump)) [
    | inl p ↦ inl (p.0, p.1, (h.0, h.1, p.2))
    | inr f ↦ inr (f.0, inr (h.0, h.1, f.1))
  ]
  | inr f ↦ inr (faults.Packet f.1, inl (f.0, f.1, f.2, refl))
]
