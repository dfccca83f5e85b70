-- A list of packets has one route at most, or one refusal.
use Rattle.std.proofs.Common.{◌≡◌, ℕ, ◌≤◌, List, [], ◌∷◌, ◌++◌, length, reverse, drop, Bool, true, false, Result, Ok, Err, refl, sym, ◌∙◌, ap, subst, arith, ◌⊎◌, inl, inr, append_assoc}
use Rattle.std.proofs.lemmas.List.{reverse-append, reverse-reverse}
use Rattle.rept_path.specs.Code.{Code}
use Rattle.rept_isa.specs.declared.row.StepRow.{StepRow}
use Rattle.rept_path.specs.declared.fault.PathFault.{PathFault}
use Rattle.rept_trace.specs.declared.packet.Packet.{Packet}
use Rattle.rept_trace.specs.declared.packet.Packet.TheVariants.{Start, Context, Support, Address, Map, MapAddress}
use Rattle.rept_path.specs.Packets.{waiting}
use Rattle.rept_path.specs.Gap.{gap_to_end}
use Rattle.rept_path.specs.Route.{phases_of, with_bits, Met, met_by, WaitingLeg, WaitingFault, FirstLeg, FirstFault, Leg, Fault, Origin, alone, Route}
use Rattle.rept_path.specs.Trace.{Window, stand_after, TracedRun, newest_first, last_stand, IsPath, StopsAt, StopsAtEnd, HasNoPathOfPackets}
use Rattle.rept_path.proofs.Unique.{one_legs, legs_or_fault, one_of_faults}
use Rattle.rept_path.proofs.Waiting.{LegIn, FaultIn}

-- a result is one
same_ok : {A : Type 0} {r : Result A PathFault} {x y : A} → r ≡ Ok x → r ≡ Ok y → x ≡ y
same_ok h g = cc

same_err : {A : Type 0} {r : Result A PathFault} {x y : PathFault} → r ≡ Err x → r ≡ Err y → x ≡ y
same_err h g = cc

not_both : {A : Type 0} {r : Result A PathFault} {x : A} {y : PathFault} → r ≡ Ok x → r ≡ Err y → ⊥
not_both h g = cc

one_first : (code : Code) (packet : Packet) (a b : List StepRow) → FirstLeg code packet a → FirstLeg code packet b → a ≡ b
one_first code (Start branch privilege p time context) a b x y = x.1 ∙ sym y.1
one_first code (Address report) a b x y = elim x [ ]
one_first code (MapAddress count map report) a b x y = elim x [ ]
one_first code (Map map) a b x y = elim x [ ]
one_first code (Context privilege time context) a b x y = elim x [ ]
one_first code (Support enabled status) a b x y = elim x [ ]

first_or_fault : (code : Code) (packet : Packet) (a : List StepRow) (e : PathFault) → FirstLeg code packet a → FirstFault code packet e → ⊥
first_or_fault code (Start branch privilege p time context) a e x y = not_both x.0 y
first_or_fault code (Address report) a e x y = x
first_or_fault code (MapAddress count map report) a e x y = x
first_or_fault code (Map map) a e x y = x
first_or_fault code (Context privilege time context) a e x y = x
first_or_fault code (Support enabled status) a e x y = x

one_first_fault : (code : Code) (packet : Packet) (d e : PathFault) → FirstFault code packet d → FirstFault code packet e → d ≡ e
one_first_fault code (Start branch privilege p time context) d e x y = same_err x y
one_first_fault code (Address report) d e x y = elim x [ ]
one_first_fault code (MapAddress count map report) d e x y = elim x [ ]
one_first_fault code (Map map) d e x y = elim x [ ]
one_first_fault code (Context privilege time context) d e x y = elim x [ ]
one_first_fault code (Support enabled status) d e x y = elim x [ ]

one_waiting : (code : Code) (packet : Packet) (met : Met) (a b : List StepRow) → WaitingLeg code packet met a → WaitingLeg code packet met b → a ≡ b
one_waiting code (Start branch privilege p time context) met a b x y = same_ok x.0 y.0
one_waiting code (Address report) met a b x y = elim x [ ]
one_waiting code (MapAddress count map report) met a b x y = elim x [ ]
one_waiting code (Map map) met a b x y = elim x [ ]
one_waiting code (Context privilege time context) met a b x y = x ∙ sym y
one_waiting code (Support enabled status) met a b x y = x ∙ sym y

waiting_or_fault : (code : Code) (packet : Packet) (met : Met) (a : List StepRow) (e : PathFault) → WaitingLeg code packet met a → WaitingFault code packet met e → ⊥
waiting_or_fault code (Start branch privilege p time context) met a e x y = elim y [ inl f ↦ not_both x.0 f | inr f ↦ not_both x.1 f.1 ]
waiting_or_fault code (Address report) met a e x y = x
waiting_or_fault code (MapAddress count map report) met a e x y = x
waiting_or_fault code (Map map) met a e x y = x
waiting_or_fault code (Context privilege time context) met a e x y = y
waiting_or_fault code (Support enabled status) met a e x y = y

one_waiting_fault : (code : Code) (packet : Packet) (met : Met) (d e : PathFault) → WaitingFault code packet met d → WaitingFault code packet met e → d ≡ e
one_waiting_fault code (Start branch privilege p time context) met d e x y = elim x [
  | inl f ↦ elim y [ inl g ↦ same_err f g | inr g ↦ absurd (not_both g.0.1 f) ]
  | inr f ↦ elim y [ inl g ↦ absurd (not_both f.0.1 g) | inr g ↦ same_err f.1 g.1 ]
]
one_waiting_fault code (Address report) met d e x y = x ∙ sym y
one_waiting_fault code (MapAddress count map report) met d e x y = x ∙ sym y
one_waiting_fault code (Map map) met d e x y = x ∙ sym y
one_waiting_fault code (Context privilege time context) met d e x y = elim x [ ]
one_waiting_fault code (Support enabled status) met d e x y = elim x [ ]

one_by : (code : Code) (packet : Packet) (waits : Bool) (met : Met) (a b : List StepRow) → LegIn code packet waits met a → LegIn code packet waits met b → a ≡ b
one_by code packet true met a b x y = one_waiting code packet met a b x y
one_by code packet false met a b x y = one_legs code (phases_of packet met.marked met.reported) (with_bits code packet met) a b x.legs y.legs

by_or_fault : (code : Code) (packet : Packet) (waits : Bool) (met : Met) (a : List StepRow) (e : PathFault) → LegIn code packet waits met a → FaultIn code packet waits met e → ⊥
by_or_fault code packet true met a e x y = waiting_or_fault code packet met a e x y
by_or_fault code packet false met a e x y = elim y [
  | inl h ↦ not_both x.admitted.1 h
  | inr h ↦ legs_or_fault code (phases_of packet met.marked met.reported) (with_bits code packet met) a e x.legs h.1
]

one_fault_by : (code : Code) (packet : Packet) (waits : Bool) (met : Met) (d e : PathFault) → FaultIn code packet waits met d → FaultIn code packet waits met e → d ≡ e
one_fault_by code packet true met d e x y = one_waiting_fault code packet met d e x y
one_fault_by code packet false met d e x y = elim x [
  | inl f ↦ elim y [ inl g ↦ same_err f g | inr g ↦ absurd (not_both g.0.1 f) ]
  | inr f ↦ elim y [
    | inl g ↦ absurd (not_both f.0.1 g)
    | inr g ↦ one_of_faults code (phases_of packet met.marked met.reported) (with_bits code packet met) d e f.1 g.1
  ]
]

module _ (code : Code) (origin : Origin) where
  one_leg : (packet : Packet) (earlier : List Packet) (legs : List (List StepRow)) (a b : List StepRow) → Leg code packet (record { origin = origin; packets = earlier; legs = legs }) a → Leg code packet (record { origin = origin; packets = earlier; legs = legs }) b → a ≡ b
  one_leg packet [] legs a b x y = one_first code packet a b x y
  one_leg packet (last ∷ earlier) legs a b x y = one_by code packet (waiting (last ∷ earlier)) (met_by code origin (last ∷ earlier) legs) a b x y

  leg_or_fault : (packet : Packet) (earlier : List Packet) (legs : List (List StepRow)) (a : List StepRow) (e : PathFault) → Leg code packet (record { origin = origin; packets = earlier; legs = legs }) a → Fault code packet (record { origin = origin; packets = earlier; legs = legs }) e → ⊥
  leg_or_fault packet [] legs a e x y = first_or_fault code packet a e x y
  leg_or_fault packet (last ∷ earlier) legs a e x y = by_or_fault code packet (waiting (last ∷ earlier)) (met_by code origin (last ∷ earlier) legs) a e x y

  one_fault : (packet : Packet) (earlier : List Packet) (legs : List (List StepRow)) (d e : PathFault) → Fault code packet (record { origin = origin; packets = earlier; legs = legs }) d → Fault code packet (record { origin = origin; packets = earlier; legs = legs }) e → d ≡ e
  one_fault packet [] legs d e x y = one_first_fault code packet d e x y
  one_fault packet (last ∷ earlier) legs d e x y = one_fault_by code packet (waiting (last ∷ earlier)) (met_by code origin (last ∷ earlier) legs) d e x y

  pub one_route : (packets : List Packet) (a b : List (List StepRow)) → Route code origin packets a → Route code origin packets b → a ≡ b
  one_route [] [] [] x y = refl
  one_route [] [] (q ∷ b) x y = elim y [ ]
  one_route [] (p ∷ a) b x y = elim x [ ]
  one_route (packet ∷ earlier) [] b x y = elim x [ ]
  one_route (packet ∷ earlier) (p ∷ a) [] x y = elim y [ ]
  one_route (packet ∷ earlier) (p ∷ a) (q ∷ b) x y =
      let s : a ≡ b = one_route earlier a b x.1 y.1 in
      let h : Leg code packet (record { origin = origin; packets = earlier; legs = b }) p = rw s at x.0 in
      let t : p ≡ q = one_leg packet earlier b p q h y.0 in
      cc

  -- a route has a leg for each of its packets
  pub leg_within : (newer : List Packet) (packet : Packet) (earlier : List Packet) (legs : List (List StepRow)) → Route code origin (newer ++ packet ∷ earlier) legs → (leg : List StepRow) × (rest : List (List StepRow)) × Leg code packet (record { origin = origin; packets = earlier; legs = rest }) leg × Route code origin earlier rest
  leg_within [] packet earlier [] x = elim x [ ]
  leg_within [] packet earlier (leg ∷ legs) x = (leg, legs, x.0, x.1)
  leg_within (p ∷ newer) packet earlier [] x = elim x [ ]
  leg_within (p ∷ newer) packet earlier (leg ∷ legs) x = leg_within newer packet earlier legs x.1

  -- where a packet has no leg, there is no route of all
  no_route : (newer : List Packet) (packet : Packet) (earlier : List Packet) (all legs : List (List StepRow)) (e : PathFault) → Route code origin (newer ++ packet ∷ earlier) all → Route code origin earlier legs → Fault code packet (record { origin = origin; packets = earlier; legs = legs }) e → ⊥
  no_route newer packet earlier all legs e x y f =
      let w = leg_within newer packet earlier all x in
      let s : w.1 ≡ legs = one_route earlier w.1 legs w.3 y in
      let h : Leg code packet (record { origin = origin; packets = earlier; legs = legs }) w.0 = rw s at w.2 in
      leg_or_fault packet earlier legs w.0 e h f

  -- two cuts of a list are one, or one is within the other
  abbrev Cuts : List Packet → Packet → List Packet → Packet → Type 0
  Cuts e p f q = ((e ≡ f) × (p ≡ q)) ⊎ (((zs : List Packet) × (f ≡ zs ++ p ∷ e)) ⊎ ((zs : List Packet) × (e ≡ zs ++ q ∷ f)))

  cuts : (xs : List Packet) (p : Packet) (e ys : List Packet) (q : Packet) (f : List Packet) → xs ++ p ∷ e ≡ ys ++ q ∷ f → Cuts e p f q
  cuts [] p e [] q f h = inl ((cc), (cc))
  cuts [] p e (y ∷ ys) q f h = inr (inr (ys, (cc)))
  cuts (x ∷ xs) p e [] q f h = inr (inl (xs, (let g : xs ++ p ∷ e ≡ f = cc in sym g)))
  cuts (x ∷ xs) p e (y ∷ ys) q f h = cuts xs p e ys q f (cc)

  turned : (packets earlier : List Packet) (packet : Packet) (later : List Packet) → packets ≡ reverse earlier ++ packet ∷ later → reverse packets ≡ reverse later ++ packet ∷ earlier
  turned packets earlier packet later h =
      ap reverse h ∙ reverse-append (reverse earlier) (packet ∷ later) ∙ rw reverse-reverse (ap (λ (xs : List Packet). xs ++ earlier) (reverse-append (packet ∷ []) later) ∙ append_assoc (reverse later) (packet ∷ []) earlier)

  -- a route of the window, or a packet at which there is none
  pub route_or_stop : (window : List Packet) (legs : List (List StepRow)) (e : PathFault) → Route code origin (reverse window) legs → StopsAt code origin window e → ⊥
  route_or_stop window legs e x s =
      let r : Route code origin (reverse s.later ++ s.packet ∷ s.earlier) legs = rw (turned window s.earlier s.packet s.later s.cut) at x in
      no_route (reverse s.later) s.packet s.earlier legs s.legs e r s.route s.fault

  one_of_stops : (window : List Packet) (d e : PathFault) (f : StopsAt code origin window d) (g : StopsAt code origin window e) → Cuts f.earlier f.packet g.earlier g.packet → d ≡ e
  one_of_stops window d e f g c = elim c [
    | inl i ↦
        let r : Route code origin g.earlier f.legs = rw i.0 at f.route in
        let l : f.legs ≡ g.legs = one_route g.earlier f.legs g.legs r g.route in
        let h : Fault code g.packet (record { origin = origin; packets = g.earlier; legs = g.legs }) d = rw (i.0, i.1, l) at f.fault in
        one_fault g.packet g.earlier g.legs d e h g.fault
    | inr (inl i) ↦
        let r : Route code origin (i.0 ++ f.packet ∷ f.earlier) g.legs = rw i.1 at g.route in
        absurd (no_route i.0 f.packet f.earlier g.legs f.legs d r f.route f.fault)
    | inr (inr i) ↦
        let r : Route code origin (i.0 ++ g.packet ∷ g.earlier) f.legs = rw i.1 at f.route in
        absurd (no_route i.0 g.packet g.earlier f.legs g.legs e r g.route g.fault)
  ]

  pub one_stop : (window : List Packet) (d e : PathFault) → StopsAt code origin window d → StopsAt code origin window e → d ≡ e
  one_stop window d e f g = one_of_stops window d e f g (cuts (reverse f.later) f.packet f.earlier (reverse g.later) g.packet g.earlier (sym (turned window f.earlier f.packet f.later f.cut) ∙ turned window g.earlier g.packet g.later g.cut))

pub one_window : (packets : List Packet) (from a b : ℕ) → Window packets from a → Window packets from b → a ≡ b
one_window packets from a b x y = let p : a ≤ b = x.first b y.may in let q : b ≤ a = y.first a x.may in omega arith

module _ (code : Code) (packets : List Packet) (from pc : ℕ) where
  abbrev run : TracedRun
  run = record { code = code; packets = packets; from = from; pc = pc }

  one_end : (skipped : ℕ) (d e : PathFault) → StopsAtEnd run skipped d → StopsAtEnd run skipped e → d ≡ e
  one_end skipped d e f g =
      let s : f.legs ≡ g.legs = one_route code (alone skipped) (newest_first run skipped) f.legs g.legs f.route g.route in
      let h : gap_to_end code (last_stand run skipped g.legs) pc ≡ Err d = rw s at f.end in
      same_err h g.end

  pub one_path : (i j : ℕ) (a b : List StepRow) → IsPath run i a → IsPath run j b → (i ≡ j) × (a ≡ b)
  one_path i j a b x y =
      let w : i ≡ j = one_window packets from i j x.window y.window in
      let z = subst (λ (n : ℕ). IsPath run n a) w x in
      let s : z.legs ≡ y.legs = one_route code (alone j) (reverse (drop j packets)) z.legs y.legs z.route y.route in
      let e : gap_to_end code (stand_after code (length packets) (reverse (drop j packets)) y.legs) pc ≡ Ok z.last = rw s at z.end in
      let l : z.last ≡ y.last = same_ok e y.end in
      (w, z.order ∙ rw (s, l) refl ∙ sym y.order)

  refusal_at : (skipped j : ℕ) (e : PathFault) → skipped ≡ j → StopsAt code (alone skipped) (drop skipped packets) e ⊎ StopsAtEnd run skipped e → StopsAt code (alone j) (drop j packets) e ⊎ StopsAtEnd run j e
  refusal_at skipped j e w h = subst (λ (n : ℕ). StopsAt code (alone n) (drop n packets) e ⊎ StopsAtEnd run n e) w h

  pub path_or_refusal : (j : ℕ) (path : List StepRow) (e : PathFault) → IsPath run j path → HasNoPathOfPackets run e → ⊥
  path_or_refusal j path e x y = elim y [
    | inl h ↦ h.0 j x.window.may
    | inr h ↦ elim (refusal_at h.0 j e (one_window packets from h.0 j h.1 x.window) h.2) [
      | inl s ↦ route_or_stop code (alone j) (drop j packets) x.legs e x.route s
      | inr s ↦
          let l : s.legs ≡ x.legs = one_route code (alone j) (reverse (drop j packets)) s.legs x.legs s.route x.route in
          let g : gap_to_end code (stand_after code (length packets) (reverse (drop j packets)) x.legs) pc ≡ Err e = rw l at s.end in
          not_both x.end g
    ]
  ]

  pub one_refusal : (d e : PathFault) → HasNoPathOfPackets run d → HasNoPathOfPackets run e → d ≡ e
  one_refusal d e x y = elim x [
    | inl f ↦ elim y [ inl g ↦ f.1 ∙ sym g.1 | inr g ↦ absurd (f.0 g.0 g.1.may) ]
    | inr f ↦ elim y [
      | inl g ↦ absurd (g.0 f.0 f.1.may)
      | inr g ↦ elim (refusal_at f.0 g.0 d (one_window packets from f.0 g.0 f.1 g.1) f.2) [
        | inl s ↦ elim g.2 [ inl t ↦ one_stop code (alone g.0) (drop g.0 packets) d e s t | inr t ↦ absurd (route_or_stop code (alone g.0) (drop g.0 packets) t.legs d t.route s) ]
        | inr s ↦ elim g.2 [ inl t ↦ absurd (route_or_stop code (alone g.0) (drop g.0 packets) s.legs e s.route t) | inr t ↦ one_end g.0 d e s t ]
      ]
    ]
  ]
