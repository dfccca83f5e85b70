-- Rows that lead from one address to another, and those of packets.
use Rattle.std.proofs.Common.{◌≡◌, inl, inr, ℕ, List, [], ◌∷◌, ◌++◌, length, reverse, nat_le, Bool, true, false, cond, ◌==◌, ◌&&◌, ◌||◌, Some, Ok, Err, refl, sym, ◌∙◌, ap, subst}
use Rattle.std.specs.Prelude.{slice_get}
use Rattle.std.proofs.lemmas.List.{reverse-append}
use Rattle.std.proofs.lemmas.Bool.Decides.{eqb_tells}
use Rattle.rept_isa.specs.declared.instr.Instr.{Instr}
use Rattle.rept_isa.specs.declared.row.StepRow.{StepRow}
use Rattle.rept_steps.specs.Linked.{BeginAt, AreLinked, EndBefore}
use Rattle.rept_trace.specs.declared.packet.Packet.{Packet}
use Rattle.rept_trace.specs.declared.packet.Packet.TheVariants.{Start, Context, Support, Address, Map, MapAddress}
use Rattle.rept_path.specs.declared.fault.PathFault.TheVariants.{TooLong}
use Rattle.rept_path.specs.declared.flow.Flow.{Flow}
use Rattle.rept_path.specs.declared.flow.Flow.TheVariants.{Plain, Branch, Jump, Fixed, Far, Call, Stop}
use Rattle.rept_path.specs.declared.aim.Aim.TheVariants as aims
use Rattle.rept_path.specs.Code.{Code, look, flow_of, jumps_far}
use Rattle.rept_path.specs.Packets.{begins}
use Rattle.rept_path.specs.Moves.{Lead, Heading, Place, Stand, place_along, IsMove, site, successor, position, stops, by_jump, bits_fit, way_by, heading_by}
use Rattle.rept_path.specs.Legs.{LegPasses, Reaches}
use Rattle.rept_path.specs.Route.{Phase, PhaseLegs, Met, WaitingLeg, further, with_bits, phases_of, lead_of, heading_of}
use Rattle.rept_path.proofs.MoveLemmas.{bind_ok, made}
use Rattle.rept_path.proofs.Phases.{along-append}
use Rattle.rept_path.proofs.Waiting.{LegIn}
use Rattle.rept_streams.specs.Slices.Stamps.{is_start, address_of}
use Rattle.rept_streams.specs.Threads.Linking.{GoesFromTo}

-- Rows, newest first, that lead from the one address to the other.
abbrev pub Leads : List StepRow → ℕ → ℕ → Type 0
Leads [] a b = a ≡ b
Leads (r ∷ leg) a b = (r.next ≡ b) × Leads leg a r.at

pub leads_append : (rest first : List StepRow) (a b c : ℕ) → Leads first a b → Leads rest b c → Leads (rest ++ first) a c
leads_append [] first a b c x y = subst (λ (n : ℕ). Leads first a n) y x
leads_append (r ∷ rest) first a b c x y = (y.0, leads_append rest first a b r.at x y.1)

pub goes_append : (xs ys : List StepRow) (a b c : ℕ) → GoesFromTo xs a b → GoesFromTo ys b c → GoesFromTo (xs ++ ys) a c
goes_append [] ys a b c x y = subst (λ (n : ℕ). GoesFromTo ys n c) (sym x) y
goes_append (r ∷ xs) ys a b c x y = (x.0, goes_append xs ys r.next b c x.1 y)

pub leads_goes : (leg : List StepRow) (a b : ℕ) → Leads leg a b → GoesFromTo (reverse leg) a b
leads_goes [] a b x = x
leads_goes (r ∷ leg) a b x =
    let last : GoesFromTo (r ∷ []) r.at b = (refl, x.0) in
    subst (λ (rows : List StepRow). GoesFromTo rows a b) (sym (reverse-append (r ∷ []) leg)) (goes_append (reverse leg) (r ∷ []) a r.at b (leads_goes leg a r.at x.1) last)

pub goes_begin : (rows : List StepRow) (a b : ℕ) → GoesFromTo rows a b → BeginAt rows a
goes_begin [] a b x = tt
goes_begin (r ∷ rows) a b x = x.0

pub goes_linked : (rows : List StepRow) (a b : ℕ) → GoesFromTo rows a b → AreLinked rows
goes_linked [] a b x = tt
goes_linked (r ∷ rows) a b x = (goes_begin rows r.next b x.1, goes_linked rows r.next b x.1)

-- rows that lead on from others
pub ends_on : (done rows : List StepRow) (a b : ℕ) → EndBefore done a → GoesFromTo rows a b → EndBefore (done ++ rows) b
ends_on [] rows a b e x = alone rows a b x where
  alone : (rows : List StepRow) (a b : ℕ) → GoesFromTo rows a b → EndBefore rows b
  alone [] a b x = tt
  alone (r ∷ []) a b x = x.1
  alone (r ∷ (s ∷ rows)) a b x = alone (s ∷ rows) r.next b x.1
ends_on (d ∷ []) [] a b e x = e ∙ x
ends_on (d ∷ []) (r ∷ rows) a b e x = ends_on [] (r ∷ rows) a b tt x
ends_on (d ∷ (f ∷ done)) rows a b e x = ends_on (f ∷ done) rows a b e x

-- the legs of a route lead from place to place
module _ (code : Code) where
  passed : (course : Heading) (past : Place) (leg : List StepRow) → LegPasses code course past leg → Leads leg past.at (place_along code past leg).at
  passed course past [] x = refl
  passed course past (r ∷ leg) x = (refl, subst (λ (n : ℕ). Leads leg past.at n) (sym (x.1).at) (passed course past leg x.0))

  reached : (course : Heading) (past : Place) (leg : List StepRow) → Reaches code course past leg → Leads leg past.at (place_along code past leg).at
  reached course past [] x = elim x [ ]
  reached course past (r ∷ leg) x = (refl, subst (λ (n : ℕ). Leads leg past.at n) (sym (x.1).at) (passed course past leg x.0))

  phases_lead : (s : Stand) (phases : List Phase) (leg : List StepRow) → PhaseLegs code s phases leg → Leads leg s.place.at (place_along code s.place leg).at
  phases_lead s [] leg x = subst (λ (l : List StepRow). Leads l s.place.at (place_along code s.place l).at) (sym x) refl
  phases_lead s (phase ∷ phases) leg (first, rest, is, x, xs) =
      let one = reached (heading_of s phase) s.place first x.reaches in
      let two = phases_lead (further code s first) phases rest xs in
      let both = leads_append rest first s.place.at (place_along code s.place first).at (place_along code (place_along code s.place first) rest).at one two in
      subst (λ (l : List StepRow). Leads l s.place.at (place_along code s.place l).at) (sym is) (subst (λ (p : Place). Leads (rest ++ first) s.place.at p.at) (sym (along-append code s.place rest first)) both)

  waiting_leads : (p : Packet) (met : Met) (leg : List StepRow) → begins p true ≡ false → WaitingLeg code p met leg → Leads leg met.place.at (place_along code met.place leg).at
  waiting_leads (Start branch privilege a time context) met leg h x = absurd (cc)
  waiting_leads (Address report) met leg h x = elim x [ ]
  waiting_leads (MapAddress count map report) met leg h x = elim x [ ]
  waiting_leads (Map map) met leg h x = elim x [ ]
  waiting_leads (Context privilege time context) met leg h x = subst (λ (l : List StepRow). Leads l met.place.at (place_along code met.place l).at) (sym x) refl
  waiting_leads (Support enabled status) met leg h x = subst (λ (l : List StepRow). Leads l met.place.at (place_along code met.place l).at) (sym x) refl

  pub leg_leads : (p : Packet) (waits : Bool) (met : Met) (leg : List StepRow) → begins p waits ≡ false → LegIn code p waits met leg → Leads leg met.place.at (place_along code met.place leg).at
  leg_leads p true met leg h x = waiting_leads p met leg h x
  leg_leads p false met leg h x = phases_lead (with_bits code p met) (phases_of p met.marked met.reported) leg x.legs

  -- A start packet while the trace runs leads to its address.
  far_flow : (flow : Flow) → jumps_far flow ≡ true → flow ≡ Far
  far_flow Plain h = absurd (cc)
  far_flow (Branch imm) h = absurd (cc)
  far_flow (Jump imm) h = absurd (cc)
  far_flow (Fixed to) h = absurd (cc)
  far_flow Far h = refl
  far_flow Call h = absurd (cc)
  far_flow Stop h = absurd (cc)

  position_is : (a b : ℕ) → position code a ≡ Ok b → a ≡ b
  position_is a b h = let x = bind_ok (look code a) (λ i. Ok a) b h in let e : Ok a ≡ Ok b = x.2 in cc

  by_far : (lead : Lead) (p : Place) (r : StepRow) (a : ℕ) → IsMove code lead p r → lead.target ≡ Some a → jumps_far (flow_of r.instr) ≡ true → r.next ≡ a
  by_far lead p r a m target far =
      let x = made code lead p r.next m.next in
      let here : look code p.at ≡ Ok r.instr = m.instr in
      let there : look code p.at ≡ Ok x.0 = x.1 in
      let same : x.0 ≡ r.instr = cc in
      let flow : flow_of x.0 ≡ Far = far_flow (flow_of x.0) (ap (λ (i : Instr). jumps_far (flow_of i)) same ∙ far) in
      let moved : successor lead.packet (site code p.at) Far (way_by (slice_get lead.bits p.branches) (Some a)) ≡ Ok x.2.0 =
      (λ i. successor lead.packet (site code p.at) (sym flow i) (way_by (slice_get lead.bits p.branches) (sym target i))) ∙ x.2.1 in
      let to : a ≡ x.2.0 = cc in
      let next : x.2.0 ≡ r.next = limited_is (nat_le lead.room (length p.rows)) x.2.0 x.2.2 in
      sym (to ∙ next)
    where
      limited_is : (b : Bool) (n : ℕ) → cond b (Err (TooLong lead.packet)) (position code n) ≡ Ok r.next → n ≡ r.next
      limited_is true n h = absurd (cc)
      limited_is false n h = position_is n r.next h

  start_reaches : (lead : Lead) (past : Place) (a : ℕ) (leg : List StepRow) → lead.target ≡ Some a → Reaches code (heading_by lead (aims.Start a)) past leg → (place_along code past leg).at ≡ a
  unfolding stops by_jump
  start_reaches lead past a [] target x = elim x [ ]
  start_reaches lead past a (r ∷ leg) target x = go (jumps_far (flow_of r.instr)) refl x.2 where
    go : (b : Bool) → jumps_far (flow_of r.instr) ≡ b → (b || ((r.next == a) && bits_fit code lead.bits (place_along code past (r ∷ leg)))) ≡ true → r.next ≡ a
    go true e h = by_far lead (place_along code past leg) r a x.1 target e
    go false e h = elim (eqb_tells r.next a) [
      | inl t ↦ t.1
      | inr t ↦ absurd (let k = ap (λ (c : Bool). c && bits_fit code lead.bits (place_along code past (r ∷ leg))) t.0 in cc)
    ]

  pub start_at : (p : Packet) (met : Met) (leg : List StepRow) → is_start p ≡ true → LegIn code p false met leg → (place_along code met.place leg).at ≡ address_of p
  start_at (Start branch privilege a time context) met leg s x =
      let l = x.legs in
      let alone : leg ≡ l.0 = l.2 ∙ ap (λ (rest : List StepRow). rest ++ l.0) l.4 in
      ap (λ (xs : List StepRow). (place_along code met.place xs).at) alone ∙ start_reaches (lead_of (with_bits code (Start branch privilege a time context) met) (record { target = Some a; aim = aims.Start a })) met.place a l.0 refl (l.3).reaches
  start_at (Context privilege time context) met leg s x = absurd (cc)
  start_at (Support enabled status) met leg s x = absurd (cc)
  start_at (Address report) met leg s x = absurd (cc)
  start_at (Map map) met leg s x = absurd (cc)
  start_at (MapAddress count map report) met leg s x = absurd (cc)
