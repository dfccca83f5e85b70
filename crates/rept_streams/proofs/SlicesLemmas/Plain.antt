-- The rows of a stretch are no calls.
use Rattle.std.proofs.Common.{◌≡◌, ℕ, zero, suc, ◌-◌, List, [], ◌∷◌, ◌++◌, take, drop, reverse, Bool, true, false, cond, Ok, refl, sym, ◌∙◌, ap, subst, append_assoc}
use Rattle.std.specs.Prelude.{slice_get}
use Rattle.std.specs.List.{flat_map}
use Rattle.std.proofs.lemmas.List.{reverse-append}
use Rattle.rept_isa.specs.declared.instr.Instr.{Instr}
use Rattle.rept_isa.specs.declared.instr.Instr.TheVariants as instrs
use Rattle.rept_isa.specs.declared.row.StepRow.{StepRow}
use Rattle.rept_isa.specs.Operands.{is_call}
use Rattle.rept_trace.specs.declared.packet.Packet.{Packet}
use Rattle.rept_trace.specs.declared.packet.Packet.TheVariants.{Start, Context, Support, Address, Map, MapAddress}
use Rattle.rept_path.specs.declared.aim.Aim.{Aim}
use Rattle.rept_path.specs.Code.{Code, look, flow_of}
use Rattle.rept_path.specs.Packets.{begins, waiting, waits_after}
use Rattle.rept_path.specs.Moves.{Lead, Place, WayOn, way_by, Stand, place_along, Site, site, successor, IsMove, heading_by}
use Rattle.rept_path.specs.Legs.{LegPasses, Reaches}
use Rattle.rept_path.specs.Route.{Phase, lead_of, further, with_bits, phases_of, PhaseLegs, Met, met_by, WaitingLeg, FirstLeg, Origin, Route}
use Rattle.rept_path.proofs.MoveLemmas.{made}
use Rattle.rept_path.proofs.Waiting.{LegIn}
use Rattle.rept_streams.specs.Slices.Stamps.{is_start}
use Rattle.rept_streams.specs.Slices.Parts.{ToldSlice, inner}
use Rattle.rept_streams.specs.Slices.Stretches.{same_stretch, stretch, StretchLegs, origin_after, Goes, rows_of}
use Rattle.rept_streams.proofs.SlicesLemmas.InTime.{Each}
use Rattle.rept_streams.proofs.SlicesLemmas.Calm.{each_append}

abbrev pub IsPlain : StepRow → Type 0
IsPlain row = is_call row.instr ≡ false

-- an instruction with a successor is no call
pub has_successor : (k : ℕ) (p : Site) (a : ℕ) (i : Instr) (way : WayOn) → successor k p (flow_of i) way ≡ Ok a → is_call i ≡ false
has_successor k p a (instrs.Lui rd imm) way h = refl
has_successor k p a (instrs.Auipc rd imm) way h = refl
has_successor k p a (instrs.Jal rd imm) way h = refl
has_successor k p a (instrs.Jalr rd rs1 imm) way h = refl
has_successor k p a (instrs.Branch op rs1 rs2 imm) way h = refl
has_successor k p a (instrs.Load op rd rs1 imm) way h = refl
has_successor k p a (instrs.Store op rs1 rs2 imm) way h = refl
has_successor k p a (instrs.Imm op rd rs1 imm) way h = refl
has_successor k p a (instrs.Op op rd rs1 rs2) way h = refl
has_successor k p a (instrs.Amo op rd rs1 rs2) way h = refl
has_successor k p a instrs.Fence way h = refl
has_successor k p a instrs.Ecall way h = absurd (cc)
has_successor k p a instrs.Ebreak way h = refl
has_successor k p a (instrs.Counter rd csr) way h = refl

-- Newest first, no packet but the first one begins a stretch.
abbrev OneStretch : List Packet → Type 0
OneStretch [] = Unit {0}
OneStretch (p ∷ []) = Unit {0}
OneStretch (p ∷ (last ∷ earlier)) = (begins p (waiting (last ∷ earlier)) ≡ false) × OneStretch (last ∷ earlier)

one_more : (p : Packet) (done : List Packet) → begins p (waiting done) ≡ false → OneStretch done → OneStretch (p ∷ done)
one_more p [] h o = tt
one_more p (last ∷ earlier) h o = (h, o)

stretch_on : (later done : List Packet) → OneStretch done → OneStretch (reverse (same_stretch (waiting done) later) ++ done)
unfolding waiting
stretch_on [] done o = o
stretch_on (p ∷ later) done o = go (begins p (waiting done)) refl (λ is. stretch_on later (p ∷ done) (one_more p done is o)) where
  rest : List Packet
  rest = same_stretch (waits_after p (waiting done)) later

  go : (b : Bool) → begins p (waiting done) ≡ b → (begins p (waiting done) ≡ false → OneStretch (reverse rest ++ p ∷ done)) → OneStretch (reverse (cond b [] (p ∷ rest)) ++ done)
  go true is more = o
  go false is more =
      let e : reverse (p ∷ rest) ++ done ≡ reverse rest ++ p ∷ done = ap (λ (xs : List Packet). xs ++ done) (reverse-append (p ∷ []) rest) ∙ append_assoc (reverse rest) (p ∷ []) done in
      subst OneStretch (sym e) (more is)

pub starts_run : (p : Packet) → is_start p ≡ true → waits_after p true ≡ false
starts_run (Start branch privilege a time context) h = refl
starts_run (Address report) h = absurd (cc)
starts_run (MapAddress count map report) h = absurd (cc)
starts_run (Map map) h = absurd (cc)
starts_run (Context privilege time context) h = absurd (cc)
starts_run (Support enabled status) h = absurd (cc)

one_stretch : (t : ToldSlice) → is_start t.start ≡ true → OneStretch (reverse (stretch t))
unfolding waiting
one_stretch t h =
    let runs : waiting (t.start ∷ []) ≡ false = starts_run t.start h in
    let o = stretch_on t.later (t.start ∷ []) tt in
    let e : reverse (stretch t) ≡ reverse (same_stretch (waiting (t.start ∷ [])) t.later) ++ t.start ∷ [] = reverse-append (t.start ∷ []) (same_stretch false t.later) ∙ ap (λ (b : Bool). reverse (same_stretch b t.later) ++ t.start ∷ []) (sym runs) in
    subst OneStretch (sym e) o

module _ (code : Code) where
  of_move : (lead : Lead) (p : Place) (r : StepRow) → IsMove code lead p r → IsPlain r
  of_move lead p r m =
      let x = made code lead p r.next m.next in
      let there : look code p.at ≡ Ok x.0 = x.1 in
      let here : look code p.at ≡ Ok r.instr = m.instr in
      let same : x.0 ≡ r.instr = cc in
      subst (λ (i : Instr). is_call i ≡ false) same (has_successor lead.packet (site code p.at) x.2.0 x.0 (way_by (slice_get lead.bits p.branches) lead.target) x.2.1)

  passed : (lead : Lead) (aim : Aim) (past : Place) (leg : List StepRow) → LegPasses code (heading_by lead aim) past leg → Each IsPlain leg
  passed lead aim past [] x = tt
  passed lead aim past (r ∷ leg) x = (of_move lead (place_along code past leg) r x.1, passed lead aim past leg x.0)

  reached : (lead : Lead) (aim : Aim) (past : Place) (leg : List StepRow) → Reaches code (heading_by lead aim) past leg → Each IsPlain leg
  reached lead aim past [] x = elim x [ ]
  reached lead aim past (r ∷ leg) x = (of_move lead (place_along code past leg) r x.1, passed lead aim past leg x.0)

  of_phases : (s : Stand) (phases : List Phase) (leg : List StepRow) → PhaseLegs code s phases leg → Each IsPlain leg
  of_phases s [] leg x = subst (Each IsPlain) (sym x) tt
  of_phases s (phase ∷ phases) leg (first, rest, is, x, xs) =
      subst (Each IsPlain) (sym is) (each_append IsPlain rest first (of_phases (further code s first) phases rest xs) (reached (lead_of s phase) phase.aim s.place first x.reaches))

  of_first : (packet : Packet) (leg : List StepRow) → FirstLeg code packet leg → Each IsPlain leg
  of_first (Start branch privilege a time context) leg x = subst (Each IsPlain) (sym x.1) tt
  of_first (Address report) leg x = elim x [ ]
  of_first (MapAddress count map report) leg x = elim x [ ]
  of_first (Map map) leg x = elim x [ ]
  of_first (Context privilege time context) leg x = elim x [ ]
  of_first (Support enabled status) leg x = elim x [ ]

  of_waiting : (packet : Packet) (met : Met) (leg : List StepRow) → begins packet true ≡ false → WaitingLeg code packet met leg → Each IsPlain leg
  of_waiting (Start branch privilege a time context) met leg h x = absurd (cc)
  of_waiting (Address report) met leg h x = elim x [ ]
  of_waiting (MapAddress count map report) met leg h x = elim x [ ]
  of_waiting (Map map) met leg h x = elim x [ ]
  of_waiting (Context privilege time context) met leg h x = subst (Each IsPlain) (sym x) tt
  of_waiting (Support enabled status) met leg h x = subst (Each IsPlain) (sym x) tt

  of_packet : (packet : Packet) (waits : Bool) (met : Met) (leg : List StepRow) → begins packet waits ≡ false → LegIn code packet waits met leg → Each IsPlain leg
  of_packet packet true met leg h x = of_waiting packet met leg h x
  of_packet packet false met leg h x = of_phases (with_bits code packet met) (phases_of packet met.marked met.reported) leg x.legs

  -- each leg of a stretch
  of_route : (origin : Origin) (packets : List Packet) (legs : List (List StepRow)) → OneStretch packets → Route code origin packets legs → Each (Each IsPlain) legs
  of_route origin [] [] o x = tt
  of_route origin [] (leg ∷ legs) o x = elim x [ ]
  of_route origin (packet ∷ earlier) [] o x = elim x [ ]
  of_route origin (packet ∷ []) (leg ∷ legs) o x = (of_first packet leg x.0, of_route origin [] legs tt x.1)
  of_route origin (packet ∷ (last ∷ earlier)) (leg ∷ legs) o x =
      (of_packet packet (waiting (last ∷ earlier)) (met_by code origin (last ∷ earlier) legs) leg o.0 x.0, of_route origin (last ∷ earlier) legs o.1 x.1)

each_reverse : {A : Type 0} (P : A → Type 0) (xs : List A) → Each P xs → Each P (reverse xs)
each_reverse P [] h = tt
each_reverse P (x ∷ xs) h = subst (Each P) (sym (reverse-append (x ∷ []) xs)) (each_append P (reverse xs) (x ∷ []) (each_reverse P xs h.1) (h.0, tt))

each_drop : {A : Type 0} (P : A → Type 0) (n : ℕ) (xs : List A) → Each P xs → Each P (drop n xs)
each_drop P zero xs h = h
each_drop P (suc n) [] h = tt
each_drop P (suc n) (x ∷ xs) h = each_drop P n xs h.1

each_take : {A : Type 0} (P : A → Type 0) (n : ℕ) (xs : List A) → Each P xs → Each P (take n xs)
each_take P zero xs h = tt
each_take P (suc n) [] h = tt
each_take P (suc n) (x ∷ xs) h = (h.0, each_take P n xs h.1)

all_plain : (legs : List (List StepRow)) → Each (Each IsPlain) legs → Each IsPlain (flat_map reverse legs)
all_plain [] h = tt
all_plain (leg ∷ legs) h = each_append IsPlain (reverse leg) (flat_map reverse legs) (each_reverse IsPlain leg h.0) (all_plain legs h.1)

-- The rows of a slice that was walked are no calls.
pub rows_plain : (code : Code) (count : ℕ) (w : StretchLegs) (t : ToldSlice) → is_start w.head.start ≡ true → Goes code count w → Each IsPlain (rows_of w t)
rows_plain code count w t starts goes =
    let legs = of_route code (origin_after count w.head) (reverse (stretch w.head)) w.legs (one_stretch w.head starts) goes in
    let oldest = reverse w.legs in
    let from = suc (t.number - w.head.number) in
    all_plain (take (suc (inner t)) (drop from oldest)) (each_take (Each IsPlain) (suc (inner t)) (drop from oldest) (each_drop (Each IsPlain) from oldest (each_reverse (Each IsPlain) w.legs legs)))
