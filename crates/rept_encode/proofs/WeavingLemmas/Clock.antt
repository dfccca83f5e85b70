-- Times and contexts don't matter to a walk, nor does what follows the end of a trace.
use Rattle.std.proofs.Common.{◌≡◌, ℕ, suc, ◌<◌, List, [], ◌∷◌, ◌++◌, length, reverse, Bool, true, false, refl, sym, ◌∙◌, ap, subst, arith}
use Rattle.std.proofs.lemmas.List.{append-nil, reverse-append}
use Rattle.rept_isa.specs.declared.row.StepRow.{StepRow}
use Rattle.rept_trace.specs.declared.packet.Packet.{Packet}
use Rattle.rept_trace.specs.declared.packet.Packet.TheVariants.{Start, Context, Support, Address, Map, MapAddress}
use Rattle.rept_trace.specs.declared.packet.Qual.TheVariants.{NoChange, EndedRep, TraceLost, EndedNtr}
use Rattle.rept_path.specs.Code.{Code}
use Rattle.rept_path.specs.Packets.{waits_after, waiting, bits, reported}
use Rattle.rept_path.specs.Moves.{Place}
use Rattle.rept_path.specs.Route.{Origin, alone, Route, Leg, LegBy, Met, met_by, earlier_by, place, marked}
use Rattle.rept_encode.specs.Encoded.{IsReporting, AreReporting, LeadsOver}
use Rattle.rept_encode.proofs.Coding.{leg_after}
use Rattle.rept_encode.proofs.Sending.{reports_on}

-- A start packet as the first of many, newest first, and the same of another time and context.
module _ (code : Code) (origin : Origin) (branch : Bool) (privilege a time context later other : ℕ) where
  abbrev one : Packet
  one = Start branch privilege a time context

  abbrev two : Packet
  two = Start branch privilege a later other

  same_length : (ps : List Packet) → length (ps ++ one ∷ []) ≡ length (ps ++ two ∷ [])
  same_length [] = refl
  same_length (q ∷ ps) = ap (λ (n : ℕ). suc n) (same_length ps)

  same_waiting : (ps : List Packet) → waiting (ps ++ one ∷ []) ≡ waiting (ps ++ two ∷ [])
  unfolding waiting
  same_waiting [] = refl
  same_waiting (q ∷ ps) = ap (waits_after q) (same_waiting ps)

  pub same_bits : (ps : List Packet) → bits code (ps ++ one ∷ []) ≡ bits code (ps ++ two ∷ [])
  unfolding bits waiting
  same_bits [] = refl
  same_bits (q ∷ ps) = let w = same_waiting ps in let b = same_bits ps in rw (w, b) refl

  same_reported : (ps : List Packet) → reported (ps ++ one ∷ []) ≡ reported (ps ++ two ∷ [])
  unfolding reported
  same_reported [] = refl
  same_reported (q ∷ ps) = let r = same_reported ps in rw r refl

  pub same_place : (ps : List Packet) (legs : List (List StepRow)) → place code (ps ++ one ∷ []) legs ≡ place code (ps ++ two ∷ []) legs
  unfolding place waiting
  same_place [] [] = refl
  same_place [] (leg ∷ legs) = refl
  same_place (q ∷ ps) [] = refl
  same_place (q ∷ ps) (leg ∷ legs) = let w = same_waiting ps in let p = same_place ps legs in rw (w, p) refl

  same_marked : (ps : List Packet) (legs : List (List StepRow)) → marked code (ps ++ one ∷ []) legs ≡ marked code (ps ++ two ∷ []) legs
  unfolding marked
  same_marked [] [] = refl
  same_marked [] (leg ∷ legs) = refl
  same_marked (q ∷ ps) [] = refl
  same_marked (q ∷ ps) (leg ∷ legs) =
      let m = same_marked ps legs in
      let b = same_bits (q ∷ ps) in
      let r = same_reported (q ∷ ps) in
      let p = same_place (q ∷ ps) (leg ∷ legs) in
      rw (m, b, r, p) refl

  same_met : (ps : List Packet) (legs : List (List StepRow)) → met_by code origin (ps ++ one ∷ []) legs ≡ met_by code origin (ps ++ two ∷ []) legs
  same_met ps legs =
      let n = same_length ps in
      let b = same_bits ps in
      let r = same_reported ps in
      let m = same_marked ps legs in
      let w = same_waiting ps in
      let p = same_place ps legs in
      rw (n, b, r, m, w, p) refl

  leg_same : (q : Packet) (ps : List Packet) (legs : List (List StepRow)) (leg : List StepRow) → Leg code q (earlier_by origin (ps ++ one ∷ []) legs) leg → Leg code q (earlier_by origin (ps ++ two ∷ []) legs) leg
  leg_same q [] legs leg h = subst (λ (m : Met). LegBy code q m leg) (same_met [] legs) h
  leg_same q (r ∷ ps) legs leg h = subst (λ (m : Met). LegBy code q m leg) (same_met (r ∷ ps) legs) h

  pub route_same : (ps : List Packet) (legs : List (List StepRow)) → Route code origin (ps ++ one ∷ []) legs → Route code origin (ps ++ two ∷ []) legs
  route_same [] [] h = h
  route_same [] (leg ∷ legs) h = h
  route_same (q ∷ ps) [] h = h
  route_same (q ∷ ps) (leg ∷ legs) h = (leg_same q ps legs leg h.0, route_same ps legs h.1)

report_waits : (q : Packet) (b : Bool) → IsReporting q → waits_after q b ≡ b
report_waits (Start branch privilege a time context) b h = absurd h
report_waits (Context privilege time context) b h = absurd h
report_waits (Support enabled NoChange) b h = absurd h
report_waits (Support enabled EndedRep) b h = absurd h
report_waits (Support enabled TraceLost) b h = absurd h
report_waits (Support enabled EndedNtr) b h = absurd h
report_waits (Address report) b h = refl
report_waits (Map map) b h = refl
report_waits (MapAddress count map report) b h = refl

some_there : (qs : List Packet) (p : Packet) → 0 < length (qs ++ p ∷ [])
some_there [] p = omega arith
some_there (q ∷ qs) p = omega arith

-- After a start packet and reports the trace runs.
runs : (ps : List Packet) (branch : Bool) (privilege a time context : ℕ) → AreReporting ps → waiting (ps ++ Start branch privilege a time context ∷ []) ≡ false
unfolding waiting
runs [] branch privilege a time context h = refl
runs (q ∷ ps) branch privilege a time context h = report_waits q (waiting (ps ++ Start branch privilege a time context ∷ [])) h.0 ∙ runs ps branch privilege a time context h.1

pub reverse_cons : (p : Packet) (ps : List Packet) → reverse (p ∷ ps) ≡ reverse ps ++ p ∷ []
reverse_cons p ps = reverse-append (p ∷ []) ps

reports_back : (ps : List Packet) → AreReporting ps → AreReporting (reverse ps)
reports_back [] h = tt
reports_back (p ∷ ps) h = let e = reverse_cons p ps in rw e (reports_on (reverse ps) p (reports_back ps h.1) h.0)

-- packets after which a trace has ended, and a context packet of any time
module _ (code : Code) (e : List Packet) (legs : List (List StepRow)) (time context : ℕ) (some : 0 < length e) (running : waiting e ≡ false) where
  abbrev closed : List Packet
  closed = Context 0 time context ∷ Support false EndedRep ∷ e

  abbrev closed_legs : List (List StepRow)
  closed_legs = [] ∷ [] ∷ legs

  closed_waits : waiting (Support false EndedRep ∷ e) ≡ true
  unfolding waiting
  closed_waits = refl

  pub closed_route : Route code (alone 0) e legs → Route code (alone 0) closed closed_legs
  closed_route h =
      (leg_after code (Context 0 time context) (Support false EndedRep ∷ e) ([] ∷ legs) [] true (omega arith) closed_waits refl, (leg_after code (Support false EndedRep) e legs [] false some running (record { admitted = (0, refl); legs = refl }), h))

  pub closed_place : place code closed closed_legs ≡ place code e legs
  unfolding place
  closed_place = refl

  pub closed_bits : bits code closed ≡ bits code e
  unfolding bits
  closed_bits = append-nil _ ∙ append-nil _

-- The packets of a stretch lead over its last row whatever their times are.
pub leads_stamped : (code : Code) (ps : List Packet) (branch : Bool) (a time context until : ℕ) (rows : List StepRow) → AreReporting ps → LeadsOver code (reverse (Start branch 0 a 0 0 ∷ ps)) rows → LeadsOver code (reverse (Start branch 0 a time context ∷ (ps ++ Support false EndedRep ∷ Context 0 until context ∷ []))) rows
leads_stamped code ps branch a time context until rows told h =
    let plain : Packet = Start branch 0 a 0 0 in
    let start : Packet = Start branch 0 a time context in
    let from : reverse (Start branch 0 a 0 0 ∷ ps) ≡ reverse ps ++ Start branch 0 a 0 0 ∷ [] = reverse_cons (Start branch 0 a 0 0) ps in
    let tail : reverse (Start branch 0 a time context ∷ (ps ++ Support false EndedRep ∷ Context 0 until context ∷ [])) ≡ Context 0 until context ∷ Support false EndedRep ∷ (reverse ps ++ Start branch 0 a time context ∷ []) = reverse-append (Start branch 0 a time context ∷ ps) (Support false EndedRep ∷ Context 0 until context ∷ []) ∙ ap (λ (xs : List Packet). Context 0 until context ∷ Support false EndedRep ∷ xs) (reverse_cons (Start branch 0 a time context) ps) in
    subst (λ (xs : List Packet). LeadsOver code xs rows) (sym tail) (go (reverse ps) (reports_back ps told) (subst (λ (xs : List Packet). LeadsOver code xs rows) from h))
  where
    go : (qs : List Packet) → AreReporting qs → LeadsOver code (qs ++ Start branch 0 a 0 0 ∷ []) rows → LeadsOver code (Context 0 until context ∷ Support false EndedRep ∷ (qs ++ Start branch 0 a time context ∷ [])) rows
    go qs all l =
        let e : List Packet = qs ++ Start branch 0 a time context ∷ [] in
        let running : waiting (qs ++ Start branch 0 a time context ∷ []) ≡ false = runs qs branch 0 a time context all in
        let some : 0 < length (qs ++ Start branch 0 a time context ∷ []) = some_there qs (Start branch 0 a time context) in
        let there : place code (Context 0 until context ∷ Support false EndedRep ∷ (qs ++ Start branch 0 a time context ∷ [])) ([] ∷ [] ∷ l.legs) ≡ place code (qs ++ Start branch 0 a 0 0 ∷ []) l.legs = closed_place code (qs ++ Start branch 0 a time context ∷ []) l.legs until context some running ∙ sym (same_place code (alone 0) branch 0 a 0 0 time context qs l.legs) in
        let all_bits : bits code (Context 0 until context ∷ Support false EndedRep ∷ (qs ++ Start branch 0 a time context ∷ [])) ≡ bits code (qs ++ Start branch 0 a 0 0 ∷ []) = closed_bits code (qs ++ Start branch 0 a time context ∷ []) l.legs until context some running ∙ sym (same_bits code (alone 0) branch 0 a 0 0 time context qs) in
        record {
          legs = [] ∷ [] ∷ l.legs;
          route = closed_route code (qs ++ Start branch 0 a time context ∷ []) l.legs until context some running (route_same code (alone 0) branch 0 a 0 0 time context qs l.legs l.route);
          last = l.last;
          all = rw there l.all;
          cross = λ s otherwise bits_are at branches room. l.cross s otherwise (bits_are ∙ all_bits) (at ∙ ap (λ (p : Place). p.at) there) (branches ∙ ap (λ (p : Place). p.branches) there) room;
        }
