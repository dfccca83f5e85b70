-- Walks over one packet more.
use Rattle.std.proofs.Common.{◌≡◌, ℕ, ◌+◌, ◌<◌, ◌≤◌, List, [], ◌∷◌, ◌++◌, length, reverse, Bool, false, Option, Some, None, Ok, Err, refl, sym, ◌∙◌, ap, subst, append_assoc, length-append, arith, ◌⊎◌, inl, inr}
use Rattle.std.specs.Prelude.{IfSome, IfNone}
use Rattle.std.proofs.lemmas.List.{reverse-append, reverse-reverse, length-reverse, append-nil}
use Rattle.rept_trace.specs.declared.fault.TraceFault.{TraceFault}
use Rattle.rept_trace.specs.Stream.{Stream, Hold, AnswersNext}
use Rattle.rept_trace.proofs.Frames.{one_answer, one_packet}
use Rattle.rept_trace.proofs.Going.{not_both}
use Rattle.rept_path.proofs.Followed.{same_position}
use Rattle.rept_path.specs.Code.{Code}
use Rattle.rept_path.specs.declared.fault.PathFault.{PathFault}
use Rattle.rept_path.specs.declared.fault.PathFault.TheVariants.{OutOfMemory}
use Rattle.rept_isa.specs.declared.row.StepRow.{StepRow}
use Rattle.rept_trace.specs.declared.packet.Packet.{Packet}
use Rattle.rept_trace.specs.declared.packet.Packet.TheVariants.{Start}
use Rattle.rept_path.specs.declared.walk.Walk.{Walk}
use Rattle.rept_path.specs.Packets.{bits, bits_of, reported, reported_after, waiting, waits_after}
use Rattle.rept_path.specs.Moves.{position}
use Rattle.rept_path.specs.Route.{Met, Leg, LegBy, Fault, FaultBy, FirstFault, met_by, marked, place, Origin, earlier_by}
use Rattle.rept_path.specs.State.{here, met, Followed, Stands, from_to}
use Rattle.rept_path.specs.Trace.{StopsAt}

-- a walk that stands at the address of a start packet
pub begun : (code : Code) (origin : Origin) (branch : Bool) (privilege a time context at : ℕ) (w : Walk) → position code a ≡ Ok at → w.at ≡ a → w.steps ≡ [] → w.bits.items ≡ bits_of code (Start branch privilege a time context) → length w.bits.items ≤ 1 → w.used ≡ 0 → w.reported ≡ a → w.inferred ≡ false → w.waiting ≡ false → w.room ≡ origin.room
    → Stands code (earlier_by origin (Start branch privilege a time context ∷ []) ([] ∷ [])) w
unfolding bits reported marked waiting place
begun code origin branch privilege a time context at w admitted stands none all size used report plain runs room =
    let same = same_position code a at admitted in
    record {
      route = ((rw same at admitted, refl), tt);
      seen = (let e : reverse w.steps ≡ [] = ap reverse none in cc);
      counts = record { enough = rw used (omega arith); few = rw none (omega arith); spare = rw used (omega arith); linked = rw none tt };
      bits = all;
      reported = report;
      waiting = runs;
      marked = plain;
      rests = rw used size;
      room = room;
    }

-- a packet that is not the first has its leg
pub leg_after : (code : Code) (origin : Origin) (packet : Packet) (earlier : List Packet) (legs : List (List StepRow)) (leg : List StepRow) → 0 < length earlier → LegBy code packet (met_by code origin earlier legs) leg → Leg code packet (record { origin = origin; packets = earlier; legs = legs }) leg
leg_after code origin packet [] legs leg some h = absurd (omega arith)
leg_after code origin packet (last ∷ earlier) legs leg some h = h

fault_after : (code : Code) (origin : Origin) (packet : Packet) (earlier : List Packet) (legs : List (List StepRow)) (e : PathFault) → 0 < length earlier → FaultBy code packet (met_by code origin earlier legs) e → Fault code packet (record { origin = origin; packets = earlier; legs = legs }) e
fault_after code origin packet [] legs e some h = absurd (omega arith)
fault_after code origin packet (last ∷ earlier) legs e some h = h

module _ (code : Code) (origin : Origin) (k : ℕ) (packet : Packet) (earlier : List Packet) (legs : List (List StepRow)) (old : Walk) (some : 0 < length earlier) (number : k ≡ origin.number + length earlier) (s : Stands code (earlier_by origin earlier legs) old) where
  same_met : met k old ≡ met_by code origin earlier legs
  same_met = let a = s.seen in let b = s.bits in let c = s.reported in let d = s.marked in let w = s.waiting in let r = s.room in cc

  pub stands_on : (new : Walk) → (f : Followed code packet (from_to k old new)) → Stands code (earlier_by origin (packet ∷ earlier) (f.leg ∷ legs)) new
  unfolding bits reported marked waiting place
  stands_on new f =
      let all : new.bits.items ≡ bits code (packet ∷ earlier) = rw (← s.bits, ← s.waiting) f.bits in
      let report : new.reported ≡ reported (packet ∷ earlier) = f.reported ∙ ap (λ (r : ℕ). reported_after packet r) s.reported in
      let seen : here new ≡ place code (packet ∷ earlier) (f.leg ∷ legs) = rw (← s.seen, ← s.waiting) f.seen in
      let leg : LegBy code packet (met_by code origin earlier legs) f.leg = subst (λ (m : Met). LegBy code packet m f.leg) same_met f.goes in
      record {
        route = (leg_after code origin packet earlier legs f.leg some leg, s.route);
        seen = seen;
        counts = f.counts;
        bits = all;
        reported = report;
        waiting = f.waiting ∙ ap (λ (b : Bool). waits_after packet b) s.waiting;
        marked = rw (← s.marked, ← all, ← report, ← seen) f.marked;
        rests = f.rests;
        room = f.room ∙ s.room;
      }

  pub faults : (e : PathFault) → FaultBy code packet (met k old) e → Fault code packet (record { origin = origin; packets = earlier; legs = legs }) e
  faults e f = fault_after code origin packet earlier legs e some (subst (λ (m : Met). FaultBy code packet m e) same_met f)

-- A walk over the packets of a window: those that it went over, newest first, and those that the
-- bytes still hold.
pub record Going (code : Code) (origin : Origin) (window : List Packet) (number : ℕ) (rest : Stream) (w : Walk) : Type 0 where
  pub done : List Packet
  pub more : List Packet
  pub legs : List (List StepRow)
  pub hold : Hold rest more
  pub whole : window ≡ reverse done ++ more
  pub stands : Stands code (earlier_by origin done legs) w
  pub numbered : number ≡ origin.number + length done
  pub some : 0 < length done

pub goes_first : (code : Code) (origin : Origin) (first : Packet) (later : List Packet) (rest : Stream) (w : Walk) (legs : List (List StepRow)) → Hold rest later → Stands code (earlier_by origin (first ∷ []) legs) w → Going code origin (first ∷ later) (origin.number + 1) rest w
goes_first code origin first later rest w legs h s = record { done = first ∷ []; more = later; legs = legs; hold = h; whole = refl; stands = s; numbered = refl; some = omega arith }

-- what is left begins with the packet that is read
pub taken : (k n : ℕ) (rest after : Stream) (packet : Packet) (more : List Packet) → Hold rest more → AnswersNext k rest (Ok (Some packet)) n after → (later : List Packet) × (more ≡ packet ∷ later) × Hold after later
taken k n rest after packet [] h a = let o = one_answer k rest (Ok None) (Ok (Some packet)) k n rest after (h, refl, refl) a in absurd (let e = o.0 in cc)
taken k n rest after packet (p ∷ more) h a =
    let o = one_packet rest p packet h.0 after h.1 a.0 in
    (more, ap (λ (q : Packet). q ∷ more) o.0, subst (λ (l : Stream). Hold l more) o.1 h.2)

pub none_left : (k n : ℕ) (rest after : Stream) (more : List Packet) → Hold rest more → AnswersNext k rest (Ok None) n after → more ≡ []
none_left k n rest after [] h a = refl
none_left k n rest after (p ∷ more) h a = let o = one_answer k rest (Ok (Some p)) (Ok None) (k + 1) n h.0 after (h.1, refl) a in absurd (let e = o.0 in cc)

pub no_fault : (k n : ℕ) (rest after : Stream) (more : List Packet) (fault : TraceFault) → Hold rest more → AnswersNext k rest (Err fault) n after → ⊥
no_fault k n rest after more fault h a = not_both k rest more [] fault h a.0

pub some_of : (k n : ℕ) (rest after : Stream) (next : Option Packet) → AnswersNext k rest (Ok next) n after → IfSome next (λ packet. AnswersNext k rest (Ok (Some packet)) n after)
some_of k n rest after None a = tt
some_of k n rest after (Some packet) a = a

pub none_of : (k n : ℕ) (rest after : Stream) (next : Option Packet) → AnswersNext k rest (Ok next) n after → IfNone next (AnswersNext k rest (Ok None) n after)
none_of k n rest after None a = a
none_of k n rest after (Some packet) a = tt

module _ (code : Code) (origin : Origin) (window : List Packet) (number : ℕ) (rest : Stream) (w : Walk) (g : Going code origin window number rest w) where
  pub goes_on : (k n : ℕ) (after : Stream) (packet : Packet) (new : Walk) → AnswersNext k rest (Ok (Some packet)) n after → Followed code packet (from_to number w new) → Going code origin window (number + 1) after new
  goes_on k n after packet new a f =
      let t = taken k n rest after packet g.more g.hold a in
      let numbered = g.numbered in
      record {
        done = packet ∷ g.done;
        more = t.0;
        legs = f.leg ∷ g.legs;
        hold = t.2;
        whole = g.whole ∙ ap (λ (xs : List Packet). reverse g.done ++ xs) t.1 ∙ sym (append_assoc (reverse g.done) (packet ∷ []) t.0) ∙ ap (λ (xs : List Packet). xs ++ t.0) (sym (reverse-append (packet ∷ []) g.done));
        stands = stands_on code origin number packet g.done g.legs w g.some g.numbered g.stands new f;
        numbered = omega (arith, numbered);
        some = omega arith;
      }

  pub stops_or : (k n : ℕ) (after : Stream) (packet : Packet) (e : PathFault) → AnswersNext k rest (Ok (Some packet)) n after → (e ≡ OutOfMemory) ⊎ FaultBy code packet (met number w) e → (e ≡ OutOfMemory) ⊎ StopsAt code origin window e
  stops_or k n after packet e a h =
      let t = taken k n rest after packet g.more g.hold a in
      elim h [
        | inl m ↦ inl m
        | inr f ↦ inr (record {
          earlier = g.done;
          packet = packet;
          later = t.0;
          cut = g.whole ∙ ap (λ (xs : List Packet). reverse g.done ++ xs) t.1;
          legs = g.legs;
          route = g.stands.route;
          fault = faults code origin number packet g.done g.legs w g.some g.numbered g.stands e f;
        })
      ]

  pub room : (k n : ℕ) (after : Stream) (packet : Packet) → AnswersNext k rest (Ok (Some packet)) n after → number + 1 ≤ origin.number + length window
  room k n after packet a =
      let t = taken k n rest after packet g.more g.hold a in
      let numbered = g.numbered in
      let whole = ap (length {A = Packet}) g.whole in
      let more = ap (length {A = Packet}) t.1 in
      omega (arith, numbered, whole, more, length-append (reverse g.done) g.more, length-reverse g.done)

  pub arrives : g.more ≡ [] → (legs : List (List StepRow)) × Stands code (earlier_by origin (reverse window) legs) w
  arrives none =
      let e : reverse window ≡ g.done = ap reverse (g.whole ∙ ap (λ (xs : List Packet). reverse g.done ++ xs) none ∙ append-nil (reverse g.done)) ∙ reverse-reverse g.done in
      (g.legs, subst (λ (xs : List Packet). Stands code (earlier_by origin xs g.legs) w) (sym e) g.stands)

-- the first packet
pub first_or : (code : Code) (origin : Origin) (first : Packet) (later : List Packet) (e : PathFault) → (e ≡ OutOfMemory) ⊎ FirstFault code first e → (e ≡ OutOfMemory) ⊎ StopsAt code origin (first ∷ later) e
first_or code origin first later e h = elim h [
  | inl m ↦ inl m
  | inr f ↦ inr (record { earlier = []; packet = first; later = later; cut = refl; legs = []; route = tt; fault = f })
]
