-- A walk over the packets of a stretch.
use Rattle.std.proofs.Common.{◌≡◌, ◌⊎◌, inl, inr, ℕ, ◌+◌, ◌<◌, ◌≤◌, List, [], ◌∷◌, ◌++◌, length, reverse, Bool, true, false, cond, Some, Ok, refl, sym, ◌∙◌, ap, subst, append_assoc, arith, drop, if◌then◌else◌}
use Rattle.std.proofs.lemmas.List.{reverse-append, reverse-reverse, append-nil, length-reverse}
use Rattle.rept_isa.specs.declared.row.StepRow.{StepRow}
use Rattle.rept_trace.specs.declared.packet.Packet.{Packet}
use Rattle.rept_trace.specs.Stream.{Stream, Hold, AnswersNext}
use Rattle.rept_path.specs.Code.{Code}
use Rattle.rept_path.specs.declared.fault.PathFault.{PathFault}
use Rattle.rept_path.specs.declared.fault.PathFault.TheVariants.{OutOfMemory}
use Rattle.rept_path.specs.declared.walk.Walk.{Walk}
use Rattle.rept_path.specs.Packets.{begins, waiting, waits_after}
use Rattle.rept_path.specs.Moves.{Place}
use Rattle.rept_path.specs.Route.{Origin, FaultBy, FirstFault, earlier_by, place}
use Rattle.rept_path.specs.State.{met, Followed, Stands, from_to}
use Rattle.rept_path.specs.Trace.{StopsAt}
use Rattle.rept_path.proofs.Packeting.{taken, stands_on, faults}
use Rattle.rept_streams.specs.Slices.Stamps.{is_start}
use Rattle.rept_streams.specs.Slices.Stretches.{same_stretch, marks}
use Rattle.rept_streams.proofs.SlicesLemmas.Plain.{starts_run}

-- what is left to read of a stream
abbrev pub Bytes : Type 0
Bytes = Stream

-- a stretch: its first packet, and those after it in its stream
pub record Head : Type 0 where
  pub first : Packet
  pub later : List Packet

abbrev pub packets_of : Head → List Packet
packets_of h = h.first ∷ same_stretch false h.later

-- The packets that were gone over, newest first, and those that the stream still holds.
pub record Going (code : Code) (origin : Origin) (head : Head) (number : ℕ) (rest : Bytes) (w : Walk) (counts : List ℕ) : Type 0 where
  pub done : List Packet
  pub more : List Packet
  pub legs : List (List StepRow)
  pub hold : Hold rest more
  pub whole : packets_of head ≡ reverse done ++ same_stretch (waiting done) more
  pub stands : Stands code (earlier_by origin done legs) w
  pub numbered : number ≡ origin.number + length done
  pub some : 0 < length done
  pub counted : length done + length more ≡ 1 + length head.later
  pub marked : counts ≡ marks code done legs

-- a walk has the rows of its place
rows_there : (code : Code) (origin : Origin) (packets : List Packet) (legs : List (List StepRow)) (w : Walk) → Stands code (earlier_by origin packets legs) w → length w.steps ≡ length (place code packets legs).rows
rows_there code origin packets legs w s = sym (length-reverse w.steps) ∙ ap (λ (p : Place). length p.rows) s.seen

-- the counts with that of one packet more, if it is a start packet
abbrev pub counts_on : List ℕ → Packet → ℕ → List ℕ
counts_on counts packet rows = counts ++ (if is_start packet then rows ∷ [] else [])

marked_on : (code : Code) (origin : Origin) (packet : Packet) (done : List Packet) (legs : List (List StepRow)) (w : Walk) (counts : List ℕ) → Stands code (earlier_by origin (packet ∷ done) legs) w → counts ≡ marks code done (drop 1 legs) → counts_on counts packet (length w.steps) ≡ marks code (packet ∷ done) legs
marked_on code origin packet done legs w counts s before =
    ap (λ (l : List ℕ). l ++ (if is_start packet then length w.steps ∷ [] else [])) before
    ∙ ap (λ (m : ℕ). marks code done (drop 1 legs) ++ (if is_start packet then m ∷ [] else [])) (rows_there code origin (packet ∷ done) legs w s)

pub goes_first : (code : Code) (origin : Origin) (first : Packet) (later : List Packet) (rest : Bytes) (w : Walk) (legs : List (List StepRow)) → is_start first ≡ true → Hold rest later → Stands code (earlier_by origin (first ∷ []) legs) w → Going code origin (record { first = first; later = later }) (origin.number + 1) rest w (counts_on [] first (length w.steps))
unfolding waiting
goes_first code origin first later rest w legs starts h s =
    let runs : false ≡ waiting (first ∷ []) = sym (starts_run first starts) in
    record {
      done = first ∷ [];
      more = later;
      legs = legs;
      hold = h;
      whole = ap (λ (b : Bool). first ∷ same_stretch b later) runs;
      stands = s;
      numbered = refl;
      some = omega arith;
      counted = omega arith;
      marked = marked_on code origin first [] legs w [] s refl;
    }

-- a packet of the stretch is the first one that is left of it
pub same_on : (waits : Bool) (packet : Packet) (later : List Packet) → begins packet waits ≡ false → same_stretch waits (packet ∷ later) ≡ packet ∷ same_stretch (waits_after packet waits) later
same_on waits packet later h = ap (λ (b : Bool). cond b [] (packet ∷ same_stretch (waits_after packet waits) later)) h

pub same_off : (waits : Bool) (packet : Packet) (later : List Packet) → begins packet waits ≡ true → same_stretch waits (packet ∷ later) ≡ []
same_off waits packet later h = ap (λ (b : Bool). cond b [] (packet ∷ same_stretch (waits_after packet waits) later)) h

-- where the stretch ends
pub ends_there : (k n : ℕ) (rest after : Bytes) (waits : Bool) (packet : Packet) (more : List Packet) → Hold rest more → AnswersNext k rest (Ok (Some packet)) n after → begins packet waits ≡ true → same_stretch waits more ≡ []
ends_there k n rest after waits packet more h a b =
    let t = taken k n rest after packet more h a in
    ap (λ (xs : List Packet). same_stretch waits xs) t.1 ∙ same_off waits packet t.0 b

module _ (code : Code) (origin : Origin) (head : Head) (number : ℕ) (rest : Bytes) (w : Walk) (counts : List ℕ) (g : Going code origin head number rest w counts) where
  module _ (k n : ℕ) (after : Bytes) (packet : Packet) (a : AnswersNext k rest (Ok (Some packet)) n after) (same : begins packet w.waiting ≡ false) where
    front : (later : List Packet) → g.more ≡ packet ∷ later → packets_of head ≡ reverse (packet ∷ g.done) ++ same_stretch (waits_after packet (waiting g.done)) later
    front later is =
        let waits : w.waiting ≡ waiting g.done = g.stands.waiting in
        let there : begins packet (waiting g.done) ≡ false = rw (← waits) same in
        g.whole ∙ ap (λ (xs : List Packet). reverse g.done ++ same_stretch (waiting g.done) xs) is
        ∙ ap (λ (xs : List Packet). reverse g.done ++ xs) (same_on (waiting g.done) packet later there)
        ∙ sym (append_assoc (reverse g.done) (packet ∷ []) (same_stretch (waits_after packet (waiting g.done)) later))
        ∙ ap (λ (xs : List Packet). xs ++ same_stretch (waits_after packet (waiting g.done)) later) (sym (reverse-append (packet ∷ []) g.done))

    pub goes_on : (new : Walk) → Followed code packet (from_to number w new) → Going code origin head (number + 1) after new (counts_on counts packet (length new.steps))
    unfolding waiting
    goes_on new f =
        let t = taken k n rest after packet g.more g.hold a in
        let numbered = g.numbered in
        let counted = g.counted in
        let fewer = ap (length {A = Packet}) t.1 in
        let stands = stands_on code origin number packet g.done g.legs w g.some g.numbered g.stands new f in
        record {
          done = packet ∷ g.done;
          more = t.0;
          legs = f.leg ∷ g.legs;
          hold = t.2;
          whole = front t.0 t.1;
          stands = stands;
          numbered = omega (arith, numbered);
          some = omega arith;
          counted = omega (arith, counted, fewer);
          marked = marked_on code origin packet g.done (f.leg ∷ g.legs) new counts stands g.marked;
        }

    pub stops_or : (e : PathFault) → (e ≡ OutOfMemory) ⊎ FaultBy code packet (met number w) e → (e ≡ OutOfMemory) ⊎ StopsAt code origin (packets_of head) e
    stops_or e h =
        let t = taken k n rest after packet g.more g.hold a in
        let waits : w.waiting ≡ waiting g.done = g.stands.waiting in
        let there : begins packet (waiting g.done) ≡ false = rw (← waits) same in
        elim h [
          | inl m ↦ inl m
          | inr f ↦ inr (record {
            earlier = g.done;
            packet = packet;
            later = same_stretch (waits_after packet (waiting g.done)) t.0;
            cut = g.whole ∙ ap (λ (xs : List Packet). reverse g.done ++ same_stretch (waiting g.done) xs) t.1 ∙ ap (λ (xs : List Packet). reverse g.done ++ xs) (same_on (waiting g.done) packet t.0 there);
            legs = g.legs;
            route = g.stands.route;
            fault = faults code origin number packet g.done g.legs w g.some g.numbered g.stands e f;
          })
        ]

    pub room : number + 1 ≤ origin.number + 1 + length head.later
    room =
        let t = taken k n rest after packet g.more g.hold a in
        let numbered = g.numbered in
        let counted = g.counted in
        let fewer = ap (length {A = Packet}) t.1 in
        omega (arith, numbered, counted, fewer)

  pub arrives : same_stretch w.waiting g.more ≡ [] → (legs : List (List StepRow)) × Stands code (earlier_by origin (reverse (packets_of head)) legs) w × (counts ≡ marks code (reverse (packets_of head)) legs)
  arrives none =
      let waits : w.waiting ≡ waiting g.done = g.stands.waiting in
      let over : same_stretch (waiting g.done) g.more ≡ [] = rw (← waits) none in
      let e : reverse (packets_of head) ≡ g.done = ap reverse (g.whole ∙ ap (λ (xs : List Packet). reverse g.done ++ xs) over ∙ append-nil (reverse g.done)) ∙ reverse-reverse g.done in
      (g.legs, subst (λ (xs : List Packet). Stands code (earlier_by origin xs g.legs) w) (sym e) g.stands, g.marked ∙ ap (λ (xs : List Packet). marks code xs g.legs) (sym e))

-- the first packet
pub first_or : (code : Code) (origin : Origin) (first : Packet) (later : List Packet) (e : PathFault) → (e ≡ OutOfMemory) ⊎ FirstFault code first e → (e ≡ OutOfMemory) ⊎ StopsAt code origin (first ∷ later) e
first_or code origin first later e h = elim h [
  | inl m ↦ inl m
  | inr f ↦ inr (record { earlier = []; packet = first; later = later; cut = refl; legs = []; route = tt; fault = f })
]
