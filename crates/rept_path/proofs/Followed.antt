-- Legs of packets.
use Rattle.std.proofs.Common.{◌≡◌, ◌⊎◌, inl, inr, ℕ, ◌+◌, ◌≤◌, length, reverse, arith, List, [], ◌∷◌, ◌++◌, Bool, true, false, Option, Some, Result, Ok, Err, refl, sym, ◌∙◌, ap, subst}
use Rattle.std.proofs.lemmas.List.{append-nil}
use Rattle.rept_path.specs.Code.{Code}
use Rattle.rept_path.specs.declared.aim.Aim.{Aim}
use Rattle.rept_isa.specs.declared.row.StepRow.{StepRow}
use Rattle.rept_trace.specs.declared.packet.Packet.{Packet}
use Rattle.rept_trace.specs.declared.packet.Packet.TheVariants.{Start, Context, Support}
use Rattle.rept_trace.specs.declared.packet.Qual.TheVariants.{NoChange, EndedRep, TraceLost, EndedNtr}
use Rattle.rept_isa.specs.declared.instr.Instr.{Instr}
use Rattle.rept_steps.specs.Linked.{EndBefore}
use Rattle.rept_path.specs.declared.aim.Aim.TheVariants as aims
use Rattle.rept_path.specs.declared.fault.PathFault.{PathFault}
use Rattle.rept_path.specs.declared.fault.PathFault.TheVariants.{OutOfMemory}
use Rattle.rept_path.specs.Code.{look}
use Rattle.rept_path.specs.Gap.{gap_to_start}
use Rattle.rept_path.specs.Legs.{PhaseFault}
use Rattle.rept_path.specs.declared.walk.Walk.{Walk}
use Rattle.rept_path.specs.Packets.{bits_of, bits_before, reported_after, waits_after}
use Rattle.rept_path.specs.Moves.{Place, place_along, position, ◌>>=◌, heading_by}
use Rattle.rept_path.specs.Route.{phases_of, first_phase, PhaseLegs, Met, WaitingFault, RunningFault, mark_after, place_after, admits, meets}
use Rattle.rept_path.specs.State.{here, standing, arrival, met, Counts, lead, WalkedPhase, WalkedAll, Followed, from_to}
use Rattle.rept_path.proofs.Waiting.{LegIn, FaultIn}

-- a phase alone
pub alone : (code : Code) (k : ℕ) (target : Option ℕ) (aim : Aim) (old new : Walk) → WalkedPhase code (heading_by (lead old k target) aim) old new → WalkedAll code (record { target = target; aim = aim } ∷ []) (from_to k old new)
alone code k target aim old new w = record { leg = w.leg; goes = (w.leg, [], refl, w.goes, refl); seen = w.seen; counts = w.counts; kept = w.kept; grows = w.grows }

-- Nothing is done at a packet that says nothing of the path.
pub stays : (code : Code) (k privilege time context : ℕ) (w : Walk) → Counts w → length w.bits.items ≤ w.used + 1 → Followed code (Context privilege time context) (from_to k w w)
stays code k privilege time context w counts rests = record { leg = []; goes = go w.waiting; seen = refl; counts = counts; bits = sym (append-nil w.bits.items); reported = refl; waiting = refl; marked = refl; rests = rests; room = refl }
  where
    go : (b : Bool) → LegIn code (Context privilege time context) b (met k w) []
    go true = refl
    go false = record { admitted = (0, refl); legs = refl }

-- The packet's bits were added, and its phases were walked.
pub walked : (code : Code) (k : ℕ) (packet : Packet) (old mid last new : Walk) → old.waiting ≡ false → ((a : ℕ) × (admits code packet ≡ Ok a)) → here mid ≡ here old → mid.bits.items ≡ old.bits.items ++ bits_of code packet → mid.reported ≡ reported_after packet old.reported → mid.waiting ≡ old.waiting → mid.room ≡ old.room
    → WalkedAll code (phases_of packet old.inferred old.reported) (from_to k mid last) → here new ≡ here last → new.bits.items ≡ last.bits.items → new.reported ≡ last.reported → new.waiting ≡ last.waiting → new.room ≡ last.room → Counts new
    → new.inferred ≡ mark_after code packet old.inferred (arrival new) → length new.bits.items ≤ new.used + 1 → waits_after packet false ≡ false → ((b : Bool) → bits_before packet false old.bits.items ≡ old.bits.items) → ((leg : List StepRow) → place_after code packet (meets false (here old)) leg ≡ place_along code (here old) leg) → Followed code packet (from_to k old new)
walked code k packet old mid last new runs admitted there all report wait limit w at bits rep waits stays counts mark rests keeps whole places =
    record {
      leg = w.leg;
      goes = subst (λ (b : Bool). LegIn code packet b (met k old) w.leg) (sym runs) (record { admitted = admitted; legs = rw (← all, ← there, ← limit) w.goes });
      seen = subst (λ (b : Bool). here new ≡ place_after code packet (meets b (here old)) w.leg) (sym runs) (at ∙ w.seen ∙ ap (λ (p : Place). place_along code p w.leg) there ∙ sym (places w.leg));
      counts = counts;
      bits = subst (λ (b : Bool). new.bits.items ≡ bits_before packet b old.bits.items ++ bits_of code packet) (sym runs) (bits ∙ w.kept.bits ∙ all ∙ ap (λ (xs : List Bool). xs ++ bits_of code packet) (sym (whole false)));
      reported = rep ∙ w.kept.reported ∙ report;
      waiting = subst (λ (b : Bool). new.waiting ≡ waits_after packet b) (sym runs) (waits ∙ w.kept.waiting ∙ wait ∙ runs ∙ sym keeps);
      marked = mark;
      rests = rests;
      room = stays ∙ w.kept.room ∙ limit;
    }

-- A packet that is not first, as this one.
pub as_waiting : (code : Code) (packet p : Packet) (waits : Bool) (before : Met) (e : PathFault) → packet ≡ p → waits ≡ true → (e ≡ OutOfMemory) ⊎ WaitingFault code p before e → (e ≡ OutOfMemory) ⊎ FaultIn code packet waits before e
as_waiting code packet p waits before e same is h = rw (same, is) h

pub as_running : (code : Code) (packet p : Packet) (waits : Bool) (before : Met) (e : PathFault) → packet ≡ p → waits ≡ false → (e ≡ OutOfMemory) ⊎ RunningFault code p before e → (e ≡ OutOfMemory) ⊎ FaultIn code packet waits before e
as_running code packet p waits before e same is h = rw (same, is) h

pub as_support : (code : Code) (packet p : Packet) (waits : Bool) (before : Met) (e : PathFault) → packet ≡ p → (e ≡ OutOfMemory) ⊎ FaultIn code p waits before e → (e ≡ OutOfMemory) ⊎ FaultIn code packet waits before e
as_support code packet p waits before e same h = rw same h

-- The moves after a start packet in a stretch are stopped by a fault.
pub restart_fault : (code : Code) (k : ℕ) (branch : Bool) (privilege a time context : ℕ) (old : Walk) (bits : List Bool) (e : PathFault) → ((at : ℕ) × (position code a ≡ Ok at)) → bits ≡ old.bits.items ++ bits_of code (Start branch privilege a time context)
    → (e ≡ OutOfMemory) ⊎ PhaseFault code (heading_by (record { packet = k; target = Some a; bits = bits; room = old.room }) (aims.Start a)) (here old) e → (e ≡ OutOfMemory) ⊎ RunningFault code (Start branch privilege a time context) (met k old) e
restart_fault code k branch privilege a time context old bits e there all h = elim h [ inl m ↦ inl m | inr f ↦ inr (inr (there, inl (rw all at f))) ]

pub same_position : (code : Code) (a at : ℕ) → position code a ≡ Ok at → at ≡ a
same_position code a at h = go (look code a) h where
  go : (r : Result Instr PathFault) → (r >>= (λ i. Ok a)) ≡ Ok at → at ≡ a
  go (Ok i) h = cc
  go (Err e) h = cc

-- A stretch begins.
pub started : (code : Code) (k : ℕ) (branch : Bool) (privilege a time context at : ℕ) (old new : Walk) (leg : List StepRow) → old.waiting ≡ true → gap_to_start code (standing k old) a ≡ Ok leg → position code a ≡ Ok at → reverse new.steps ≡ leg ++ reverse old.steps
    → new.at ≡ at → new.used ≡ 0 → new.bits.items ≡ bits_of code (Start branch privilege at time context) → length new.bits.items ≤ 1 → new.reported ≡ at → new.inferred ≡ false → new.waiting ≡ false → length new.steps ≤ old.room → new.room ≡ old.room → EndBefore new.steps a
    → Followed code (Start branch privilege a time context) (from_to k old new)
started code k branch privilege a time context at old new leg waits crosses admitted seen stands used bits size report plain runs few limit ends =
    let same = same_position code a at admitted in
    let there = stands ∙ same in
    record {
      leg = leg;
      goes = subst (λ (b : Bool). LegIn code (Start branch privilege a time context) b (met k old) leg) (sym waits) (crosses, (rw same at admitted));
      seen = subst (λ (b : Bool). here new ≡ place_after code (Start branch privilege a time context) (meets b (here old)) leg) (sym waits) (cc);
      counts = record { enough = rw used (omega arith); few = (let l = limit in omega (arith, few, l)); spare = rw used (omega arith); linked = rw there ends };
      bits = subst (λ (b : Bool). new.bits.items ≡ bits_before (Start branch privilege a time context) b old.bits.items ++ bits_of code (Start branch privilege a time context)) (sym waits) (rw same at bits);
      reported = report ∙ same;
      waiting = runs;
      marked = plain;
      rests = rw used size;
      room = limit;
    }

-- Support packets.
pub no_change : (code : Code) (k : ℕ) (enabled : Bool) (w : Walk) → Counts w → length w.bits.items ≤ w.used + 1 → Followed code (Support enabled NoChange) (from_to k w w)
no_change code k enabled w counts rests = record { leg = []; goes = go w.waiting; seen = refl; counts = counts; bits = sym (append-nil w.bits.items); reported = refl; waiting = refl; marked = refl; rests = rests; room = refl }
  where
    go : (b : Bool) → LegIn code (Support enabled NoChange) b (met k w) []
    go true = refl
    go false = record { admitted = (0, refl); legs = refl }

pub lost : (code : Code) (k : ℕ) (enabled : Bool) (w : Walk) → Counts w → length w.bits.items ≤ w.used + 1 → Followed code (Support enabled TraceLost) (from_to k w w)
lost code k enabled w counts rests = record { leg = []; goes = go w.waiting; seen = refl; counts = counts; bits = sym (append-nil w.bits.items); reported = refl; waiting = refl; marked = refl; rests = rests; room = refl }
  where
    go : (b : Bool) → LegIn code (Support enabled TraceLost) b (met k w) []
    go true = refl
    go false = record { admitted = (0, refl); legs = refl }

abbrev pub stopped : Walk → Walk
stopped w = record { at = w.at; steps = w.steps; bits = w.bits; used = w.used; reported = w.reported; inferred = w.inferred; waiting = true; room = w.room }

pub reported_end : (code : Code) (k : ℕ) (enabled : Bool) (w : Walk) → Counts w → length w.bits.items ≤ w.used + 1 → Followed code (Support enabled EndedRep) (from_to k w (stopped w))
reported_end code k enabled w counts rests = record { leg = []; goes = go w.waiting; seen = refl; counts = record { enough = counts.enough; few = counts.few; spare = counts.spare; linked = counts.linked }; bits = sym (append-nil w.bits.items); reported = refl; waiting = refl; marked = refl; rests = rests; room = refl }
  where
    go : (b : Bool) → LegIn code (Support enabled EndedRep) b (met k w) []
    go true = refl
    go false = record { admitted = (0, refl); legs = refl }

pub not_reported_end : (code : Code) (k : ℕ) (enabled : Bool) (old mid : Walk) → old.waiting ≡ false → length old.bits.items ≤ old.used + 1 → WalkedAll code (first_phase old.inferred old.reported) (from_to k old mid) → Followed code (Support enabled EndedNtr) (from_to k old (stopped mid))
not_reported_end code k enabled old mid runs rests w =
    let none = sym (append-nil old.bits.items) in
    let grows = w.grows in
    let size = ap (length {A = Bool}) w.kept.bits in
    record {
      leg = w.leg;
      goes = subst (λ (b : Bool). LegIn code (Support enabled EndedNtr) b (met k old) w.leg) (sym runs) (record { admitted = (0, refl); legs = subst (λ (xs : List Bool). PhaseLegs code (record { packet = k; bits = xs; place = here old; room = old.room }) (first_phase old.inferred old.reported) w.leg) none w.goes });
      seen = w.seen;
      counts = record { enough = w.counts.enough; few = w.counts.few; spare = w.counts.spare; linked = w.counts.linked };
      bits = w.kept.bits ∙ none;
      reported = w.kept.reported;
      waiting = refl;
      marked = w.kept.inferred;
      rests = omega (arith, rests, grows, size);
      room = w.kept.room;
    }
