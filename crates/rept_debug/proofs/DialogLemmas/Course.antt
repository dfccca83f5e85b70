-- A dialog, arrival by arrival.
use Rattle.std.proofs.Common.{◌≡◌, ◌⊎◌, ℕ, ◌+◌, ◌-◌, ◌<◌, ◌≤◌, List, [], ◌∷◌, ◌++◌, length, Bool, true, Option, None, Some, arith, refl, sym, ◌∙◌, ap, subst, inl, inr, length-append}
use Rattle.std.specs.Prelude.{Result, Ok, Err, IfOk, MatchOption}
use Rattle.std.specs.Io.KnownBytes.{Appends}
use Rattle.rept_ports.proofs.CallerLemmas.{Appends-nothing, Appends-trans}
use Rattle.rept_ports.proofs.LineLemmas.{Consumes-nothing, Consumes-trans}
use Rattle.rept_ports.specs.Causes.{OneFault, AppendsPrefix}
use Rattle.rept_ports.specs.Port.{Port, PortMove, move}
use Rattle.rept_remote.specs.Frames.{Arrived, Arrives, IsPart, arrived}
use Rattle.rept_remote.specs.Reading.{ComesNext, PacketReader, Passed, ReadsNext, Stops, taking}
use Rattle.rept_remote.specs.declared.arrival.Arrival.{Arrival}
use Rattle.rept_remote.specs.declared.arrival.Ending.{Ending}
use Rattle.rept_debug.specs.Dialog.Converse.{Broke, DialogRules, Parties, Progress, TalkEnded, rules_of}
use Rattle.rept_debug.specs.Dialog.Converse as dialogs
use Rattle.rept_debug.specs.Dialog.Dialog.Talks.{turn as full_step}
use Rattle.rept_debug.specs.Dialog.Greeting.{Awaits, IsEarlyTurn, early_rules}
use Rattle.rept_debug.specs.Dialog.Greeting.Greets.{turn as early_step}
use Rattle.rept_debug.specs.declared.dialog.early.EarlyDialog.{EarlyDialog}
use Rattle.rept_debug.specs.declared.dialog.turn.Dialog.{Dialog}

-- what the reader did, where it has not ended
pub opened : (old new : PacketReader) (s t : Port) (r : Result Arrival Ending) → old.over ≡ None → ReadsNext old new (move s t) r → ComesNext old new (move s t) r
opened old new s t r e h = let P : Option Ending → Type 0 = λ o. MatchOption o (ComesNext old new (move s t) r) (λ why. (r ≡ Err why) × (new ≡ old) × (t ≡ s)) in subst P e h

other_way : {a : Arrival} {why : Ending} → Ok a ≡ Err why → ⊥
other_way e = cc

-- what it did where something came
pub arrives_next : (old new : PacketReader) (s t : Port) (a : Arrival) → ReadsNext old new (move s t) (Ok a) → ComesNext old new (move s t) (Ok a)
arrives_next old new s t a h = by_end old.over h
  where
    by_end : (o : Option Ending) → MatchOption o (ComesNext old new (move s t) (Ok a)) (λ why. (Ok a ≡ Err why) × (new ≡ old) × (t ≡ s)) → ComesNext old new (move s t) (Ok a)
    by_end None h = h
    by_end (Some why) h = absurd (other_way h.0)

by_part : (part : List ℕ) (what : Arrived) → IsPart part what → 0 < length part
by_part part what (inl h) = omega (arith, ap length h.parts)
by_part part what (inr (inl h)) = omega (arith, ap length h.0)
by_part part what (inr (inr h)) = omega (arith, ap length h.0)

-- an arrival takes at least one byte
pub some_bytes : (got : List ℕ) (what : Arrived) → Arrives got what → 0 < length got
some_bytes got what h = omega (arith, ap length h.parts, length-append h.noise h.part, by_part h.part what h.arrives)

-- what is written at an arrival makes a dialog longer
abbrev pub IsLonger : {D : Type 0} → DialogRules D → Type 0
IsLonger {D} rules = (read written : List ℕ) (d : D) (got text : List ℕ) (what : Arrived) (new : D) → rules.talks read written d → Arrives got what → rules.turns d what text new → rules.talks (read ++ got) (written ++ text) new

pub longer : (parties : Parties) → IsLonger (rules_of parties)
longer parties read written d got text what new h arrives is = full_step read written d got text what new h arrives is

pub early_longer : IsLonger early_rules
early_longer read written d got text what new h arrives is = early_step read written d got text what new h arrives is

-- a dialog begins
pub begins : {D : Type 0} (rules : DialogRules D) (d : D) (source sink : Port) → rules.talks [] [] d → Progress rules (move source source) (move sink sink) [] d
begins rules d source sink h = record { written = []; talks = h; consumed = Consumes-nothing source.bytes; wrote = Appends-nothing sink.bytes; read_calm = refl; write_calm = refl }

-- an arrival that waits is answered
module _ {D : Type 0} (rules : DialogRules D) (law : IsLonger rules) (s0 s1 k0 k1 : Port) (d : D) (packets : PacketReader) (a : Arrival) (w : Awaits rules (move s0 s1) (move k0 k1) d packets a) where
  turned : (text : List ℕ) (next : D) → rules.turns d (arrived a packets.carried) text next → rules.turns w.arrival.now w.arrival.what text next
  turned text next h = subst (λ (now : D). rules.turns now w.arrival.what text next) (sym w.is_now) (subst (λ (what : Arrived). rules.turns d what text next) (sym w.is_what) h)

  pub on_turn : (k2 : Port) (text : List ℕ) (next : D) → rules.turns d (arrived a packets.carried) text next → Appends k1.bytes k2.bytes text → k2.faults ≡ k1.faults → Progress rules (move s0 s1) (move k0 k2) (w.arrival.read ++ w.arrival.got) next
  on_turn k2 text next h wrote calm =
      let x = w.arrival in
      record {
        written = x.progress.written ++ text;
        talks = law x.read x.progress.written x.now x.got text x.what next x.progress.talks x.arrives (turned text next h);
        consumed = Consumes-trans s0.bytes x.middle.bytes s1.bytes x.read x.got x.progress.consumed x.consumed;
        wrote = Appends-trans k0.bytes k1.bytes k2.bytes x.progress.written text x.progress.wrote wrote;
        read_calm = x.calm ∙ x.progress.read_calm;
        write_calm = calm ∙ x.progress.write_calm;
      }

  pub broke : (k2 : Port) (text : List ℕ) (next : D) → rules.turns d (arrived a packets.carried) text next → AppendsPrefix k1.bytes k2.bytes text → OneFault k1.faults k2.faults → Broke rules (move s0 s1) (move k0 k2)
  broke k2 text next h wrote fault = record { before = k1; arrival = w.arrival; text = text; next = next; turn = turned text next h; wrote = wrote; fault = fault }

-- what comes next
module _ {D : Type 0} (rules : DialogRules D) (s0 s1 s2 k0 k1 : Port) (read : List ℕ) (d : D) (so_far : Progress rules (move s0 s1) (move k0 k1) read d) (old new : PacketReader) (counted : old.count ≡ length read) where
  abbrev pub comes : (got : List ℕ) (what : Arrived) → Passed (taking (move old.count new.count) (move s1 s2) got) → Arrives got what → dialogs.Arrival rules (move s0 s2) (move k0 k1)
  comes got what passed arrives = record { read = read; now = d; got = got; what = what; middle = s1; progress = so_far; consumed = passed.took.consumed; arrives = arrives; calm = passed.calm }

  pub awaits : (a : Arrival) → ComesNext old new (move s1 s2) (Ok a) → Awaits rules (move s0 s2) (move k0 k1) d new a
  awaits a h = record {
    arrival = comes h.0 (arrived a new.carried) h.1 h.2;
    is_now = refl;
    is_what = refl;
    counted = h.1.took.counted ∙ ap (λ n. n + length h.0) counted ∙ sym (length-append read h.0);
    going = h.3;
  }

  pub ends : (why : Ending) → ComesNext old new (move s1 s2) (Err why) → TalkEnded rules (move s0 s2) (move k0 k1) why
  ends why h = record { read = read; now = d; got = h.0; middle = s1; count = move old.count new.count; progress = so_far; counted = counted; stops = h.1 }

-- a reader that went on took at least one byte
pub takes_some : (old new : PacketReader) (source : PortMove Port) (a : Arrival) → ComesNext old new source (Ok a) → (old.count < new.count)
takes_some old new source a h = omega (arith, h.1.took.counted, some_bytes h.0 (arrived a new.carried) h.2)

-- what holds of an answer that is told by two equations
pub at_answer : {T E : Type 0} (r : Result (Option T) E) (o o' : Option T) (P : Option T → Type 0) → r ≡ Ok o → o ≡ o' → IfOk r P → P o'
at_answer r o o' P is same h = subst P same (subst (λ x. IfOk x P) is h)
