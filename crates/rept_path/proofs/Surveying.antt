-- Going through all packets for the window.
use Rattle.std.proofs.Common.{◌≡◌, ◌⊎◌, inl, inr, ℕ, ◌+◌, ◌<◌, ◌≤◌, ◌^◌, List, [], ◌∷◌, ◌++◌, length, Option, Some, None, Ok, slice_get, true, refl, sym, subst, arith, append_assoc, length-append}
use Rattle.std.proofs.lemmas.List.{append-nil}
use Rattle.std.proofs.Math.Seq.{drop-append_seam}
use Rattle.std.specs.Prelude.{IfSome}
use Rattle.rept_trace.specs.declared.packet.Packet.{Packet}
use Rattle.rept_trace.specs.Packets.{rest_of, number_of}
use Rattle.rept_trace.specs.Stream.{Stream, IsStreamEnded, FailsNext, FailsAfter, AnswersNext, Begins, Hold}
use Rattle.rept_trace.proofs.Frames.{shorter}
use Rattle.rept_trace.specs.declared.packets.Packets.{Packets}
use Rattle.rept_trace.specs.declared.fault.TraceFault.{TraceFault}
use Rattle.rept_path.specs.declared.window.Begin.{Begin}
use Rattle.rept_path.specs.Trace.{IsWindow, starts}
use Rattle.rept_path.specs.Survey.{number_in, IsThere, Surveys}

-- Whatever the rest holds, the packets from the window's first on are that one and those that its
-- bytes hold.
abbrev pub WillBeThere : Stream → List Packet → Option Begin → Type 0
WillBeThere rest done begin = (tail : List Packet) → Hold rest tail → IsThere (done ++ tail) begin

pub record Seen (first : ℕ) (bytes : Stream) (from count number : ℕ) (rest : Stream) (begin : Option Begin) : Type 0 where
  pub done : List Packet
  pub counted : count ≡ length done
  pub hold : (tail : List Packet) → Hold rest tail → Hold bytes (done ++ tail)
  pub fails : (tail : List Packet) (fault : TraceFault) → FailsAfter number rest tail fault → FailsAfter first bytes (done ++ tail) fault
  pub few : count + length rest.bytes ≤ length bytes.bytes
  pub window : IsWindow done from (number_in begin)
  pub there : WillBeThere rest done begin

none_starts : (i : ℕ) → starts (slice_get [] i) ≡ true → ⊥
none_starts i h = cc

pub nothing_seen : (first : ℕ) (bytes : Stream) (from : ℕ) → Seen first bytes from 0 first bytes None
nothing_seen first bytes from = record { done = []; counted = refl; hold = λ tail h. h; fails = λ tail fault h. h; few = omega arith; window = λ i m. none_starts i m.start; there = λ tail h. tt }

-- one packet more is after the window's beginning
still_there : (rest after : Stream) (done : List Packet) (packet : Packet) (begin : Option Begin) → Begins rest packet after → WillBeThere rest done begin → WillBeThere after (done ++ packet ∷ []) begin
still_there rest after done packet begin b w = λ tail h. rw (append_assoc done (packet ∷ []) tail) (w (packet ∷ tail) (after, b, h))

here_there : (done : List Packet) (packet : Packet) (b : Begin) → b.number ≡ length done → b.first ≡ packet → WillBeThere (rest_of b.later) (done ++ packet ∷ []) (Some b)
here_there done packet b number first = λ tail h. (tail, h, rw (append_assoc done (packet ∷ []) tail, number, first) (drop-append_seam done (packet ∷ tail)))

-- the beginning after one packet more
new_there : (rest : Stream) (done : List Packet) (count : ℕ) (packet : Packet) (later : Packets) (begin new : Option Begin) → count ≡ length done → Begins rest packet (rest_of later) → WillBeThere rest done begin
    → IfSome new (λ b. (begin ≡ Some b) ⊎ (b ≡ record { number = count; first = packet; later = later })) → WillBeThere (rest_of later) (done ++ packet ∷ []) new
new_there rest done count packet later begin None counted b w h = λ tail held. tt
new_there rest done count packet later begin (Some n) counted b w h = elim h [
  | inl e ↦ subst (λ (o : Option Begin). WillBeThere (rest_of later) (done ++ packet ∷ []) o) e (still_there rest (rest_of later) done packet begin b w)
  | inr e ↦ subst (λ (x : Begin). WillBeThere (rest_of later) (done ++ packet ∷ []) (Some x)) (sym e) (here_there done packet (record { number = count; first = packet; later = later }) counted refl)
]

pub sees : (first : ℕ) (bytes : Stream) (from count number : ℕ) (rest : Stream) (begin : Option Begin) (packet : Packet) (later : Packets) (new : Option Begin) → Seen first bytes from count number rest begin → AnswersNext number rest (Ok (Some packet)) (number_of later) (rest_of later)
    → ((packets : List Packet) → length packets ≡ count → IsWindow packets from (number_in begin) → IsWindow (packets ++ packet ∷ []) from (number_in new))
    → IfSome new (λ b. (begin ≡ Some b) ⊎ (b ≡ record { number = count; first = packet; later = later })) → Seen first bytes from (count + 1) (number_of later) (rest_of later) new
sees first bytes from count number rest begin packet later new s a windows one =
    let less = shorter rest packet (rest_of later) a.0 in
    let few = s.few in
    let counted = s.counted in
    record {
      done = s.done ++ packet ∷ [];
      counted = omega (arith, counted, length-append s.done (packet ∷ []));
      hold = λ tail h. rw (append_assoc s.done (packet ∷ []) tail) (s.hold (packet ∷ tail) (rest_of later, a.0, h));
      fails = λ tail fault h. rw (append_assoc s.done (packet ∷ []) tail) (s.fails (packet ∷ tail) fault (rest_of later, a.0, subst (λ n. FailsAfter n (rest_of later) tail fault) a.1 h));
      few = omega (arith, less, few);
      window = windows s.done (sym counted) s.window;
      there = new_there rest s.done count packet later begin new counted a.0 s.there one;
    }

pub refused : (first : ℕ) (bytes : Stream) (from count number : ℕ) (rest : Stream) (begin : Option Begin) (fault : TraceFault) (s : Seen first bytes from count number rest begin) → FailsNext number rest fault → FailsAfter first bytes s.done fault
refused first bytes from count number rest begin fault s f = rw append-nil at (s.fails [] fault f)

pub all_seen : (first : ℕ) (bytes : Stream) (from count number : ℕ) (rest : Stream) (begin : Option Begin) → length bytes.bytes < 2 ^ 32 → (s : Seen first bytes from count number rest begin) → IsStreamEnded rest.bytes → Surveys bytes s.done from (record { count = count; begin = begin })
all_seen first bytes from count number rest begin short s e =
    let few = s.few in
    let counted = s.counted in
    record {
      hold = rw append-nil at (s.hold [] e);
      count = counted;
      few = omega (arith, few, counted, short);
      window = s.window;
      there = subst (λ (xs : List Packet). IsThere xs begin) (append-nil s.done) (s.there [] e);
    }
