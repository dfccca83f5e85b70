-- All packets of several streams, stream by stream.
use Rattle.std.proofs.Common.{map, ◌≡◌, inl, inr, ℕ, suc, ◌+◌, ◌≤◌, List, [], ◌∷◌, ◌++◌, length, drop, Some, slice_get, refl, sym, ◌∙◌, ap, subst, arith, append_assoc, add-one}
use Rattle.std.specs.Prelude.{option_map}
use Rattle.std.specs.List.{sum_by}
use Rattle.std.proofs.lemmas.Option.{slice_get-map}
use Rattle.std.proofs.lemmas.List.{append-nil, at_drop_all, length-map}
use Rattle.std.proofs.lemmas.List.Sums.{sum_by-cons}
use Rattle.rept_elf.proofs.SegmentLemmas.{drop-slice_get}
use Rattle.rept_trace.specs.declared.packet.Packet.{Packet}
use Rattle.rept_trace.specs.declared.fault.TraceFault.{TraceFault}
use Rattle.rept_trace.specs.declared.fault.TraceFault.TheVariants.{BadMagic, BadHeader, Truncated, Optional, Trap, BadSupport, StreamPastEnd, Rest}
use Rattle.rept_trace.specs.declared.parameters.Parameters.{Parameters}
use Rattle.rept_trace.specs.Grammar.{timed}
use Rattle.rept_trace.specs.Stream.{Stream, Hold, FailsNext, FailsAfter}
use Rattle.rept_trace.specs.Streams.{StreamFile}
use Rattle.rept_trace.proofs.Frames.{shorter}
use Rattle.rept_streams.specs.Slices.Raw.{streams_of, FailsIn}
use Rattle.rept_streams.specs.Slices.Windows.{IsStreamWindow, AreWindows, number_told, numbered_after}
use Rattle.rept_streams.specs.declared.slices.reading.StreamWindow.{StreamWindow}

-- the stream of a number is that of its bytes
pub sent_there : (file : StreamFile) (s : ℕ) (stream : Stream) → slice_get file.streams s ≡ Some stream.bytes → stream.widths ≡ timed file.halves → slice_get (streams_of file) s ≡ Some stream
sent_there file s stream at widths =
    let by_bytes : List ℕ → Stream = λ bytes. record { widths = timed file.halves; bytes = bytes } in
    let by_widths : Parameters → Stream = λ p. record { widths = p; bytes = stream.bytes } in
    slice_get-map by_bytes file.streams s ∙ ap (option_map by_bytes) at ∙ ap (λ (p : Parameters). Some (by_widths p)) (sym widths)

pub as_many : (file : StreamFile) → length (streams_of file) ≡ length file.streams
as_many file = length-map file.streams (λ (bytes : List ℕ). record { widths = timed file.halves; bytes = bytes })

-- streams have as many bytes as a file has of them
pub sizes : (file : StreamFile) → sum_by (λ stream. length stream.bytes) (streams_of file) ≡ sum_by (λ bytes. length bytes) file.streams
sizes file = go file.streams where
  by_bytes : List ℕ → Stream
  by_bytes bytes = record { widths = timed file.halves; bytes = bytes }

  go : (streams : List (List ℕ)) → sum_by (λ stream. length stream.bytes) (map by_bytes streams) ≡ sum_by (λ bytes. length bytes) streams
  go [] = refl
  go (bytes ∷ streams) =
      let i = go streams in
      omega (arith, i, sum_by-cons (λ (s : Stream). length s.bytes) (by_bytes bytes) (map by_bytes streams), sum_by-cons (λ (bs : List ℕ). length bs) bytes streams)

-- the number that a fault tells is that of a packet
fails_at : (n : ℕ) (stream : Stream) (f : TraceFault) → FailsNext n stream f → number_told f ≤ n
fails_at n stream BadMagic h = absurd h
fails_at n stream (BadHeader i) h = absurd h
fails_at n stream (Truncated k) h = let e = h.0 in omega arith
fails_at n stream (Optional k) h = let e = (h.3).0 in omega arith
fails_at n stream (Trap k) h = let e = (h.3).0 in omega arith
fails_at n stream (BadSupport k) h = let e = (h.3).0 in omega arith
fails_at n stream (StreamPastEnd s) h = absurd h
fails_at n stream (Rest offset) h = absurd h

pub told_few : (n : ℕ) (stream : Stream) (packets : List Packet) (f : TraceFault) → FailsAfter n stream packets f → number_told f ≤ n + length stream.bytes
told_few n stream [] f h = let e = fails_at n stream f h in omega arith
told_few n stream (p ∷ packets) f h =
    let i = told_few (n + 1) h.0 packets f h.2 in
    let less = shorter stream p h.0 h.1 in
    omega (arith, i, less)

fails_after : (before n : ℕ) (stream : Stream) (f : TraceFault) → FailsNext n stream f → FailsNext (before + n) stream (numbered_after before f)
fails_after before n stream BadMagic h = absurd h
fails_after before n stream (BadHeader i) h = absurd h
fails_after before n stream (Truncated k) h = (ap (λ (m : ℕ). before + m) h.0, h.1)
fails_after before n stream (Optional k) h = (h.0, h.1, h.2, (ap (λ (m : ℕ). before + m) (h.3).0, (h.3).1))
fails_after before n stream (Trap k) h = (h.0, h.1, h.2, (ap (λ (m : ℕ). before + m) (h.3).0, (h.3).1, (h.3).2))
fails_after before n stream (BadSupport k) h = (h.0, h.1, h.2, (ap (λ (m : ℕ). before + m) (h.3).0, (h.3).1))
fails_after before n stream (StreamPastEnd s) h = absurd h
fails_after before n stream (Rest offset) h = absurd h

later_after : (before n : ℕ) (stream : Stream) (packets : List Packet) (f : TraceFault) → FailsAfter n stream packets f → FailsAfter (before + n) stream packets (numbered_after before f)
later_after before n stream [] f h = fails_after before n stream f h
later_after before n stream (p ∷ packets) f h =
    let e : before + (n + 1) ≡ before + n + 1 = omega arith in
    (h.0, h.1, subst (λ (m : ℕ). FailsAfter m h.0 packets (numbered_after before f)) e (later_after before (n + 1) h.0 packets f h.2))

-- a fault of a stream, with the packets before it counted
pub numbered : (before n : ℕ) (stream : Stream) (packets : List Packet) (f : TraceFault) → n ≡ 0 → FailsAfter n stream packets f → FailsAfter before stream packets (numbered_after before f)
numbered before n stream packets f zero h =
    let e : before + n ≡ before = omega arith in
    subst (λ (m : ℕ). FailsAfter m stream packets (numbered_after before f)) e (later_after before n stream packets f h)

-- The streams before a number were read, and those from it on are left: what is so of the latter is
-- so of all.
pub record Read (from : ℕ) (streams : List Stream) (i k : ℕ) (ws : List StreamWindow) : Type 0 where
  pub lists : List (List Packet)
  pub goes : (later : List (List Packet)) (more : List StreamWindow) → AreWindows i k from (drop i streams) later more → AreWindows 0 0 from streams (lists ++ later) (ws ++ more)
  pub fails : (f : TraceFault) → FailsIn k (drop i streams) f → FailsIn 0 streams f
  pub few : k + sum_by (λ stream. length stream.bytes) (drop i streams) ≤ sum_by (λ stream. length stream.bytes) streams

pub none_read : (from : ℕ) (streams : List Stream) → Read from streams 0 0 []
none_read from streams = record { lists = []; goes = λ later more h. h; fails = λ f h. h; few = omega arith }

module _ (from : ℕ) (streams : List Stream) (i k : ℕ) (ws : List StreamWindow) (r : Read from streams i k ws) (stream : Stream) (at : slice_get streams i ≡ Some stream) where
  split : drop i streams ≡ stream ∷ drop (i + 1) streams
  split = drop-slice_get streams i stream at

  pub room : k + length stream.bytes ≤ sum_by (λ stream. length stream.bytes) streams
  room =
      let few = r.few in
      let e = ap (sum_by (λ (s : Stream). length s.bytes)) split in
      omega (arith, few, e, sum_by-cons (λ (s : Stream). length s.bytes) stream (drop (i + 1) streams))

  module _ (packets : List Packet) where
    pub one_read : (w : StreamWindow) → IsStreamWindow i k from stream packets w → length packets ≤ length stream.bytes → Read from streams (i + 1) (k + length packets) (ws ++ w ∷ [])
    one_read w is short = record {
      lists = r.lists ++ packets ∷ [];
      goes = λ later more h.
          let next : AreWindows (suc i) (k + length packets) from (drop (i + 1) streams) later more = rw (← add-one) h in
          let all : AreWindows i k from (drop i streams) (packets ∷ later) (w ∷ more) = subst (λ (ss : List Stream). AreWindows i k from ss (packets ∷ later) (w ∷ more)) (sym split) (is, next) in
          rw (append_assoc r.lists (packets ∷ []) later, append_assoc ws (w ∷ []) more) (r.goes (packets ∷ later) (w ∷ more) all);
      fails = λ f h. r.fails f (subst (λ (ss : List Stream). FailsIn k ss f) (sym split) (inr (packets, is.surveys.hold, h)));
      few =
          let few = r.few in
          let e = ap (sum_by (λ (s : Stream). length s.bytes)) split in
          omega (arith, few, e, short, sum_by-cons (λ (s : Stream). length s.bytes) stream (drop (i + 1) streams));
    }

    pub one_refused : (f : TraceFault) → FailsAfter k stream packets f → FailsIn 0 streams f
    one_refused f h = r.fails f (subst (λ (ss : List Stream). FailsIn k ss f) (sym split) (inl (packets, h)))

pub all_read : (from : ℕ) (streams : List Stream) (i k : ℕ) (ws : List StreamWindow) → Read from streams i k ws → length streams ≤ i → (lists : List (List Packet)) × AreWindows 0 0 from streams lists ws
all_read from streams i k ws r past =
    let none : AreWindows i k from (drop i streams) [] [] = subst (λ (ss : List Stream). AreWindows i k from ss [] []) (sym (at_drop_all (λ (ss : List Stream). ss) streams i past)) (refl, refl) in
    let all = r.goes [] [] none in
    (r.lists, subst (λ (xs : List (List Packet)). AreWindows 0 0 from streams xs ws) (append-nil r.lists) (subst (λ (vs : List StreamWindow). AreWindows 0 0 from streams (r.lists ++ []) vs) (append-nil ws) all))

-- no more packets than bytes
pub held_few : (stream : Stream) (packets : List Packet) → Hold stream packets → length packets ≤ length stream.bytes
held_few stream [] h = omega arith
held_few stream (p ∷ packets) h =
    let i = held_few h.0 packets h.2 in
    let less = shorter stream p h.0 h.1 in
    omega (arith, i, less)
