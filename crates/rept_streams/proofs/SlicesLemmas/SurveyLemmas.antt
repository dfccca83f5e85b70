-- What is told of all streams.
use Rattle.std.proofs.Common.{◌≡◌, ℕ, suc, ◌+◌, ◌<◌, ◌≤◌, ◌^◌, List, [], ◌∷◌, length, Option, Some, None, refl, sym, ◌∙◌, ap, arith}
use Rattle.std.specs.List.{sum_by}
use Rattle.std.proofs.lemmas.List.Sums.{sum_by-cons}
use Rattle.rept_trace.specs.declared.packet.Packet.{Packet}
use Rattle.rept_trace.specs.Stream.{Stream}
use Rattle.rept_trace.specs.Streams.{StreamFile}
use Rattle.rept_path.specs.declared.fault.PathFault.{PathFault}
use Rattle.rept_streams.specs.Slices.Parts.{slices_told}
use Rattle.rept_streams.specs.Slices.Skipping.{whole, kept}
use Rattle.rept_streams.specs.Slices.Checks.{first_fault, time_back, startless, all_idle, stranger, check}
use Rattle.rept_streams.specs.Slices.Raw.{streams_of, HoldEach}
use Rattle.rept_streams.specs.Slices.Windows.{AreWindows, AreAll}
use Rattle.rept_streams.specs.declared.slices.reading.StreamWindow.{StreamWindow}
use Rattle.rept_streams.proofs.SlicesLemmas.ReadLemmas.{sizes, held_few}

pub hold_each : (s k from : ℕ) (streams : List Stream) (lists : List (List Packet)) (ws : List StreamWindow) → AreWindows s k from streams lists ws → HoldEach streams lists
hold_each s k from [] lists ws a = a.0
hold_each s k from (stream ∷ streams) [] ws a = absurd a
hold_each s k from (stream ∷ streams) (packets ∷ lists) [] a = absurd a
hold_each s k from (stream ∷ streams) (packets ∷ lists) (w ∷ ws) a = ((a.0).surveys.hold, hold_each (suc s) (k + length packets) from streams lists ws a.1)

few_packets : (streams : List Stream) (lists : List (List Packet)) → HoldEach streams lists → sum_by (λ packets. length packets) lists ≤ sum_by (λ stream. length stream.bytes) streams
few_packets [] lists h = let e = ap (sum_by (λ (ps : List Packet). length ps)) h in omega (arith, e)
few_packets (stream ∷ streams) [] h = absurd h
few_packets (stream ∷ streams) (packets ∷ lists) h =
    let i = few_packets streams lists h.1 in
    let n = held_few stream packets h.0 in
    omega (arith, i, n, sum_by-cons (λ (s : Stream). length s.bytes) stream streams, sum_by-cons (λ (ps : List Packet). length ps) packets lists)

pub are_all : (from : ℕ) (file : StreamFile) (lists : List (List Packet)) (ws : List StreamWindow) → AreWindows 0 0 from (streams_of file) lists ws → sum_by (λ bytes. length bytes) file.streams < 2 ^ 32 → AreAll from (streams_of file) lists ws
are_all from file lists ws a few =
    let n = few_packets (streams_of file) lists (hold_each 0 0 from (streams_of file) lists ws a) in
    record { windows = a; few = omega (arith, n, few, sizes file) }

-- the checks before the last one
abbrev earlier : ℕ → List (List Packet) → List (Option PathFault)
earlier from lists = first_fault time_back (whole lists) ∷ first_fault (startless from) (whole lists) ∷ all_idle lists ∷ []

found_of_four : (a b c d : Option PathFault) (e : PathFault) → Some e ≡ first_fault (λ found. found) (a ∷ b ∷ c ∷ []) → first_fault (λ found. found) (a ∷ b ∷ c ∷ d ∷ []) ≡ Some e
found_of_four (Some x) b c d e h = sym h
found_of_four None (Some x) c d e h = sym h
found_of_four None None (Some x) d e h = sym h
found_of_four None None None d e h = absurd ((cc))

last_of_four : (a b c d : Option PathFault) → None ≡ first_fault (λ found. found) (a ∷ b ∷ c ∷ []) → first_fault (λ found. found) (a ∷ b ∷ c ∷ d ∷ []) ≡ d
last_of_four (Some x) b c d h = absurd ((cc))
last_of_four None (Some x) c d h = absurd ((cc))
last_of_four None None (Some x) d h = absurd ((cc))
last_of_four None None None None h = refl
last_of_four None None None (Some x) h = refl

pub checks_found : (from : ℕ) (threads : List ℕ) (lists : List (List Packet)) (e : PathFault) → Some e ≡ first_fault (λ found. found) (first_fault time_back (whole lists) ∷ first_fault (startless from) (whole lists) ∷ all_idle lists ∷ []) → check from threads lists ≡ Some e
checks_found from threads lists e h = found_of_four (first_fault time_back (whole lists)) (first_fault (startless from) (whole lists)) (all_idle lists) (first_fault (stranger threads) (slices_told (kept from lists))) e h

pub checks_last : (from : ℕ) (threads : List ℕ) (lists : List (List Packet)) (found : Option PathFault) → None ≡ first_fault (λ found. found) (first_fault time_back (whole lists) ∷ first_fault (startless from) (whole lists) ∷ all_idle lists ∷ []) → found ≡ first_fault (stranger threads) (slices_told (kept from lists)) → check from threads lists ≡ found
checks_last from threads lists found h e = last_of_four (first_fault time_back (whole lists)) (first_fault (startless from) (whole lists)) (all_idle lists) (first_fault (stranger threads) (slices_told (kept from lists))) h ∙ sym e
