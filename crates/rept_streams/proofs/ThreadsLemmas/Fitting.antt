-- The streams of a file have no more bytes than it.
use Rattle.std.proofs.Common.{ℕ, ◌+◌, ◌≤◌, List, [], ◌∷◌, length, Ok, ap, arith, length-append, length-drop}
use Rattle.std.specs.List.{sum_by}
use Rattle.std.proofs.lemmas.List.Sums.{sum_by-cons}
use Rattle.rept_trace.specs.Header.{several_streams, heading_of, header_bytes}
use Rattle.rept_trace.specs.Streams.{StreamFile, IsStreamThen, AreStreamsThen, OpensStreams}

stream_fits : (bytes stream rest : List ℕ) → IsStreamThen bytes stream rest → length stream + length rest ≤ length bytes
stream_fits bytes stream rest h =
    let e = ap (length {A = ℕ}) h.parts in
    let d = length-drop 4 bytes in
    omega (arith, e, d, length-append stream rest)

streams_fit : (bytes : List ℕ) (streams : List (List ℕ)) (rest : List ℕ) → AreStreamsThen bytes streams rest → sum_by (λ bs. length bs) streams ≤ length bytes
streams_fit bytes [] rest h = omega arith
streams_fit bytes (stream ∷ streams) rest h =
    let i = streams_fit h.0 streams rest h.2 in
    let f = stream_fits bytes stream h.0 h.1 in
    omega (arith, i, f, sum_by-cons (λ (bs : List ℕ). length bs) stream streams)

pub file_fits : (bytes : List ℕ) (file : StreamFile) → OpensStreams bytes (Ok file) → sum_by (λ bs. length bs) file.streams ≤ length bytes
file_fits bytes file h =
    let i = streams_fit h.0 file.streams [] h.2 in
    let e = ap (length {A = ℕ}) (h.1).layout in
    omega (arith, i, e, length-append (header_bytes several_streams (heading_of (length file.streams) file.halves)) h.0)
