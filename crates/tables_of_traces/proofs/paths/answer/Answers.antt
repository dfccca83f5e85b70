use Rattle.std.proofs.Common.{◌≡◌, ℕ, ◌++◌, length, arith, ap, length-append}
use Rattle.rept_trace.specs.Stream.{header}
use Rattle.rept_trace.specs.Packets.{rest_of}
use Rattle.tables_of_traces.proofs.paths.answer.Goals as goal

pub path-requires : goal.path-requires
path-requires c =
    let halves = c.in-Ok.ensures.ok.0 in
    let bytes = (rest_of c.in-Ok.packets).bytes in
    let whole : length c.args.trace.now ≡ length (header halves ++ bytes) = ap (length {A = ℕ}) c.in-Ok.ensures.ok.1 in
    let parts = length-append (header halves) bytes in
    omega (arith, whole, parts, c.requires)
