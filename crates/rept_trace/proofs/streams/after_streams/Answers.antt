use Rattle.std.proofs.Common.{◌∷◌, ◌++◌, [], length-append, arith}
use Rattle.rept_trace.proofs.StreamLemmas.{append_stream}
use Rattle.rept_trace.proofs.streams.after_streams.Goals as goal

pub loop-s-preserved : goal.loop-s-preserved
loop-s-preserved c =
    let i = c.loop-s.invariant in
    let n = i.1 in
    (i.0 ++ c.in-Some.field-0-0.now ∷ [], omega (arith, n, length-append i.0 (c.in-Some.field-0-0.now ∷ [])), append_stream c.args.bytes.now c.loop-s.rest.now c.in-Some.field-0-0.now c.in-Some.after.now i.0 i.2 c.in-Some.ensures.some)
