use Rattle.std.proofs.Common.{refl, arith}
use Rattle.rept_trace.specs.Packets.{rest_of, number_of}
use Rattle.rept_streams.proofs.SlicesLemmas.ReadLemmas.{sent_there, told_few, numbered}
use Rattle.rept_streams.proofs.slices.reading.read_stream.Goals as goal

pub go_through-requires : goal.go_through-requires
go_through-requires c =
    let p = c.packets-packets.result in
    let few = c.requires.few (rest_of p) (sent_there c.args.streams.now c.args.s (rest_of p) c.packets-packets.ensures.bytes c.packets-packets.ensures.widths) in
    omega arith

pub numbered_after-requires : goal.numbered_after-requires
numbered_after-requires c =
    let p = c.packets-packets.result in
    let e = c.in-Err.ensures.err in
    let few = c.requires.few (rest_of p) (sent_there c.args.streams.now c.args.s (rest_of p) c.packets-packets.ensures.bytes c.packets-packets.ensures.widths) in
    let first = c.packets-packets.ensures.first in
    let told = told_few (number_of p) (rest_of p) e.0 c.in-Err.fault e.1 in
    omega (arith, few, first, told)

pub returns-in-Err-clause-err : goal.returns-in-Err-clause-err
returns-in-Err-clause-err c =
    let p = c.packets-packets.result in
    let e = c.in-Err.ensures.err in
    let there = sent_there c.args.streams.now c.args.s (rest_of p) c.packets-packets.ensures.bytes c.packets-packets.ensures.widths in
    (rest_of p, e.0, there, rw c.numbered_after.ensures (numbered c.args.number (number_of p) (rest_of p) e.0 c.in-Err.fault c.packets-packets.ensures.first e.1))

pub returns-in-Ok-clause-ok : goal.returns-in-Ok-clause-ok
returns-in-Ok-clause-ok c =
    let p = c.packets-packets.result in
    let there = sent_there c.args.streams.now c.args.s (rest_of p) c.packets-packets.ensures.bytes c.packets-packets.ensures.widths in
    let s = c.in-Ok.ensures.ok in
    (rest_of p, s.0, there, record { stream = refl; number = refl; rest = refl; surveys = s.1 })
