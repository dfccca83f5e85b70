use Rattle.std.proofs.lemmas.Result.{err_from_is_err_and}
use Rattle.rept_trace.specs.Packets.{rest_of, number_of}
use Rattle.rept_path.proofs.Surveying.{nothing_seen, sees, refused, all_seen}
use Rattle.rept_path.proofs.window.go_through.Goals as goal

pub loop-packet-init : goal.loop-packet-init
loop-packet-init c = nothing_seen (number_of c.args.packets) (rest_of c.args.packets) c.args.from

pub returns-in_err-packet-clause-err : goal.returns-in_err-packet-clause-err
returns-in_err-packet-clause-err c =
    let p = err_from_is_err_and c.from_residual.result c.from_residual.ensures.1 in
    let s = c.loop-packet.invariant in
    rw (p.1, p.2) (s.done, refused (number_of c.args.packets) (rest_of c.args.packets) c.args.from c.loop-packet.count (number_of c.loop-packet.rest) (rest_of c.loop-packet.rest) c.loop-packet.begin c.in_err-packet.field-0.0 s c.in_err-packet.ensures.answer.0)

pub loop-packet-preserved : goal.loop-packet-preserved
loop-packet-preserved c =
    let a = rw c.in-Some.is at c.in_ok-packet.ensures.answer in
    sees (number_of c.args.packets) (rest_of c.args.packets) c.args.from c.loop-packet.count (number_of c.loop-packet.rest) (rest_of c.loop-packet.rest) c.loop-packet.begin c.in-Some.packet c.next.new.self c.begin_after-begin.result c.loop-packet.invariant a c.begin_after-begin.ensures.window c.begin_after-begin.ensures.one

pub returns-clause-ok : goal.returns-clause-ok
returns-clause-ok c =
    let a = rw c.in_default.is at c.in_ok-packet.ensures.answer in
    let s = c.loop-packet.invariant in
    (s.done, all_seen (number_of c.args.packets) (rest_of c.args.packets) c.args.from c.loop-packet.count (number_of c.loop-packet.rest) (rest_of c.loop-packet.rest) c.loop-packet.begin c.requires s a.0)
