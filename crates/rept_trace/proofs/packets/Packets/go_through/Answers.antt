use Rattle.std.proofs.lemmas.Result.{err_from_is_err_and}
use Rattle.rept_trace.specs.Packets.{rest_of, number_of}
use Rattle.rept_trace.proofs.Going.{goes_on, ends, fails}
use Rattle.rept_trace.proofs.packets.Packets.go_through.Goals as goal

pub returns-in_err-next-clause-err : goal.returns-in_err-next-clause-err
returns-in_err-next-clause-err c =
    let p = err_from_is_err_and c.from_residual.result c.from_residual.ensures.1 in
    let r = c.loop-count.invariant in
    rw (p.1, p.2) (r.packets, fails (number_of c.args.self) (rest_of c.args.self) c.loop-count.count (number_of c.loop-count.packets) (rest_of c.loop-count.packets) c.in_err-next.field-0.0 r c.in_err-next.ensures.answer.0)

pub loop-count-preserved : goal.loop-count-preserved
loop-count-preserved c =
    let a = rw c.in-Some.is at c.in_ok-next.ensures.answer in
    goes_on (number_of c.args.self) (rest_of c.args.self) c.loop-count.count (number_of c.loop-count.packets) (rest_of c.loop-count.packets) c.in-Some.field-0 (number_of c.next.new.self) (rest_of c.next.new.self) c.loop-count.invariant a

pub returns-clause-ok : goal.returns-clause-ok
returns-clause-ok c =
    let a = rw c.in_default.is at c.in_ok-next.ensures.answer in
    let r = c.loop-count.invariant in
    (r.packets, ends (number_of c.args.self) (rest_of c.args.self) c.loop-count.count (number_of c.loop-count.packets) (rest_of c.loop-count.packets) r a.0, r.counted)
