use Rattle.std.proofs.Common.{◌≡◌, ◌⊎◌, ◌∷◌, List, reverse, subst, arith, ◌∙◌}
use Rattle.std.proofs.lemmas.Result.{err_from_is_err_and}
use Rattle.rept_path.specs.Code.{Code}
use Rattle.rept_path.specs.Program.{code_of}
use Rattle.rept_isa.specs.declared.row.StepRow.{StepRow}
use Rattle.rept_trace.specs.declared.packet.Packet.{Packet}
use Rattle.rept_trace.specs.Packets.{rest_of, number_of}
use Rattle.rept_trace.proofs.Going.{one_list}
use Rattle.rept_path.specs.declared.fault.PathFault.TheVariants.{OutOfMemory}
use Rattle.rept_path.specs.State.{met, Followed, Stands, from_to}
use Rattle.rept_path.specs.Route.{FaultBy, alone, earlier_by}
use Rattle.rept_path.specs.Trace.{StopsAt}
use Rattle.rept_path.proofs.Packeting.{goes_on, stops_or, none_left, arrives, room}
use Rattle.rept_path.proofs.rebuilding.walk_over.Goals as goal

pub returns-in_err-follow-clause-err : goal.returns-in_err-follow-clause-err
returns-in_err-follow-clause-err c = λ later h.
    let code = code_of c.args.program.now in
    let b = c.args.begin in
    let i = c.loop-packet.invariant in
    let p = err_from_is_err_and c.from_residual-in_err-follow.result c.from_residual-in_err-follow.ensures.1 in
    let a = rw c.in-Some.is at c.next_packet.ensures.some in
    let e = c.in_err-follow.field-0.0 in
    let s = stops_or code (alone b.number) (b.first ∷ i.1) c.loop-packet.number (rest_of c.loop-packet.rest) c.loop-packet.walk i.4 (number_of c.loop-packet.rest) (number_of c.next_packet.new.rest) (rest_of c.next_packet.new.rest) c.in-Some.packet e a (subst (λ (cs : Code). (e ≡ OutOfMemory) ⊎ FaultBy cs c.in-Some.packet (met c.loop-packet.number c.loop-packet.walk) e) (c.near-near.ensures.code ∙ i.0) c.in_err-follow.ensures.err) in
    rw (p.1, p.2) (subst (λ (l : List Packet). (e ≡ OutOfMemory) ⊎ StopsAt code (alone b.number) (b.first ∷ l) e) (one_list (rest_of b.later) i.1 later i.2 h) s)

pub overflow_add-number-in-Some : goal.overflow_add-number-in-Some
overflow_add-number-in-Some c =
    let code = code_of c.args.program.now in
    let b = c.args.begin in
    let i = c.loop-packet.invariant in
    let a = rw c.in-Some.is at c.next_packet.ensures.some in
    let r = room code (alone b.number) (b.first ∷ i.1) c.loop-packet.number (rest_of c.loop-packet.rest) c.loop-packet.walk i.4 (number_of c.loop-packet.rest) (number_of c.next_packet.new.rest) (rest_of c.next_packet.new.rest) c.in-Some.packet a in
    let few = i.3 in
    omega (arith, r, few)

pub loop-packet-preserved : goal.loop-packet-preserved
loop-packet-preserved c =
    let code = code_of c.args.program.now in
    let b = c.args.begin in
    let i = c.loop-packet.invariant in
    let a = rw c.in-Some.is at c.next_packet.ensures.some in
    (c.near-near.ensures.code ∙ i.0, i.1, i.2, i.3, goes_on code (alone b.number) (b.first ∷ i.1) c.loop-packet.number (rest_of c.loop-packet.rest) c.loop-packet.walk i.4 (number_of c.loop-packet.rest) (number_of c.next_packet.new.rest) (rest_of c.next_packet.new.rest) c.in-Some.packet c.follow.new.self a (subst (λ (cs : Code). Followed cs c.in-Some.packet (from_to c.loop-packet.number c.loop-packet.walk c.follow.new.self)) (c.near-near.ensures.code ∙ i.0) c.in_ok-follow.ensures.ok))

pub returns-clause-ok : goal.returns-clause-ok
returns-clause-ok c = λ later h.
    let code = code_of c.args.program.now in
    let b = c.args.begin in
    let i = c.loop-packet.invariant in
    let a = rw c.in_default.is at c.next_packet.ensures.none in
    let none = none_left (number_of c.loop-packet.rest) (number_of c.next_packet.new.rest) (rest_of c.loop-packet.rest) (rest_of c.next_packet.new.rest) i.4.more i.4.hold a in
    let all = arrives code (alone b.number) (b.first ∷ i.1) c.loop-packet.number (rest_of c.loop-packet.rest) c.loop-packet.walk i.4 none in
    subst (λ (l : List Packet). (legs : List (List StepRow)) × Stands code (earlier_by (alone b.number) (reverse (b.first ∷ l)) legs) c.loop-packet.walk) (one_list (rest_of b.later) i.1 later i.2 h) all

pub next_packet-requires : goal.next_packet-requires
next_packet-requires c = let g = c.loop-packet.invariant.4 in (g.more, g.hold)
