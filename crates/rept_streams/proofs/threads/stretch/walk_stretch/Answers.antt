use Rattle.std.proofs.Common.{◌≡◌, ◌⊎◌, ◌+◌, ◌++◌, ◌∷◌, [], ℕ, List, length, reverse, refl, sym, ap, subst, arith, ◌∙◌, false, if◌then◌else◌}
use Rattle.std.proofs.lemmas.Result.{err_from_is_err_and}
use Rattle.rept_path.specs.Code.{Code}
use Rattle.rept_path.specs.Program.{code_of}
use Rattle.rept_isa.specs.declared.row.StepRow.{StepRow}
use Rattle.rept_trace.specs.declared.packet.Packet.{Packet}
use Rattle.rept_trace.specs.Packets.{rest_of, number_of}
use Rattle.rept_trace.proofs.Going.{one_list}
use Rattle.rept_path.specs.declared.fault.PathFault.TheVariants.{OutOfMemory}
use Rattle.rept_path.specs.State.{met, Followed, Stands, from_to}
use Rattle.rept_path.specs.Route.{Origin, FaultBy, earlier_by}
use Rattle.rept_path.specs.Trace.{StopsAt}
use Rattle.rept_streams.specs.Slices.Stretches.{same_stretch, marks}
use Rattle.rept_streams.specs.Slices.Stamps.{is_start}
use Rattle.rept_streams.proofs.SlicesLemmas.Going.{Head, Going, counts_on, goes_first, goes_on, stops_or, arrives, room}
use Rattle.rept_streams.proofs.threads.stretch.walk_stretch.Goals as goal

pub returns-in_err-follow-clause-err : goal.returns-in_err-follow-clause-err
returns-in_err-follow-clause-err c = λ later h.
    let code = code_of c.args.program.now in
    let b = c.args.head in
    let origin : Origin = record { number = b.number; room = c.args.room } in
    let i = c.loop-packet.invariant in
    let head : Head = record { first = b.first; later = i.1 } in
    let p = err_from_is_err_and c.from_residual-in_err-follow.result c.from_residual-in_err-follow.ensures.1 in
    let a = rw c.in-Some.is at c.next_of_stretch.ensures.some in
    let same = rw c.in-Some.is at c.next_of_stretch.ensures.same in
    let e = c.in_err-follow.field-0.0 in
    let s = stops_or code origin head c.loop-packet.number (rest_of c.loop-packet.rest) c.loop-packet.walk c.loop-packet.marks.items i.4 (number_of c.loop-packet.rest) (number_of c.next_of_stretch.new.rest) (rest_of c.next_of_stretch.new.rest) c.in-Some.packet a same e (subst (λ (cs : Code). (e ≡ OutOfMemory) ⊎ FaultBy cs c.in-Some.packet (met c.loop-packet.number c.loop-packet.walk) e) (c.near-near.ensures.code ∙ i.0) c.in_err-follow.ensures.err) in
    rw (p.1, p.2) (subst (λ (l : List Packet). (e ≡ OutOfMemory) ⊎ StopsAt code origin (b.first ∷ same_stretch false l) e) (one_list (rest_of b.later) i.1 later i.2 h) s)

pub overflow_add-number-in-Some : goal.overflow_add-number-in-Some
overflow_add-number-in-Some c =
    let code = code_of c.args.program.now in
    let b = c.args.head in
    let i = c.loop-packet.invariant in
    let a = rw c.in-Some.is at c.next_of_stretch.ensures.some in
    let same = rw c.in-Some.is at c.next_of_stretch.ensures.same in
    let r = room code (record { number = b.number; room = c.args.room }) (record { first = b.first; later = i.1 }) c.loop-packet.number (rest_of c.loop-packet.rest) c.loop-packet.walk c.loop-packet.marks.items i.4 (number_of c.loop-packet.rest) (number_of c.next_of_stretch.new.rest) (rest_of c.next_of_stretch.new.rest) c.in-Some.packet a same in
    let few = i.3 in
    omega (arith, r, few)

pub loop-packet-preserved : goal.loop-packet-preserved
loop-packet-preserved c =
    let code = code_of c.args.program.now in
    let b = c.args.head in
    let i = c.loop-packet.invariant in
    let origin : Origin = record { number = b.number; room = c.args.room } in
    let head : Head = record { first = b.first; later = i.1 } in
    let counts = c.loop-packet.marks.items in
    let a = rw c.in-Some.is at c.next_of_stretch.ensures.some in
    let same = rw c.in-Some.is at c.next_of_stretch.ensures.same in
    let g = goes_on code origin head c.loop-packet.number (rest_of c.loop-packet.rest) c.loop-packet.walk counts i.4 (number_of c.loop-packet.rest) (number_of c.next_of_stretch.new.rest) (rest_of c.next_of_stretch.new.rest) c.in-Some.packet a same c.follow.new.self (subst (λ (cs : Code). Followed cs c.in-Some.packet (from_to c.loop-packet.number c.loop-packet.walk c.follow.new.self)) (c.near-near.ensures.code ∙ i.0) c.in_ok-follow.ensures.ok) in
    let e : c.add_mark-in-Some.new.marks.items ≡ counts_on counts c.in-Some.packet (length c.follow.new.self.steps) = c.in_ok-add_mark-2.ensures.ok ∙ ap (λ (n : ℕ). counts_on counts c.in-Some.packet n) c.len-in-Some.ensures.value in
    (c.near-near.ensures.code ∙ i.0, i.1, i.2, i.3, subst (λ (ms : List ℕ). Going code origin head (c.loop-packet.number + 1) (rest_of c.next_of_stretch.new.rest) c.follow.new.self ms) (sym e) g)

pub returns-clause-ok : goal.returns-clause-ok
returns-clause-ok c = λ later h.
    let code = code_of c.args.program.now in
    let b = c.args.head in
    let origin : Origin = record { number = b.number; room = c.args.room } in
    let i = c.loop-packet.invariant in
    let none = rw c.in_default.is at c.next_of_stretch.ensures.none in
    let all = arrives code origin (record { first = b.first; later = i.1 }) c.loop-packet.number (rest_of c.loop-packet.rest) c.loop-packet.walk c.loop-packet.marks.items i.4 (none i.4.more i.4.hold) in
    subst (λ (l : List Packet). (legs : List (List StepRow)) × Stands code (earlier_by origin (reverse (b.first ∷ same_stretch false l)) legs) c.loop-packet.walk × (c.loop-packet.marks.items ≡ marks code (reverse (b.first ∷ same_stretch false l)) legs)) (one_list (rest_of b.later) i.1 later i.2 h) all

pub next_of_stretch-requires : goal.next_of_stretch-requires
next_of_stretch-requires c = let g = c.loop-packet.invariant.4 in (g.more, g.hold)

pub loop-packet-init : goal.loop-packet-init
loop-packet-init c =
    let code = code_of c.args.program.now in
    let b = c.args.head in
    let f = c.requires.few in
    let s = c.in_ok-walk.ensures.ok in
    let origin : Origin = record { number = b.number; room = c.args.room } in
    let head : Head = record { first = b.first; later = f.0 } in
    let g = goes_first code origin b.first f.0 (rest_of b.later) c.in_ok-walk.walk s.0 c.requires.starts f.1 s.1 in
    let e : c.add_mark.new.marks.items ≡ counts_on [] b.first (length c.in_ok-walk.walk.steps) =
    c.in_ok-add_mark.ensures.ok ∙ ap (λ (l : List ℕ). l ++ (if is_start b.first then c.len.result ∷ [] else [])) c.new-marks.ensures.items ∙ ap (λ (n : ℕ). counts_on [] b.first n) c.len.ensures.value in
    (refl, f.0, f.1, f.2, subst (λ (ms : List ℕ). Going code origin head (b.number + 1) (rest_of b.later) c.in_ok-walk.walk ms) (sym e) g)
