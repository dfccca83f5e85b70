use Rattle.std.proofs.lemmas.Result.{err_from_is_err_and}
use Rattle.rept_path.proofs.Whole.{begins, room, walk_refusal, join_refusal, joined}
use Rattle.rept_path.proofs.PathFacts.{some_steps, carry_code, linked_steps}
use Rattle.rept_path.proofs.rebuilding.rebuild_program.Goals as goal

pub walk_over-requires-clause-starts : goal.walk_over-requires-clause-starts
walk_over-requires-clause-starts c = let f = c.in-Ok.ensures.ok in begins c.args.packets c.args.from f.0 c.in-Ok.survey c.in-Some.begin f.1 c.in-Some.is

pub walk_over-requires-clause-few : goal.walk_over-requires-clause-few
walk_over-requires-clause-few c = let f = c.in-Ok.ensures.ok in room c.args.packets c.args.from f.0 c.in-Ok.survey c.in-Some.begin f.1 c.in-Some.is

pub returns-in_err-walk-clause-refusal : goal.returns-in_err-walk-clause-refusal
returns-in_err-walk-clause-refusal c =
    let f = c.in-Ok.ensures.ok in
    let p = err_from_is_err_and c.from_residual.result c.from_residual.ensures.1 in
    rw (p.1, p.2) (walk_refusal c.args.packets c.args.from f.0 c.in-Ok.survey c.in-Some.begin f.1 c.in-Some.is c.args.program.now c.in_err-walk.field-0.0 c.in_err-walk.ensures.err)

pub returns-in_err-join-clause-refusal : goal.returns-in_err-join-clause-refusal
returns-in_err-join-clause-refusal c =
    let f = c.in-Ok.ensures.ok in
    let pc = c.status-pc.ensures.pc in
    let p = err_from_is_err_and c.from_residual-in_err-join.result c.from_residual-in_err-join.ensures.1 in
    rw (p.1, p.2) (join_refusal c.args.packets c.args.from f.0 c.in-Ok.survey c.in-Some.begin f.1 c.in-Some.is c.args.program.now c.in_ok-walk.walk c.in_ok-walk.ensures.ok c.in_err-join.field-0.0 (rw pc at c.in_err-join.ensures.err))

pub returns-clause-path : goal.returns-clause-path
returns-clause-path c =
    let f = c.in-Ok.ensures.ok in
    let pc = c.status-pc.ensures.pc in
    joined c.args.packets c.args.from f.0 c.in-Ok.survey c.in-Some.begin f.1 c.in-Some.is c.args.program.now c.in_ok-walk.walk c.in_ok-walk.ensures.ok c.join.new.self (rw pc at c.in_ok-join.ensures.ok)

pub returns-clause-ends : goal.returns-clause-ends
returns-clause-ends c =
    let pc = c.status-pc.ensures.pc in
    let x = rw pc at c.in_ok-join.ensures.ok in
    x.linked

pub returns-clause-some : goal.returns-clause-some
returns-clause-some c = some_steps c.args.packets c.args.program.now c.args.from c.in-Some.begin.number c.join.new.self.steps (returns-clause-path c)

pub returns-clause-instructions : goal.returns-clause-instructions
returns-clause-instructions c = carry_code c.args.packets c.args.program.now c.args.from c.in-Some.begin.number c.join.new.self.steps (returns-clause-path c)

pub returns-clause-linked : goal.returns-clause-linked
returns-clause-linked c = linked_steps c.args.packets c.args.program.now c.args.from c.in-Some.begin.number c.join.new.self.steps (returns-clause-path c)
