use Rattle.std.proofs.Common.{refl, sym, ◌∙◌, subst, arith, inr}
use Rattle.rept_path.specs.Program.{code_of}
use Rattle.rept_steps.specs.Linked.{EndBefore}
use Rattle.rept_path.proofs.GapLemmas.{one_row, two_rows, too_long, no_rows, no_place}
use Rattle.rept_path.proofs.walk.Walk.join.Goals as goal

pub returns-in-Err-clause-err : goal.returns-in-Err-clause-err
returns-in-Err-clause-err c = inr (no_place (code_of c.args.program.now) c.args.packet (record { address = c.args.to; otherwise = c.args.otherwise }) c.args.self.now c.in-Err.fault (sym c.look.ensures ∙ c.in-Err.is))

pub returns-in-Err-rows_across-clause-err : goal.returns-in-Err-rows_across-clause-err
returns-in-Err-rows_across-clause-err c =
    let there = sym c.look.ensures ∙ c.in-Ok.is in
    inr (no_rows (code_of c.args.program.now) c.args.packet (record { address = c.args.to; otherwise = c.args.otherwise }) c.in-Ok.instr c.args.self.now c.in-Err-rows_across.fault there (rw (c.bit-bit.ensures) at c.in-Err-rows_across.ensures.rows))

pub returns-then-len-self-clause-err : goal.returns-then-len-self-clause-err
returns-then-len-self-clause-err c =
    let there = sym c.look.ensures ∙ c.in-Ok.is in
    let h = rw (c.bit-bit.ensures, c.in-None.is) at c.in-Ok-rows_across.ensures.rows in
    let size = c.len.ensures.value in
    let long = c.if-len-self.true in
    inr (too_long (code_of c.args.program.now) c.args.packet (record { address = c.args.to; otherwise = c.args.otherwise }) c.in-Ok.instr c.args.self.now _ there h (omega (arith, size, long)))

pub returns-then-len-self-2-clause-err : goal.returns-then-len-self-2-clause-err
returns-then-len-self-2-clause-err c =
    let there = sym c.look.ensures ∙ c.in-Ok.is in
    let h = rw (c.bit-bit.ensures, c.in-Some.is) at c.in-Ok-rows_across.ensures.rows in
    let size = c.len-in-Some.ensures.value in
    let long = c.if-len-self-2.true in
    inr (too_long (code_of c.args.program.now) c.args.packet (record { address = c.args.to; otherwise = c.args.otherwise }) c.in-Ok.instr c.args.self.now _ there h (omega (arith, size, long)))

pub returns-in_default-clause-ok : goal.returns-in_default-clause-ok
returns-in_default-clause-ok c =
    let there = sym c.look.ensures ∙ c.in-Ok.is in
    let h = rw (c.bit-bit.ensures, c.in-None.is) at c.in-Ok-rows_across.ensures.rows in
    let across = rw c.in-None.is at c.in-Ok-rows_across.ensures.across in
    let size = c.len.ensures.value in
    let room = c.if-len-self.false in
    let ends = subst (λ n. EndBefore c.push.new.self n) across.1 c.in_default.ensures.ends in
    one_row (code_of c.args.program.now) c.args.packet (record { address = c.args.to; otherwise = c.args.otherwise }) c.in-Ok.instr c.args.self.now _ c.in-Ok-rows_across.rows.0 there h (omega (arith, size, room)) c.in_default.ensures.ok ends

pub returns-in_default-push-2-clause-ok : goal.returns-in_default-push-2-clause-ok
returns-in_default-push-2-clause-ok c =
    let there = sym c.look.ensures ∙ c.in-Ok.is in
    let h = rw (c.bit-bit.ensures, c.in-Some.is) at c.in-Ok-rows_across.ensures.rows in
    let across = rw c.in-Some.is at c.in-Ok-rows_across.ensures.across in
    let size = c.len-in-Some.ensures.value in
    let room = c.if-len-self-2.false in
    let ends = subst (λ n. EndBefore c.push-in-Some-2.new.self n) across.2 c.in_default-push-2.ensures.ends in
    two_rows (code_of c.args.program.now) c.args.packet (record { address = c.args.to; otherwise = c.args.otherwise }) c.in-Ok.instr c.args.self.now c.push-in-Some.new.self c.push-in-Some-2.new.self _ c.in-Ok-rows_across.rows.0 c.in-Some.row there h (omega (arith, size, room)) c.in_default-push.ensures.ok c.in_default-push-2.ensures.ok refl ends
