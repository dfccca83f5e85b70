use Rattle.std.proofs.Common.{◌≡◌, ◌+◌, List, get_or, false, sym, ap, subst, ◌∙◌, arith, rules}
use Rattle.std.proofs.lemmas.Option.{slice_get-get_or}
use Rattle.std.proofs.lemmas.List.Elements.{All-nil}
use Rattle.std.specs.List.{All}
use Rattle.rept_isa.specs.declared.row.StepRow.{StepRow}
use Rattle.rept_encode.specs.Walkable.{IsStepped}
use Rattle.rept_simlog.specs.Program.{program_of}
use Rattle.rept_simlog.specs.declared.hartlog.log.HartLogLine.{HartLogLine}
use Rattle.rept_simlog.specs.Hartlog.Steps.{next_address}
use Rattle.rept_simlog.proofs.HartlogLemmas.Lines.{rest_whole}
use Rattle.rept_simlog.proofs.HartlogLemmas.Pieces.{no_entry, Going, going_first, piece_last, fault_here, piece_step, going_step, last_calm}
use Rattle.rept_simlog.proofs.hartlog.threads.steps_of.Goals as goal

pub loop-i-init : goal.loop-i-init
loop-i-init c = record {
  going = subst (λ (rows : List StepRow). Going (program_of c.args.program.now) c.args.entries.now 0 rows) (sym c.new-steps.ensures) (going_first (program_of c.args.program.now) c.args.entries.now);
  steps = subst (λ (rows : List StepRow). All (IsStepped c.args.program.now.halves) rows) (sym c.new-steps.ensures) (All-nil (IsStepped c.args.program.now.halves));
}

pub returns-in_default-clause-piece : goal.returns-in_default-clause-piece
returns-in_default-clause-piece c =
    let entries = c.args.entries.now in
    let entry : HartLogLine = get_or c.args.entries.now c.loop-i.i no_entry in
    let lt = c.loop-i-test.true in
    let there = slice_get-get_or c.args.entries.now c.loop-i.i no_entry (omega arith) in
    let none = sym (c.in_default.ensures ∙ ap (λ (es : List HartLogLine). next_address es (get_or c.args.entries.now c.loop-i.i no_entry).thread) (rest_whole c.args.entries.now (c.loop-i.i + 1))) in
    piece_last (program_of c.args.program.now) c.args.entries.now c.loop-i.i c.loop-i.steps (get_or c.args.entries.now c.loop-i.i no_entry) c.loop-i.invariant.going there (omega arith) none

pub add_step-requires-clause-ends : goal.add_step-requires-clause-ends
add_step-requires-clause-ends c =
    let lt = c.loop-i-test.true in
    let begins = slice_get-get_or c.args.entries.now 0 no_entry (omega arith) in
    let there = slice_get-get_or c.args.entries.now c.loop-i.i no_entry (omega arith) in
    let thread : (get_or c.args.entries.now 0 no_entry).thread ≡ (get_or c.args.entries.now c.loop-i.i no_entry).thread = search rules in
    c.loop-i.invariant.going.ends (get_or c.args.entries.now 0 no_entry) (get_or c.args.entries.now c.loop-i.i no_entry) begins there (sym thread)

pub returns-in-Err-clause-err : goal.returns-in-Err-clause-err
returns-in-Err-clause-err c =
    let lt = c.loop-i-test.true in
    let there = slice_get-get_or c.args.entries.now c.loop-i.i no_entry (omega arith) in
    let next = sym (c.in-Some.ensures ∙ ap (λ (es : List HartLogLine). next_address es (get_or c.args.entries.now c.loop-i.i no_entry).thread) (rest_whole c.args.entries.now (c.loop-i.i + 1))) in
    fault_here (program_of c.args.program.now) c.args.entries.now c.loop-i.i c.loop-i.steps (get_or c.args.entries.now c.loop-i.i no_entry) c.in-Some.to c.in-Err.refusal c.loop-i.invariant.going there next c.in-Err.ensures.err

pub returns-then-ends_with_call-clause-piece : goal.returns-then-ends_with_call-clause-piece
returns-then-ends_with_call-clause-piece c =
    let lt = c.loop-i-test.true in
    let begins = slice_get-get_or c.args.entries.now 0 no_entry (omega arith) in
    let there = slice_get-get_or c.args.entries.now c.loop-i.i no_entry (omega arith) in
    let hart : (get_or c.args.entries.now 0 no_entry).hart ≡ (get_or c.args.entries.now c.loop-i.i no_entry).hart = search rules in
    let thread : (get_or c.args.entries.now 0 no_entry).thread ≡ (get_or c.args.entries.now c.loop-i.i no_entry).thread = search rules in
    let next = sym (c.in-Some.ensures ∙ ap (λ (es : List HartLogLine). next_address es (get_or c.args.entries.now c.loop-i.i no_entry).thread) (rest_whole c.args.entries.now (c.loop-i.i + 1))) in
    piece_step (program_of c.args.program.now) c.args.entries.now c.loop-i.i c.loop-i.steps c.add_step.new.steps (get_or c.args.entries.now 0 no_entry) (get_or c.args.entries.now c.loop-i.i no_entry) c.in-Some.to c.loop-i.invariant.going begins there (sym hart) (sym thread) c.requires.lines next c.in_default-add_step.ensures.ok (omega arith)

pub loop-i-preserved : goal.loop-i-preserved
loop-i-preserved c =
    let lt = c.loop-i-test.true in
    let begins = slice_get-get_or c.args.entries.now 0 no_entry (omega arith) in
    let there = slice_get-get_or c.args.entries.now c.loop-i.i no_entry (omega arith) in
    let hart : (get_or c.args.entries.now 0 no_entry).hart ≡ (get_or c.args.entries.now c.loop-i.i no_entry).hart = search rules in
    let thread : (get_or c.args.entries.now 0 no_entry).thread ≡ (get_or c.args.entries.now c.loop-i.i no_entry).thread = search rules in
    let next = sym (c.in-Some.ensures ∙ ap (λ (es : List HartLogLine). next_address es (get_or c.args.entries.now c.loop-i.i no_entry).thread) (rest_whole c.args.entries.now (c.loop-i.i + 1))) in
    let none : c.ends_with_call.result ≡ false = search rules in
    record {
      going = going_step (program_of c.args.program.now) c.args.entries.now c.loop-i.i c.loop-i.steps c.add_step.new.steps (get_or c.args.entries.now 0 no_entry) (get_or c.args.entries.now c.loop-i.i no_entry) c.in-Some.to c.loop-i.invariant.going begins there (sym hart) (sym thread) c.requires.lines next c.in_default-add_step.ensures.ok c.in_default-add_step.ensures.ends (last_calm c.rows.result.now c.add_step.new.steps c.ends_with_call.result c.rows.ensures.list c.ends_with_call.ensures none);
      steps = c.add_step.ensures.steps;
    }
