use Rattle.std.proofs.Common.{◌+◌, ◌∙◌, get_or, arith, subst}
use Rattle.std.proofs.lemmas.Option.{slice_get-get_or}
use Rattle.rept_path.specs.Code.{Code}
use Rattle.rept_simlog.specs.Program.{program_of}
use Rattle.rept_simlog.specs.Walk.{AddsRow, MayStep}
use Rattle.rept_simlog.proofs.Entries.{no_entry, along_push, go_push, rows_size, ends_at}
use Rattle.rept_simlog.proofs.walk.steps_of.Goals as goal

pub loop-i-preserved : goal.loop-i-preserved
loop-i-preserved c =
    let i = c.loop-i.invariant in
    let code = c.near-program.ensures ∙ i.code in
    let x = subst (λ (cs : Code). AddsRow cs c.loop-i.steps c.add_step.new.steps (get_or c.args.entries.now c.loop-i.i no_entry) (get_or c.args.entries.now (c.loop-i.i + 1) no_entry)) code c.in_default.ensures.ok in
    let lt = c.loop-i-test.true in
    let entries = c.args.entries.now in
    let from = slice_get-get_or c.args.entries.now c.loop-i.i no_entry (omega arith) in
    let to = slice_get-get_or c.args.entries.now (c.loop-i.i + 1) no_entry (omega arith) in
    record {
      code = code;
      count = (let s = rows_size (program_of c.args.program.now) c.loop-i.steps c.add_step.new.steps (get_or c.args.entries.now c.loop-i.i no_entry) (get_or c.args.entries.now (c.loop-i.i + 1) no_entry) x in let n = i.count in omega arith);
      along = along_push (program_of c.args.program.now) c.args.entries.now c.loop-i.steps c.add_step.new.steps c.loop-i.i (get_or c.args.entries.now c.loop-i.i no_entry) (get_or c.args.entries.now (c.loop-i.i + 1) no_entry) i.along i.count from to x;
      steps = c.add_step.ensures.steps;
      leads = go_push (program_of c.args.program.now) c.args.entries.now c.loop-i.i (get_or c.args.entries.now c.loop-i.i no_entry) (get_or c.args.entries.now (c.loop-i.i + 1) no_entry) i.leads from to (subst (λ (cs : Code). MayStep cs (get_or c.args.entries.now c.loop-i.i no_entry) (get_or c.args.entries.now (c.loop-i.i + 1) no_entry)) code c.in_default.ensures.leads);
      ends = ends_at c.args.entries.now c.loop-i.i (get_or c.args.entries.now (c.loop-i.i + 1) no_entry) c.add_step.new.steps to c.in_default.ensures.ends;
    }
