use Rattle.std.proofs.Common.{◌≡◌, map, sym, ap, ◌∙◌, subst, length}
use Rattle.std.proofs.lemmas.Result.{IfOk-weaker}
use Rattle.rept_dump.specs.Dump.{exe_of}
use Rattle.rept_dump.specs.Program.{contents}
use Rattle.rept_dump.specs.Registers.{saved_pc}
use Rattle.rept_path.specs.Program.{code_of}
use Rattle.rept_path.specs.declared.fault.PathFault.TheVariants.{OutOfMemory}
use Rattle.rept_streams.specs.Slices.Many.{processes}
use Rattle.rept_streams.specs.Slices.Raw.{PassBefore, files_of, code_in, traces}
use Rattle.rept_steps.specs.Course.{IsSoundCourse}
use Rattle.rept_steps.specs.Runs.{course_of}
use Rattle.rept_steps.specs.declared.run.Run.{Run}
use Rattle.rept_streams.specs.declared.threads.notes.KeptNote.{KeptNote}
use Rattle.rept_streams.proofs.ThreadsLemmas.Wholes.{some_stream}
use Rattle.rept_streams.specs.Runs.Calls.{entered}
use Rattle.rept_streams.specs.Runs.Told.{IsEnteredRun}
use Rattle.rept_streams.proofs.RunsLemmas.Entering.{entered_sound}
use Rattle.rept_streams.proofs.RunsLemmas.Few.{notes_count, thread_each}
use Rattle.rept_streams.proofs.RunsLemmas.Adding.{both, notes_each, pcs_same}
use Rattle.rept_streams.proofs.runs.reading.read_streams.Goals as goal

pub returns-in-Ok-clause-ok : goal.returns-in-Ok-clause-ok
returns-in-Ok-clause-ok c = λ descs h count.
    let told = c.in-Ok.told in
    let is = c.in-Ok.ensures.ok descs h count in
    let sound = c.in-Ok.ensures.sound descs h count in
    let f = files_of c.args.dump.now c.args.streams descs c.args.from in
    let passes : PassBefore (record { file = c.args.streams; processes = processes (traces f is.0); from = c.args.from }) is.0 = (is.1, is.2.passed) in
    let code_is : code_of c.new-program.result ≡ code_in f =
    ap code_of c.new-program.ensures ∙ (λ i. record { contents = contents (exe_of c.args.dump.now); halves = c.halves_of.ensures (some_stream c.args.streams c.args.from (processes (traces f is.0)) is.0 passes) i }) in
    let known = c.in_ok-notes.ensures.ok descs h count in
    let value = c.as_slice.ensures.value in
    let pcs_are : map (λ (n : KeptNote). n.pc) c.as_slice.result.now ≡ map saved_pc descs = ap (map (λ (n : KeptNote). n.pc)) value ∙ pcs_same c.in_ok-notes.notes.items descs known in
    let each : length c.as_slice.result.now ≡ length told.threads = ap (length {A = KeptNote}) value ∙ notes_each c.in_ok-notes.notes.items descs known ∙ sym (notes_count descs) ∙ sym (thread_each (traces f is.0) told is.2) in
    IfOk-weaker c.entered.result (λ new. new ≡ entered (code_of c.new-program.result) (map (λ (n : KeptNote). n.pc) c.as_slice.result.now) told) (IsEnteredRun f (map saved_pc descs))
    (λ new e. (told, is, e ∙ (λ i. entered (code_is i) (pcs_are i) told))) (c.entered.ensures.ok sound.taken each)

pub returns-in-Ok-clause-only_run : goal.returns-in-Ok-clause-only_run
returns-in-Ok-clause-only_run c = λ descs other h count is.
    let f = files_of c.args.dump.now c.args.streams descs c.args.from in
    let same : c.in-Ok.told ≡ other = c.in-Ok.ensures.only_run descs other h count is in
    both (λ run. run ≡ entered (code_in f) (map saved_pc descs) other) (λ e. e ≡ OutOfMemory) c.entered.result
    (IfOk-weaker c.entered.result (IsEnteredRun f (map saved_pc descs)) (λ run. run ≡ entered (code_in f) (map saved_pc descs) other)
    (λ run its. its.2 ∙ ap (entered (code_in f) (map saved_pc descs)) (sym (c.in-Ok.ensures.only_run descs its.0 h count its.1) ∙ same)) (returns-in-Ok-clause-ok c descs h count))
    c.entered.ensures.err

pub returns-in-Ok-clause-only_refusal : goal.returns-in-Ok-clause-only_refusal
returns-in-Ok-clause-only_refusal c = λ descs fault h count why. absurd (c.in-Ok.ensures.only_refusal descs fault h count why)

pub returns-in-Ok-clause-sound : goal.returns-in-Ok-clause-sound
returns-in-Ok-clause-sound c = λ descs h count.
    let f = files_of c.args.dump.now c.args.streams descs c.args.from in
    let sound = c.in-Ok.ensures.sound descs h count in
    IfOk-weaker c.entered.result (IsEnteredRun f (map saved_pc descs)) (λ run. IsSoundCourse (course_of run))
    (λ run its.
    subst (λ (r : Run). IsSoundCourse (course_of r)) (sym its.2)
    (entered_sound (code_in f) (map saved_pc descs) its.0 (subst (λ (r : Run). IsSoundCourse (course_of r)) (c.in-Ok.ensures.only_run descs its.0 h count its.1) sound)))
    (returns-in-Ok-clause-ok c descs h count)
