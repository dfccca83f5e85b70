use Rattle.std.proofs.lemmas.Result.{IfOk-weaker}
use Rattle.rept_steps.specs.Course.{IsSoundCourse}
use Rattle.rept_steps.specs.declared.run.Run.{Run}
use Rattle.rept_streams.specs.Slices.Raw.{RawFiles, files_of, IsRunOfFiles, HasNoRun}
use Rattle.rept_streams.proofs.ThreadsLemmas.Wholes.{file_sound, one_run_of, run_or_none, one_refusal_of, only_found, only_fault}
use Rattle.rept_streams.proofs.threads.rebuilding.rebuild_many.Goals as goal

pub returns-clause-only_run : goal.returns-clause-only_run
returns-clause-only_run c = λ descs found h e x.
    let f : RawFiles = files_of c.args.dump.now c.args.streams descs c.args.from in
    only_found (IsRunOfFiles f) (HasNoRun f) c.rebuild_once.result found (c.rebuild_once.ensures.ok descs h e) (c.rebuild_once.ensures.err descs h e) (λ a p. one_run_of f a found p x) (λ fault p. run_or_none f found fault x p)

pub returns-clause-only_refusal : goal.returns-clause-only_refusal
returns-clause-only_refusal c = λ descs fault h e x.
    let f : RawFiles = files_of c.args.dump.now c.args.streams descs c.args.from in
    only_fault (IsRunOfFiles f) (HasNoRun f) c.rebuild_once.result fault (c.rebuild_once.ensures.ok descs h e) (c.rebuild_once.ensures.err descs h e) (λ a p. run_or_none f a fault p x) (λ other p. one_refusal_of f other fault p x)

pub returns-clause-sound : goal.returns-clause-sound
returns-clause-sound c = λ descs h e.
    let f : RawFiles = files_of c.args.dump.now c.args.streams descs c.args.from in
    IfOk-weaker c.rebuild_once.result (IsRunOfFiles f) (λ (run : Run). IsSoundCourse (record { threads = run.threads; untraced = run.untraced })) (λ run p. file_sound f run p) (c.rebuild_once.ensures.ok descs h e)
