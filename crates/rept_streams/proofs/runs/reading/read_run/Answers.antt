use Rattle.std.proofs.Common.{◌≡◌, ◌⊎◌, inl, inr, ℕ, map, List, Result, Ok, Err, refl, sym, ap, ◌∙◌, subst, arith}
use Rattle.std.proofs.lemmas.Result.{IfOk-weaker, IfErr-weaker}
use Rattle.rept_trace.specs.Streams.{StreamFile}
use Rattle.rept_trace.specs.declared.fault.TraceFault.{TraceFault}
use Rattle.rept_path.specs.declared.fault.PathFault.{PathFault}
use Rattle.rept_path.specs.declared.fault.PathFault.TheVariants.{Packet, OutOfMemory}
use Rattle.rept_streams.specs.Slices.Raw.{files_of, HasNoRun}
use Rattle.rept_streams.proofs.ThreadsLemmas.Fitting.{file_fits}
use Rattle.rept_streams.specs.Runs.Told.{traced, IsEnteredRun, IsTracedRun, HasNoTracedRun}
use Rattle.rept_streams.proofs.RunsLemmas.Few.{run_small}
use Rattle.rept_streams.proofs.runs.reading.read_run.Goals as goal
use Rattle.std.specs.Prelude.{MatchResult}
use Rattle.rept_dump.specs.Registers.{saved_pc}
use Rattle.rept_steps.specs.declared.run.Run.{Run}
use Rattle.rept_steps.specs.Runs.{course_of}
use Rattle.rept_timeline.specs.Small.{IsSmall}

pub read_streams-requires : goal.read_streams-requires
read_streams-requires c =
    let fits = file_fits c.args.trace.now c.in-Ok.streams c.in-Ok.ensures.opens in
    let few = c.requires in
    omega (arith, fits, few)

pub returns-in-Ok-clause-ok : goal.returns-in-Ok-clause-ok
returns-in-Ok-clause-ok c = λ descs threads count.
    IfOk-weaker c.read_streams.result (IsEnteredRun (files_of c.args.dump.now c.in-Ok.streams descs c.args.from) (map saved_pc descs)) (IsTracedRun (traced c.args.dump.now descs c.args.trace.now c.args.from))
    (λ run is. (c.in-Ok.streams, c.in-Ok.ensures.opens, is)) (c.read_streams.ensures.ok descs threads count)

pub returns-in-Ok-clause-err : goal.returns-in-Ok-clause-err
returns-in-Ok-clause-err c = λ descs threads count.
    IfErr-weaker c.read_streams.result (λ e. (e ≡ OutOfMemory) ⊎ HasNoRun (files_of c.args.dump.now c.in-Ok.streams descs c.args.from) e) (λ e. (e ≡ OutOfMemory) ⊎ HasNoTracedRun (traced c.args.dump.now descs c.args.trace.now c.args.from) e)
    (λ e refused. either descs e refused) (c.read_streams.ensures.err descs threads count)
  where
    either : (descs : List (List ℕ)) (e : PathFault) → (e ≡ OutOfMemory) ⊎ HasNoRun (files_of c.args.dump.now c.in-Ok.streams descs c.args.from) e → (e ≡ OutOfMemory) ⊎ HasNoTracedRun (traced c.args.dump.now descs c.args.trace.now c.args.from) e
    either descs e (inl none) = inl none
    either descs e (inr why) = inr (inr (c.in-Ok.streams, c.in-Ok.ensures.opens, why))

pub returns-in-Ok-clause-only_run : goal.returns-in-Ok-clause-only_run
returns-in-Ok-clause-only_run c = λ descs other threads count is.
    let same : ◌≡◌ {A = Result StreamFile TraceFault} (Ok c.in-Ok.streams) (Ok is.0) = c.in-Ok.ensures.only (Ok is.0) is.1 in
    let file : is.0 ≡ c.in-Ok.streams = cc in
    let its : IsEnteredRun (files_of c.args.dump.now c.in-Ok.streams descs c.args.from) (map saved_pc descs) other = subst (λ (f : StreamFile). IsEnteredRun (files_of c.args.dump.now f descs c.args.from) (map saved_pc descs) other) file is.2 in
    subst (λ (r : Run). MatchResult c.read_streams.result (λ run. run ≡ r) (λ e. e ≡ OutOfMemory)) (sym its.2) (c.read_streams.ensures.only_run descs its.0 threads count its.1)

pub returns-in-Ok-clause-only_refusal : goal.returns-in-Ok-clause-only_refusal
returns-in-Ok-clause-only_refusal c = λ descs fault threads count why.
    elim why [
      | inl bad ↦ absurd (let same = c.in-Ok.ensures.only (Err bad.0) bad.1 in cc)
      | inr refused ↦
          let same : ◌≡◌ {A = Result StreamFile TraceFault} (Ok c.in-Ok.streams) (Ok refused.0) = c.in-Ok.ensures.only (Ok refused.0) refused.1 in
          let file : refused.0 ≡ c.in-Ok.streams = cc in
          c.read_streams.ensures.only_refusal descs fault threads count (subst (λ (f : StreamFile). HasNoRun (files_of c.args.dump.now f descs c.args.from) fault) file refused.2)
    ]

pub returns-in-Ok-clause-sound : goal.returns-in-Ok-clause-sound
returns-in-Ok-clause-sound c = λ descs threads count. c.read_streams.ensures.sound descs threads count

pub returns-in-Ok-clause-small : goal.returns-in-Ok-clause-small
returns-in-Ok-clause-small c = λ descs threads count apart.
    IfOk-weaker c.read_streams.result (IsEnteredRun (files_of c.args.dump.now c.in-Ok.streams descs c.args.from) (map saved_pc descs)) (λ run. IsSmall (course_of run))
    (λ run is. run_small (traced c.args.dump.now descs c.args.trace.now c.args.from) run (c.in-Ok.streams, c.in-Ok.ensures.opens, is) apart) (c.read_streams.ensures.ok descs threads count)

pub returns-in-Err-clause-err : goal.returns-in-Err-clause-err
returns-in-Err-clause-err c = λ descs threads count. inr (inl (c.in-Err.fault, c.in-Err.ensures.opens, refl))

pub returns-in-Err-clause-only_run : goal.returns-in-Err-clause-only_run
returns-in-Err-clause-only_run c = λ descs other threads count is. absurd (let same = c.in-Err.ensures.only (Ok is.0) is.1 in cc)

pub returns-in-Err-clause-only_refusal : goal.returns-in-Err-clause-only_refusal
returns-in-Err-clause-only_refusal c = λ descs fault threads count why.
    elim why [
      | inl bad ↦
          let same : ◌≡◌ {A = Result StreamFile TraceFault} (Err c.in-Err.fault) (Err bad.0) = c.in-Err.ensures.only (Err bad.0) bad.1 in
          let is : c.in-Err.fault ≡ bad.0 = cc in
          inr (ap Packet is ∙ sym bad.2)
      | inr refused ↦ absurd (let same = c.in-Err.ensures.only (Ok refused.0) refused.1 in cc)
    ]
