use Rattle.std.specs.Prelude.{[], ◌∷◌}
use Rattle.rept_dump.specs.Dump.{registers_of}
use Rattle.rept_found.specs.Crash.{crash_of}
use Rattle.rept_opening.proofs.RunLemmas.{no_memory_read, path_read, path_refused}
use Rattle.rept_opening.proofs.running.stream_run.Goals as goal

pub returns-in-Err-clause-read : goal.returns-in-Err-clause-read
returns-in-Err-clause-read c =
    path_refused (crash_of c.args.dump.now (registers_of c.args.dump.now ∷ [])) c.args.trace.now c.args.from c.requires.one c.in-Err.fault c.in-Err.ensures.refusal c.in-Err.ensures.only_path c.in-Err.ensures.only_refusal c.in-Err.ensures.other

pub returns-in-Ok-one-clause-read : goal.returns-in-Ok-one-clause-read
returns-in-Ok-one-clause-read c =
    path_read (crash_of c.args.dump.now (registers_of c.args.dump.now ∷ [])) c.args.trace.now c.args.from c.requires.one c.in-Ok.path c.in-Ok.ensures.path c.in-Ok.ensures.only_path c.in-Ok.ensures.only_refusal c.in-Ok-one.run' c.in-Ok-one.ensures.ok

pub returns-in-Err-one-clause-read : goal.returns-in-Err-one-clause-read
returns-in-Err-one-clause-read c = no_memory_read (crash_of c.args.dump.now (registers_of c.args.dump.now ∷ [])) c.args.trace.now c.args.from c.requires.one c.in-Ok.ensures.other
