use Rattle.std.proofs.Common.{rules, ◌≡◌, true, false, refl, sym, subst}
use Rattle.std.specs.Prelude.{ℕ, List}
use Rattle.rept_streams.specs.Runs.Kind.{is_several}
use Rattle.rept_streams.specs.Runs.Told.{traced}
use Rattle.rept_found.specs.Crash.{crash_of}
use Rattle.rept_opening.specs.TraceRun.{IsRunRead}
use Rattle.rept_opening.proofs.RunLemmas.{fits_result, only_note, streams_read}
use Rattle.rept_opening.proofs.running.trace_run.Goals as goal

pub returns-then-is_several-clause-read : goal.returns-then-is_several-clause-read
returns-then-is_several-clause-read c = λ notes are.
    let several : is_several c.args.trace.now ≡ true = search rules in
    streams_read (crash_of c.args.dump.now notes) c.args.trace.now c.args.from several c.read_run.result
    (c.read_run.ensures.ok notes are.threads are.count) (c.read_run.ensures.err notes are.threads are.count)
    (λ other is. c.read_run.ensures.only_run notes other are.threads are.count is) (λ f has. c.read_run.ensures.only_refusal notes f are.threads are.count has)

pub returns-then-is_several-clause-fits : goal.returns-then-is_several-clause-fits
returns-then-is_several-clause-fits c =
    let notes = c.requires.noted.notes in
    let are = c.requires.noted.are in
    fits_result c.args.dump.now notes (traced c.args.dump.now notes c.args.trace.now c.args.from) are c.read_run.result
    (c.read_run.ensures.ok notes are.threads are.count) (c.read_run.ensures.sound notes are.threads are.count) (c.read_run.ensures.small notes are.threads are.count are.apart) refl

pub returns-clause-read : goal.returns-clause-read
returns-clause-read c = λ notes are.
    let one : is_several c.args.trace.now ≡ false = search rules in
    let only = only_note c.args.dump.now notes are (c.requires.noted.one one) in
    subst (λ (ns : List (List ℕ)). IsRunRead (crash_of c.args.dump.now ns) c.args.trace.now c.args.from c.stream_run.result) (sym only) c.stream_run.ensures.read
