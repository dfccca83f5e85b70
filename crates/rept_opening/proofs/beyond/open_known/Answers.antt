use Rattle.std.proofs.Common.{ℕ, List, Option, Err, inl, inr, refl, sym, ap, ◌∙◌, arith}
use Rattle.std.specs.Option.{option_map}
use Rattle.rept_found.specs.Crash.{crash_of}
use Rattle.rept_opening.specs.Beyond.{story_of}
use Rattle.rept_dump.specs.Dump.{registers_of}
use Rattle.rept_elf.specs.Image.{file_of, segments_of}
use Rattle.rept_opening.specs.Taken.{taken_by}
use Rattle.rept_opening.proofs.BeyondLemmas.{begins_here, has_known, premises_are, told_here}
use Rattle.rept_opening.proofs.ReportLemmas.{whole_fits}
use Rattle.rept_opening.proofs.beyond.open_known.Goals as goal

pub ask_beyond-requires-clause-found : goal.ask_beyond-requires-clause-found
ask_beyond-requires-clause-found g c = λ notes are. rw c.new-told.ensures.found (c.requires.found notes are)

pub ask_beyond-requires-clause-holds : goal.ask_beyond-requires-clause-holds
ask_beyond-requires-clause-holds g c = λ notes are states admitted.
    let crash = crash_of c.args.path.dump.now notes in
    let rows = c.args.path.steps.now in
    let noted = (whole_fits c.args.path.dump.now c.args.path.run.now notes c.requires.fits are).noted in
    let has = has_known c.args.known.now crash c.args.path.run.now rows (c.requires.found notes are) c.requires.one noted c.reports_are_true.ensures.report states admitted in
    rw c.new-told.ensures.inferred (c.in-Ok.ensures.holds (story_of crash c.args.path.run.now.skipped rows) (record { rows_are = sym c.rows-steps.ensures.list; image_end_is = sym c.image_end-image_end.ensures; premises_are = premises_are c.args.path.dump.now notes are (segments_of c.args.path.images.core) c.process_told.result (option_map file_of c.begun_program.result) c.args.path.run.now.skipped rows c.requires.core (told_here c.args.path.dump.now (segments_of c.args.path.images.core) c.image_end-image_end.result c.process_told.result c.image_end-image_end.ensures (c.process_told.ensures (registers_of c.args.path.dump.now) c.status-status.ensures.pid (c.status-status.ensures.regs 2 (omega arith) (omega arith)))) (begins_here c.args.path.dump.now c.args.path.images.executable c.rows-steps.result.now c.args.path.run.now.skipped rows _ c.begun_program.ensures c.requires.exe c.rows-steps.ensures.list) }) states has).holds

pub ask_beyond-requires-clause-taken : goal.ask_beyond-requires-clause-taken
ask_beyond-requires-clause-taken g c =
    let rows = c.args.path.steps.now in
    let begins = begins_here c.args.path.dump.now c.args.path.images.executable c.rows-steps.result.now c.args.path.run.now.skipped rows _ c.begun_program.ensures c.requires.exe c.rows-steps.ensures.list in
    c.new-told.ensures.taken ∙ c.premises_taken-taken.ensures ∙ ap (taken_by (option_map file_of c.begun_program.result)) c.rows-steps.ensures.list ∙ ap (λ (o : Option (List ℕ)). taken_by o rows) begins

pub returns-in-Err-Contradiction-clause-refused : goal.returns-in-Err-Contradiction-clause-refused
returns-in-Err-Contradiction-clause-refused g c = λ notes are.
    let crash = crash_of c.args.path.dump.now notes in
    let rows = c.args.path.steps.now in
    let noted = (whole_fits c.args.path.dump.now c.args.path.run.now notes c.requires.fits are).noted in
    let is = c.in-Err-Contradiction.is ∙ ap Err c.in-Err-Contradiction.field-0-is in
    inr (inl (
      _,
      _,
      record {
        asked = refl;
        rows = rows;
        one = c.requires.one;
        none = λ states admitted.
            let has = has_known c.args.known.now crash c.args.path.run.now rows (c.requires.found notes are) c.requires.one noted c.reports_are_true.ensures.report states admitted in
            c.infer.ensures.impossible c.in-Err-Contradiction.empty is (story_of crash c.args.path.run.now.skipped rows) (record { rows_are = sym c.rows-steps.ensures.list; image_end_is = sym c.image_end-image_end.ensures; premises_are = premises_are c.args.path.dump.now notes are (segments_of c.args.path.images.core) c.process_told.result (option_map file_of c.begun_program.result) c.args.path.run.now.skipped rows c.requires.core (told_here c.args.path.dump.now (segments_of c.args.path.images.core) c.image_end-image_end.result c.process_told.result c.image_end-image_end.ensures (c.process_told.ensures (registers_of c.args.path.dump.now) c.status-status.ensures.pid (c.status-status.ensures.regs 2 (omega arith) (omega arith)))) (begins_here c.args.path.dump.now c.args.path.images.executable c.rows-steps.result.now c.args.path.run.now.skipped rows _ c.begun_program.ensures c.requires.exe c.rows-steps.ensures.list) }) states has;
      },
      refl,
    ))
