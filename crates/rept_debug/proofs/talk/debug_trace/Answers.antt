use Rattle.std.proofs.Common.{ap, inr}
use Rattle.rept_found.specs.Crash.{crash_of}
use Rattle.rept_ports.specs.Port.{move}
use Rattle.rept_opening.specs.Domains.{means_of}
use Rattle.rept_opening.specs.Opened.{crash_run, crash_trace}
use Rattle.rept_debug.specs.Debugged.{streams}
use Rattle.rept_debug.specs.declared.talk.OpenDialog.{OpenDialog}
use Rattle.rept_debug.proofs.TalkLemmas.{no_room, not_begun, run_held, run_refused, still_greeted, talks_over}
use Rattle.rept_debug.proofs.talk.debug_trace.Goals as goal

pub returns-in-Err-clause-refused : goal.returns-in-Err-clause-refused
returns-in-Err-clause-refused g c = λ notes are. not_begun (crash_trace (crash_of c.args.dump.now notes) c.args.trace.now c.args.manner) c.in-Err.fault (c.in-Err.ensures.begun notes are).refused

pub returns-in-Err-noticed-clause-refused : goal.returns-in-Err-noticed-clause-refused
returns-in-Err-noticed-clause-refused g c = λ notes are. no_room (crash_trace (crash_of c.args.dump.now notes) c.args.trace.now c.args.manner)

pub returns-in-Ok-open_report-clause-held : goal.returns-in-Ok-open_report-clause-held
returns-in-Ok-open_report-clause-held g c = λ notes are.
    let begun = c.in-Ok.ensures.begun notes are in
    let d : OpenDialog = record { greeting = c.greet-greeting.result; files = c.args.files } in
    run_held (crash_trace (crash_of c.args.dump.now notes) c.args.trace.now c.args.manner) c.args.files
    (streams (move (g.S.Source.port c.args.input.now) (g.S.Source.port c.open_report.new.input)) (move (g.K.Sink.port c.args.out.now) (g.K.Sink.port c.open_report.new.out)) (move (g.E.Sink.port c.args.errors.now) (g.E.Sink.port c.noticed.new.errors)))
    (record { from = c.in-Ok.begun.from; end = c.in-Ok-open_report.end }) c.in-Ok.begun.run begun.run begun.from c.in-Ok-noticed.ensures.noticed
    (talks_over (crash_run (means_of c.args.manner.domain) (crash_of c.args.dump.now notes) c.in-Ok.begun.run) (g.S.Source.port c.args.input.now) (g.S.Source.port c.greet-greeting.new.input) (g.S.Source.port c.open_report.new.input) (g.K.Sink.port c.args.out.now) (g.K.Sink.port c.greet-greeting.new.out) (g.K.Sink.port c.open_report.new.out) d c.in-Ok-open_report.end c.greet-greeting.ensures (c.in-Ok-open_report.ensures.asked notes are))

pub returns-clause-refused : goal.returns-clause-refused
returns-clause-refused g c = λ notes are.
    let begun = c.in-Ok.ensures.begun notes are in
    run_refused (crash_trace (crash_of c.args.dump.now notes) c.args.trace.now c.args.manner) c.in-Ok.begun.from c.in-Ok.begun.run c.in-Err-open_report.refusal begun.run begun.from (c.in-Err-open_report.ensures.refused notes are)

-- what was answered before a refusal
pub returns-in-Err-clause-greeted : goal.returns-in-Err-clause-greeted
returns-in-Err-clause-greeted g c = inr (c.greet-greeting.result, c.greet-greeting.ensures)

pub returns-in-Err-noticed-clause-greeted : goal.returns-in-Err-noticed-clause-greeted
returns-in-Err-noticed-clause-greeted g c = inr (c.greet-greeting.result, c.greet-greeting.ensures)

pub returns-clause-greeted : goal.returns-clause-greeted
returns-clause-greeted g c =
    let unread = c.in-Err-open_report.ensures.unread in
    still_greeted (g.S.Source.port c.args.input.now) (g.S.Source.port c.greet-greeting.new.input) (g.S.Source.port c.open_report.new.input) (g.K.Sink.port c.args.out.now) (g.K.Sink.port c.greet-greeting.new.out) (g.K.Sink.port c.open_report.new.out) c.greet-greeting.result (ap g.S.Source.port unread.0) (ap g.K.Sink.port unread.1) c.greet-greeting.ensures
