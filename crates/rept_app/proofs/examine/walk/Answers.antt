use Rattle.rept_found.specs.Crash.{crash_of}
use Rattle.rept_app.specs.Examine.{WalksTrace}
use Rattle.rept_opening.specs.Opened.{crash_trace}
use Rattle.rept_opening.specs.declared.refusal.Refusal.TheVariants as refusal
use Rattle.rept_opening.proofs.DeliveredLemmas.{delivers_as}
use Rattle.rept_app.proofs.DeliveredLemmas.{ends_told, told_ports}
use Rattle.rept_opening.proofs.ToldLemmas.{where_told, at_some}
use Rattle.rept_app.proofs.ToldLemmas.{reading_of}
use Rattle.rept_app.proofs.ExamineLemmas.{refused_told, not_input, not_output, told_walked, refused_yields, studied_walked, refused_walks, studies_walk, trace_excludes, study_holds}
use Rattle.rept_app.proofs.examine.walk.Goals as goal

pub returns-in-Err-clause-text : goal.returns-in-Err-clause-text
returns-in-Err-clause-text g c = λ notes are.
    let trace = crash_trace (crash_of c.args.dump.now notes) c.args.trace.now c.args.manner in
    let no = c.in-Err.ensures.found notes are in
    where_told _ _ (λ left told. delivers_as _ (WalksTrace trace (reading_of left (g.S.Source.port c.args.input.now).bytes)) _ _
    (λ text status. refused_walks trace (reading_of left (g.S.Source.port c.args.input.now).bytes) text status c.in-Err.fault no.refusal) c.tell.ensures)

pub returns-in-Err-clause-causes : goal.returns-in-Err-clause-causes
returns-in-Err-clause-causes g c = λ notes are.
    let trace = crash_trace (crash_of c.args.dump.now notes) c.args.trace.now c.args.manner in
    let no = c.in-Err.ensures.found notes are in
    let told = ends_told (refusal.Path c.in-Err.fault) _ c.tell.result c.tell.ensures in
    told_walked trace c.tell.result _ _ (told_ports (refusal.Path c.in-Err.fault) (g.S.Source.port c.args.input.now) _ c.tell.result (not_input c.in-Err.fault) (not_output c.in-Err.fault) c.tell.ensures)
    (refused_told trace c.tell.result c.in-Err.fault no.only_run no.only_refusal no.reason no.refusal told) (refused_yields trace c.tell.result c.in-Err.fault no.only_run no.only_refusal no.reason no.refusal told)

pub returns-in-Ok-clause-text : goal.returns-in-Ok-clause-text
returns-in-Ok-clause-text g c = λ notes are.
    let trace = crash_trace (crash_of c.args.dump.now notes) c.args.trace.now c.args.manner in
    let yes = c.in-Ok.ensures.found notes are in
    where_told _ _ (λ left told. delivers_as _ (WalksTrace trace (reading_of left (g.S.Source.port c.study.new.input).bytes)) _ _
    (λ text status h. studies_walk trace (reading_of left (g.S.Source.port c.study.new.input).bytes) text status c.in-Ok.run' yes.run h)
    (at_some (g.S.Source.port c.args.input.now).bytes left _ told (c.study.ensures.text notes are)))

pub returns-in-Ok-clause-causes : goal.returns-in-Ok-clause-causes
returns-in-Ok-clause-causes g c = λ notes are.
    let yes = c.in-Ok.ensures.found notes are in
    studied_walked (crash_trace (crash_of c.args.dump.now notes) c.args.trace.now c.args.manner) c.study.result c.in-Ok.run' yes.only_run yes.only_refusal _ _ (c.study.ensures.causes notes are)

pub returns-in-Ok-clause-stays : goal.returns-in-Ok-clause-stays
returns-in-Ok-clause-stays g c = λ notes are.
    let yes = c.in-Ok.ensures.found notes are in
    study_holds (crash_trace (crash_of c.args.dump.now notes) c.args.trace.now c.args.manner) c.in-Ok.run' c.study.result yes.run (c.study.ensures.stays notes are)

pub returns-in-Ok-clause-impossible : goal.returns-in-Ok-clause-impossible
returns-in-Ok-clause-impossible g c = λ notes are none.
    let yes = c.in-Ok.ensures.found notes are in
    trace_excludes (crash_trace (crash_of c.args.dump.now notes) c.args.trace.now c.args.manner) c.in-Ok.run' yes.only_run (c.study.ensures.impossible notes are none)
