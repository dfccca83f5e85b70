use Rattle.std.proofs.Common.{inl, inr, sym, ap, subst}
use Rattle.rept_found.specs.Crash.{crash_of}
use Rattle.rept_ports.specs.Port.{move}
use Rattle.rept_opening.specs.Delivered.{SaysOrNoMemory}
use Rattle.rept_opening.specs.Domains.{means_of}
use Rattle.rept_opening.specs.Opened.{crash_run}
use Rattle.rept_app.specs.Study.{Studies, IsStudied}
use Rattle.rept_opening.proofs.DeliveredLemmas.{delivers_as}
use Rattle.rept_opening.proofs.ToldLemmas.{where_told, at_some}
use Rattle.rept_app.proofs.ToldLemmas.{reading_of}
use Rattle.rept_app.proofs.StudyLemmas.{delivers_from, held_causes, not_inconsistent, refused_causes, refused_excludes, refused_studies}
use Rattle.rept_app.proofs.study.study.Goals as goal

pub returns-in-Ok-clause-text : goal.returns-in-Ok-clause-text
returns-in-Ok-clause-text g c = λ notes are.
    let p = crash_run (means_of c.args.domain) (crash_of c.args.dump.now notes) c.args.run.now in
    let h = c.in-Ok.ensures.asked notes are in
    where_told _ _ (λ left told. delivers_as _ (Studies p (reading_of left (g.S.Source.port c.open_report.new.input).bytes)) _ _ (λ text status said. inr (inl (h.account, h.report, said)))
    (at_some (g.S.Source.port c.args.input.now).bytes left _ told h.asked.0))

pub returns-in-Ok-clause-causes : goal.returns-in-Ok-clause-causes
returns-in-Ok-clause-causes g c = λ notes are.
    let h = c.in-Ok.ensures.asked notes are in
    held_causes (means_of c.args.domain) (crash_of c.args.dump.now notes) c.args.run.now _ _ c.in-Ok.status h.report.report.consistent h.asked.1

pub returns-in-Ok-clause-stays : goal.returns-in-Ok-clause-stays
returns-in-Ok-clause-stays g c = λ notes are. let h = c.in-Ok.ensures.asked notes are in inr (h.report.report.consistent, h.asked.1.answered)

pub returns-in-Ok-clause-impossible : goal.returns-in-Ok-clause-impossible
returns-in-Ok-clause-impossible g c = λ notes are e. absurd (not_inconsistent c.in-Ok.status (c.in-Ok.ensures.asked notes are).asked.1.answered e)

pub returns-in-Err-clause-text : goal.returns-in-Err-clause-text
returns-in-Err-clause-text g c = λ notes are.
    let p = crash_run (means_of c.args.domain) (crash_of c.args.dump.now notes) c.args.run.now in
    let said = delivers_from (SaysOrNoMemory c.in-Err.refusal) (g.K.Sink.port c.args.out.now) (g.K.Sink.port c.open_report.new.out) (g.K.Sink.port c.tell.new.out) c.tell.result (ap g.K.Sink.port c.in-Err.ensures.unread.1) c.tell.ensures in
    where_told _ _ (λ left told. delivers_as _ (Studies p (reading_of left (g.S.Source.port c.open_report.new.input).bytes)) _ _
    (refused_studies (means_of c.args.domain) (crash_of c.args.dump.now notes) c.args.run.now c.in-Err.refusal (c.in-Err.ensures.refused notes are) (reading_of left (g.S.Source.port c.open_report.new.input).bytes)) said)

pub returns-in-Err-clause-causes : goal.returns-in-Err-clause-causes
returns-in-Err-clause-causes g c = λ notes are.
    let p = crash_run (means_of c.args.domain) (crash_of c.args.dump.now notes) c.args.run.now in
    let said = delivers_from (SaysOrNoMemory c.in-Err.refusal) (g.K.Sink.port c.args.out.now) (g.K.Sink.port c.open_report.new.out) (g.K.Sink.port c.tell.new.out) c.tell.result (ap g.K.Sink.port c.in-Err.ensures.unread.1) c.tell.ensures in
    subst (λ x. IsStudied p (move (g.S.Source.port c.args.input.now) (g.S.Source.port x)) (move (g.K.Sink.port c.args.out.now) (g.K.Sink.port c.tell.new.out)) c.tell.result) (sym c.in-Err.ensures.unread.0)
    (refused_causes (means_of c.args.domain) (crash_of c.args.dump.now notes) c.args.run.now c.in-Err.refusal (c.in-Err.ensures.refused notes are) (g.S.Source.port c.args.input.now) _ c.tell.result said)

pub returns-in-Err-clause-stays : goal.returns-in-Err-clause-stays
returns-in-Err-clause-stays g c = λ notes are. inl c.in-Err.ensures.unread.0

pub returns-in-Err-clause-impossible : goal.returns-in-Err-clause-impossible
returns-in-Err-clause-impossible g c = λ notes are.
    let said = delivers_from (SaysOrNoMemory c.in-Err.refusal) (g.K.Sink.port c.args.out.now) (g.K.Sink.port c.open_report.new.out) (g.K.Sink.port c.tell.new.out) c.tell.result (ap g.K.Sink.port c.in-Err.ensures.unread.1) c.tell.ensures in
    refused_excludes (means_of c.args.domain) (crash_of c.args.dump.now notes) c.args.run.now c.in-Err.refusal (c.in-Err.ensures.refused notes are) _ c.tell.result said
