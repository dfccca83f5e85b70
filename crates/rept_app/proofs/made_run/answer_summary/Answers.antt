use Rattle.std.proofs.Common.{Some}
use Rattle.rept_ports.specs.Port.{move}
use Rattle.rept_found.proofs.Truths.{uses_here, no_execution}
use Rattle.rept_report.specs.OneThread.{path_setting}
use Rattle.rept_found.specs.Crash.{path_of}
use Rattle.rept_opening.specs.declared.words.request.Domain.TheVariants as domain
use Rattle.rept_opening.specs.Delivered.{Delivers}
use Rattle.rept_opening.specs.Domains.{means_of}
use Rattle.rept_opening.specs.declared.load.OpenOptions.{OpenOptions}
use Rattle.rept_app.specs.Ends.{EndsSession}
use Rattle.rept_app.specs.Examine.{Examines, FilesEnd}
use Rattle.rept_opening.specs.Loading.{crash_bytes}
use Rattle.rept_app.specs.MadeRun.{Sums}
use Rattle.rept_app.specs.Told.{made_bytes, summary_line}
use Rattle.rept_opening.proofs.DeliveredLemmas.{delivers_as}
use Rattle.rept_app.proofs.MadeLemmas.{sums, session_made, yields_made, crash_made, at_bytes}
use Rattle.rept_app.proofs.ToldLemmas.{reading_of}
use Rattle.rept_app.proofs.made_run.answer_summary.Goals as goal

-- from the first packet on, with values followed as ranges
abbrev ranges_manner : OpenOptions
ranges_manner = record { from = 0; domain = domain.Ranges }

pub returns-clause-text : goal.returns-clause-text
returns-clause-text g c = λ seed steps m.
    let made = c.args.made.now in
    let out = move (g.K.Sink.port c.args.out.now) (g.K.Sink.port c.examine.new.out) in
    let left = Some c.examine.new.input in
    let here : Delivers (Examines (made_bytes made) (reading_of summary_line left)) out c.examine.result =
    at_bytes (λ e k t i. Delivers (Examines (crash_bytes e k t ranges_manner) (reading_of i left)) out c.examine.result) c.bytes-exe.ensures c.bytes-core.ensures c.bytes-trace.ensures c.new-input.ensures c.examine.ensures.text in
    delivers_as (Examines (made_bytes made) (reading_of summary_line left)) (Sums seed steps) out c.examine.result (λ text status. sums seed steps made m left text status) here

pub returns-clause-yields : goal.returns-clause-yields
returns-clause-yields g c = λ seed steps m.
    let made = c.args.made.now in
    let out = move (g.K.Sink.port c.args.out.now) (g.K.Sink.port c.examine.new.out) in
    let left = Some c.examine.new.input in
    let here : Delivers (Examines (made_bytes made) (reading_of summary_line left)) out c.examine.result =
    at_bytes (λ e k t i. Delivers (Examines (crash_bytes e k t ranges_manner) (reading_of i left)) out c.examine.result) c.bytes-exe.ensures c.bytes-core.ensures c.bytes-trace.ensures c.new-input.ensures c.examine.ensures.text in
    let ends_so : FilesEnd (made_bytes made) c.examine.result =
    at_bytes (λ e k t i. FilesEnd (crash_bytes e k t ranges_manner) c.examine.result) c.bytes-exe.ensures c.bytes-core.ensures c.bytes-trace.ensures c.new-input.ensures c.examine.ensures.causes.yields in
    let session : EndsSession c.examine.result = session_made seed steps made m (λ kind has. no_execution (path_of (means_of domain.Ranges) (crash_made seed steps made m) m.rows) (c.reports_are_sound.ensures.conflict (path_setting (path_of (means_of domain.Ranges) (crash_made seed steps made m) m.rows)) kind (uses_here (means_of domain.Ranges) (crash_made seed steps made m) m.rows) has)) c.examine.result ends_so in
    yields_made (made_bytes made) left out c.examine.result session c.examine.ensures.causes.ports.input here
