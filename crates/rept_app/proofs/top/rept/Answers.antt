use Rattle.std.proofs.Common.{◌≡◌, ◌⊎◌, map, string_bytes, IfSome}
use Rattle.rept_ports.specs.Port.{move}
use Rattle.rept_opening.specs.Delivered.{Delivers}
use Rattle.rept_app.specs.Examine.{Examines}
use Rattle.rept_opening.specs.Lines.{status_of}
use Rattle.rept_opening.specs.Loading.{core_bytes, crash_bytes, loading, asked_for}
use Rattle.rept_opening.specs.Loading.Loading.{Loaded, LoadedCore, MadeRun}
use Rattle.rept_opening.specs.Mapped.{mapped_crash}
use Rattle.rept_app.specs.MappedEnds.{ExaminesMapped, MappedEnd, MappedExcludes, MappedHolds, mapped_call}
use Rattle.rept_app.specs.MadeRun.{Sums}
use Rattle.rept_opening.specs.declared.load.LoadedRequest.TheVariants as asked
use Rattle.rept_app.proofs.EarlierLemmas.{infer_knows}
use Rattle.rept_app.proofs.MadeLemmas.{made_holds}
use Rattle.rept_app.proofs.WordsLemmas.{asks_few}
use Rattle.rept_app.proofs.MappedTop.{as_before, both_asks, both_at, both_loads, both_mean, both_named, mapped_causes, mapped_ends, mapped_excludes, mapped_holds, mapped_loads, mapped_once, mapped_stays, mapped_usage, mapped_writes}
use Rattle.rept_app.specs.Claims.{BitsKnowMore, ComeToReport, InferKnowsMore, ReportHolds, NoExecution}
use Rattle.rept_app.specs.Told.{CallWrites, call_input}
use Rattle.rept_app.specs.Top.{EndsByFiles}
use Rattle.rept_opening.specs.Words.Words.{meaning_of}
use Rattle.rept_opening.specs.declared.status.ExitStatus.TheVariants as ends
use Rattle.rept_opening.proofs.DeliveredLemmas.{delivers_as}
use Rattle.rept_app.proofs.DeliveredLemmas.{ends_told, told_ports, not_yielded}
use Rattle.rept_app.proofs.PromiseLemmas.{promised}
use Rattle.rept_app.proofs.TrueLemmas.{bits_know, reports_hold}
use Rattle.rept_opening.proofs.TrueLemmas.{true_in_both, true_of}
use Rattle.rept_opening.specs.declared.words.request.Domain.TheVariants as domain
use Rattle.rept_opening.proofs.ToldLemmas.{where_told, at_some}
use Rattle.rept_app.proofs.ToldLemmas.{reading_of}
use Rattle.rept_app.proofs.TopLemmas.{both, of_both, loaded_at, refused_ends, refused_writes, refused_causes, refused_loads, no_status, input_only, output_only, conflict_only, examined_writes, examined_ends, examined_causes, examined_excludes, all_loads, files_hold, holds_where, completed, done_at, all_at, made_at, asked_holds, loaded_asks, loads_named, refused_asks, made_asks, made_loads, made_means, made_causes, made_ends, made_writes, no_other, causes_of, once_of}
use Rattle.rept_opening.proofs.LoadingLemmas.{stops, ok_at}
use Rattle.rept_app.proofs.top.rept.Goals as goal

pub returns-in-Ok-Files-clause-causes : goal.returns-in-Ok-Files-clause-causes
returns-in-Ok-Files-clause-causes g c = causes_of _ _ _ c.examine.result (
    examined_causes (g.H.FileStore.port c.args.file_store.now) (g.H.FileStore.port c.load_files.new.file_store) _ _ _ c.examine.result c.load_files.ensures.faults.files (done_at c.load_files.result c.in-Ok-Files.field-0 c.in-Ok-Files.is c.load_files.ensures.faults.calm) c.examine.ensures.causes)

pub returns-in-Ok-Files-clause-once : goal.returns-in-Ok-Files-clause-once
returns-in-Ok-Files-clause-once g c each = once_of _ (move (g.S.Source.port c.args.input.now) (g.S.Source.port c.examine.new.input)) (move (g.K.Sink.port c.args.out.now) (g.K.Sink.port c.examine.new.out)) c.examine.result (
    examined_causes (g.H.FileStore.port c.args.file_store.now) (g.H.FileStore.port c.load_files.new.file_store) _ _ _ c.examine.result c.load_files.ensures.faults.files (done_at c.load_files.result c.in-Ok-Files.field-0 c.in-Ok-Files.is c.load_files.ensures.faults.calm) c.examine.ensures.causes)

pub returns-in-Ok-Files-clause-loads : goal.returns-in-Ok-Files-clause-loads
returns-in-Ok-Files-clause-loads g c = all_loads (g.H.FileStore.port c.args.file_store.now) (g.H.FileStore.port c.load_files.new.file_store) (meaning_of (map string_bytes c.args.words.now)) c.examine.result (all_at c.load_files.result c.in-Ok-Files.field-0 c.in-Ok-Files.files (meaning_of (map string_bytes c.args.words.now)) (g.H.FileStore.port c.args.file_store.now) (g.H.FileStore.port c.load_files.new.file_store) c.in-Ok-Files.is c.in-Ok-Files.field-0-is c.load_files.ensures.asked)

pub returns-in-Ok-Files-clause-stays : goal.returns-in-Ok-Files-clause-stays
returns-in-Ok-Files-clause-stays g c =
    let words = map string_bytes c.args.words.now in
    holds_where (g.H.FileStore.port c.args.file_store.now).files (ComeToReport words) _ c.examine.result (λ files told.
    let loaded : loading words files ≡ Loaded (crash_bytes c.in-Ok-Files.files.exe.items c.in-Ok-Files.files.core.items c.in-Ok-Files.files.trace.items c.in-Ok-Files.files.manner) =
    at_some (g.H.FileStore.port c.args.file_store.now).files files (λ fs. loading words fs ≡ Loaded (crash_bytes c.in-Ok-Files.files.exe.items c.in-Ok-Files.files.core.items c.in-Ok-Files.files.trace.items c.in-Ok-Files.files.manner)) told (ok_at c.load_files.result c.in-Ok-Files.field-0 (asked.Files c.in-Ok-Files.files) (λ a. IfSome (g.H.FileStore.port c.args.file_store.now).files (λ fs. loading words fs ≡ asked_for a)) c.in-Ok-Files.is c.in-Ok-Files.field-0-is c.load_files.ensures.loaded) in
    files_hold words files (crash_bytes c.as_slice-exe.result.now c.as_slice-core.result.now c.as_slice-trace.result.now c.in-Ok-Files.files.manner)
    (loaded_at _ _ _ _ _ _ _ _ loaded c.as_slice-exe.ensures.value c.as_slice-core.ensures.value c.as_slice-trace.ensures.value) c.examine.result) c.examine.ensures.stays

pub returns-in-Ok-Files-clause-files : goal.returns-in-Ok-Files-clause-files
returns-in-Ok-Files-clause-files g c =
    let words = map string_bytes c.args.words.now in
    where_told (g.H.FileStore.port c.args.file_store.now).files (λ files. EndsByFiles words files c.examine.result) (λ files told.
    let loaded : loading words files ≡ Loaded (crash_bytes c.in-Ok-Files.files.exe.items c.in-Ok-Files.files.core.items c.in-Ok-Files.files.trace.items c.in-Ok-Files.files.manner) =
    at_some (g.H.FileStore.port c.args.file_store.now).files files (λ fs. loading words fs ≡ Loaded (crash_bytes c.in-Ok-Files.files.exe.items c.in-Ok-Files.files.core.items c.in-Ok-Files.files.trace.items c.in-Ok-Files.files.manner)) told (ok_at c.load_files.result c.in-Ok-Files.field-0 (asked.Files c.in-Ok-Files.files) (λ a. IfSome (g.H.FileStore.port c.args.file_store.now).files (λ fs. loading words fs ≡ asked_for a)) c.in-Ok-Files.is c.in-Ok-Files.field-0-is c.load_files.ensures.loaded) in
    examined_ends words files (crash_bytes c.as_slice-exe.result.now c.as_slice-core.result.now c.as_slice-trace.result.now c.in-Ok-Files.files.manner)
    (loaded_at _ _ _ _ _ _ _ _ loaded c.as_slice-exe.ensures.value c.as_slice-core.ensures.value c.as_slice-trace.ensures.value) _ _ c.examine.result c.examine.ensures.causes)

pub returns-in-Ok-Files-clause-text : goal.returns-in-Ok-Files-clause-text
returns-in-Ok-Files-clause-text g c =
    let words = map string_bytes c.args.words.now in
    let file_store = move (g.H.FileStore.port c.args.file_store.now) (g.H.FileStore.port c.load_files.new.file_store) in
    let source = move (g.S.Source.port c.args.input.now) (g.S.Source.port c.examine.new.input) in
    let sink = move (g.K.Sink.port c.args.out.now) (g.K.Sink.port c.examine.new.out) in
    both (g.H.FileStore.port c.args.file_store.now).files (g.S.Source.port c.args.input.now).bytes _ (λ files told left told_left.
    let loaded : loading words files ≡ Loaded (crash_bytes c.in-Ok-Files.files.exe.items c.in-Ok-Files.files.core.items c.in-Ok-Files.files.trace.items c.in-Ok-Files.files.manner) =
    at_some (g.H.FileStore.port c.args.file_store.now).files files (λ fs. loading words fs ≡ Loaded (crash_bytes c.in-Ok-Files.files.exe.items c.in-Ok-Files.files.core.items c.in-Ok-Files.files.trace.items c.in-Ok-Files.files.manner)) told (ok_at c.load_files.result c.in-Ok-Files.field-0 (asked.Files c.in-Ok-Files.files) (λ a. IfSome (g.H.FileStore.port c.args.file_store.now).files (λ fs. loading words fs ≡ asked_for a)) c.in-Ok-Files.is c.in-Ok-Files.field-0-is c.load_files.ensures.loaded) in
    let here = loaded_at _ _ _ _ _ _ _ _ loaded c.as_slice-exe.ensures.value c.as_slice-core.ensures.value c.as_slice-trace.ensures.value in
    delivers_as (Examines (crash_bytes c.as_slice-exe.result.now c.as_slice-core.result.now c.as_slice-trace.result.now c.in-Ok-Files.files.manner) (reading_of left source.after.bytes)) (CallWrites (call_input words files file_store (reading_of left source.after.bytes))) sink c.examine.result
    (λ text status. examined_writes words files file_store source left text status (crash_bytes c.as_slice-exe.result.now c.as_slice-core.result.now c.as_slice-trace.result.now c.in-Ok-Files.files.manner) here)
    (at_some (g.S.Source.port c.args.input.now).bytes left
    (λ input. Delivers (Examines (crash_bytes c.as_slice-exe.result.now c.as_slice-core.result.now c.as_slice-trace.result.now c.in-Ok-Files.files.manner) (reading_of input source.after.bytes)) sink c.examine.result)
    told_left c.examine.ensures.text))

pub returns-in-Ok-Files-clause-complete : goal.returns-in-Ok-Files-clause-complete
returns-in-Ok-Files-clause-complete g c =
    let words = map string_bytes c.args.words.now in
    let file_store = move (g.H.FileStore.port c.args.file_store.now) (g.H.FileStore.port c.load_files.new.file_store) in
    let source = move (g.S.Source.port c.args.input.now) (g.S.Source.port c.examine.new.input) in
    let sink = move (g.K.Sink.port c.args.out.now) (g.K.Sink.port c.examine.new.out) in
    both (g.H.FileStore.port c.args.file_store.now).files (g.S.Source.port c.args.input.now).bytes _ (λ files told left told_left.
    completed (call_input words files file_store (reading_of left source.after.bytes)) file_store source sink c.examine.result (returns-in-Ok-Files-clause-causes g c)
    (of_both (g.H.FileStore.port c.args.file_store.now).files (g.S.Source.port c.args.input.now).bytes (λ fs input. Delivers (CallWrites (call_input words fs file_store (reading_of input source.after.bytes))) sink c.examine.result) files left told told_left
    (returns-in-Ok-Files-clause-text g c)))

pub returns-in-Ok-Files-clause-sound : goal.returns-in-Ok-Files-clause-sound
returns-in-Ok-Files-clause-sound g c = where_told (g.H.FileStore.port c.args.file_store.now).files (ReportHolds (map string_bytes c.args.words.now)) (λ files told. reports_hold (map string_bytes c.args.words.now) files (true_in_both (true_of domain.Ranges c.trips_are_true.ensures.report c.reports_are_true.ensures.report) (true_of domain.KnownBits c.trips_are_true-2.ensures.report c.reports_are_true-2.ensures.report)))

pub returns-in-Ok-Files-clause-impossible : goal.returns-in-Ok-Files-clause-impossible
returns-in-Ok-Files-clause-impossible g c =
    let words = map string_bytes c.args.words.now in
    where_told (g.H.FileStore.port c.args.file_store.now).files (λ files. c.examine.result ≡ ends.Inconsistent → NoExecution words files) (λ files told ok.
    let loaded : loading words files ≡ Loaded (crash_bytes c.in-Ok-Files.files.exe.items c.in-Ok-Files.files.core.items c.in-Ok-Files.files.trace.items c.in-Ok-Files.files.manner) =
    at_some (g.H.FileStore.port c.args.file_store.now).files files (λ fs. loading words fs ≡ Loaded (crash_bytes c.in-Ok-Files.files.exe.items c.in-Ok-Files.files.core.items c.in-Ok-Files.files.trace.items c.in-Ok-Files.files.manner)) told (ok_at c.load_files.result c.in-Ok-Files.field-0 (asked.Files c.in-Ok-Files.files) (λ a. IfSome (g.H.FileStore.port c.args.file_store.now).files (λ fs. loading words fs ≡ asked_for a)) c.in-Ok-Files.is c.in-Ok-Files.field-0-is c.load_files.ensures.loaded) in
    examined_excludes words files (crash_bytes c.as_slice-exe.result.now c.as_slice-core.result.now c.as_slice-trace.result.now c.in-Ok-Files.files.manner)
    (loaded_at _ _ _ _ _ _ _ _ loaded c.as_slice-exe.ensures.value c.as_slice-core.ensures.value c.as_slice-trace.ensures.value) (c.examine.ensures.impossible ok))

pub returns-in-Err-clause-causes : goal.returns-in-Err-clause-causes
returns-in-Err-clause-causes g c =
    let f = c.in-Err.ensures.faults in
    let old = g.H.FileStore.port c.args.file_store.now in
    let new = g.H.FileStore.port c.load_files.new.file_store in
    let m = meaning_of (map string_bytes c.args.words.now) in
    let source = g.S.Source.port c.args.input.now in
    causes_of _ _ _ c.tell.result (
    refused_causes old new source _ c.tell.result f.files f.later f.once
    (told_ports c.in-Err.refusal source _ c.tell.result (no_status old new m c.in-Err.refusal ends.InputFault input_only c.in-Err.ensures.refused) (no_status old new m c.in-Err.refusal ends.OutputFault output_only c.in-Err.ensures.refused) c.tell.ensures)
    m c.in-Err.refusal c.in-Err.ensures.refused (ends_told c.in-Err.refusal _ c.tell.result c.tell.ensures))

pub returns-in-Err-clause-once : goal.returns-in-Err-clause-once
returns-in-Err-clause-once g c each =
    let f = c.in-Err.ensures.faults in
    let old = g.H.FileStore.port c.args.file_store.now in
    let new = g.H.FileStore.port c.load_files.new.file_store in
    let m = meaning_of (map string_bytes c.args.words.now) in
    let source = g.S.Source.port c.args.input.now in
    once_of _ (move source source) (move (g.K.Sink.port c.args.out.now) (g.K.Sink.port c.tell.new.out)) c.tell.result (
    refused_causes old new source _ c.tell.result f.files f.later f.once
    (told_ports c.in-Err.refusal source _ c.tell.result (no_status old new m c.in-Err.refusal ends.InputFault input_only c.in-Err.ensures.refused) (no_status old new m c.in-Err.refusal ends.OutputFault output_only c.in-Err.ensures.refused) c.tell.ensures)
    m c.in-Err.refusal c.in-Err.ensures.refused (ends_told c.in-Err.refusal _ c.tell.result c.tell.ensures))

pub returns-in-Err-clause-loads : goal.returns-in-Err-clause-loads
returns-in-Err-clause-loads g c =
    let f = c.in-Err.ensures.faults in
    let old = g.H.FileStore.port c.args.file_store.now in
    let new = g.H.FileStore.port c.load_files.new.file_store in
    let m = meaning_of (map string_bytes c.args.words.now) in
    let source = g.S.Source.port c.args.input.now in
    refused_loads old new source _ c.tell.result f.files f.later f.once
    (told_ports c.in-Err.refusal source _ c.tell.result (no_status old new m c.in-Err.refusal ends.InputFault input_only c.in-Err.ensures.refused) (no_status old new m c.in-Err.refusal ends.OutputFault output_only c.in-Err.ensures.refused) c.tell.ensures)
    m c.in-Err.refusal c.in-Err.ensures.refused (ends_told c.in-Err.refusal _ c.tell.result c.tell.ensures)

pub returns-in-Err-clause-impossible : goal.returns-in-Err-clause-impossible
returns-in-Err-clause-impossible g c =
    let old = g.H.FileStore.port c.args.file_store.now in
    let new = g.H.FileStore.port c.load_files.new.file_store in
    let m = meaning_of (map string_bytes c.args.words.now) in
    where_told old.files (λ files. c.tell.result ≡ ends.Inconsistent → NoExecution (map string_bytes c.args.words.now) files) (λ files at e.
    absurd (not_yielded (status_of c.in-Err.refusal) ends.Inconsistent c.tell.result (no_status old new m c.in-Err.refusal ends.Inconsistent conflict_only c.in-Err.ensures.refused) (λ (k : ends.Inconsistent ≡ ends.OutputFault). cc) (λ (k : ends.Inconsistent ≡ ends.OutOfMemory). cc)
    (ends_told c.in-Err.refusal _ c.tell.result c.tell.ensures) e))

pub returns-in-Err-clause-files : goal.returns-in-Err-clause-files
returns-in-Err-clause-files g c =
    let words = map string_bytes c.args.words.now in
    let old = g.H.FileStore.port c.args.file_store.now in
    let new = g.H.FileStore.port c.load_files.new.file_store in
    where_told old.files (λ files. EndsByFiles words files c.tell.result) (λ files at. refused_ends words files old new c.in-Err.refusal c.tell.result (stops words files old new c.in-Err.refusal at c.in-Err.ensures.refused) (ends_told c.in-Err.refusal _ c.tell.result c.tell.ensures))

pub returns-in-Err-clause-text : goal.returns-in-Err-clause-text
returns-in-Err-clause-text g c =
    let words = map string_bytes c.args.words.now in
    let old = g.H.FileStore.port c.args.file_store.now in
    let new = g.H.FileStore.port c.load_files.new.file_store in
    let source = move (g.S.Source.port c.args.input.now) (g.S.Source.port c.args.input.now) in
    both old.files (g.S.Source.port c.args.input.now).bytes _ (λ files at left at_left.
    delivers_as _ (CallWrites (call_input words files (move old new) (reading_of left source.after.bytes))) _ _ (λ text status. refused_writes words files (move old new) source left text status c.in-Err.refusal (stops words files old new c.in-Err.refusal at c.in-Err.ensures.refused)) c.tell.ensures)

pub returns-in-Err-clause-complete : goal.returns-in-Err-clause-complete
returns-in-Err-clause-complete g c =
    let words = map string_bytes c.args.words.now in
    let file_store = move (g.H.FileStore.port c.args.file_store.now) (g.H.FileStore.port c.load_files.new.file_store) in
    let source = move (g.S.Source.port c.args.input.now) (g.S.Source.port c.args.input.now) in
    let sink = move (g.K.Sink.port c.args.out.now) (g.K.Sink.port c.tell.new.out) in
    both (g.H.FileStore.port c.args.file_store.now).files (g.S.Source.port c.args.input.now).bytes _ (λ files at left at_left.
    completed (call_input words files file_store (reading_of left source.after.bytes)) file_store source sink c.tell.result (returns-in-Err-clause-causes g c)
    (of_both (g.H.FileStore.port c.args.file_store.now).files (g.S.Source.port c.args.input.now).bytes (λ fs input. Delivers (CallWrites (call_input words fs file_store (reading_of input source.after.bytes))) sink c.tell.result) files left at at_left
    (returns-in-Err-clause-text g c)))

pub returns-in-Err-clause-sound : goal.returns-in-Err-clause-sound
returns-in-Err-clause-sound g c = where_told (g.H.FileStore.port c.args.file_store.now).files (ReportHolds (map string_bytes c.args.words.now)) (λ files told. reports_hold (map string_bytes c.args.words.now) files (true_in_both (true_of domain.Ranges c.trips_are_true.ensures.report c.reports_are_true.ensures.report) (true_of domain.KnownBits c.trips_are_true-2.ensures.report c.reports_are_true-2.ensures.report)))

pub returns-in-Ok-Files-clause-unread : goal.returns-in-Ok-Files-clause-unread
returns-in-Ok-Files-clause-unread g c = λ none. loads_named (meaning_of (map string_bytes c.args.words.now)) (g.H.FileStore.port c.args.file_store.now) (g.H.FileStore.port c.load_files.new.file_store)
    (all_at c.load_files.result c.in-Ok-Files.field-0 c.in-Ok-Files.files (meaning_of (map string_bytes c.args.words.now)) (g.H.FileStore.port c.args.file_store.now) (g.H.FileStore.port c.load_files.new.file_store) c.in-Ok-Files.is c.in-Ok-Files.field-0-is c.load_files.ensures.asked) none

pub returns-in-Ok-Files-clause-made : goal.returns-in-Ok-Files-clause-made
returns-in-Ok-Files-clause-made g c = loaded_asks (meaning_of (map string_bytes c.args.words.now)) (g.H.FileStore.port c.args.file_store.now) (g.H.FileStore.port c.load_files.new.file_store) c.examine.result
    (all_at c.load_files.result c.in-Ok-Files.field-0 c.in-Ok-Files.files (meaning_of (map string_bytes c.args.words.now)) (g.H.FileStore.port c.args.file_store.now) (g.H.FileStore.port c.load_files.new.file_store) c.in-Ok-Files.is c.in-Ok-Files.field-0-is c.load_files.ensures.asked)

pub returns-in-Ok-Files-clause-executed : goal.returns-in-Ok-Files-clause-executed
returns-in-Ok-Files-clause-executed g c = asked_holds (meaning_of (map string_bytes c.args.words.now)) (λ seed steps. made_holds seed steps (true_of domain.Ranges c.trips_are_true.ensures.report c.reports_are_true.ensures.report))

pub returns-in-Err-clause-executed : goal.returns-in-Err-clause-executed
returns-in-Err-clause-executed g c = asked_holds (meaning_of (map string_bytes c.args.words.now)) (λ seed steps. made_holds seed steps (true_of domain.Ranges c.trips_are_true.ensures.report c.reports_are_true.ensures.report))

pub returns-in-Err-clause-made : goal.returns-in-Err-clause-made
returns-in-Err-clause-made g c = refused_asks (meaning_of (map string_bytes c.args.words.now)) (g.H.FileStore.port c.args.file_store.now) (g.H.FileStore.port c.load_files.new.file_store) c.in-Err.refusal c.tell.result c.in-Err.ensures.refused (ends_told c.in-Err.refusal _ c.tell.result c.tell.ensures)

-- a made run
pub tell_made_run-requires-clause-some : goal.tell_made_run-requires-clause-some
tell_made_run-requires-clause-some g c = (asks_few (map string_bytes c.args.words.now) c.in-Ok-Made.seed c.in-Ok-Made.steps (made_at c.load_files.result c.in-Ok-Made.field-0 c.in-Ok-Made.seed c.in-Ok-Made.steps (meaning_of (map string_bytes c.args.words.now)) (g.H.FileStore.port c.args.file_store.now) (g.H.FileStore.port c.load_files.new.file_store) c.in-Ok-Made.is c.in-Ok-Made.field-0-is c.load_files.ensures.asked)).0

pub tell_made_run-requires-clause-few : goal.tell_made_run-requires-clause-few
tell_made_run-requires-clause-few g c = (asks_few (map string_bytes c.args.words.now) c.in-Ok-Made.seed c.in-Ok-Made.steps (made_at c.load_files.result c.in-Ok-Made.field-0 c.in-Ok-Made.seed c.in-Ok-Made.steps (meaning_of (map string_bytes c.args.words.now)) (g.H.FileStore.port c.args.file_store.now) (g.H.FileStore.port c.load_files.new.file_store) c.in-Ok-Made.is c.in-Ok-Made.field-0-is c.load_files.ensures.asked)).1

pub returns-in-Ok-Made-clause-causes : goal.returns-in-Ok-Made-clause-causes
returns-in-Ok-Made-clause-causes g c =
    let f = c.load_files.ensures.faults in
    causes_of _ _ _ c.tell_made_run.result (
    made_causes (g.H.FileStore.port c.args.file_store.now) (g.H.FileStore.port c.load_files.new.file_store) (g.S.Source.port c.args.input.now) _ c.tell_made_run.result f.files f.later f.once (c.tell_made_run.ensures.ports (g.S.Source.port c.args.input.now))
    (done_at c.load_files.result c.in-Ok-Made.field-0 c.in-Ok-Made.is f.calm) c.tell_made_run.ensures.yields)

pub returns-in-Ok-Made-clause-once : goal.returns-in-Ok-Made-clause-once
returns-in-Ok-Made-clause-once g c each =
    let f = c.load_files.ensures.faults in
    once_of _ (move (g.S.Source.port c.args.input.now) (g.S.Source.port c.args.input.now)) (move (g.K.Sink.port c.args.out.now) (g.K.Sink.port c.tell_made_run.new.out)) c.tell_made_run.result (
    made_causes (g.H.FileStore.port c.args.file_store.now) (g.H.FileStore.port c.load_files.new.file_store) (g.S.Source.port c.args.input.now) _ c.tell_made_run.result f.files f.later f.once (c.tell_made_run.ensures.ports (g.S.Source.port c.args.input.now))
    (done_at c.load_files.result c.in-Ok-Made.field-0 c.in-Ok-Made.is f.calm) c.tell_made_run.ensures.yields)

pub returns-in-Ok-Made-clause-usage : goal.returns-in-Ok-Made-clause-usage
returns-in-Ok-Made-clause-usage g c = λ e. no_other ends.Usage c.tell_made_run.result (λ (k : ends.Ok ≡ ends.Usage). cc) (λ (k : ends.OutputFault ≡ ends.Usage). cc) (λ (k : ends.OutOfMemory ≡ ends.Usage). cc) c.tell_made_run.ensures.yields e

pub returns-in-Ok-Made-clause-no_meaning : goal.returns-in-Ok-Made-clause-no_meaning
returns-in-Ok-Made-clause-no_meaning g c = λ none. made_means (meaning_of (map string_bytes c.args.words.now)) c.in-Ok-Made.seed c.in-Ok-Made.steps (made_at c.load_files.result c.in-Ok-Made.field-0 c.in-Ok-Made.seed c.in-Ok-Made.steps (meaning_of (map string_bytes c.args.words.now)) (g.H.FileStore.port c.args.file_store.now) (g.H.FileStore.port c.load_files.new.file_store) c.in-Ok-Made.is c.in-Ok-Made.field-0-is c.load_files.ensures.asked) none

pub returns-in-Ok-Made-clause-loads : goal.returns-in-Ok-Made-clause-loads
returns-in-Ok-Made-clause-loads g c = made_loads (meaning_of (map string_bytes c.args.words.now)) c.in-Ok-Made.seed c.in-Ok-Made.steps (made_at c.load_files.result c.in-Ok-Made.field-0 c.in-Ok-Made.seed c.in-Ok-Made.steps (meaning_of (map string_bytes c.args.words.now)) (g.H.FileStore.port c.args.file_store.now) (g.H.FileStore.port c.load_files.new.file_store) c.in-Ok-Made.is c.in-Ok-Made.field-0-is c.load_files.ensures.asked) _ c.tell_made_run.result

pub returns-in-Ok-Made-clause-made : goal.returns-in-Ok-Made-clause-made
returns-in-Ok-Made-clause-made g c = made_asks (meaning_of (map string_bytes c.args.words.now)) c.in-Ok-Made.seed c.in-Ok-Made.steps (made_at c.load_files.result c.in-Ok-Made.field-0 c.in-Ok-Made.seed c.in-Ok-Made.steps (meaning_of (map string_bytes c.args.words.now)) (g.H.FileStore.port c.args.file_store.now) (g.H.FileStore.port c.load_files.new.file_store) c.in-Ok-Made.is c.in-Ok-Made.field-0-is c.load_files.ensures.asked) c.tell_made_run.result c.tell_made_run.ensures.yields

pub returns-in-Ok-Made-clause-executed : goal.returns-in-Ok-Made-clause-executed
returns-in-Ok-Made-clause-executed g c = asked_holds (meaning_of (map string_bytes c.args.words.now)) (λ seed steps. made_holds seed steps (true_of domain.Ranges c.trips_are_true.ensures.report c.reports_are_true.ensures.report))

pub returns-in-Ok-Made-clause-sound : goal.returns-in-Ok-Made-clause-sound
returns-in-Ok-Made-clause-sound g c = where_told (g.H.FileStore.port c.args.file_store.now).files (ReportHolds (map string_bytes c.args.words.now)) (λ files told. reports_hold (map string_bytes c.args.words.now) files (true_in_both (true_of domain.Ranges c.trips_are_true.ensures.report c.reports_are_true.ensures.report) (true_of domain.KnownBits c.trips_are_true-2.ensures.report c.reports_are_true-2.ensures.report)))

pub returns-in-Ok-Made-clause-impossible : goal.returns-in-Ok-Made-clause-impossible
returns-in-Ok-Made-clause-impossible g c =
    where_told (g.H.FileStore.port c.args.file_store.now).files (λ files. c.tell_made_run.result ≡ ends.Inconsistent → NoExecution (map string_bytes c.args.words.now) files) (λ files told e.
    no_other ends.Inconsistent c.tell_made_run.result (λ (k : ends.Ok ≡ ends.Inconsistent). cc) (λ (k : ends.OutputFault ≡ ends.Inconsistent). cc) (λ (k : ends.OutOfMemory ≡ ends.Inconsistent). cc) c.tell_made_run.ensures.yields e)

pub returns-in-Ok-Made-clause-files : goal.returns-in-Ok-Made-clause-files
returns-in-Ok-Made-clause-files g c =
    let words = map string_bytes c.args.words.now in
    where_told (g.H.FileStore.port c.args.file_store.now).files (λ files. EndsByFiles words files c.tell_made_run.result) (λ files told.
    made_ends words files c.in-Ok-Made.seed c.in-Ok-Made.steps c.tell_made_run.result
    (at_some (g.H.FileStore.port c.args.file_store.now).files files (λ fs. loading words fs ≡ MadeRun c.in-Ok-Made.seed c.in-Ok-Made.steps) told (ok_at c.load_files.result c.in-Ok-Made.field-0 (asked.Made c.in-Ok-Made.seed c.in-Ok-Made.steps) (λ a. IfSome (g.H.FileStore.port c.args.file_store.now).files (λ fs. loading words fs ≡ asked_for a)) c.in-Ok-Made.is c.in-Ok-Made.field-0-is c.load_files.ensures.loaded)) c.tell_made_run.ensures.yields)

pub returns-in-Ok-Made-clause-text : goal.returns-in-Ok-Made-clause-text
returns-in-Ok-Made-clause-text g c =
    let words = map string_bytes c.args.words.now in
    let file_store = move (g.H.FileStore.port c.args.file_store.now) (g.H.FileStore.port c.load_files.new.file_store) in
    let source = move (g.S.Source.port c.args.input.now) (g.S.Source.port c.args.input.now) in
    both (g.H.FileStore.port c.args.file_store.now).files (g.S.Source.port c.args.input.now).bytes _ (λ files told left told_left.
    delivers_as (Sums c.in-Ok-Made.seed c.in-Ok-Made.steps) (CallWrites (call_input words files file_store (reading_of left source.after.bytes))) _ c.tell_made_run.result
    (λ text status. made_writes words files file_store source left text status c.in-Ok-Made.seed c.in-Ok-Made.steps
    (at_some (g.H.FileStore.port c.args.file_store.now).files files (λ fs. loading words fs ≡ MadeRun c.in-Ok-Made.seed c.in-Ok-Made.steps) told (ok_at c.load_files.result c.in-Ok-Made.field-0 (asked.Made c.in-Ok-Made.seed c.in-Ok-Made.steps) (λ a. IfSome (g.H.FileStore.port c.args.file_store.now).files (λ fs. loading words fs ≡ asked_for a)) c.in-Ok-Made.is c.in-Ok-Made.field-0-is c.load_files.ensures.loaded)) (made_at c.load_files.result c.in-Ok-Made.field-0 c.in-Ok-Made.seed c.in-Ok-Made.steps (meaning_of (map string_bytes c.args.words.now)) (g.H.FileStore.port c.args.file_store.now) (g.H.FileStore.port c.load_files.new.file_store) c.in-Ok-Made.is c.in-Ok-Made.field-0-is c.load_files.ensures.asked)) c.tell_made_run.ensures.text)

pub returns-in-Ok-Made-clause-complete : goal.returns-in-Ok-Made-clause-complete
returns-in-Ok-Made-clause-complete g c =
    let words = map string_bytes c.args.words.now in
    let file_store = move (g.H.FileStore.port c.args.file_store.now) (g.H.FileStore.port c.load_files.new.file_store) in
    let source = move (g.S.Source.port c.args.input.now) (g.S.Source.port c.args.input.now) in
    let sink = move (g.K.Sink.port c.args.out.now) (g.K.Sink.port c.tell_made_run.new.out) in
    both (g.H.FileStore.port c.args.file_store.now).files (g.S.Source.port c.args.input.now).bytes _ (λ files told left told_left.
    completed (call_input words files file_store (reading_of left source.after.bytes)) file_store source sink c.tell_made_run.result (returns-in-Ok-Made-clause-causes g c)
    (of_both (g.H.FileStore.port c.args.file_store.now).files (g.S.Source.port c.args.input.now).bytes (λ fs input. Delivers (CallWrites (call_input words fs file_store (reading_of input source.after.bytes))) sink c.tell_made_run.result) files left told told_left
    (returns-in-Ok-Made-clause-text g c)))

pub returns-in-Ok-Files-clause-promise : goal.returns-in-Ok-Files-clause-promise
returns-in-Ok-Files-clause-promise g c =
    let words = map string_bytes c.args.words.now in
    let file_store = move (g.H.FileStore.port c.args.file_store.now) (g.H.FileStore.port c.load_files.new.file_store) in
    let source = move (g.S.Source.port c.args.input.now) (g.S.Source.port c.examine.new.input) in
    let sink = move (g.K.Sink.port c.args.out.now) (g.K.Sink.port c.examine.new.out) in
    both file_store.before.files source.before.bytes _ (λ files told left told_left.
    promised (true_in_both (true_of domain.Ranges c.trips_are_true.ensures.report c.reports_are_true.ensures.report) (true_of domain.KnownBits c.trips_are_true-2.ensures.report c.reports_are_true-2.ensures.report)) (call_input words files file_store (reading_of left source.after.bytes)) sink c.examine.result
    (of_both file_store.before.files source.before.bytes (λ fs input. Delivers (CallWrites (call_input words fs file_store (reading_of input source.after.bytes))) sink c.examine.result) files left told told_left (returns-in-Ok-Files-clause-text g c))
    (at_some file_store.before.files files (λ fs. EndsByFiles words fs c.examine.result) told (returns-in-Ok-Files-clause-files g c))
    (at_some file_store.before.files files (λ fs. c.examine.result ≡ ends.Inconsistent → NoExecution words fs) told (returns-in-Ok-Files-clause-impossible g c)))

pub returns-in-Ok-Made-clause-promise : goal.returns-in-Ok-Made-clause-promise
returns-in-Ok-Made-clause-promise g c =
    let words = map string_bytes c.args.words.now in
    let file_store = move (g.H.FileStore.port c.args.file_store.now) (g.H.FileStore.port c.load_files.new.file_store) in
    let source = move (g.S.Source.port c.args.input.now) (g.S.Source.port c.args.input.now) in
    let sink = move (g.K.Sink.port c.args.out.now) (g.K.Sink.port c.tell_made_run.new.out) in
    both file_store.before.files source.before.bytes _ (λ files told left told_left.
    promised (true_in_both (true_of domain.Ranges c.trips_are_true.ensures.report c.reports_are_true.ensures.report) (true_of domain.KnownBits c.trips_are_true-2.ensures.report c.reports_are_true-2.ensures.report)) (call_input words files file_store (reading_of left source.after.bytes)) sink c.tell_made_run.result
    (of_both file_store.before.files source.before.bytes (λ fs input. Delivers (CallWrites (call_input words fs file_store (reading_of input source.after.bytes))) sink c.tell_made_run.result) files left told told_left (returns-in-Ok-Made-clause-text g c))
    (at_some file_store.before.files files (λ fs. EndsByFiles words fs c.tell_made_run.result) told (returns-in-Ok-Made-clause-files g c))
    (at_some file_store.before.files files (λ fs. c.tell_made_run.result ≡ ends.Inconsistent → NoExecution words fs) told (returns-in-Ok-Made-clause-impossible g c)))

pub returns-in-Err-clause-promise : goal.returns-in-Err-clause-promise
returns-in-Err-clause-promise g c =
    let words = map string_bytes c.args.words.now in
    let file_store = move (g.H.FileStore.port c.args.file_store.now) (g.H.FileStore.port c.load_files.new.file_store) in
    let source = move (g.S.Source.port c.args.input.now) (g.S.Source.port c.args.input.now) in
    let sink = move (g.K.Sink.port c.args.out.now) (g.K.Sink.port c.tell.new.out) in
    both file_store.before.files source.before.bytes _ (λ files told left told_left.
    promised (true_in_both (true_of domain.Ranges c.trips_are_true.ensures.report c.reports_are_true.ensures.report) (true_of domain.KnownBits c.trips_are_true-2.ensures.report c.reports_are_true-2.ensures.report)) (call_input words files file_store (reading_of left source.after.bytes)) sink c.tell.result
    (of_both file_store.before.files source.before.bytes (λ fs input. Delivers (CallWrites (call_input words fs file_store (reading_of input source.after.bytes))) sink c.tell.result) files left told told_left (returns-in-Err-clause-text g c))
    (at_some file_store.before.files files (λ fs. EndsByFiles words fs c.tell.result) told (returns-in-Err-clause-files g c))
    (at_some file_store.before.files files (λ fs. c.tell.result ≡ ends.Inconsistent → NoExecution words fs) told (returns-in-Err-clause-impossible g c)))

pub returns-in-Ok-Files-clause-bits : goal.returns-in-Ok-Files-clause-bits
returns-in-Ok-Files-clause-bits g c = where_told (g.H.FileStore.port c.args.file_store.now).files (BitsKnowMore (map string_bytes c.args.words.now)) (λ files told. bits_know (map string_bytes c.args.words.now) files c.finer_sets_know_more.ensures c.bits_are_finer.ensures)

pub returns-in-Ok-Files-clause-infer : goal.returns-in-Ok-Files-clause-infer
returns-in-Ok-Files-clause-infer g c = where_told (g.H.FileStore.port c.args.file_store.now).files (InferKnowsMore (map string_bytes c.args.words.now)) (λ files told. infer_knows (map string_bytes c.args.words.now) files)

pub returns-in-Ok-Made-clause-bits : goal.returns-in-Ok-Made-clause-bits
returns-in-Ok-Made-clause-bits g c = where_told (g.H.FileStore.port c.args.file_store.now).files (BitsKnowMore (map string_bytes c.args.words.now)) (λ files told. bits_know (map string_bytes c.args.words.now) files c.finer_sets_know_more.ensures c.bits_are_finer.ensures)

pub returns-in-Ok-Made-clause-infer : goal.returns-in-Ok-Made-clause-infer
returns-in-Ok-Made-clause-infer g c = where_told (g.H.FileStore.port c.args.file_store.now).files (InferKnowsMore (map string_bytes c.args.words.now)) (λ files told. infer_knows (map string_bytes c.args.words.now) files)

pub returns-in-Err-clause-bits : goal.returns-in-Err-clause-bits
returns-in-Err-clause-bits g c = where_told (g.H.FileStore.port c.args.file_store.now).files (BitsKnowMore (map string_bytes c.args.words.now)) (λ files told. bits_know (map string_bytes c.args.words.now) files c.finer_sets_know_more.ensures c.bits_are_finer.ensures)

pub returns-in-Err-clause-infer : goal.returns-in-Err-clause-infer
returns-in-Err-clause-infer g c = where_told (g.H.FileStore.port c.args.file_store.now).files (InferKnowsMore (map string_bytes c.args.words.now)) (λ files told. infer_knows (map string_bytes c.args.words.now) files)

pub returns-in-Ok-Maps-clause-causes : goal.returns-in-Ok-Maps-clause-causes
returns-in-Ok-Maps-clause-causes g c =
    let old = g.H.FileStore.port c.args.file_store.now in
    let mid = g.H.FileStore.port c.load_files.new.file_store in
    let new = g.H.FileStore.port c.examine_mapped.new.file_store in
    let source = move (g.S.Source.port c.args.input.now) (g.S.Source.port c.examine_mapped.new.input) in
    let sink = move (g.K.Sink.port c.args.out.now) (g.K.Sink.port c.examine_mapped.new.out) in
    let bytes = core_bytes c.in-Ok-Maps.files.core.items c.in-Ok-Maps.files.trace.items c.in-Ok-Maps.files.manner in
    let f = c.load_files.ensures.faults in
    let calm = done_at c.load_files.result c.in-Ok-Maps.field-0 c.in-Ok-Maps.is f.calm in
    mapped_causes old mid new bytes source sink c.examine_mapped.result f.files calm c.examine_mapped.ensures.causes

pub returns-in-Ok-Maps-clause-once : goal.returns-in-Ok-Maps-clause-once
returns-in-Ok-Maps-clause-once g c each =
    let words = map string_bytes c.args.words.now in
    let old = g.H.FileStore.port c.args.file_store.now in
    let mid = g.H.FileStore.port c.load_files.new.file_store in
    let new = g.H.FileStore.port c.examine_mapped.new.file_store in
    let source = move (g.S.Source.port c.args.input.now) (g.S.Source.port c.examine_mapped.new.input) in
    let sink = move (g.K.Sink.port c.args.out.now) (g.K.Sink.port c.examine_mapped.new.out) in
    let bytes = core_bytes c.in-Ok-Maps.files.core.items c.in-Ok-Maps.files.trace.items c.in-Ok-Maps.files.manner in
    let f = c.load_files.ensures.faults in
    let calm = done_at c.load_files.result c.in-Ok-Maps.field-0 c.in-Ok-Maps.is f.calm in
    let loads = both_at c.load_files.result c.in-Ok-Maps.field-0 c.in-Ok-Maps.files (meaning_of words) old mid c.in-Ok-Maps.is c.in-Ok-Maps.field-0-is c.load_files.ensures.asked in
    mapped_once old mid new bytes source sink c.examine_mapped.result f.files calm c.examine_mapped.ensures.causes (meaning_of words) loads each

pub returns-in-Ok-Maps-clause-usage : goal.returns-in-Ok-Maps-clause-usage
returns-in-Ok-Maps-clause-usage g c e =
    let old = g.H.FileStore.port c.args.file_store.now in
    let mid = g.H.FileStore.port c.load_files.new.file_store in
    let new = g.H.FileStore.port c.examine_mapped.new.file_store in
    let source = move (g.S.Source.port c.args.input.now) (g.S.Source.port c.examine_mapped.new.input) in
    let sink = move (g.K.Sink.port c.args.out.now) (g.K.Sink.port c.examine_mapped.new.out) in
    let bytes = core_bytes c.in-Ok-Maps.files.core.items c.in-Ok-Maps.files.trace.items c.in-Ok-Maps.files.manner in
    let f = c.load_files.ensures.faults in
    let calm = done_at c.load_files.result c.in-Ok-Maps.field-0 c.in-Ok-Maps.is f.calm in
    mapped_usage old mid new bytes source sink c.examine_mapped.result f.files calm c.examine_mapped.ensures.causes e

pub returns-in-Ok-Maps-clause-no_meaning : goal.returns-in-Ok-Maps-clause-no_meaning
returns-in-Ok-Maps-clause-no_meaning g c none =
    let words = map string_bytes c.args.words.now in
    let old = g.H.FileStore.port c.args.file_store.now in
    let mid = g.H.FileStore.port c.load_files.new.file_store in
    let bytes = core_bytes c.in-Ok-Maps.files.core.items c.in-Ok-Maps.files.trace.items c.in-Ok-Maps.files.manner in
    let loads = both_at c.load_files.result c.in-Ok-Maps.field-0 c.in-Ok-Maps.files (meaning_of words) old mid c.in-Ok-Maps.is c.in-Ok-Maps.field-0-is c.load_files.ensures.asked in
    both_mean (meaning_of words) bytes.core old mid loads none

pub returns-in-Ok-Maps-clause-idle : goal.returns-in-Ok-Maps-clause-idle
returns-in-Ok-Maps-clause-idle g c none =
    let words = map string_bytes c.args.words.now in
    let old = g.H.FileStore.port c.args.file_store.now in
    let mid = g.H.FileStore.port c.load_files.new.file_store in
    let bytes = core_bytes c.in-Ok-Maps.files.core.items c.in-Ok-Maps.files.trace.items c.in-Ok-Maps.files.manner in
    let loads = both_at c.load_files.result c.in-Ok-Maps.field-0 c.in-Ok-Maps.files (meaning_of words) old mid c.in-Ok-Maps.is c.in-Ok-Maps.field-0-is c.load_files.ensures.asked in
    both_named (meaning_of words) bytes.core old mid loads none

pub returns-in-Ok-Maps-clause-unread : goal.returns-in-Ok-Maps-clause-unread
returns-in-Ok-Maps-clause-unread g c none =
    let words = map string_bytes c.args.words.now in
    let old = g.H.FileStore.port c.args.file_store.now in
    let mid = g.H.FileStore.port c.load_files.new.file_store in
    let bytes = core_bytes c.in-Ok-Maps.files.core.items c.in-Ok-Maps.files.trace.items c.in-Ok-Maps.files.manner in
    let loads = both_at c.load_files.result c.in-Ok-Maps.field-0 c.in-Ok-Maps.files (meaning_of words) old mid c.in-Ok-Maps.is c.in-Ok-Maps.field-0-is c.load_files.ensures.asked in
    both_named (meaning_of words) bytes.core old mid loads none

pub returns-in-Ok-Maps-clause-made : goal.returns-in-Ok-Maps-clause-made
returns-in-Ok-Maps-clause-made g c =
    let words = map string_bytes c.args.words.now in
    let old = g.H.FileStore.port c.args.file_store.now in
    let mid = g.H.FileStore.port c.load_files.new.file_store in
    let bytes = core_bytes c.in-Ok-Maps.files.core.items c.in-Ok-Maps.files.trace.items c.in-Ok-Maps.files.manner in
    let loads = both_at c.load_files.result c.in-Ok-Maps.field-0 c.in-Ok-Maps.files (meaning_of words) old mid c.in-Ok-Maps.is c.in-Ok-Maps.field-0-is c.load_files.ensures.asked in
    both_asks (meaning_of words) bytes.core old mid c.examine_mapped.result loads

pub returns-in-Ok-Maps-clause-loads : goal.returns-in-Ok-Maps-clause-loads
returns-in-Ok-Maps-clause-loads g c =
    let words = map string_bytes c.args.words.now in
    let old = g.H.FileStore.port c.args.file_store.now in
    let mid = g.H.FileStore.port c.load_files.new.file_store in
    let new = g.H.FileStore.port c.examine_mapped.new.file_store in
    let source = move (g.S.Source.port c.args.input.now) (g.S.Source.port c.examine_mapped.new.input) in
    let sink = move (g.K.Sink.port c.args.out.now) (g.K.Sink.port c.examine_mapped.new.out) in
    let bytes = core_bytes c.in-Ok-Maps.files.core.items c.in-Ok-Maps.files.trace.items c.in-Ok-Maps.files.manner in
    let f = c.load_files.ensures.faults in
    let calm = done_at c.load_files.result c.in-Ok-Maps.field-0 c.in-Ok-Maps.is f.calm in
    let loads = both_at c.load_files.result c.in-Ok-Maps.field-0 c.in-Ok-Maps.files (meaning_of words) old mid c.in-Ok-Maps.is c.in-Ok-Maps.field-0-is c.load_files.ensures.asked in
    mapped_loads old mid new bytes source sink c.examine_mapped.result f.files calm c.examine_mapped.ensures.causes (meaning_of words) loads

pub returns-in-Ok-Maps-clause-stays : goal.returns-in-Ok-Maps-clause-stays
returns-in-Ok-Maps-clause-stays g c =
    let words = map string_bytes c.args.words.now in
    let old = g.H.FileStore.port c.args.file_store.now in
    let mid = g.H.FileStore.port c.load_files.new.file_store in
    let bytes = core_bytes c.in-Ok-Maps.files.core.items c.in-Ok-Maps.files.trace.items c.in-Ok-Maps.files.manner in
    let f = c.load_files.ensures.faults in
    let at : IfSome old.files (λ fs. loading words fs ≡ LoadedCore bytes) = ok_at c.load_files.result c.in-Ok-Maps.field-0 (asked.Maps c.in-Ok-Maps.files) (λ a. IfSome old.files (λ fs. loading words fs ≡ asked_for a)) c.in-Ok-Maps.is c.in-Ok-Maps.field-0-is c.load_files.ensures.loaded in
    mapped_stays old.files mid.files (ComeToReport words) (λ files. MappedHolds (mapped_crash files bytes) c.examine_mapped.result) c.examine_mapped.result f.files
    (λ files told h. mapped_holds words files bytes (at_some old.files files (λ fs. loading words fs ≡ LoadedCore bytes) told at) c.examine_mapped.result h) c.examine_mapped.ensures.stays

pub returns-in-Ok-Maps-clause-files : goal.returns-in-Ok-Maps-clause-files
returns-in-Ok-Maps-clause-files g c =
    let words = map string_bytes c.args.words.now in
    let old = g.H.FileStore.port c.args.file_store.now in
    let mid = g.H.FileStore.port c.load_files.new.file_store in
    let bytes = core_bytes c.in-Ok-Maps.files.core.items c.in-Ok-Maps.files.trace.items c.in-Ok-Maps.files.manner in
    let f = c.load_files.ensures.faults in
    let at : IfSome old.files (λ fs. loading words fs ≡ LoadedCore bytes) = ok_at c.load_files.result c.in-Ok-Maps.field-0 (asked.Maps c.in-Ok-Maps.files) (λ a. IfSome old.files (λ fs. loading words fs ≡ asked_for a)) c.in-Ok-Maps.is c.in-Ok-Maps.field-0-is c.load_files.ensures.loaded in
    where_told old.files (λ files. EndsByFiles words files c.examine_mapped.result) (λ files told.
    mapped_ends words files bytes (at_some old.files files (λ fs. loading words fs ≡ LoadedCore bytes) told at) c.examine_mapped.result
    (at_some old.files files (λ fs. MappedEnd (mapped_crash fs bytes) c.examine_mapped.result ⊎ (c.examine_mapped.result ≡ ends.LoadFault)) told
    (as_before old.files mid.files (λ fs. MappedEnd (mapped_crash fs bytes) c.examine_mapped.result ⊎ (c.examine_mapped.result ≡ ends.LoadFault)) f.files c.examine_mapped.ensures.causes.yields)))

pub returns-in-Ok-Maps-clause-impossible : goal.returns-in-Ok-Maps-clause-impossible
returns-in-Ok-Maps-clause-impossible g c =
    let words = map string_bytes c.args.words.now in
    let old = g.H.FileStore.port c.args.file_store.now in
    let mid = g.H.FileStore.port c.load_files.new.file_store in
    let bytes = core_bytes c.in-Ok-Maps.files.core.items c.in-Ok-Maps.files.trace.items c.in-Ok-Maps.files.manner in
    let f = c.load_files.ensures.faults in
    let at : IfSome old.files (λ fs. loading words fs ≡ LoadedCore bytes) = ok_at c.load_files.result c.in-Ok-Maps.field-0 (asked.Maps c.in-Ok-Maps.files) (λ a. IfSome old.files (λ fs. loading words fs ≡ asked_for a)) c.in-Ok-Maps.is c.in-Ok-Maps.field-0-is c.load_files.ensures.loaded in
    where_told old.files (λ files. c.examine_mapped.result ≡ ends.Inconsistent → NoExecution words files) (λ files told e.
    mapped_excludes words files bytes (at_some old.files files (λ fs. loading words fs ≡ LoadedCore bytes) told at)
    (at_some old.files files (λ fs. MappedExcludes (mapped_crash fs bytes)) told (as_before old.files mid.files (λ fs. MappedExcludes (mapped_crash fs bytes)) f.files (c.examine_mapped.ensures.impossible e))))

pub returns-in-Ok-Maps-clause-text : goal.returns-in-Ok-Maps-clause-text
returns-in-Ok-Maps-clause-text g c =
    let words = map string_bytes c.args.words.now in
    let old = g.H.FileStore.port c.args.file_store.now in
    let mid = g.H.FileStore.port c.load_files.new.file_store in
    let new = g.H.FileStore.port c.examine_mapped.new.file_store in
    let source = move (g.S.Source.port c.args.input.now) (g.S.Source.port c.examine_mapped.new.input) in
    let sink = move (g.K.Sink.port c.args.out.now) (g.K.Sink.port c.examine_mapped.new.out) in
    let bytes = core_bytes c.in-Ok-Maps.files.core.items c.in-Ok-Maps.files.trace.items c.in-Ok-Maps.files.manner in
    let f = c.load_files.ensures.faults in
    let loads = both_at c.load_files.result c.in-Ok-Maps.field-0 c.in-Ok-Maps.files (meaning_of words) old mid c.in-Ok-Maps.is c.in-Ok-Maps.field-0-is c.load_files.ensures.asked in
    let at : IfSome old.files (λ fs. loading words fs ≡ LoadedCore bytes) = ok_at c.load_files.result c.in-Ok-Maps.field-0 (asked.Maps c.in-Ok-Maps.files) (λ a. IfSome old.files (λ fs. loading words fs ≡ asked_for a)) c.in-Ok-Maps.is c.in-Ok-Maps.field-0-is c.load_files.ensures.loaded in
    both old.files source.before.bytes _ (λ files told left told_left.
    delivers_as (ExaminesMapped (mapped_call (mapped_crash files bytes) (move mid.loads new.loads) (reading_of left source.after.bytes))) (CallWrites (call_input words files (move old new) (reading_of left source.after.bytes))) sink c.examine_mapped.result
    (λ text status. mapped_writes words files bytes (at_some old.files files (λ fs. loading words fs ≡ LoadedCore bytes) told at) (move old new) mid.loads (reading_of left source.after.bytes) text status (both_loads (meaning_of words) bytes.core old mid loads))
    (of_both old.files source.before.bytes (λ fs input. Delivers (ExaminesMapped (mapped_call (mapped_crash fs bytes) (move mid.loads new.loads) (reading_of input source.after.bytes))) sink c.examine_mapped.result) files left told told_left
    (as_before old.files mid.files (λ fs. IfSome source.before.bytes (λ input. Delivers (ExaminesMapped (mapped_call (mapped_crash fs bytes) (move mid.loads new.loads) (reading_of input source.after.bytes))) sink c.examine_mapped.result)) f.files c.examine_mapped.ensures.text)))

pub returns-in-Ok-Maps-clause-complete : goal.returns-in-Ok-Maps-clause-complete
returns-in-Ok-Maps-clause-complete g c =
    let words = map string_bytes c.args.words.now in
    let old = g.H.FileStore.port c.args.file_store.now in
    let new = g.H.FileStore.port c.examine_mapped.new.file_store in
    let source = move (g.S.Source.port c.args.input.now) (g.S.Source.port c.examine_mapped.new.input) in
    let sink = move (g.K.Sink.port c.args.out.now) (g.K.Sink.port c.examine_mapped.new.out) in
    both old.files source.before.bytes _ (λ files told left told_left.
    completed (call_input words files (move old new) (reading_of left source.after.bytes)) (move old new) source sink c.examine_mapped.result (returns-in-Ok-Maps-clause-causes g c)
    (of_both old.files source.before.bytes (λ fs input. Delivers (CallWrites (call_input words fs (move old new) (reading_of input source.after.bytes))) sink c.examine_mapped.result) files left told told_left (returns-in-Ok-Maps-clause-text g c)))

pub returns-in-Ok-Maps-clause-sound : goal.returns-in-Ok-Maps-clause-sound
returns-in-Ok-Maps-clause-sound g c =
    let words = map string_bytes c.args.words.now in
    let old = g.H.FileStore.port c.args.file_store.now in
    where_told old.files (ReportHolds words) (λ files told. reports_hold words files (true_in_both (true_of domain.Ranges c.trips_are_true.ensures.report c.reports_are_true.ensures.report) (true_of domain.KnownBits c.trips_are_true-2.ensures.report c.reports_are_true-2.ensures.report)))

pub returns-in-Ok-Maps-clause-executed : goal.returns-in-Ok-Maps-clause-executed
returns-in-Ok-Maps-clause-executed g c =
    let words = map string_bytes c.args.words.now in
    asked_holds (meaning_of words) (λ seed steps. made_holds seed steps (true_of domain.Ranges c.trips_are_true.ensures.report c.reports_are_true.ensures.report))

pub returns-in-Ok-Maps-clause-bits : goal.returns-in-Ok-Maps-clause-bits
returns-in-Ok-Maps-clause-bits g c =
    let words = map string_bytes c.args.words.now in
    let old = g.H.FileStore.port c.args.file_store.now in
    where_told old.files (BitsKnowMore words) (λ files told. bits_know words files c.finer_sets_know_more.ensures c.bits_are_finer.ensures)

pub returns-in-Ok-Maps-clause-infer : goal.returns-in-Ok-Maps-clause-infer
returns-in-Ok-Maps-clause-infer g c = where_told (g.H.FileStore.port c.args.file_store.now).files (InferKnowsMore (map string_bytes c.args.words.now)) (λ files told. infer_knows (map string_bytes c.args.words.now) files)

pub returns-in-Ok-Maps-clause-promise : goal.returns-in-Ok-Maps-clause-promise
returns-in-Ok-Maps-clause-promise g c =
    let words = map string_bytes c.args.words.now in
    let old = g.H.FileStore.port c.args.file_store.now in
    let new = g.H.FileStore.port c.examine_mapped.new.file_store in
    let source = move (g.S.Source.port c.args.input.now) (g.S.Source.port c.examine_mapped.new.input) in
    let sink = move (g.K.Sink.port c.args.out.now) (g.K.Sink.port c.examine_mapped.new.out) in
    both old.files source.before.bytes _ (λ files told left told_left.
    promised (true_in_both (true_of domain.Ranges c.trips_are_true.ensures.report c.reports_are_true.ensures.report) (true_of domain.KnownBits c.trips_are_true-2.ensures.report c.reports_are_true-2.ensures.report)) (call_input words files (move old new) (reading_of left source.after.bytes)) sink c.examine_mapped.result
    (of_both old.files source.before.bytes (λ fs input. Delivers (CallWrites (call_input words fs (move old new) (reading_of input source.after.bytes))) sink c.examine_mapped.result) files left told told_left (returns-in-Ok-Maps-clause-text g c))
    (at_some old.files files (λ fs. EndsByFiles words fs c.examine_mapped.result) told (returns-in-Ok-Maps-clause-files g c))
    (at_some old.files files (λ fs. c.examine_mapped.result ≡ ends.Inconsistent → NoExecution words fs) told (returns-in-Ok-Maps-clause-impossible g c)))
