use Rattle.std.proofs.Common.{◌≡◌, IfSome, map, string_bytes, ◌∙◌}
use Rattle.std.proofs.lemmas.Result.{IfErr-weaker, IfOk-weaker}
use Rattle.rept_ports.specs.Port.{move}
use Rattle.rept_opening.specs.Words.Words.{meaning_of}
use Rattle.rept_opening.specs.declared.words.request.Domain.TheVariants as domain
use Rattle.rept_opening.proofs.ToldLemmas.{at_some, where_told}
use Rattle.rept_opening.proofs.LoadingLemmas.{ok_at, stops}
use Rattle.rept_opening.proofs.TrueLemmas.{true_in_both, true_of}
use Rattle.rept_opening.specs.Loading.{IsAsked, asked_for, core_bytes, crash_bytes, loading}
use Rattle.rept_opening.specs.Loading.Loading.{Loaded, LoadedCore}
use Rattle.rept_opening.specs.Mapped.{mapped_crash}
use Rattle.rept_opening.specs.declared.load.LoadedRequest.TheVariants as asked
use Rattle.rept_debug.specs.Debugged.{HasNoTalk, IsDebugged, IsHeldMapped, IsUnheld, streams}
use Rattle.rept_debug.specs.declared.no_talk.GdbError.TheVariants as no_talk
use Rattle.rept_debug.proofs.ListedLemmas.{both_loads, mapped_moves, said_ok}
use Rattle.rept_debug.proofs.OpenLemmas.{debugged_files, debugged_mapped, refused_core, refused_loaded, refused_words}
use Rattle.rept_debug.proofs.debugging.debug.Goals as goal

-- the files of a crash
pub returns-in-Ok-clause-debugged : goal.returns-in-Ok-clause-debugged
returns-in-Ok-clause-debugged g c =
    let words = map string_bytes c.args.words.now in
    let f = c.in-Ok-Files.files in
    let b = crash_bytes f.exe.items f.core.items f.trace.items f.manner in
    let file_store = (g.H.FileStore.port c.args.file_store.now).files in
    let io = streams (move (g.S.Source.port c.args.input.now) (g.S.Source.port c.debug_files.new.input)) (move (g.K.Sink.port c.args.out.now) (g.K.Sink.port c.debug_files.new.out)) (move (g.E.Sink.port c.args.errors.now) (g.E.Sink.port c.debug_files.new.errors)) in
    where_told file_store (λ files. IsDebugged words files io c.in-Ok.talk) (λ files told.
    let loaded : loading words files ≡ Loaded b =
    at_some file_store files (λ fs. loading words fs ≡ Loaded b) told
    (ok_at c.load_files.result c.in-Ok-Files.field-0 (asked.Files f) (λ a. IfSome file_store (λ fs. loading words fs ≡ asked_for a)) c.in-Ok-Files.is c.in-Ok-Files.field-0-is c.load_files.ensures.loaded) in
    debugged_files words files b io c.in-Ok.talk (true_in_both (true_of domain.Ranges c.trips_are_true.ensures.report c.reports_are_true.ensures.report) (true_of domain.KnownBits c.trips_are_true-2.ensures.report c.reports_are_true-2.ensures.report)) loaded c.in-Ok.ensures.held)

pub returns-in-Ok-Files-clause-refused : goal.returns-in-Ok-Files-clause-refused
returns-in-Ok-Files-clause-refused g c =
    let words = map string_bytes c.args.words.now in
    let f = c.in-Ok-Files.files in
    let b = crash_bytes f.exe.items f.core.items f.trace.items f.manner in
    let old = g.H.FileStore.port c.args.file_store.now in
    let new = g.H.FileStore.port c.load_files.new.file_store in
    where_told old.files (λ files. HasNoTalk words files (move old new) (no_talk.Refused c.in-Err-debug_files.refusal)) (λ files told.
    let loaded : loading words files ≡ Loaded b =
    at_some old.files files (λ fs. loading words fs ≡ Loaded b) told
    (ok_at c.load_files.result c.in-Ok-Files.field-0 (asked.Files f) (λ a. IfSome old.files (λ fs. loading words fs ≡ asked_for a)) c.in-Ok-Files.is c.in-Ok-Files.field-0-is c.load_files.ensures.loaded) in
    refused_loaded words files (move old new) (Loaded b) c.in-Err-debug_files.refusal loaded c.in-Err-debug_files.ensures.refused)

-- the files that a core file lists
pub returns-in-Ok-Maps-clause-debugged : goal.returns-in-Ok-Maps-clause-debugged
returns-in-Ok-Maps-clause-debugged g c =
    let words = map string_bytes c.args.words.now in
    let f = c.in-Ok-Maps.files in
    let b = core_bytes f.core.items f.trace.items f.manner in
    let old = g.H.FileStore.port c.args.file_store.now in
    let between = g.H.FileStore.port c.load_files.new.file_store in
    let io = streams (move (g.S.Source.port c.args.input.now) (g.S.Source.port c.debug_mapped.new.input)) (move (g.K.Sink.port c.args.out.now) (g.K.Sink.port c.debug_mapped.new.out)) (move (g.E.Sink.port c.args.errors.now) (g.E.Sink.port c.debug_mapped.new.errors)) in
    IfOk-weaker c.debug_mapped.result (λ talk. IfSome between.files (λ told. IsHeldMapped (mapped_crash told b) io talk)) (λ talk. IfSome old.files (λ files. IsDebugged words files io talk))
    (λ talk held. where_told old.files (λ files. IsDebugged words files io talk) (λ files told.
    let loaded : loading words files ≡ LoadedCore b =
    at_some old.files files (λ fs. loading words fs ≡ LoadedCore b) told
    (ok_at c.load_files.result c.in-Ok-Maps.field-0 (asked.Maps f) (λ a. IfSome old.files (λ fs. loading words fs ≡ asked_for a)) c.in-Ok-Maps.is c.in-Ok-Maps.field-0-is c.load_files.ensures.loaded) in
    debugged_mapped words files b io talk (true_in_both (true_of domain.Ranges c.trips_are_true.ensures.report c.reports_are_true.ensures.report) (true_of domain.KnownBits c.trips_are_true-2.ensures.report c.reports_are_true-2.ensures.report)) loaded
    (at_some between.files files (λ fs. IsHeldMapped (mapped_crash fs b) io talk) (c.load_files.ensures.faults.files ∙ told) held)))
    c.debug_mapped.ensures.held

pub returns-in-Ok-Maps-clause-refused : goal.returns-in-Ok-Maps-clause-refused
returns-in-Ok-Maps-clause-refused g c =
    let words = map string_bytes c.args.words.now in
    let f = c.in-Ok-Maps.files in
    let b = core_bytes f.core.items f.trace.items f.manner in
    let old = g.H.FileStore.port c.args.file_store.now in
    let between = g.H.FileStore.port c.load_files.new.file_store in
    let new = g.H.FileStore.port c.debug_mapped.new.file_store in
    let m = meaning_of words in
    let both = ok_at c.load_files.result c.in-Ok-Maps.field-0 (asked.Maps f) (λ a. IsAsked a m (move old between)) c.in-Ok-Maps.is c.in-Ok-Maps.field-0-is c.load_files.ensures.asked in
    IfErr-weaker c.debug_mapped.result (λ why. IfSome between.files (λ told. IsUnheld (mapped_crash told b) (move between.loads new.loads) why)) (λ why. IfSome old.files (λ files. HasNoTalk words files (move old new) why))
    (λ why unheld. where_told old.files (λ files. HasNoTalk words files (move old new) why) (λ files told.
    let loaded : loading words files ≡ LoadedCore b =
    at_some old.files files (λ fs. loading words fs ≡ LoadedCore b) told
    (ok_at c.load_files.result c.in-Ok-Maps.field-0 (asked.Maps f) (λ a. IfSome old.files (λ fs. loading words fs ≡ asked_for a)) c.in-Ok-Maps.is c.in-Ok-Maps.field-0-is c.load_files.ensures.loaded) in
    refused_core words files b old between new why loaded (both_loads m f.core.items (move old between) both.0)
    (at_some between.files files (λ fs. IsUnheld (mapped_crash fs b) (move between.loads new.loads) why) (c.load_files.ensures.faults.files ∙ told) unheld)))
    c.debug_mapped.ensures.unheld

pub returns-in-Ok-Maps-clause-file_store : goal.returns-in-Ok-Maps-clause-file_store
returns-in-Ok-Maps-clause-file_store g c =
    let words = map string_bytes c.args.words.now in
    let f = c.in-Ok-Maps.files in
    let old = g.H.FileStore.port c.args.file_store.now in
    let between = g.H.FileStore.port c.load_files.new.file_store in
    let new = g.H.FileStore.port c.debug_mapped.new.file_store in
    let m = meaning_of words in
    let both = ok_at c.load_files.result c.in-Ok-Maps.field-0 (asked.Maps f) (λ a. IsAsked a m (move old between)) c.in-Ok-Maps.is c.in-Ok-Maps.field-0-is c.load_files.ensures.asked in
    let calm = said_ok c.load_files.result c.in-Ok-Maps.field-0 (between.faults ≡ old.faults) c.in-Ok-Maps.is c.load_files.ensures.faults.calm in
    mapped_moves old between new c.load_files.ensures.faults.files calm c.debug_mapped.ensures.files c.debug_mapped.ensures.later c.debug_mapped.result m f.core.items both.0 c.debug_mapped.ensures.once c.debug_mapped.ensures.calm

-- the words, or a file that they name
pub returns-clause-refused : goal.returns-clause-refused
returns-clause-refused g c =
    let words = map string_bytes c.args.words.now in
    let old = g.H.FileStore.port c.args.file_store.now in
    let new = g.H.FileStore.port c.load_files.new.file_store in
    where_told old.files (λ files. HasNoTalk words files (move old new) (no_talk.Refused c.in-Err.refusal)) (λ files told. refused_words words files old new c.in-Err.refusal (stops words files old new c.in-Err.refusal told c.in-Err.ensures.refused))
