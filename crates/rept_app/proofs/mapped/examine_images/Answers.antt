use Rattle.std.proofs.Common.{◌≡◌, ◌⊎◌, Bool, Ok, Err, inr, refl, sym, subst}
use Rattle.rept_elf.specs.Image.{file_of}
use Rattle.rept_maps.specs.Views.{desc_of}
use Rattle.rept_maps.specs.Mapped.Mapped.{mappings}
use Rattle.rept_found.specs.Crash.{crash_of}
use Rattle.rept_ports.specs.Port.{move}
use Rattle.rept_app.specs.Examine.{Examines, IsWalked, TraceExcludes, WalkHolds, WalksTrace}
use Rattle.rept_opening.specs.Loading.{core_bytes, parts_bytes}
use Rattle.rept_opening.specs.Reading.{HasNotes}
use Rattle.rept_opening.specs.Opened.{CrashTrace}
use Rattle.rept_opening.specs.declared.refusal.Refusal.TheVariants as refusal
use Rattle.rept_opening.specs.declared.status.ExitStatus.TheVariants as ends
use Rattle.rept_opening.proofs.DeliveredLemmas.{delivers_as}
use Rattle.rept_app.proofs.DeliveredLemmas.{ends_told, not_yielded, told_ports}
use Rattle.rept_opening.proofs.ToldLemmas.{where_told, at_some}
use Rattle.rept_app.proofs.ToldLemmas.{reading_of}
use Rattle.rept_app.proofs.ExamineLemmas.{files_exclude, notes_end, reads_here, refused_ends, refused_examines, told_examined, walk_holds, walked_examined, walks_examine}
use Rattle.rept_opening.proofs.MappedLemmas.{kind_is, parts_noted, parts_refused, parts_trace}
use Rattle.rept_app.proofs.MappedLemmas.{not_executable}
use Rattle.rept_opening.proofs.Notes.{has_notes, noted_by}
use Rattle.rept_app.proofs.mapped.examine_images.Goals as goal

pub walk-requires-clause-noted : goal.walk-requires-clause-noted
walk-requires-clause-noted g c =
    subst (λ (b : Bool). HasNotes b c.in-Ok.dump) c.is_several.ensures (has_notes c.is_several.result (file_of c.args.core) c.in-Ok.dump (noted_by (file_of c.args.core) c.is_several.result (Ok c.in-Ok.dump) c.in-Ok.ensures.notes))

pub returns-in-Err-clause-text : goal.returns-in-Err-clause-text
returns-in-Err-clause-text g c =
    let ms = mappings (desc_of c.args.maps) c.args.images.now in
    let b = core_bytes (file_of c.args.core) c.args.files.now.trace.items c.args.files.now.manner in
    let has = parts_refused ms b c.in-Err.fault c.requires.accepted (parts_noted b c.is_several.result (Err c.in-Err.fault) (kind_is c.is_several.result c.as_slice-trace.result.now b.trace c.is_several.ensures c.as_slice-trace.ensures.value) c.in-Err.ensures.notes) in
    where_told _ _ (λ left told. delivers_as _ (Examines (parts_bytes ms b) (reading_of left (g.S.Source.port c.args.input.now).bytes)) _ _
    (λ text status. refused_examines (parts_bytes ms b) (reading_of left (g.S.Source.port c.args.input.now).bytes) text status (refusal.Core c.in-Err.fault) has) c.tell.ensures)

pub returns-in-Err-clause-causes : goal.returns-in-Err-clause-causes
returns-in-Err-clause-causes g c =
    let ms = mappings (desc_of c.args.maps) c.args.images.now in
    let b = core_bytes (file_of c.args.core) c.args.files.now.trace.items c.args.files.now.manner in
    let has = parts_refused ms b c.in-Err.fault c.requires.accepted (parts_noted b c.is_several.result (Err c.in-Err.fault) (kind_is c.is_several.result c.as_slice-trace.result.now b.trace c.is_several.ensures c.as_slice-trace.ensures.value) c.in-Err.ensures.notes) in
    let told = ends_told (refusal.Core c.in-Err.fault) _ c.tell.result c.tell.ensures in
    told_examined (parts_bytes ms b) c.tell.result _ _
    (told_ports (refusal.Core c.in-Err.fault) (g.S.Source.port c.args.input.now) _ c.tell.result (λ (same : ends.Core ≡ ends.InputFault). cc) (λ (same : ends.Core ≡ ends.OutputFault). cc) c.tell.ensures)
    (inr told) (refused_ends (parts_bytes ms b) c.tell.result (refusal.Core c.in-Err.fault) has told)

pub returns-in-Err-clause-ended : goal.returns-in-Err-clause-ended
returns-in-Err-clause-ended g c e =
    not_yielded ends.Core ends.Executable c.tell.result (λ (same : ends.Core ≡ ends.Executable). cc) (λ (same : ends.Executable ≡ ends.OutputFault). cc) (λ (same : ends.Executable ≡ ends.OutOfMemory). cc)
    (ends_told (refusal.Core c.in-Err.fault) _ c.tell.result c.tell.ensures) e

pub returns-in-Err-clause-impossible : goal.returns-in-Err-clause-impossible
returns-in-Err-clause-impossible g c e =
    absurd (not_yielded ends.Core ends.Inconsistent c.tell.result (λ (same : ends.Core ≡ ends.Inconsistent). cc) (λ (same : ends.Inconsistent ≡ ends.OutputFault). cc) (λ (same : ends.Inconsistent ≡ ends.OutOfMemory). cc)
    (ends_told (refusal.Core c.in-Err.fault) _ c.tell.result c.tell.ensures) e)

pub returns-in-Ok-clause-text : goal.returns-in-Ok-clause-text
returns-in-Ok-clause-text g c =
    let ms = mappings (desc_of c.args.maps) c.args.images.now in
    let b = core_bytes (file_of c.args.core) c.args.files.now.trace.items c.args.files.now.manner in
    let read = parts_noted b c.is_several.result (Ok c.in-Ok.dump) (kind_is c.is_several.result c.as_slice-trace.result.now b.trace c.is_several.ensures c.as_slice-trace.ensures.value) c.in-Ok.ensures.notes in
    let same = parts_trace (crash_of c.in-Ok.dump read.notes) ms b c.as_slice-trace.result.now c.in-Ok.ensures.files c.in-Ok.ensures.core c.as_slice-trace.ensures.value in
    where_told _ _ (λ left told. delivers_as _ (Examines (parts_bytes ms b) (reading_of left (g.S.Source.port c.walk.new.input).bytes)) _ _
    (λ text status h. walks_examine (parts_bytes ms b) (reading_of left (g.S.Source.port c.walk.new.input).bytes) text status refl (sym c.requires.accepted) read.notes read.said.said
    (subst (λ (t : CrashTrace). WalksTrace t (reading_of left (g.S.Source.port c.walk.new.input).bytes) text status) same h))
    (at_some (g.S.Source.port c.args.input.now).bytes left _ told (c.walk.ensures.text read.notes read.are)))

pub returns-in-Ok-clause-causes : goal.returns-in-Ok-clause-causes
returns-in-Ok-clause-causes g c =
    let ms = mappings (desc_of c.args.maps) c.args.images.now in
    let b = core_bytes (file_of c.args.core) c.args.files.now.trace.items c.args.files.now.manner in
    let read = parts_noted b c.is_several.result (Ok c.in-Ok.dump) (kind_is c.is_several.result c.as_slice-trace.result.now b.trace c.is_several.ensures c.as_slice-trace.ensures.value) c.in-Ok.ensures.notes in
    let same = parts_trace (crash_of c.in-Ok.dump read.notes) ms b c.as_slice-trace.result.now c.in-Ok.ensures.files c.in-Ok.ensures.core c.as_slice-trace.ensures.value in
    let walked = subst (λ (t : CrashTrace). IsWalked t (move (g.S.Source.port c.args.input.now) (g.S.Source.port c.walk.new.input)) (move (g.K.Sink.port c.args.out.now) (g.K.Sink.port c.walk.new.out)) c.walk.result) same (c.walk.ensures.causes read.notes read.are) in
    walked_examined (parts_bytes ms b) c.walk.result read.notes
    (notes_end (parts_bytes ms b) c.walk.result refl (sym c.requires.accepted) (Ok read.notes) read.said.only walked.yields) _ _ walked

pub returns-in-Ok-clause-ended : goal.returns-in-Ok-clause-ended
returns-in-Ok-clause-ended g c e =
    let read = noted_by (file_of c.args.core) c.is_several.result (Ok c.in-Ok.dump) c.in-Ok.ensures.notes in
    not_executable c.walk.result (c.walk.ensures.causes read.notes read.are).ends_so e

pub returns-in-Ok-clause-stays : goal.returns-in-Ok-clause-stays
returns-in-Ok-clause-stays g c =
    let ms = mappings (desc_of c.args.maps) c.args.images.now in
    let b = core_bytes (file_of c.args.core) c.args.files.now.trace.items c.args.files.now.manner in
    let read = parts_noted b c.is_several.result (Ok c.in-Ok.dump) (kind_is c.is_several.result c.as_slice-trace.result.now b.trace c.is_several.ensures c.as_slice-trace.ensures.value) c.in-Ok.ensures.notes in
    let same = parts_trace (crash_of c.in-Ok.dump read.notes) ms b c.as_slice-trace.result.now c.in-Ok.ensures.files c.in-Ok.ensures.core c.as_slice-trace.ensures.value in
    walk_holds (parts_bytes ms b) read.notes c.walk.result (reads_here (parts_bytes ms b) read.notes refl (sym c.requires.accepted) read.said.said)
    (subst (λ (t : CrashTrace). (c.walk.new.input ≡ c.args.input.now) ⊎ WalkHolds t c.walk.result) same (c.walk.ensures.stays read.notes read.are))

pub returns-in-Ok-clause-impossible : goal.returns-in-Ok-clause-impossible
returns-in-Ok-clause-impossible g c none =
    let ms = mappings (desc_of c.args.maps) c.args.images.now in
    let b = core_bytes (file_of c.args.core) c.args.files.now.trace.items c.args.files.now.manner in
    let read = parts_noted b c.is_several.result (Ok c.in-Ok.dump) (kind_is c.is_several.result c.as_slice-trace.result.now b.trace c.is_several.ensures c.as_slice-trace.ensures.value) c.in-Ok.ensures.notes in
    let same = parts_trace (crash_of c.in-Ok.dump read.notes) ms b c.as_slice-trace.result.now c.in-Ok.ensures.files c.in-Ok.ensures.core c.as_slice-trace.ensures.value in
    files_exclude (parts_bytes ms b) read.notes read.said.only (subst TraceExcludes same (c.walk.ensures.impossible read.notes read.are none))
