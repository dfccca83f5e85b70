use Rattle.std.proofs.Common.{◌≡◌, ◌⊎◌, List, ℕ, IfErr, IfSome, subst, ap, ◌∙◌}
use Rattle.rept_maps.specs.Views.{desc_of}
use Rattle.rept_maps.specs.Mapped.Mapped.{mappings}
use Rattle.rept_ports.specs.Port.{move}
use Rattle.rept_opening.specs.Delivered.{Delivers}
use Rattle.rept_app.specs.Examine.{Examines, FilesExclude, FilesHold, IsExamined}
use Rattle.rept_opening.specs.Forms.{core_image_fault}
use Rattle.rept_opening.specs.Listed.{AreLoaded, HasNoFiles}
use Rattle.rept_opening.specs.Loading.{core_bytes, parts_bytes}
use Rattle.rept_opening.specs.declared.listed.ListStop.TheVariants as stops
use Rattle.rept_opening.specs.declared.status.ExitStatus.TheVariants as ends
use Rattle.rept_opening.proofs.MappedLemmas.{err_at}
use Rattle.rept_app.proofs.MappedExits.{files_causes, files_impossible, files_lines, files_stay, loaded_all, memory_causes, memory_impossible, memory_written, name_causes, name_impossible, name_lines, refused_causes, refused_impossible, refused_lines}
use Rattle.rept_app.proofs.ToldLemmas.{reading_of}
use Rattle.rept_app.proofs.mapped.examine_mapped.Goals as goal

-- the core file or its list is refused, or there was no memory for the names or a file
pub returns-in-Err-Refused-clause-text : goal.returns-in-Err-Refused-clause-text
returns-in-Err-Refused-clause-text g c =
    let f = c.args.files.now in
    let b = core_bytes f.core.items f.trace.items f.manner in
    let old = g.H.FileStore.port c.args.file_store.now in
    let new = g.H.FileStore.port c.load_listed.new.file_store in
    let source = g.S.Source.port c.args.input.now in
    let out = move (g.K.Sink.port c.args.out.now) (g.K.Sink.port c.tell.new.out) in
    let stopped = subst (λ (core : List ℕ). IfErr c.load_listed.result (HasNoFiles core (move old new))) c.as_slice.ensures.value c.load_listed.ensures.stopped in
    let why = err_at c.load_listed.result c.in-Err-Refused.field-0 (stops.Refused c.in-Err-Refused.refusal) (HasNoFiles b.core (move old new)) c.in-Err-Refused.is c.in-Err-Refused.field-0-is stopped in
    refused_lines b old new source out c.tell.result c.in-Err-Refused.refusal why c.tell.ensures source.bytes

pub returns-in-Err-Refused-clause-causes : goal.returns-in-Err-Refused-clause-causes
returns-in-Err-Refused-clause-causes g c =
    let f = c.args.files.now in
    let b = core_bytes f.core.items f.trace.items f.manner in
    let old = g.H.FileStore.port c.args.file_store.now in
    let new = g.H.FileStore.port c.load_listed.new.file_store in
    let source = g.S.Source.port c.args.input.now in
    let out = move (g.K.Sink.port c.args.out.now) (g.K.Sink.port c.tell.new.out) in
    let stopped = subst (λ (core : List ℕ). IfErr c.load_listed.result (HasNoFiles core (move old new))) c.as_slice.ensures.value c.load_listed.ensures.stopped in
    let why = err_at c.load_listed.result c.in-Err-Refused.field-0 (stops.Refused c.in-Err-Refused.refusal) (HasNoFiles b.core (move old new)) c.in-Err-Refused.is c.in-Err-Refused.field-0-is stopped in
    refused_causes b old new source out c.tell.result c.in-Err-Refused.refusal why c.tell.ensures c.load_listed.ensures.files c.load_listed.ensures.later c.load_listed.ensures.once

pub returns-in-Err-Refused-clause-impossible : goal.returns-in-Err-Refused-clause-impossible
returns-in-Err-Refused-clause-impossible g c e =
    let f = c.args.files.now in
    let b = core_bytes f.core.items f.trace.items f.manner in
    let old = g.H.FileStore.port c.args.file_store.now in
    let new = g.H.FileStore.port c.load_listed.new.file_store in
    let source = g.S.Source.port c.args.input.now in
    let out = move (g.K.Sink.port c.args.out.now) (g.K.Sink.port c.tell.new.out) in
    let stopped = subst (λ (core : List ℕ). IfErr c.load_listed.result (HasNoFiles core (move old new))) c.as_slice.ensures.value c.load_listed.ensures.stopped in
    let why = err_at c.load_listed.result c.in-Err-Refused.field-0 (stops.Refused c.in-Err-Refused.refusal) (HasNoFiles b.core (move old new)) c.in-Err-Refused.is c.in-Err-Refused.field-0-is stopped in
    absurd (refused_impossible b old new source out c.tell.result c.in-Err-Refused.refusal why c.tell.ensures e)

-- the load of a name failed
pub returns-in-Err-LoadFault-clause-text : goal.returns-in-Err-LoadFault-clause-text
returns-in-Err-LoadFault-clause-text g c =
    let f = c.args.files.now in
    let b = core_bytes f.core.items f.trace.items f.manner in
    let old = g.H.FileStore.port c.args.file_store.now in
    let new = g.H.FileStore.port c.load_listed.new.file_store in
    let source = g.S.Source.port c.args.input.now in
    let out = move (g.K.Sink.port c.args.out.now) (g.K.Sink.port c.tell_failed.new.out) in
    let stopped = subst (λ (core : List ℕ). IfErr c.load_listed.result (HasNoFiles core (move old new))) c.as_slice.ensures.value c.load_listed.ensures.stopped in
    let stop = err_at c.load_listed.result c.in-Err-LoadFault.field-0 (stops.LoadFault c.in-Err-LoadFault.name) (HasNoFiles b.core (move old new)) c.in-Err-LoadFault.is c.in-Err-LoadFault.field-0-is stopped in
    name_lines b old new source out c.tell_failed.result c.in-Err-LoadFault.name.now c.tell_failed.ensures stop source.bytes

pub returns-in-Err-LoadFault-clause-causes : goal.returns-in-Err-LoadFault-clause-causes
returns-in-Err-LoadFault-clause-causes g c =
    let f = c.args.files.now in
    let b = core_bytes f.core.items f.trace.items f.manner in
    let old = g.H.FileStore.port c.args.file_store.now in
    let new = g.H.FileStore.port c.load_listed.new.file_store in
    let source = g.S.Source.port c.args.input.now in
    let out = move (g.K.Sink.port c.args.out.now) (g.K.Sink.port c.tell_failed.new.out) in
    let stopped = subst (λ (core : List ℕ). IfErr c.load_listed.result (HasNoFiles core (move old new))) c.as_slice.ensures.value c.load_listed.ensures.stopped in
    let stop = err_at c.load_listed.result c.in-Err-LoadFault.field-0 (stops.LoadFault c.in-Err-LoadFault.name) (HasNoFiles b.core (move old new)) c.in-Err-LoadFault.is c.in-Err-LoadFault.field-0-is stopped in
    name_causes b old new source out c.tell_failed.result c.in-Err-LoadFault.name.now c.tell_failed.ensures stop c.load_listed.ensures.files c.load_listed.ensures.later c.load_listed.ensures.once

pub returns-in-Err-LoadFault-clause-impossible : goal.returns-in-Err-LoadFault-clause-impossible
returns-in-Err-LoadFault-clause-impossible g c e =
    let f = c.args.files.now in
    let b = core_bytes f.core.items f.trace.items f.manner in
    let old = g.H.FileStore.port c.args.file_store.now in
    let new = g.H.FileStore.port c.load_listed.new.file_store in
    let source = g.S.Source.port c.args.input.now in
    let out = move (g.K.Sink.port c.args.out.now) (g.K.Sink.port c.tell_failed.new.out) in
    absurd (name_impossible b old new source out c.tell_failed.result c.in-Err-LoadFault.name.now c.tell_failed.ensures e)

-- no memory for the images
pub returns-in-Err-clause-text : goal.returns-in-Err-clause-text
returns-in-Err-clause-text g c =
    let f = c.args.files.now in
    let b = core_bytes f.core.items f.trace.items f.manner in
    let old = g.H.FileStore.port c.args.file_store.now in
    let new = g.H.FileStore.port c.load_listed.new.file_store in
    let source = g.S.Source.port c.args.input.now in
    let out = move (g.K.Sink.port c.args.out.now) (g.K.Sink.port c.tell_no_memory.new.out) in
    memory_written b old new source out c.tell_no_memory.result c.tell_no_memory.ensures source.bytes

pub returns-in-Err-clause-causes : goal.returns-in-Err-clause-causes
returns-in-Err-clause-causes g c =
    let f = c.args.files.now in
    let b = core_bytes f.core.items f.trace.items f.manner in
    let old = g.H.FileStore.port c.args.file_store.now in
    let new = g.H.FileStore.port c.load_listed.new.file_store in
    let source = g.S.Source.port c.args.input.now in
    let out = move (g.K.Sink.port c.args.out.now) (g.K.Sink.port c.tell_no_memory.new.out) in
    let loaded = subst (λ (core : List ℕ). AreLoaded core (move old new) c.in-Ok.listed) c.as_slice.ensures.value c.in-Ok.ensures.loaded in
    memory_causes b old new source out c.tell_no_memory.result c.tell_no_memory.ensures c.load_listed.ensures.files c.load_listed.ensures.later c.load_listed.ensures.once (λ s. loaded_all b.core (move old new) c.in-Ok.listed c.tell_no_memory.result loaded)

pub returns-in-Err-clause-impossible : goal.returns-in-Err-clause-impossible
returns-in-Err-clause-impossible g c e =
    let f = c.args.files.now in
    let b = core_bytes f.core.items f.trace.items f.manner in
    let old = g.H.FileStore.port c.args.file_store.now in
    let new = g.H.FileStore.port c.load_listed.new.file_store in
    let source = g.S.Source.port c.args.input.now in
    let out = move (g.K.Sink.port c.args.out.now) (g.K.Sink.port c.tell_no_memory.new.out) in
    absurd (memory_impossible b old new source out c.tell_no_memory.result c.tell_no_memory.ensures e)

-- the files are examined
pub examine_images-requires-clause-accepted : goal.examine_images-requires-clause-accepted
examine_images-requires-clause-accepted g c = let loaded = c.in-Ok.ensures.loaded in ap core_image_fault loaded.image ∙ loaded.accepted

pub returns-clause-text : goal.returns-clause-text
returns-clause-text g c =
    let f = c.args.files.now in
    let b = core_bytes f.core.items f.trace.items f.manner in
    let l = c.in-Ok.listed in
    let ms = mappings (desc_of l.maps) c.in-Ok-images_in.images in
    let old = g.H.FileStore.port c.args.file_store.now in
    let new = g.H.FileStore.port c.load_listed.new.file_store in
    let source = move (g.S.Source.port c.args.input.now) (g.S.Source.port c.examine_images.new.input) in
    let out = move (g.K.Sink.port c.args.out.now) (g.K.Sink.port c.examine_images.new.out) in
    let loaded = subst (λ (core : List ℕ). AreLoaded core (move old new) l) c.as_slice.ensures.value c.in-Ok.ensures.loaded in
    files_lines b old new source out c.examine_images.result (desc_of l.maps) ms (c.in-Ok-images_in.ensures.mapped b.core (move old new) loaded) loaded.accepted loaded.listed
    (subst (λ (core : List ℕ). IfSome source.before.bytes (λ left. Delivers (Examines (parts_bytes ms (core_bytes core f.trace.items f.manner)) (reading_of left source.after.bytes)) out c.examine_images.result)) loaded.image c.examine_images.ensures.text)

pub returns-clause-causes : goal.returns-clause-causes
returns-clause-causes g c =
    let f = c.args.files.now in
    let b = core_bytes f.core.items f.trace.items f.manner in
    let l = c.in-Ok.listed in
    let ms = mappings (desc_of l.maps) c.in-Ok-images_in.images in
    let old = g.H.FileStore.port c.args.file_store.now in
    let new = g.H.FileStore.port c.load_listed.new.file_store in
    let source = move (g.S.Source.port c.args.input.now) (g.S.Source.port c.examine_images.new.input) in
    let out = move (g.K.Sink.port c.args.out.now) (g.K.Sink.port c.examine_images.new.out) in
    let loaded = subst (λ (core : List ℕ). AreLoaded core (move old new) l) c.as_slice.ensures.value c.in-Ok.ensures.loaded in
    files_causes b old new source out c.examine_images.result (desc_of l.maps) ms (c.in-Ok-images_in.ensures.mapped b.core (move old new) loaded) loaded.accepted loaded.listed loaded.only c.examine_images.ensures.ended
    c.load_listed.ensures.files c.load_listed.ensures.later c.in-Ok.ensures.calm loaded.loads
    (subst (λ (core : List ℕ). IsExamined (parts_bytes ms (core_bytes core f.trace.items f.manner)) source out c.examine_images.result) loaded.image c.examine_images.ensures.causes)

pub returns-clause-stays : goal.returns-clause-stays
returns-clause-stays g c =
    let f = c.args.files.now in
    let b = core_bytes f.core.items f.trace.items f.manner in
    let l = c.in-Ok.listed in
    let ms = mappings (desc_of l.maps) c.in-Ok-images_in.images in
    let old = g.H.FileStore.port c.args.file_store.now in
    let new = g.H.FileStore.port c.load_listed.new.file_store in
    let source = move (g.S.Source.port c.args.input.now) (g.S.Source.port c.examine_images.new.input) in
    let out = move (g.K.Sink.port c.args.out.now) (g.K.Sink.port c.examine_images.new.out) in
    let loaded = subst (λ (core : List ℕ). AreLoaded core (move old new) l) c.as_slice.ensures.value c.in-Ok.ensures.loaded in
    files_stay b old new source out c.examine_images.result (desc_of l.maps) ms (c.in-Ok-images_in.ensures.mapped b.core (move old new) loaded) loaded.accepted loaded.listed
    (subst (λ (core : List ℕ). (c.examine_images.new.input ≡ c.args.input.now) ⊎ FilesHold (parts_bytes ms (core_bytes core f.trace.items f.manner)) c.examine_images.result) loaded.image c.examine_images.ensures.stays)

pub returns-clause-impossible : goal.returns-clause-impossible
returns-clause-impossible g c e =
    let f = c.args.files.now in
    let b = core_bytes f.core.items f.trace.items f.manner in
    let l = c.in-Ok.listed in
    let ms = mappings (desc_of l.maps) c.in-Ok-images_in.images in
    let old = g.H.FileStore.port c.args.file_store.now in
    let new = g.H.FileStore.port c.load_listed.new.file_store in
    let source = move (g.S.Source.port c.args.input.now) (g.S.Source.port c.examine_images.new.input) in
    let out = move (g.K.Sink.port c.args.out.now) (g.K.Sink.port c.examine_images.new.out) in
    let loaded = subst (λ (core : List ℕ). AreLoaded core (move old new) l) c.as_slice.ensures.value c.in-Ok.ensures.loaded in
    files_impossible b old new source out c.examine_images.result (desc_of l.maps) ms (c.in-Ok-images_in.ensures.mapped b.core (move old new) loaded) loaded.accepted loaded.listed loaded.only
    (subst (λ (core : List ℕ). c.examine_images.result ≡ ends.Inconsistent → FilesExclude (parts_bytes ms (core_bytes core f.trace.items f.manner))) loaded.image c.examine_images.ensures.impossible e)
