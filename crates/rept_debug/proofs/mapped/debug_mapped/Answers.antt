use Rattle.std.proofs.Common.{◌≡◌, List, ℕ, IfErr, inr, refl, ap, subst, ◌∙◌}
use Rattle.rept_maps.specs.Views.{desc_of}
use Rattle.rept_maps.specs.Mapped.Mapped.{mappings}
use Rattle.rept_ports.specs.Port.{move}
use Rattle.rept_opening.specs.Forms.{core_image_fault}
use Rattle.rept_opening.specs.Listed.{AreLoaded, HasNoFiles}
use Rattle.rept_opening.specs.Loading.{core_bytes, parts_bytes}
use Rattle.rept_opening.specs.Mapped.{mapped_crash}
use Rattle.rept_opening.specs.declared.listed.ListStop.TheVariants as stops
use Rattle.rept_opening.specs.declared.refusal.Refusal.TheVariants as refusal
use Rattle.rept_opening.proofs.MappedLemmas.{err_at}
use Rattle.rept_debug.specs.Debugged.{IsHeld, IsRefusedCrash, IsUnheld, streams}
use Rattle.rept_debug.specs.declared.no_talk.GdbError.TheVariants as no_talk
use Rattle.rept_debug.proofs.ListedLemmas.{held_listed, name_unheld, refused_unheld, unheld_listed, where_any}
use Rattle.rept_debug.proofs.mapped.debug_mapped.Goals as goal

-- the core file or its list is refused, or there was no memory for the names or a file
pub returns-in-Err-Refused-clause-unheld : goal.returns-in-Err-Refused-clause-unheld
returns-in-Err-Refused-clause-unheld g c =
    let f = c.args.files.now in
    let b = core_bytes f.core.items f.trace.items f.manner in
    let old = g.H.FileStore.port c.args.file_store.now in
    let new = g.H.FileStore.port c.load_listed.new.file_store in
    let r = c.in-Err-Refused.refusal in
    let stopped = subst (λ (core : List ℕ). IfErr c.load_listed.result (HasNoFiles core (move old new))) c.as_slice.ensures.value c.load_listed.ensures.stopped in
    let why = err_at c.load_listed.result c.in-Err-Refused.field-0 (stops.Refused r) (HasNoFiles b.core (move old new)) c.in-Err-Refused.is c.in-Err-Refused.field-0-is stopped in
    where_any old.files (λ told. IsUnheld (mapped_crash told b) (move old.loads new.loads) (no_talk.Refused r)) (λ told. refused_unheld (mapped_crash told b) (move old new) (move old.loads new.loads) r why)

-- the load of a name failed
pub returns-in-Err-LoadFault-clause-unheld : goal.returns-in-Err-LoadFault-clause-unheld
returns-in-Err-LoadFault-clause-unheld g c =
    let f = c.args.files.now in
    let b = core_bytes f.core.items f.trace.items f.manner in
    let old = g.H.FileStore.port c.args.file_store.now in
    let new = g.H.FileStore.port c.load_listed.new.file_store in
    let name = c.in-Err-LoadFault.name in
    let stopped = subst (λ (core : List ℕ). IfErr c.load_listed.result (HasNoFiles core (move old new))) c.as_slice.ensures.value c.load_listed.ensures.stopped in
    let stop = err_at c.load_listed.result c.in-Err-LoadFault.field-0 (stops.LoadFault name) (HasNoFiles b.core (move old new)) c.in-Err-LoadFault.is c.in-Err-LoadFault.field-0-is stopped in
    where_any old.files (λ told. IsUnheld (mapped_crash told b) (move old.loads new.loads) c.load_fault.result) (λ told. name_unheld (mapped_crash told b) (move old new) name.now c.load_fault.result stop c.load_fault.ensures)

-- no memory for the images
pub returns-in-Err-clause-unheld : goal.returns-in-Err-clause-unheld
returns-in-Err-clause-unheld g c =
    let f = c.args.files.now in
    let b = core_bytes f.core.items f.trace.items f.manner in
    let old = g.H.FileStore.port c.args.file_store.now in
    let new = g.H.FileStore.port c.load_listed.new.file_store in
    where_any old.files (λ told. IsUnheld (mapped_crash told b) (move old.loads new.loads) (no_talk.Refused refusal.OutOfMemory)) (λ told. inr refl)

-- the files are read
pub debug_images-requires-clause-accepted : goal.debug_images-requires-clause-accepted
debug_images-requires-clause-accepted g c = let loaded = c.in-Ok.ensures.loaded in ap core_image_fault loaded.image ∙ loaded.accepted

pub returns-in-Ok-debug_images-clause-held : goal.returns-in-Ok-debug_images-clause-held
returns-in-Ok-debug_images-clause-held g c =
    let f = c.args.files.now in
    let b = core_bytes f.core.items f.trace.items f.manner in
    let l = c.in-Ok.listed in
    let ms = mappings (desc_of l.maps) c.in-Ok-images_in.images in
    let old = g.H.FileStore.port c.args.file_store.now in
    let new = g.H.FileStore.port c.load_listed.new.file_store in
    let loaded = subst (λ (core : List ℕ). AreLoaded core (move old new) l) c.as_slice.ensures.value c.in-Ok.ensures.loaded in
    let io = streams (move (g.S.Source.port c.args.input.now) (g.S.Source.port c.debug_images.new.input)) (move (g.K.Sink.port c.args.out.now) (g.K.Sink.port c.debug_images.new.out)) (move (g.E.Sink.port c.args.errors.now) (g.E.Sink.port c.debug_images.new.errors)) in
    held_listed old.files ms b (desc_of l.maps) loaded.accepted loaded.listed (c.in-Ok-images_in.ensures.mapped b.core (move old new) loaded) io c.in-Ok-debug_images.talk
    (subst (λ (core : List ℕ). IsHeld (parts_bytes ms (core_bytes core f.trace.items f.manner)) io c.in-Ok-debug_images.talk) loaded.image c.in-Ok-debug_images.ensures.held)

pub returns-clause-unheld : goal.returns-clause-unheld
returns-clause-unheld g c =
    let f = c.args.files.now in
    let b = core_bytes f.core.items f.trace.items f.manner in
    let l = c.in-Ok.listed in
    let ms = mappings (desc_of l.maps) c.in-Ok-images_in.images in
    let old = g.H.FileStore.port c.args.file_store.now in
    let new = g.H.FileStore.port c.load_listed.new.file_store in
    let loaded = subst (λ (core : List ℕ). AreLoaded core (move old new) l) c.as_slice.ensures.value c.in-Ok.ensures.loaded in
    let r = c.in-Err-debug_images.refusal in
    unheld_listed old.files ms b (desc_of l.maps) loaded.accepted loaded.listed (c.in-Ok-images_in.ensures.mapped b.core (move old new) loaded) (move old.loads new.loads) r
    (subst (λ (core : List ℕ). IsRefusedCrash (parts_bytes ms (core_bytes core f.trace.items f.manner)) r) loaded.image c.in-Err-debug_images.ensures.refused)
