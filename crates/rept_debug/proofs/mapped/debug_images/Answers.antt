use Rattle.std.proofs.Common.{Bool, Ok, Err, inl, subst}
use Rattle.std.proofs.lemmas.Result.{IfErr-weaker, IfOk-weaker}
use Rattle.rept_elf.specs.Image.{file_of}
use Rattle.rept_maps.specs.Views.{desc_of}
use Rattle.rept_maps.specs.Mapped.Mapped.{mappings}
use Rattle.rept_found.specs.Crash.{crash_of}
use Rattle.rept_ports.specs.Port.{move}
use Rattle.rept_opening.specs.Loading.{core_bytes, parts_bytes}
use Rattle.rept_opening.specs.Reading.{HasNotes}
use Rattle.rept_opening.specs.Opened.{crash_trace}
use Rattle.rept_opening.proofs.MappedLemmas.{kind_is, parts_noted, parts_refused}
use Rattle.rept_opening.proofs.Notes.{has_notes, noted_by}
use Rattle.rept_debug.specs.Debugged.{IsHeld, IsHeldTrace, IsRefusedCrash, IsRefusedTrace, streams}
use Rattle.rept_debug.proofs.ListedLemmas.{held_parts, refused_parts}
use Rattle.rept_debug.proofs.mapped.debug_images.Goals as goal

pub debug_trace-requires-clause-noted : goal.debug_trace-requires-clause-noted
debug_trace-requires-clause-noted g c =
    subst (λ (b : Bool). HasNotes b c.in-Ok.dump) c.is_several.ensures (has_notes c.is_several.result (file_of c.args.core) c.in-Ok.dump (noted_by (file_of c.args.core) c.is_several.result (Ok c.in-Ok.dump) c.in-Ok.ensures.notes))

pub returns-in-Err-clause-refused : goal.returns-in-Err-clause-refused
returns-in-Err-clause-refused g c =
    let ms = mappings (desc_of c.args.maps) c.args.images.now in
    let b = core_bytes (file_of c.args.core) c.args.files.now.trace.items c.args.files.now.manner in
    inl (parts_refused ms b c.in-Err.fault c.requires.accepted (parts_noted b c.is_several.result (Err c.in-Err.fault) (kind_is c.is_several.result c.as_slice-trace.result.now b.trace c.is_several.ensures c.as_slice-trace.ensures.value) c.in-Err.ensures.notes))

pub returns-in-Ok-clause-held : goal.returns-in-Ok-clause-held
returns-in-Ok-clause-held g c =
    let ms = mappings (desc_of c.args.maps) c.args.images.now in
    let b = core_bytes (file_of c.args.core) c.args.files.now.trace.items c.args.files.now.manner in
    let io = streams (move (g.S.Source.port c.args.input.now) (g.S.Source.port c.debug_trace.new.input)) (move (g.K.Sink.port c.args.out.now) (g.K.Sink.port c.debug_trace.new.out)) (move (g.E.Sink.port c.args.errors.now) (g.E.Sink.port c.debug_trace.new.errors)) in
    let read = parts_noted b c.is_several.result (Ok c.in-Ok.dump) (kind_is c.is_several.result c.as_slice-trace.result.now b.trace c.is_several.ensures c.as_slice-trace.ensures.value) c.in-Ok.ensures.notes in
    IfOk-weaker c.debug_trace.result (IsHeldTrace (crash_trace (crash_of c.in-Ok.dump read.notes) c.as_slice-trace.result.now c.args.files.now.manner) c.mapped_files-process.result io) (IsHeld (parts_bytes ms b) io)
    (held_parts ms b c.in-Ok.dump read.notes c.as_slice-trace.result.now c.in-Ok.ensures.files c.in-Ok.ensures.core c.as_slice-trace.ensures.value c.requires.accepted read.said.said c.mapped_files-process.result io c.mapped_files-process.ensures.core c.mapped_files-process.ensures.program c.mapped_files-process.ensures.files)
    (c.debug_trace.ensures.held read.notes read.are)

pub returns-in-Ok-clause-refused : goal.returns-in-Ok-clause-refused
returns-in-Ok-clause-refused g c =
    let ms = mappings (desc_of c.args.maps) c.args.images.now in
    let b = core_bytes (file_of c.args.core) c.args.files.now.trace.items c.args.files.now.manner in
    let read = parts_noted b c.is_several.result (Ok c.in-Ok.dump) (kind_is c.is_several.result c.as_slice-trace.result.now b.trace c.is_several.ensures c.as_slice-trace.ensures.value) c.in-Ok.ensures.notes in
    IfErr-weaker c.debug_trace.result (IsRefusedTrace (crash_trace (crash_of c.in-Ok.dump read.notes) c.as_slice-trace.result.now c.args.files.now.manner)) (IsRefusedCrash (parts_bytes ms b))
    (refused_parts ms b c.in-Ok.dump read.notes c.as_slice-trace.result.now c.in-Ok.ensures.files c.in-Ok.ensures.core c.as_slice-trace.ensures.value c.requires.accepted read.said.said)
    (c.debug_trace.ensures.refused read.notes read.are)
