use Rattle.std.proofs.Common.{Bool, List, ℕ, inl, ap, subst, ◌∙◌}
use Rattle.std.proofs.lemmas.Result.{IfErr-weaker, IfOk-weaker}
use Rattle.rept_found.specs.Crash.{crash_of}
use Rattle.rept_ports.specs.Port.{move}
use Rattle.rept_streams.specs.Runs.Kind.{is_several}
use Rattle.rept_opening.specs.Loading.{CrashBytes, crash_bytes}
use Rattle.rept_opening.specs.Reading.{HasNoDump, HasNotes, IsDumpOf}
use Rattle.rept_opening.specs.Opened.{crash_trace}
use Rattle.rept_debug.specs.Debugged.{IsHeld, IsHeldTrace, IsRefusedCrash, IsRefusedTrace, streams}
use Rattle.rept_debug.proofs.OpenLemmas.{same_bytes}
use Rattle.rept_debug.proofs.TalkLemmas.{held_at, refused_at}
use Rattle.rept_debug.proofs.debugging.debug_files.Goals as goal

pub returns-in-Err-clause-refused : goal.returns-in-Err-clause-refused
returns-in-Err-clause-refused g c =
    let files = c.args.files.now in
    inl (subst (λ (many : Bool). HasNoDump many files.exe.items files.core.items c.in-Err.refusal) (c.is_several.ensures ∙ ap is_several c.as_slice-trace.ensures.value)
    (subst (λ (exe : List ℕ). HasNoDump c.is_several.result exe files.core.items c.in-Err.refusal) c.as_slice-exe.ensures.value
    (subst (λ (core : List ℕ). HasNoDump c.is_several.result c.as_slice-exe.result.now core c.in-Err.refusal) c.as_slice-core.ensures.value c.in-Err.ensures.refused)))

pub debug_trace-requires-clause-noted : goal.debug_trace-requires-clause-noted
debug_trace-requires-clause-noted g c = subst (λ (many : Bool). HasNotes many c.in-Ok.dump) c.is_several.ensures c.in-Ok.ensures.notes

pub returns-clause-held : goal.returns-clause-held
returns-clause-held g c =
    let files = c.args.files.now in
    let io = streams (move (g.S.Source.port c.args.input.now) (g.S.Source.port c.debug_trace.new.input)) (move (g.K.Sink.port c.args.out.now) (g.K.Sink.port c.debug_trace.new.out)) (move (g.E.Sink.port c.args.errors.now) (g.E.Sink.port c.debug_trace.new.errors)) in
    let is = subst (λ (many : Bool). IsDumpOf many c.as_slice-exe.result.now c.as_slice-core.result.now c.in-Ok.dump) c.is_several.ensures c.in-Ok.ensures.dump in
    IfOk-weaker c.debug_trace.result (IsHeldTrace (crash_trace (crash_of c.in-Ok.dump is.notes) c.as_slice-trace.result.now files.manner) c.process_files-process.result io) (IsHeld (crash_bytes files.exe.items files.core.items files.trace.items files.manner) io)
    (λ talk h. same_bytes files.exe.items c.as_slice-exe.result.now files.core.items c.as_slice-core.result.now files.trace.items c.as_slice-trace.result.now files.manner (λ (bytes : CrashBytes). IsHeld bytes io talk)
    c.as_slice-exe.ensures.value c.as_slice-core.ensures.value c.as_slice-trace.ensures.value (held_at c.as_slice-exe.result.now c.as_slice-core.result.now c.as_slice-trace.result.now files.manner c.in-Ok.dump is c.process_files-process.result io talk c.process_files-process.ensures.core c.process_files-process.ensures.program c.process_files-process.ensures.files h))
    (c.debug_trace.ensures.held is.notes is.are)

pub returns-clause-refused : goal.returns-clause-refused
returns-clause-refused g c =
    let files = c.args.files.now in
    let is = subst (λ (many : Bool). IsDumpOf many c.as_slice-exe.result.now c.as_slice-core.result.now c.in-Ok.dump) c.is_several.ensures c.in-Ok.ensures.dump in
    IfErr-weaker c.debug_trace.result (IsRefusedTrace (crash_trace (crash_of c.in-Ok.dump is.notes) c.as_slice-trace.result.now files.manner)) (IsRefusedCrash (crash_bytes files.exe.items files.core.items files.trace.items files.manner))
    (λ r h. same_bytes files.exe.items c.as_slice-exe.result.now files.core.items c.as_slice-core.result.now files.trace.items c.as_slice-trace.result.now files.manner (λ (bytes : CrashBytes). IsRefusedCrash bytes r)
    c.as_slice-exe.ensures.value c.as_slice-core.ensures.value c.as_slice-trace.ensures.value (refused_at c.as_slice-exe.result.now c.as_slice-core.result.now c.as_slice-trace.result.now files.manner c.in-Ok.dump is r h))
    (c.debug_trace.ensures.refused is.notes is.are)
