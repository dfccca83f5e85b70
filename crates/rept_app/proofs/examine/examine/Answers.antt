use Rattle.std.proofs.Common.{◌≡◌, ◌⊎◌, Bool, Ok, sym, subst}
use Rattle.rept_found.specs.Crash.{Crash}
use Rattle.rept_ports.specs.Port.{move}
use Rattle.rept_app.specs.Examine.{Examines, WalksTrace, WalkHolds, IsWalked, TraceExcludes}
use Rattle.rept_streams.specs.Runs.Kind.{is_several}
use Rattle.rept_opening.specs.Loading.{crash_bytes}
use Rattle.rept_opening.specs.Reading.{HasNotes, HasNoDump, IsDumpOf}
use Rattle.rept_opening.specs.Opened.{crash_trace}
use Rattle.rept_opening.specs.declared.status.ExitStatus.TheVariants as ends
use Rattle.rept_opening.proofs.DeliveredLemmas.{delivers_as}
use Rattle.rept_app.proofs.DeliveredLemmas.{ends_told, not_yielded, told_ports}
use Rattle.rept_opening.proofs.ToldLemmas.{where_told, at_some}
use Rattle.rept_app.proofs.ToldLemmas.{reading_of}
use Rattle.rept_app.proofs.ExamineLemmas.{as_refused, not_refused, refused_ends, refused_examines, refused_status, notes_end, told_examined, walked_examined, walks_examine, files_exclude, reads_here, walk_holds}
use Rattle.rept_app.proofs.examine.examine.Goals as goal

pub walk-requires-clause-noted : goal.walk-requires-clause-noted
walk-requires-clause-noted g c = subst (λ (many : Bool). HasNotes many c.in-Ok.dump) c.is_several.ensures c.in-Ok.ensures.notes

pub returns-in-Err-clause-text : goal.returns-in-Err-clause-text
returns-in-Err-clause-text g c =
    let bytes = crash_bytes c.args.exe.now c.args.core.now c.args.trace.now c.args.manner in
    let none = subst (λ (many : Bool). HasNoDump many c.args.exe.now c.args.core.now c.in-Err.refusal) c.is_several.ensures c.in-Err.ensures.refused in
    where_told _ _ (λ left told. delivers_as _ (Examines bytes (reading_of left (g.S.Source.port c.args.input.now).bytes)) _ _
    (λ text status. refused_examines bytes (reading_of left (g.S.Source.port c.args.input.now).bytes) text status c.in-Err.refusal none) c.tell.ensures)

pub returns-in-Err-clause-causes : goal.returns-in-Err-clause-causes
returns-in-Err-clause-causes g c =
    let bytes = crash_bytes c.args.exe.now c.args.core.now c.args.trace.now c.args.manner in
    let none = subst (λ (many : Bool). HasNoDump many c.args.exe.now c.args.core.now c.in-Err.refusal) c.is_several.ensures c.in-Err.ensures.refused in
    let which = refused_status (is_several c.args.trace.now) c.args.exe.now c.args.core.now c.in-Err.refusal none in
    let told = ends_told c.in-Err.refusal _ c.tell.result c.tell.ensures in
    told_examined bytes c.tell.result _ _
    (told_ports c.in-Err.refusal (g.S.Source.port c.args.input.now) _ c.tell.result
    (not_refused _ ends.InputFault (λ (same : ends.Executable ≡ ends.InputFault). cc) (λ (same : ends.Core ≡ ends.InputFault). cc) which)
    (not_refused _ ends.OutputFault (λ (same : ends.Executable ≡ ends.OutputFault). cc) (λ (same : ends.Core ≡ ends.OutputFault). cc) which) c.tell.ensures)
    (as_refused c.in-Err.refusal c.tell.result which told) (refused_ends bytes c.tell.result c.in-Err.refusal none told)

pub returns-in-Err-clause-impossible : goal.returns-in-Err-clause-impossible
returns-in-Err-clause-impossible g c e =
    let none = subst (λ (many : Bool). HasNoDump many c.args.exe.now c.args.core.now c.in-Err.refusal) c.is_several.ensures c.in-Err.ensures.refused in
    let which = refused_status (is_several c.args.trace.now) c.args.exe.now c.args.core.now c.in-Err.refusal none in
    absurd (not_yielded _ ends.Inconsistent c.tell.result
    (not_refused _ ends.Inconsistent (λ (same : ends.Executable ≡ ends.Inconsistent). cc) (λ (same : ends.Core ≡ ends.Inconsistent). cc) which)
    (λ (same : ends.Inconsistent ≡ ends.OutputFault). cc) (λ (same : ends.Inconsistent ≡ ends.OutOfMemory). cc) (ends_told c.in-Err.refusal _ c.tell.result c.tell.ensures) e)

pub returns-in-Ok-clause-text : goal.returns-in-Ok-clause-text
returns-in-Ok-clause-text g c =
    let is = subst (λ (many : Bool). IsDumpOf many c.args.exe.now c.args.core.now c.in-Ok.dump) c.is_several.ensures c.in-Ok.ensures.dump in
    let bytes = crash_bytes c.args.exe.now c.args.core.now c.args.trace.now c.args.manner in
    where_told _ _ (λ left told. delivers_as _ (Examines bytes (reading_of left (g.S.Source.port c.walk.new.input).bytes)) _ _
    (λ text status h. walks_examine bytes (reading_of left (g.S.Source.port c.walk.new.input).bytes) text status (sym is.exe_accepted) (sym is.core_accepted) is.notes is.noted
    (subst (λ (s : Crash). WalksTrace (crash_trace s c.args.trace.now c.args.manner) (reading_of left (g.S.Source.port c.walk.new.input).bytes) text status) is.crash h))
    (at_some (g.S.Source.port c.args.input.now).bytes left _ told (c.walk.ensures.text is.notes is.are)))

pub returns-in-Ok-clause-causes : goal.returns-in-Ok-clause-causes
returns-in-Ok-clause-causes g c =
    let is = subst (λ (many : Bool). IsDumpOf many c.args.exe.now c.args.core.now c.in-Ok.dump) c.is_several.ensures c.in-Ok.ensures.dump in
    let bytes = crash_bytes c.args.exe.now c.args.core.now c.args.trace.now c.args.manner in
    let walked = subst (λ (s : Crash). IsWalked (crash_trace s c.args.trace.now c.args.manner) (move (g.S.Source.port c.args.input.now) (g.S.Source.port c.walk.new.input)) (move (g.K.Sink.port c.args.out.now) (g.K.Sink.port c.walk.new.out)) c.walk.result) is.crash (c.walk.ensures.causes is.notes is.are) in
    walked_examined bytes c.walk.result is.notes
    (notes_end bytes c.walk.result (sym is.exe_accepted) (sym is.core_accepted) (Ok is.notes) is.only walked.yields) _ _ walked

pub returns-in-Ok-clause-stays : goal.returns-in-Ok-clause-stays
returns-in-Ok-clause-stays g c =
    let is = subst (λ (many : Bool). IsDumpOf many c.args.exe.now c.args.core.now c.in-Ok.dump) c.is_several.ensures c.in-Ok.ensures.dump in
    let bytes = crash_bytes c.args.exe.now c.args.core.now c.args.trace.now c.args.manner in
    walk_holds bytes is.notes c.walk.result (reads_here bytes is.notes (sym is.exe_accepted) (sym is.core_accepted) is.noted)
    (subst (λ (s : Crash). (c.walk.new.input ≡ c.args.input.now) ⊎ WalkHolds (crash_trace s c.args.trace.now c.args.manner) c.walk.result) is.crash (c.walk.ensures.stays is.notes is.are))

pub returns-in-Ok-clause-impossible : goal.returns-in-Ok-clause-impossible
returns-in-Ok-clause-impossible g c none =
    let is = subst (λ (many : Bool). IsDumpOf many c.args.exe.now c.args.core.now c.in-Ok.dump) c.is_several.ensures c.in-Ok.ensures.dump in
    let bytes = crash_bytes c.args.exe.now c.args.core.now c.args.trace.now c.args.manner in
    files_exclude bytes is.notes is.only (subst (λ (s : Crash). TraceExcludes (crash_trace s c.args.trace.now c.args.manner)) is.crash (c.walk.ensures.impossible is.notes is.are none))
