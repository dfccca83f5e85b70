use Rattle.std.proofs.Common.{◌≡◌, ◌⊎◌, inl, inr, ℕ, List, [], ◌∷◌, sym, subst}
use Rattle.std.proofs.lemmas.Result.{IfOk-weaker, IfErr-weaker}
use Rattle.rept_dump.specs.declared.dump.Dump.{Dump}
use Rattle.rept_dump.specs.Dump.{exe_of, registers_of}
use Rattle.rept_dump.specs.Program.{contents}
use Rattle.rept_trace.specs.Stream.{Stream, plain}
use Rattle.rept_trace.specs.declared.packets.Packets.{Packets}
use Rattle.rept_trace.specs.Packets.{rest_of, number_of}
use Rattle.rept_path.specs.Traced.{RawRun, IsTracedPath, IsUntraced, raw_of}
use Rattle.rept_path.specs.declared.fault.PathFault.{PathFault}
use Rattle.rept_path.specs.declared.fault.PathFault.TheVariants.{OutOfMemory}
use Rattle.rept_found.specs.Crash.{Crash, crash_of, end_pc}
use Rattle.rept_opening.specs.Path.{TraceFile, file_bytes, raw_run_of, IsTracePath, HasNoPath}
use Rattle.rept_opening.proofs.PathLemmas.{traced_after, untraced_after, same_path}
use Rattle.rept_opening.proofs.path.trace_path.Goals as goal

-- the crash of a dump of one thread
abbrev crash_alone : Dump → Crash
crash_alone dump = crash_of dump (registers_of dump ∷ [])

-- the run of a stream over a dump
abbrev run_by : Dump → ℕ → Stream → RawRun
run_by dump from stream = record { code = record { contents = contents (exe_of dump); halves = stream.widths.halves }; stream = stream; from = from; pc = end_pc (registers_of dump) }

-- what is said of the bytes is said of what is left of them
untraced_in : (dump : Dump) (packets : Packets) (from : ℕ) (fault : PathFault) (file : TraceFile) → plain file.halves file.bytes ≡ rest_of packets → 0 ≡ number_of packets → IsUntraced (raw_run_of (crash_alone dump) file from) 0 fault → IsUntraced (raw_of packets dump from) (number_of packets) fault
untraced_in dump packets from fault file stream number h =
    subst (λ n. IsUntraced (raw_of packets dump from) n fault) number (subst (λ (s : Stream). IsUntraced (run_by dump from s) 0 fault) stream h)

untraced_from : (dump : Dump) (packets : Packets) (from : ℕ) (fault : PathFault) (file : TraceFile) → rest_of packets ≡ plain file.halves file.bytes → number_of packets ≡ 0 → IsUntraced (raw_of packets dump from) (number_of packets) fault → IsUntraced (raw_run_of (crash_alone dump) file from) 0 fault
untraced_from dump packets from fault file stream number h =
    subst (λ (s : Stream). IsUntraced (run_by dump from s) 0 fault) stream (subst (λ n. IsUntraced (raw_of packets dump from) n fault) number h)

-- a refusal of what is left of the packets is one of the file
refused_by : (dump : Dump) (packets : Packets) (from : ℕ) (trace : List ℕ) (file : TraceFile) → trace ≡ file_bytes file → rest_of packets ≡ plain file.halves file.bytes → number_of packets ≡ 0 → (e : PathFault) → (e ≡ OutOfMemory) ⊎ IsUntraced (raw_of packets dump from) (number_of packets) e → (e ≡ OutOfMemory) ⊎ HasNoPath (crash_alone dump) trace from e
refused_by dump packets from trace file parts stream number e (inl none) = inl none
refused_by dump packets from trace file parts stream number e (inr h) = inr (inr (file, parts, untraced_from dump packets from e file stream number h))

pub returns-in-Ok-clause-path : goal.returns-in-Ok-clause-path
returns-in-Ok-clause-path c =
    let ok = c.in-Ok.ensures.ok in
    let file : TraceFile = record { halves = ok.0; bytes = (rest_of c.in-Ok.packets).bytes } in
    IfOk-weaker c.rebuild.result (λ path. IsTracedPath (raw_of c.in-Ok.packets c.args.dump.now c.args.from) path.skipped path.steps) (IsTracePath (crash_alone c.args.dump.now) c.args.trace.now c.args.from)
    (λ path is. (file, ok.1, subst (λ (s : Stream). IsTracedPath (run_by c.args.dump.now c.args.from s) path.skipped path.steps) ok.2 is)) c.rebuild.ensures.path

pub returns-in-Ok-clause-refusal : goal.returns-in-Ok-clause-refusal
returns-in-Ok-clause-refusal c =
    let ok = c.in-Ok.ensures.ok in
    let file : TraceFile = record { halves = ok.0; bytes = (rest_of c.in-Ok.packets).bytes } in
    IfErr-weaker c.rebuild.result (λ e. (e ≡ OutOfMemory) ⊎ IsUntraced (raw_of c.in-Ok.packets c.args.dump.now c.args.from) (number_of c.in-Ok.packets) e) (λ e. (e ≡ OutOfMemory) ⊎ HasNoPath (crash_alone c.args.dump.now) c.args.trace.now c.args.from e)
    (refused_by c.args.dump.now c.in-Ok.packets c.args.from c.args.trace.now file ok.1 ok.2 ok.3) c.rebuild.ensures.refusal

pub returns-in-Ok-clause-only_path : goal.returns-in-Ok-clause-only_path
returns-in-Ok-clause-only_path c = λ other is.
    let ok = c.in-Ok.ensures.ok in
    let file : TraceFile = record { halves = ok.0; bytes = (rest_of c.in-Ok.packets).bytes } in
    let traced = traced_after (crash_alone c.args.dump.now) c.args.trace.now c.args.from file ok.1 other is in
    same_path c.rebuild.result other (c.rebuild.ensures.only_path other.skipped other.steps (subst (λ (s : Stream). IsTracedPath (run_by c.args.dump.now c.args.from s) other.skipped other.steps) (sym ok.2) traced))

pub returns-in-Ok-clause-only_refusal : goal.returns-in-Ok-clause-only_refusal
returns-in-Ok-clause-only_refusal c = λ fault has.
    let ok = c.in-Ok.ensures.ok in
    let file : TraceFile = record { halves = ok.0; bytes = (rest_of c.in-Ok.packets).bytes } in
    let untraced = untraced_after (crash_alone c.args.dump.now) c.args.trace.now c.args.from file ok.1 (λ refused h. let e = c.in-Ok.ensures.every_fault refused h in cc) fault has in
    c.rebuild.ensures.only_refusal fault (untraced_in c.args.dump.now c.in-Ok.packets c.args.from fault file (sym ok.2) (sym ok.3) untraced)

pub returns-in-Ok-clause-other : goal.returns-in-Ok-clause-other
returns-in-Ok-clause-other c = λ fault has.
    let ok = c.in-Ok.ensures.ok in
    let file : TraceFile = record { halves = ok.0; bytes = (rest_of c.in-Ok.packets).bytes } in
    let untraced = untraced_after (crash_alone c.args.dump.now) c.args.trace.now c.args.from file ok.1 (λ refused h. let e = c.in-Ok.ensures.every_fault refused h in cc) fault has in
    c.rebuild.ensures.other fault (untraced_in c.args.dump.now c.in-Ok.packets c.args.from fault file (sym ok.2) (sym ok.3) untraced)
