use Rattle.std.proofs.Common.{◌≡◌, ◌⊎◌, ℕ, Bool, refl, subst}
use Rattle.std.specs.Prelude.{IfOk, IfErr}
use Rattle.rept_steps.specs.Linked.{EndBefore}
use Rattle.rept_dump.specs.declared.dump.Dump.{Dump}
use Rattle.rept_trace.specs.declared.packets.Packets.{Packets}
use Rattle.rept_trace.specs.Packets.{rest_of, number_of}
use Rattle.rept_path.specs.declared.program.Program.{Program}
use Rattle.rept_path.specs.declared.fault.PathFault.TheVariants.{OutOfMemory}
use Rattle.rept_path.specs.Rows.{CarryCode}
use Rattle.rept_path.specs.Traced.{RawRun, IsTracedPath, IsUntraced, raw_of, raw_by}
use Rattle.rept_path.proofs.rebuilding.rebuild_once.Goals as goal

-- the run of the dump's program
same_run : (packets : Packets) (dump : Dump) (program : Program) (halves : Bool) (from : ℕ) → program ≡ record { dump = dump; halves = halves } → halves ≡ (rest_of packets).widths.halves → raw_by packets program from ≡ raw_of packets dump from
same_run packets dump program halves from e h = rw (e, h) refl

pub returns-clause-path : goal.returns-clause-path
returns-clause-path c =
    let same = same_run c.args.packets c.args.dump.now c.new-program.result c.halves.result c.args.from c.new-program.ensures c.halves.ensures in
    subst (λ (raw : RawRun). IfOk c.rebuild_program.result (λ path. IsTracedPath raw path.skipped path.steps)) same c.rebuild_program.ensures.path

pub returns-clause-ends : goal.returns-clause-ends
returns-clause-ends c =
    let same = same_run c.args.packets c.args.dump.now c.new-program.result c.halves.result c.args.from c.new-program.ensures c.halves.ensures in
    subst (λ (raw : RawRun). IfOk c.rebuild_program.result (λ path. EndBefore path.steps raw.pc)) same c.rebuild_program.ensures.ends

pub returns-clause-instructions : goal.returns-clause-instructions
returns-clause-instructions c =
    let same = same_run c.args.packets c.args.dump.now c.new-program.result c.halves.result c.args.from c.new-program.ensures c.halves.ensures in
    subst (λ (raw : RawRun). IfOk c.rebuild_program.result (λ path. CarryCode raw.code path.steps)) same c.rebuild_program.ensures.instructions

pub returns-clause-refusal : goal.returns-clause-refusal
returns-clause-refusal c =
    let same = same_run c.args.packets c.args.dump.now c.new-program.result c.halves.result c.args.from c.new-program.ensures c.halves.ensures in
    subst (λ (raw : RawRun). IfErr c.rebuild_program.result (λ e. (e ≡ OutOfMemory) ⊎ IsUntraced raw (number_of c.args.packets) e)) same c.rebuild_program.ensures.refusal
