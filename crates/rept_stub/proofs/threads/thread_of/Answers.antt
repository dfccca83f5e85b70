use Rattle.std.proofs.Common.{◌==◌, ◌∙◌, arith}
use Rattle.std.proofs.lemmas.Bool.{ne_eqb}
use Rattle.rept_remote.proofs.MovesLemmas.Ranges.{find_on}
use Rattle.rept_stub.proofs.threads.thread_of.Goals as goal

pub loop-thread-preserved : goal.loop-thread-preserved
loop-thread-preserved g c =
    let s = g.F.Findings.shown c.args.findings.now in
    c.loop-thread.invariant
    ∙ find_on (λ t. s.process t == c.args.process) c.loop-thread.thread s.threads (omega (arith, c.loop-thread-test.true, c.threads-thread-end.ensures.value))
    (ne_eqb (s.process c.loop-thread.thread) c.args.process (λ e. c.if-process.false (c.process.ensures ∙ e)))
