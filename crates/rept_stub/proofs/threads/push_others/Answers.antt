use Rattle.std.proofs.Common.{◌∷◌, ◌+◌, ◌-◌, arith}
use Rattle.rept_findings.proofs.TextLemmas.{grown}
use Rattle.rept_stub.specs.Threads.{number_text}
use Rattle.rept_stub.proofs.threads.push_others.Goals as goal

pub loop-thread-preserved : goal.loop-thread-preserved
loop-thread-preserved g c =
    let s = g.F.Findings.shown c.args.findings.now in
    let n = c.loop-thread.thread in
    grown (λ t. 44 ∷ number_text s t) 1 (n - 1) n (n + 1 - 1) c.args.text.now c.loop-thread.text c.push_other.new.text (omega arith) (omega arith) c.loop-thread.invariant c.in_ok-push_other.ensures
