use Rattle.std.proofs.Common.{◌≡◌, ◌-◌, ◌==◌}
use Rattle.std.specs.List.{find, range_with_len}
use Rattle.rept_stub.specs.Standing.{thread_of}
use Rattle.rept_stub.proofs.threads.thread_of.Given as goal

abbrev pub invariant-loop-thread : goal.invariant-loop-thread
invariant-loop-thread g l =
    let s = g.F.Findings.shown l.findings in
    thread_of s l.process ≡ find (λ t. s.process t == l.process) (range_with_len l.thread (s.threads - l.thread))
