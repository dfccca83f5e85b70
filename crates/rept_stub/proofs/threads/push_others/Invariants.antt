use Rattle.std.proofs.Common.{◌≡◌, ◌∷◌, ◌++◌, ◌-◌}
use Rattle.std.specs.List.{flat_map, range_with_len}
use Rattle.rept_stub.specs.Threads.{number_text}
use Rattle.rept_stub.proofs.threads.push_others.Given as goal

abbrev pub invariant-loop-thread : goal.invariant-loop-thread
invariant-loop-thread g l = l.text ≡ l.fn.text ++ flat_map (λ t. 44 ∷ number_text (g.F.Findings.shown l.findings) t) (range_with_len 1 (l.thread - 1))
