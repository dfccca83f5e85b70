use Rattle.std.proofs.Common.{◌≡◌, ◌+◌, ◌++◌, ◌%◌, ◌^◌}
use Rattle.std.specs.List.{flat_map, range_with_len}
use Rattle.std.specs.Option.{option_to_list}
use Rattle.rept_questions.specs.Trail.{byte_source}
use Rattle.rept_questions.proofs.trail.push_sources_of.Given as goal

abbrev pub invariant-loop-i : goal.invariant-loop-i
invariant-loop-i g l = l.steps.items ≡ l.fn.steps.items ++ flat_map (λ k. option_to_list (byte_source (g.F.Findings.shown l.findings) l.at ((l.address + k) % 2 ^ 32))) (range_with_len 0 l.i)
