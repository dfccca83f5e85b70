use Rattle.std.proofs.Common.{◌≡◌, ◌+◌, ◌-◌, ◌%◌, ◌^◌, map}
use Rattle.std.specs.Prelude.{is_none}
use Rattle.std.specs.List.{find, range_with_len}
use Rattle.rept_questions.proofs.lost.first_unknown.Given as goal

abbrev pub invariant-loop-i : goal.invariant-loop-i
invariant-loop-i g l =
    find (λ a. is_none ((g.F.Findings.shown l.findings).byte l.moment a)) (map (λ k. (l.address + k) % 2 ^ 32) (range_with_len 0 l.count))
    ≡ find (λ a. is_none ((g.F.Findings.shown l.findings).byte l.moment a)) (map (λ k. (l.address + k) % 2 ^ 32) (range_with_len l.i (l.count - l.i)))
