use Rattle.std.proofs.Common.{◌≡◌, ◌++◌, take}
use Rattle.std.specs.List.{flat_map}
use Rattle.rept_findings.specs.Texts.{looked_line}
use Rattle.rept_questions.proofs.reasons.push_ranges.Given as goal

abbrev pub invariant-loop-looked : goal.invariant-loop-looked
invariant-loop-looked g l = l.text ≡ l.fn.text ++ flat_map (looked_line (g.F.Findings.shown l.findings)) (take l.looked-index l.ranges)
