use Rattle.std.proofs.Common.{◌≡◌, ◌++◌, take}
use Rattle.std.specs.List.{flat_map}
use Rattle.rept_findings.specs.Texts.{premise_line}
use Rattle.rept_questions.proofs.reasons.push_premises.Given as goal

abbrev pub invariant-loop-premise : goal.invariant-loop-premise
invariant-loop-premise g l = l.text ≡ l.fn.text ++ flat_map (premise_line (g.F.Findings.shown l.findings)) (take l.premise-index l.premises)
