use Rattle.std.proofs.Common.{sym, ◌∙◌, arith}
use Rattle.rept_found.specs.Inferred.Writing.{is_lined_at}
use Rattle.rept_found.proofs.InferredLemmas.Lined.{all_false, all_next}
use Rattle.rept_found.proofs.inferred.writing.are_lined.Goals as goal

pub returns-then-not-is_lined_at : goal.returns-then-not-is_lined_at
returns-then-not-is_lined_at g c = sym (all_false (is_lined_at (g.F.Findings.shown c.args.found.now)) c.args.count c.loop-point.point (omega arith) (sym c.is_lined_at.ensures ∙ c.if-not-is_lined_at.true))

pub loop-point-preserved : goal.loop-point-preserved
loop-point-preserved g c = record { lined = all_next (is_lined_at (g.F.Findings.shown c.args.found.now)) c.loop-point.point c.loop-point.invariant.lined (sym c.is_lined_at.ensures ∙ c.if-not-is_lined_at.false) }
