use Rattle.rept_timeline.specs.Paths.{timeline, lawful}
use Rattle.rept_timeline.proofs.Searching.{row_inside}
use Rattle.rept_analysis.proofs.analysis.Analysis.infer_at.Goals as goal

pub infer_fresh-requires-clause-inside : goal.infer_fresh-requires-clause-inside
infer_fresh-requires-clause-inside g c = row_inside (timeline c.args.self.now.propagation.facts.paths) (lawful c.args.self.now.propagation.facts.paths) c.in-Some.i c.in-Some.ensures.0
