use Rattle.rept_timeline.specs.Paths.{timeline}
use Rattle.std.proofs.Common.{subst}
use Rattle.rept_report.specs.Timeline.{HasEqualNumbers}
use Rattle.rept_facts.specs.State.{Whole}
use Rattle.rept_facts.proofs.facts.CrashFacts.settled_writer.Goals as goal

pub past_begun-end-requires-clause-equal : goal.past_begun-end-requires-clause-equal
past_begun-end-requires-clause-equal g c = subst (λ (x : Whole g.row.B.Denot g.row.W.Denot g.row.R.Denot). HasEqualNumbers (timeline x.paths)) c.self.view_is (c.has_equal_numbers.ensures c.if-not-has_equal_numbers.false)
