use Rattle.rept_report.proofs.Lawful.{lawful}
use Rattle.rept_report.specs.OneThread.{path_setting}
use Rattle.rept_found.specs.Crash.{means, path_of}
use Rattle.rept_found.proofs.Chains.{no_circle}
use Rattle.rept_found.proofs.Settings.{single_trip}
use Rattle.rept_found.proofs.Truths.{no_execution, report_true, uses_here}
use Rattle.rept_found.proofs.laws.reports_are_true.Goals as goal

pub returns-clause-report : goal.returns-clause-report
returns-clause-report g c = λ crash rows K report.
    let m = means g.W.Partial.sets g.W.Transfer.moves g.R.RowRules.rules in
    report_true m g.met.W.Partial.lawful g.met.W.Transfer.covers crash rows K (c.reports_are_sound.ensures.report (path_setting (path_of m crash rows)) K (uses_here m crash rows) report)
    (λ es tracked f why ended is. c.facts_have_reasons.ensures.premises (path_setting (path_of m crash rows)) es tracked f why (uses_here m crash rows) ended is)
    (λ es tracked f why ended is. c.facts_have_reasons.ensures.ranges (path_setting (path_of m crash rows)) es tracked f why (uses_here m crash rows) ended is)
    (λ es tracked f ended rests. no_circle (path_setting (path_of m crash rows)) (lawful (path_setting (path_of m crash rows)) g.W.Partial.sets g.W.Transfer.moves g.R.RowRules.rules g.met.W.Partial.lawful g.met.W.Transfer.covers g.met.R.RowRules.lawful (uses_here m crash rows)) es ended.trace ended.quiet f rests)

pub returns-clause-impossible : goal.returns-clause-impossible
returns-clause-impossible g c = λ crash rows kind has.
    let m = means g.W.Partial.sets g.W.Transfer.moves g.R.RowRules.rules in
    no_execution (path_of m crash rows) (c.reports_are_sound.ensures.conflict (path_setting (path_of m crash rows)) kind (uses_here m crash rows) has)

pub returns-clause-trip : goal.returns-clause-trip
returns-clause-trip g c = λ crash note rows skipped only. single_trip (means g.W.Partial.sets g.W.Transfer.moves g.R.RowRules.rules) crash note rows skipped only
