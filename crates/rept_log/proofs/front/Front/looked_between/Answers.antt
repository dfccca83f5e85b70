use Rattle.std.proofs.Common.{◌∙◌, arith}
use Rattle.rept_reason.specs.Facts.{told}
use Rattle.rept_report.specs.Spots.{passage}
use Rattle.rept_log.specs.Fronts.{basis_of, front_of, setting_in}
use Rattle.rept_log.proofs.Carrying.{between_none, between_one}
use Rattle.rept_log.proofs.front.Front.looked_between.Goals as goal

pub returns-in_default-clause-looked : goal.returns-in_default-clause-looked
returns-in_default-clause-looked g c = λ a. c.new.ensures.items ∙ between_none (setting_in (front_of g.W.Partial.sets g.W.Transfer.moves g.R.RowRules.rules (basis_of c.args.self.now))) (told c.args.self.now.facts) (passage a c.args.from c.args.to) c.in_default.ensures

pub returns-in-Some-row-clause-looked : goal.returns-in-Some-row-clause-looked
returns-in-Some-row-clause-looked g c = λ a.
    let inside = c.count-count.ensures.inside c.in-Some.i c.in-Some.ensures.0.row in
    let value = c.count-count.ensures.value in
    c.looked_across.ensures.looked ∙ between_one (setting_in (front_of g.W.Partial.sets g.W.Transfer.moves g.R.RowRules.rules (basis_of c.args.self.now))) (told c.args.self.now.facts) (passage a c.args.from c.args.to) c.in-Some.i c.in-Some.ensures (omega (arith, inside, value))
