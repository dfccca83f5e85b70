use Rattle.std.proofs.Common.{refl, sym, subst}
use Rattle.rept_partial.specs.Sets.{Sets}
use Rattle.rept_span.specs.Moves.{Moves}
use Rattle.rept_span.specs.Finer.{kind, IsFiner}
use Rattle.rept_report.specs.Beside.{by_other_sets}
use Rattle.rept_report.proofs.Lawful.{lawful}
use Rattle.rept_report.proofs.Finer.{report_finer}
use Rattle.rept_report.proofs.laws.finer_sets_know_more.Goals as goal

pub returns : goal.returns
returns g c = λ S es tracked K uses finer ended report.
    let laws = lawful S g.V.Partial.sets g.V.Transfer.moves g.R.RowRules.rules g.met.V.Partial.lawful g.met.V.Transfer.covers g.met.R.RowRules.lawful uses in
    let wide_laws = lawful (by_other_sets S g.W.Partial.sets g.W.Transfer.moves) g.W.Partial.sets g.W.Transfer.moves g.R.RowRules.rules g.met.W.Partial.lawful g.met.W.Transfer.covers g.met.R.RowRules.lawful (record { its_sets = refl; its_moves = refl; its_rules = uses.its_rules; its_legs = uses.its_legs; its_moments = uses.its_moments }) in
    let its_finer = subst (λ (m : Moves g.row.V.Denot). IsFiner (kind S.sets m) (kind g.W.Partial.sets g.W.Transfer.moves)) (sym uses.its_moves) (subst (λ (o : Sets g.row.V.Denot). IsFiner (kind o g.V.Transfer.moves) (kind g.W.Partial.sets g.W.Transfer.moves)) (sym uses.its_sets) finer) in
    report_finer S g.W.Partial.sets g.W.Transfer.moves laws wide_laws its_finer es tracked ended K report
