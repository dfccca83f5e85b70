use Rattle.std.proofs.Common.{ap, ◌∙◌}
use Rattle.rept_isa.specs.declared.instr.Instr.{Instr}
use Rattle.rept_rules.specs.MayWrite.{instr_may_write}
use Rattle.rept_rules.specs.Laws.WriteLemmas.{exact_by}
use Rattle.rept_rules.proofs.base.BaseRowRules.touched.Goals as goal

pub returns-clause-exact : goal.returns-clause-exact
returns-clause-exact g c = λ is register answer a known fits.
    let seen = g.V.RowView.seen c.args.view.now in
    c.touched.ensures a ∙ ap (λ (i : Instr). instr_may_write i seen c.args.image_end a) is ∙ exact_by seen c.args.image_end register answer a known fits
