use Rattle.std.proofs.Common.{◌≡◌, rules, sym, subst, ◌∙◌, ap, List, Option}
use Rattle.std.specs.List.{Contains}
use Rattle.rept_reason.specs.declared.view.inferred.Conclusion.{Conclusion}
use Rattle.rept_amo.specs.declared.form.Form.{Form}
use Rattle.rept_amo.specs.Conclusions.{form_of}
use Rattle.rept_amo.specs.Listing.{inferred_of}
use Rattle.rept_amo.specs.Laws.Listed.{listed, concluded}
use Rattle.rept_amo.proofs.atomic.AtomicRowRules.infer.Goals as goal

pub returns-in-Some-clause-listed : goal.returns-in-Some-clause-listed
returns-in-Some-clause-listed g c = λ form d e has.
    let is : c.infer_form.new.inferred.items ≡ inferred_of (form_of c.args.row.now.instr) c.args.row.now (g.V.RowView.seen c.args.view.now) = search rules in
    let there = subst (λ (x : List Conclusion). Contains x d) (is ∙ ap (λ (o : Option Form). inferred_of o c.args.row.now (g.V.RowView.seen c.args.view.now)) e) has in
    listed c.args.row.now (g.V.RowView.seen c.args.view.now) d form e there

pub returns-in-Some-clause-all : goal.returns-in-Some-clause-all
returns-in-Some-clause-all g c = λ form d e says.
    let is : c.infer_form.new.inferred.items ≡ inferred_of (form_of c.args.row.now.instr) c.args.row.now (g.V.RowView.seen c.args.view.now) = search rules in
    subst (λ (x : List Conclusion). Contains x d) (sym (is ∙ ap (λ (o : Option Form). inferred_of o c.args.row.now (g.V.RowView.seen c.args.view.now)) e)) (concluded c.args.row.now (g.V.RowView.seen c.args.view.now) d form e says)
