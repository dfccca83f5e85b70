use Rattle.std.proofs.Common.{◌≡◌, rules, sym, subst, List}
use Rattle.std.specs.List.{Contains}
use Rattle.rept_reason.specs.declared.view.inferred.Conclusion.{Conclusion}
use Rattle.rept_rules.specs.Listing.{conclusions}
use Rattle.rept_rules.specs.Laws.Listed.{listed, concluded}
use Rattle.rept_rules.proofs.base.BaseRowRules.infer.Goals as goal

pub returns-clause-listed : goal.returns-clause-listed
returns-clause-listed g c =
    let is : c.infer_others.new.inferred.items ≡ conclusions c.args.row.now (g.V.RowView.seen c.args.view.now) = search rules in
    λ d has. listed c.args.row.now (g.V.RowView.seen c.args.view.now) d (subst (λ (x : List Conclusion). Contains x d) is has)

pub returns-clause-all : goal.returns-clause-all
returns-clause-all g c =
    let is : c.infer_others.new.inferred.items ≡ conclusions c.args.row.now (g.V.RowView.seen c.args.view.now) = search rules in
    λ d has. subst (λ (x : List Conclusion). Contains x d) (sym is) (concluded c.args.row.now (g.V.RowView.seen c.args.view.now) d has)
