use Rattle.std.proofs.Common.{List, [], ◌∷◌, ◌++◌, ap, ◌∙◌}
use Rattle.rept_relate.specs.declared.operations.Operation.{Operation}
use Rattle.rept_relate.proofs.Summing.{results_more, below_more}
use Rattle.rept_relate.proofs.operations.Operations.add.Goals as goal

pub returns-in-Ok-clause-results : goal.returns-in-Ok-clause-results
returns-in-Ok-clause-results c = results_more c.args.self.now c.note.new.self c.args.operation (c.note.ensures ∙ c.in-Ok.ensures.items ∙ ap (λ (xs : List Operation). xs ++ c.args.operation ∷ []) c.self.view_is)

pub returns-in-Ok-clause-below : goal.returns-in-Ok-clause-below
returns-in-Ok-clause-below c = below_more c.args.self.now c.note.new.self c.args.operation (c.note.ensures ∙ c.in-Ok.ensures.items ∙ ap (λ (xs : List Operation). xs ++ c.args.operation ∷ []) c.self.view_is)
