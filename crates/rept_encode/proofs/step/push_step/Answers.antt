use Rattle.std.proofs.Common.{List, sym, subst}
use Rattle.std.specs.List.{All}
use Rattle.std.proofs.lemmas.List.Elements.{All-push}
use Rattle.rept_isa.specs.declared.row.StepRow.{StepRow}
use Rattle.rept_encode.specs.Walkable.{IsStepped}
use Rattle.rept_encode.proofs.step.push_step.Goals as goal

pub returns-in-Ok-clause-steps : goal.returns-in-Ok-clause-steps
returns-in-Ok-clause-steps c =
    subst (λ (rows : List StepRow). All (IsStepped c.args.halves) rows) (sym c.in-Ok.ensures.ok) (All-push (IsStepped c.args.halves) c.args.steps.now c.in-Some.row c.requires.steps c.in-Some.ensures.some.step)
