use Rattle.std.proofs.Common.{refl, subst}
use Rattle.rept_encode.specs.Added.{asked_of, IsStepFault}
use Rattle.rept_encode.specs.declared.fault.StepFault.{StepFault}
use Rattle.rept_simlog.specs.Program.{program_of}
use Rattle.rept_simlog.proofs.HartlogLemmas.Pieces.{none_goes}
use Rattle.rept_simlog.proofs.hartlog.threads.add_step.Goals as goal

pub returns-in-NoStep-clause-err : goal.returns-in-NoStep-clause-err
returns-in-NoStep-clause-err c =
    let none = subst (λ (f : StepFault). IsStepFault (asked_of c.args.program.now.halves c.in-Ok.site c.args.to) c.args.steps.now f) c.in-NoStep.is c.in-Err-push_step.ensures.cause in
    (refl, none_goes (program_of c.args.program.now) (program_of c.near-near.result) c.args.from.now c.args.to c.in-Ok.site c.near-near.ensures c.in-Ok.ensures.is c.in-Ok.ensures.ok none)
