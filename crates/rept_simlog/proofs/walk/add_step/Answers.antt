use Rattle.std.proofs.Common.{refl, subst}
use Rattle.rept_encode.specs.Added.{asked_of, IsStepFault}
use Rattle.rept_encode.specs.declared.fault.StepFault.{StepFault}
use Rattle.rept_simlog.specs.Program.{program_of}
use Rattle.rept_simlog.proofs.Entries.{none_goes}
use Rattle.rept_simlog.proofs.walk.add_step.Goals as goal

pub returns-in-NoStep-clause-err : goal.returns-in-NoStep-clause-err
returns-in-NoStep-clause-err c =
    let none = subst (λ (f : StepFault). IsStepFault (asked_of c.args.program.now.halves c.in-Ok.site c.args.to.now.address) c.args.steps.now f) c.in-NoStep.is c.in-Err-push_step.ensures.cause in
    (refl, (c.in-Ok.site.instr, c.in-Ok.ensures.ok, none_goes (program_of c.args.program.now) c.args.from.now c.args.to.now c.in-Ok.site c.in-Ok.ensures.is none))
