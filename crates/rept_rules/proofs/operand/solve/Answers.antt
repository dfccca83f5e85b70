use Rattle.std.proofs.Common.{rules, ◌≡◌, sym, ◌∙◌}
use Rattle.rept_rules.specs.Operands.{solve_of}
use Rattle.rept_rules.specs.Laws.SolveLemmas.{solve_sound}
use Rattle.rept_rules.proofs.operand.solve.Goals as goal

pub returns-in-First-clause-sound : goal.returns-in-First-clause-sound
returns-in-First-clause-sound c =
    let is : c.of_immediate.result ≡ solve_of c.args.instr.now c.args.which c.args.v c.args.other = search rules in
    λ image_end rd r w place s t state step named result read holds e. solve_sound c.args.instr.now c.args.which image_end place rd r c.args.v w c.args.other s t state step named result read holds (sym is ∙ e)

pub returns-in-Op-clause-sound : goal.returns-in-Op-clause-sound
returns-in-Op-clause-sound c =
    let is : c.of_registers.result ≡ solve_of c.args.instr.now c.args.which c.args.v c.args.other = search rules in
    λ image_end rd r w place s t state step named result read holds e. solve_sound c.args.instr.now c.args.which image_end place rd r c.args.v w c.args.other s t state step named result read holds (sym is ∙ e)
