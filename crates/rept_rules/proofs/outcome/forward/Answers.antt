use Rattle.std.proofs.Common.{rules, ◌≡◌, sym, subst}
use Rattle.rept_partial.specs.declared.flat.Flat.{Flat}
use Rattle.rept_rules.specs.Results.{forward_of, Admits}
use Rattle.rept_rules.specs.Laws.ValueLemmas.{forward_sound}
use Rattle.rept_rules.proofs.outcome.forward.Goals as goal

pub returns-in-Imm-clause-sound : goal.returns-in-Imm-clause-sound
returns-in-Imm-clause-sound c =
    let is : c.of_two.result ≡ forward_of c.args.instr.now c.args.from c.args.a c.args.b = search rules in
    λ image_end at next rd s t state step first second named. subst (λ (x : Flat). Admits x (t.register rd)) (sym is) (forward_sound c.args.instr.now image_end rd (record { at = at; from = c.args.from; next = next }) s t c.args.a c.args.b state step first second named)

pub returns-in-Op-clause-sound : goal.returns-in-Op-clause-sound
returns-in-Op-clause-sound c =
    let is : c.of_registers.result ≡ forward_of c.args.instr.now c.args.from c.args.a c.args.b = search rules in
    λ image_end at next rd s t state step first second named. subst (λ (x : Flat). Admits x (t.register rd)) (sym is) (forward_sound c.args.instr.now image_end rd (record { at = at; from = c.args.from; next = next }) s t c.args.a c.args.b state step first second named)
