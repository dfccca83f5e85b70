use Rattle.std.proofs.Common.{◌≡◌, ◌++◌, ◌∷◌, [], List, sym, subst, inl, inr}
use Rattle.rept_isa.specs.declared.row.StepRow.{StepRow}
use Rattle.rept_steps.specs.Linked.{EndBefore}
use Rattle.rept_machine.specs.Machine.{Halts}
use Rattle.rept_machine.specs.declared.machine.Halt.{Halt}
use Rattle.rept_make.specs.Ran.{RanRows}
use Rattle.rept_make.proofs.Running.{ran_on, has_code, has_instruction}
use Rattle.rept_make.proofs.run.step.Goals as goal

pub returns-in-Ok-push-clause-ran : goal.returns-in-Ok-push-clause-ran
returns-in-Ok-push-clause-ran c = λ seed words code ran.
    let s = c.in-Ok.ensures in
    let ok : c.push.new.self ≡ c.args.steps.now ++ c.in-Ok.row ∷ [] = c.in-Ok-push.ensures.ok in
    let ends : EndBefore (c.args.steps.now ++ c.in-Ok.row ∷ []) c.in-Ok.row.next = subst (λ (rows : List StepRow). EndBefore rows c.in-Ok.row.next) ok c.in-Ok-push.ensures.ends in
    subst (λ (rows : List StepRow). RanRows seed words c.step.new.self rows) (sym ok) (ran_on seed words code c.args.machine.now c.step.new.self c.args.steps.now ran c.in-Ok.row s.lawful s.state s.picks s.at s.next s.instr s.call s.long s.code s.base ends)

pub unreachable-requires : goal.unreachable-requires
unreachable-requires c =
    let made = c.requires.made in
    let m = c.args.machine.now in
    let rows = c.args.steps.now in
    elim c.in-NotCode.is [
      | inl e ↦ has_code made.0 made.1 m rows made.2 made.3 e.0 (subst (λ (h : Halt). Halts m h) e.1 c.in-Err.ensures.cause)
      | inr e ↦ has_instruction made.0 made.1 m rows made.2 made.3 e.0 (subst (λ (h : Halt). Halts m h) e.1 c.in-Err.ensures.cause)
    ]
