use Rattle.std.proofs.Common.{subst, inl, inr}
use Rattle.rept_machine.specs.Machine.{Halts}
use Rattle.rept_machine.specs.declared.machine.Halt.{Halt}
use Rattle.test_kit.proofs.ThreadsLemmas.PlayLemmas.Running.{has_code, has_instruction, ran_on}
use Rattle.test_kit.proofs.threads.play.machine.step.Goals as goal

pub unreachable-requires : goal.unreachable-requires
unreachable-requires c =
    let r = c.requires in
    let m = c.args.machine.now in
    elim c.in-NotCode.is [
      | inl e ↦ has_code r.0 r.1 r.2 m r.3 r.4 r.5 e.0 (subst (λ (h : Halt). Halts m h) e.1 c.in-Err.ensures.cause)
      | inr e ↦ has_instruction r.0 r.1 r.2 m r.3 r.4 r.5 e.0 (subst (λ (h : Halt). Halts m h) e.1 c.in-Err.ensures.cause)
    ]

pub returns-in-Ok : goal.returns-in-Ok
returns-in-Ok c = λ code turns k playable below ran.
    let s = c.in-Ok.ensures in
    ran_on code turns k c.args.machine.now playable below ran c.step.new.self c.in-Ok.field-0 s.lawful s.state s.picks s.at s.next s.instr s.long s.code s.base
