use Rattle.std.proofs.Common.{◌-◌, List, length, length-drop, take, drop, ap, arith}
use Rattle.std.proofs.lemmas.List.{take_all}
use Rattle.rept_isa.specs.declared.row.StepRow.{StepRow}
use Rattle.test_kit.proofs.threads.maderuns.harts.part.Goals as goal

pub returns : goal.returns
returns c = ap (λ (xs : List StepRow). take c.args.count xs) (take_all (length c.args.rows.now - c.args.first) (drop c.args.first c.args.rows.now) (let d = length-drop c.args.first c.args.rows.now in omega (arith, d)))
