use Rattle.std.proofs.Common.{refl, sym, ◌∙◌, suc}
use Rattle.rept_narrow.proofs.Truth.{step_on, step_back}
use Rattle.rept_narrow.proofs.lanes.lanes.half.Goals as goal

pub returns-then-lies_before-clause-same : goal.returns-then-lies_before-clause-same
returns-then-lies_before-clause-same c = λ n. step_on c.args.spans.now c.args.point c.args.address (suc n) n c.args.ends.0 c.args.ends.1 refl c.requires.some (sym c.lies_before.ensures ∙ c.if-lies_before.true)

pub returns-else-lies_before-clause-same : goal.returns-else-lies_before-clause-same
returns-else-lies_before-clause-same c = λ n. step_back c.args.spans.now c.args.point c.args.address (suc n) n c.args.ends.0 c.args.ends.1 refl c.requires.some (sym c.lies_before.ensures ∙ c.if-lies_before.false)
