use Rattle.std.proofs.Common.{◌+◌, ◌++◌, ◌∷◌, [], sym, ap, subst, ◌∙◌}
use Rattle.rept_versions.specs.Blocks.{AreEmptyBlocks}
use Rattle.rept_versions.proofs.BlockRow.{empty_on}
use Rattle.rept_versions.proofs.blocks.empty_blocks.Goals as goal

pub loop-preserved : goal.loop-preserved
loop-preserved c = subst (λ l. AreEmptyBlocks l (c.loop.counter + 1)) (sym (c.in_ok-push.ensures.items ∙ ap (λ b. c.loop.blocks.items ++ b ∷ []) c.in_ok-new.ensures)) (empty_on c.loop.blocks.items c.loop.counter c.loop.invariant)
