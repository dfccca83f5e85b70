use Rattle.std.proofs.Common.{sym, ◌∙◌}
use Rattle.std.proofs.lemmas.Result.{on_ok_weaker}
use Rattle.rept_relate.proofs.Remembering.{quiet_same, held_same}
use Rattle.rept_relate.proofs.storing.relate_memory.Goals as goal

pub returns-then-is_quiet-clause-below : goal.returns-then-is_quiet-clause-below
returns-then-is_quiet-clause-below c = λ limit below less other. c.relate_load.ensures.below limit below less

pub returns-then-is_quiet-clause-keeps : goal.returns-then-is_quiet-clause-keeps
returns-then-is_quiet-clause-keeps c =
    let quiet = sym c.is_quiet.ensures ∙ c.if-is_quiet.true in
    on_ok_weaker c.relate_load.result (λ keeps value image_end s t w valued held.
    let p = keeps value image_end s t w valued held in
    (p.0, held_same c.relate_load.new.words.slots.items value s t (quiet_same c.args.row.now c.args.node c.args.nodes value image_end s t quiet w) p.1)) c.relate_load.ensures.keeps

pub returns-else-is_quiet-clause-below : goal.returns-else-is_quiet-clause-below
returns-else-is_quiet-clause-below c = λ limit below less other. c.relate_write.ensures.below limit below other
