use Rattle.std.proofs.Common.{sym, ap, ◌∙◌, arith}
use Rattle.rept_known.specs.Both.{both_has}
use Rattle.rept_found.proofs.InferredLemmas.Reaching.{missed_next, there_reached}
use Rattle.rept_found.proofs.inferred.writing.set_reaches.Goals as goal

pub returns-then-set_has : goal.returns-then-set_has
returns-then-set_has c = sym (there_reached c.args.base c.args.offset c.args.address c.loop-k.k c.args.width (omega arith) (ap (both_has c.args.base) (sym c.base_for.ensures) ∙ sym c.set_has.ensures ∙ c.if-set_has.true))

pub loop-k-preserved : goal.loop-k-preserved
loop-k-preserved c = record { missed = missed_next c.args.base c.args.offset c.args.address c.loop-k.k c.loop-k.invariant.missed (ap (both_has c.args.base) (sym c.base_for.ensures) ∙ sym c.set_has.ensures ∙ c.if-set_has.false) }
