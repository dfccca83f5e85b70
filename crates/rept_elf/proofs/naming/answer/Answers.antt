use Rattle.std.proofs.Common.{arith}
use Rattle.rept_elf.specs.SectionParts.{entry_of}
use Rattle.rept_elf.proofs.NamingLemmas.{one_more}
use Rattle.rept_elf.proofs.naming.answer.Goals as goal

pub loop-sought-preserved : goal.loop-sought-preserved
loop-sought-preserved c =
    one_more (entry_of c.args.entry.now) c.loop-sought.sought-index c.args.asked.now c.loop-sought.asked _ c.offer.new.sought (omega (arith, c.loop-sought-test.true, c.loop-sought.invariant.same)) c.loop-sought.invariant c.offer.ensures
