use Rattle.rept_elf.specs.SectionParts.{entry_of}
use Rattle.rept_elf.proofs.NamingLemmas.{IsOffered}
use Rattle.rept_elf.proofs.naming.answer.Given as goal

abbrev pub invariant-loop-sought : goal.invariant-loop-sought
invariant-loop-sought l = IsOffered (entry_of l.entry) l.sought-index l.fn.asked l.asked
