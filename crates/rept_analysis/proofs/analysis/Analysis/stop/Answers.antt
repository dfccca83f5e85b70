use Rattle.std.proofs.Common.{◌∙◌}
use Rattle.rept_analysis.proofs.analysis.Analysis.stop.Goals as goal

pub returns-in-OutOfMemory-clause-plain : goal.returns-in-OutOfMemory-clause-plain
returns-in-OutOfMemory-clause-plain g c = λ _ joins lined. (rw c.in-OutOfMemory.is at c.requires.halt) (c.counted.ensures.joins ∙ joins, lined)

pub returns-in-Clash-clause-ends : goal.returns-in-Clash-clause-ends
returns-in-Clash-clause-ends g c = λ first quiet kind e. c.stop_clash.ensures.ends first quiet

pub returns-in-OutOfMemory-clause-ends : goal.returns-in-OutOfMemory-clause-ends
returns-in-OutOfMemory-clause-ends g c = c.stop_memory.ensures.ends
