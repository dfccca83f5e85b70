use Rattle.rept_rules.specs.Laws.BaseLaws.{base_lawful}
use Rattle.rept_rules.specs.Laws.More.{small_bytes}
use Rattle.rept_rules.proofs.laws.rules_are_lawful.Goals as goal

pub returns-clause-laws : goal.returns-clause-laws
returns-clause-laws c = base_lawful

pub returns-clause-bytes : goal.returns-clause-bytes
returns-clause-bytes c = small_bytes
