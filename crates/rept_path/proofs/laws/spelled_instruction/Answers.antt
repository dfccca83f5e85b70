use Rattle.rept_isa.proofs.WordLemmas.{reads}
use Rattle.rept_path.proofs.Decoding.{spells}
use Rattle.rept_path.proofs.laws.spelled_instruction.Goals as goal

pub returns : goal.returns
returns c = λ spelled i. (λ h. spells spelled i h, λ h. reads spelled i h)
