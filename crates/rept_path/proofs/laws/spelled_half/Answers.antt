use Rattle.rept_path.proofs.Expanding.{reads, spells}
use Rattle.rept_path.proofs.laws.spelled_half.Goals as goal

pub returns : goal.returns
returns c = λ half i. (λ h. spells half i h, λ h. reads half i h)
