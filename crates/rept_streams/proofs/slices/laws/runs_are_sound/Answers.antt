use Rattle.rept_streams.proofs.SlicesLemmas.Sound.{is_sound}
use Rattle.rept_streams.proofs.slices.laws.runs_are_sound.Goals as goal

pub returns : goal.returns
returns c = λ t run fits x. is_sound t run fits x
