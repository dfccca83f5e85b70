use Rattle.test_kit.proofs.ThreadsLemmas.TurnsLemmas.Slices.{turns_sound}
use Rattle.test_kit.proofs.threads.turns.laws.turns_are_sound.Goals as goal

pub returns : goal.returns
returns c = λ C turns has order apart ends. turns_sound C turns has order apart ends
