use Rattle.rept_moments.proofs.Apart.{are_numbers, legs_seen, moments_seen}
use Rattle.rept_moments.proofs.laws.numbers_are_names.Goals as goal

pub returns-clause-names : goal.returns-clause-names
returns-clause-names c = λ C sound. are_numbers C sound

pub returns-clause-legs : goal.returns-clause-legs
returns-clause-legs c = λ C. legs_seen C

pub returns-clause-moments : goal.returns-clause-moments
returns-clause-moments c = λ C sound. moments_seen C sound
