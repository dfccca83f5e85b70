use Rattle.rept_moments.proofs.NamingLemmas.Making.{are_names, are_names_by}
use Rattle.rept_moments.proofs.naming.laws.courses_have_names.Goals as goal

pub returns-clause-by : goal.returns-clause-by
returns-clause-by c = λ C L sound is. are_names_by C sound L is

pub returns-clause-all : goal.returns-clause-all
returns-clause-all c = λ C sound. are_names C sound
