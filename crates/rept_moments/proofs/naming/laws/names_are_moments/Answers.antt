use Rattle.std.proofs.Common.{refl}
use Rattle.rept_moments.proofs.NamingLemmas.Naming.{are_legs, are_moments}
use Rattle.rept_moments.proofs.naming.laws.names_are_moments.Goals as goal

pub returns-clause-legs : goal.returns-clause-legs
returns-clause-legs g c = λ C. are_legs C

pub returns-clause-moments : goal.returns-clause-moments
returns-clause-moments g c = λ C N sound names. are_moments C sound N names

pub returns-clause-uses : goal.returns-clause-uses
returns-clause-uses g c = λ C D N sound names. record { its_sets = refl; its_moves = refl; its_rules = refl; its_legs = are_legs C; its_moments = are_moments C sound N names }
