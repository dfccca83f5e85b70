use Rattle.rept_order.proofs.Legs.{number_point}
use Rattle.rept_found.proofs.PlacesLemmas.Matching.{points, moments, before_rows, after_rows, ends, last_points}
use Rattle.rept_found.proofs.places.laws.places_are_names.Goals as goal

pub returns-clause-points : goal.returns-clause-points
returns-clause-points c = λ C t p below few. points C t p below few

pub returns-clause-numbers : goal.returns-clause-numbers
returns-clause-numbers c = λ C g. number_point C g

pub returns-clause-moments : goal.returns-clause-moments
returns-clause-moments c = λ C m sound few. moments C sound m few

pub returns-clause-before_rows : goal.returns-clause-before_rows
returns-clause-before_rows c = λ C t i sound is. before_rows C sound t i is

pub returns-clause-after_rows : goal.returns-clause-after_rows
returns-clause-after_rows c = λ C t i sound is other. after_rows C sound t i is other

pub returns-clause-ends : goal.returns-clause-ends
returns-clause-ends c = λ C sound. ends C sound

pub returns-clause-last_points : goal.returns-clause-last_points
returns-clause-last_points c = λ C t below. last_points C t below
