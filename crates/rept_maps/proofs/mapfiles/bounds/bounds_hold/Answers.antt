use Rattle.rept_maps.proofs.MapfilesLemmas.BoundLemmas.{all_within, few_names, kept_within}
use Rattle.rept_maps.proofs.mapfiles.bounds.bounds_hold.Goals as goal

pub returns-clause-few : goal.returns-clause-few
returns-clause-few c = few_names

pub returns-clause-each : goal.returns-clause-each
returns-clause-each c = kept_within

pub returns-clause-in_all : goal.returns-clause-in_all
returns-clause-in_all c = all_within
