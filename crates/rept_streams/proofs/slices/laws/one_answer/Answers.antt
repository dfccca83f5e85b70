use Rattle.rept_streams.proofs.SlicesLemmas.Only.{one_run, one_refusal, run_or_refusal}
use Rattle.rept_streams.proofs.SlicesLemmas.Whether.{run_or_refusal_of}
use Rattle.rept_streams.proofs.slices.laws.one_answer.Goals as goal

pub returns-clause-run : goal.returns-clause-run
returns-clause-run c = λ t a b x y. one_run t a b x y

pub returns-clause-refusal : goal.returns-clause-refusal
returns-clause-refusal c = λ t d e x y. one_refusal t d e x y

pub returns-clause-either : goal.returns-clause-either
returns-clause-either c = λ t a e x y. run_or_refusal t a e x y

pub returns-clause-some : goal.returns-clause-some
returns-clause-some c = λ t. run_or_refusal_of t
