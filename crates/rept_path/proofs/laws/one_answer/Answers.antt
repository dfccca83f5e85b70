use Rattle.rept_path.proofs.OneTrace.{one_path_of, path_or_refusal_of, one_refusal_of}
use Rattle.rept_path.proofs.laws.one_answer.Goals as goal

pub returns-clause-path : goal.returns-clause-path
returns-clause-path c = λ packets dump from i j a b h k. one_path_of packets dump from i j a b h k

pub returns-clause-refusal : goal.returns-clause-refusal
returns-clause-refusal c = λ packets dump from d e h k. one_refusal_of packets dump from d e h k

pub returns-clause-either : goal.returns-clause-either
returns-clause-either c = λ packets dump from i a e h k. path_or_refusal_of packets dump from i a e h k
