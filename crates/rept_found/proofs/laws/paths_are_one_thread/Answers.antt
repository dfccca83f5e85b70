use Rattle.rept_found.proofs.Single.{one_thread_shown}
use Rattle.rept_found.proofs.laws.paths_are_one_thread.Goals as goal

pub returns : goal.returns
returns g c = λ P K scene. one_thread_shown P K scene
