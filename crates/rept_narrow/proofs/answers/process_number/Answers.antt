use Rattle.rept_narrow.proofs.Answering.{all_has}
use Rattle.rept_narrow.proofs.answers.process_number.Goals as goal

pub returns-in-None : goal.returns-in-None
returns-in-None g c = λ v small same. all_has c.unknown.result v c.unknown.ensures small
