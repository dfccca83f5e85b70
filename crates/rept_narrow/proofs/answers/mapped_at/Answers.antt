use Rattle.rept_narrow.proofs.Answering.{all_has_of}
use Rattle.rept_narrow.proofs.answers.mapped_at.Goals as goal

pub returns-else-has_no_error : goal.returns-else-has_no_error
returns-else-has_no_error c = λ v has fits. all_has_of c.args.answer c.unknown.result v c.unknown.ensures has
