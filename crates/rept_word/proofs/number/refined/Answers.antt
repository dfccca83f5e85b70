use Rattle.rept_word.proofs.NumberLemmas.{doubles}
use Rattle.rept_word.proofs.number.refined.Goals as goal

pub returns : goal.returns
returns c = λ bits small one. doubles c.args.v c.args.inverse bits small one
