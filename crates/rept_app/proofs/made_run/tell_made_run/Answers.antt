use Rattle.rept_app.proofs.MadeLemmas.{memory_sums}
use Rattle.rept_app.proofs.made_run.tell_made_run.Goals as goal

pub returns-in-Err-clause-text : goal.returns-in-Err-clause-text
returns-in-Err-clause-text g c = memory_sums _ c.tell_no_memory.result c.tell_no_memory.ensures c.args.seed c.args.steps

pub returns-in-Ok-clause-text : goal.returns-in-Ok-clause-text
returns-in-Ok-clause-text g c = c.answer_summary.ensures.text c.args.seed c.args.steps c.in-Ok.ensures
