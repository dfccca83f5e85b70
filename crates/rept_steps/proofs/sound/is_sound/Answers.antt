use Rattle.rept_steps.specs.Runs.{course_of}
use Rattle.rept_steps.proofs.Deciding.{decided}
use Rattle.rept_steps.proofs.sound.is_sound.Goals as goal

pub returns : goal.returns
returns c = decided (course_of c.args.run.now) c.keeps_all.result c.keeps_all.ensures
