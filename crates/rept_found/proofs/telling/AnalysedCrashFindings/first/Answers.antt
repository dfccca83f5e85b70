use Rattle.rept_found.proofs.Numbers.{thread_fits}
use Rattle.rept_found.proofs.telling.AnalysedCrashFindings.first.Goals as goal

pub returns-clause-within : goal.returns-clause-within
returns-clause-within g c = thread_fits c.args.self.now.ends.course c.args.thread c.course.ensures.some c.requires
