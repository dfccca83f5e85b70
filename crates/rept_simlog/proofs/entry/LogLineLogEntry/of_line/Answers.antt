use Rattle.rept_simlog.proofs.entry.LogLineLogEntry.of_line.Goals as goal

pub returns-in-None-clause-none : goal.returns-in-None-clause-none
returns-in-None-clause-none c = λ entry told. c.in-None.ensures.none entry.address told.1
