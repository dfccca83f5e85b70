use Rattle.rept_simlog.proofs.log.read_log.Goals as goal

pub returns-in-Err-entries_of-clause-err : goal.returns-in-Err-entries_of-clause-err
returns-in-Err-entries_of-clause-err g c = c.in-Err-entries_of.ensures.err c.args.exe.now
