use Rattle.rept_simlog.specs.declared.hartlog.log.HartLogLine.{HartLogLine}
use Rattle.rept_simlog.proofs.HartlogLemmas.Lines.{none_of, none_second, none_given}
use Rattle.rept_simlog.proofs.hartlog.log.HartLogLineLogEntry.of_line.Goals as goal

pub returns-in_default-clause-none : goal.returns-in_default-clause-none
returns-in_default-clause-none c = λ entry told. c.in_default.ensures.none told.1.hart told.1.rest told.1.first

pub returns-in_default-cut_word-clause-none : goal.returns-in_default-cut_word-clause-none
returns-in_default-cut_word-clause-none c = λ entry told. none_second c.args.line.now c.in-Some.hart.now c.in-Some.rest.now entry c.in-Some.ensures.some c.in_default-cut_word.ensures.none told.1

pub returns-clause-none : goal.returns-clause-none
returns-clause-none c = none_of HartLogLine c.entry_by.result _ _ (λ none entry told. none entry (none_given c.args.line.now c.in-Some.hart.now c.in-Some.rest.now c.in-Some-cut_word.thread.now c.in-Some-cut_word.address.now entry c.in-Some.ensures.some c.in-Some-cut_word.ensures.some told.1)) c.entry_by.ensures.none
