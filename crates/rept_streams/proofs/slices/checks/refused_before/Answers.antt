use Rattle.std.proofs.Common.{sym}
use Rattle.rept_streams.proofs.SlicesLemmas.WindowLemmas.{windows_are_left}
use Rattle.rept_streams.proofs.slices.checks.refused_before.Goals as goal

pub returns-clause-left : goal.returns-clause-left
returns-clause-left c = λ from streams lists a none.
    windows_are_left from streams lists c.args.windows.now a (sym (c.in_default-first_startless.ensures from streams lists a))
