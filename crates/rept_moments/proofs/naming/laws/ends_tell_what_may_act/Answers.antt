use Rattle.std.proofs.Common.{sym}
use Rattle.rept_moments.proofs.NamingLemmas.Ends.{else_may_act, else_untraced, ahead_back}
use Rattle.rept_moments.proofs.naming.laws.ends_tell_what_may_act.Goals as goal

pub returns-clause-rows : goal.returns-clause-rows
returns-clause-rows c = λ C N i m w sound names next none. sym (else_may_act C sound N names m w i next none)

pub returns-clause-untraced : goal.returns-clause-untraced
returns-clause-untraced c = λ C N m w sound names next none. sym (else_untraced C sound N names m w next none)

pub returns-clause-ahead : goal.returns-clause-ahead
returns-clause-ahead c = λ C N i m w sound names writes next ahead. ahead_back C sound N names i m w writes next ahead
