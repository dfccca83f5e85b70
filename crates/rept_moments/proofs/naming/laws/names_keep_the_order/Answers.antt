use Rattle.rept_moments.proofs.NamingLemmas.Ordered.{row_past_is, row_ahead_is, row_later_is, untraced_past_is, untraced_before_is}
use Rattle.rept_moments.proofs.naming.laws.names_keep_the_order.Goals as goal

pub returns-clause-past : goal.returns-clause-past
returns-clause-past c = λ C N i m sound names its writes. row_past_is C sound N names i m its writes

pub returns-clause-ahead : goal.returns-clause-ahead
returns-clause-ahead c = λ C N i m sound names its writes. row_ahead_is C sound N names i m its writes

pub returns-clause-later : goal.returns-clause-later
returns-clause-later c = λ C N i j sound names is its. row_later_is C sound N names i j is its

pub returns-clause-untraced_past : goal.returns-clause-untraced_past
returns-clause-untraced_past c = λ C N d m sound names its told. untraced_past_is C sound N names d m its told

pub returns-clause-untraced_before : goal.returns-clause-untraced_before
returns-clause-untraced_before c = λ C N d i sound names is told. untraced_before_is C sound N names d i is told
