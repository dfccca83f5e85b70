use Rattle.tables_of_sessions.proofs.FixedWriters.{is_before, is_between, is_none, is_since}
use Rattle.tables_of_sessions.proofs.fixed.FixedFindings.writer.Goals as goal

pub returns-clause-last : goal.returns-clause-last
returns-clause-last c = λ thread. record {
  before = λ step p h own e. is_before p step e;
  since = λ step q p h own e low high. is_since q p step e low;
  between = λ step o q p h first then low high. is_between o q step first low;
  none = λ q p h e high. is_none q p e high;
}
