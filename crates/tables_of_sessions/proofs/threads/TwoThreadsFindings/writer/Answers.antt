use Rattle.std.proofs.Common.{◌≤◌, ◌+◌, ℕ, cond, length}
use Rattle.std.specs.Prelude.{◌==◌}
use Rattle.tables_of_sessions.proofs.ThreadWriters.{few, is_between, moment_of, own_unnamed, some_writer}
use Rattle.tables_of_sessions.proofs.threads.TwoThreadsFindings.writer.Goals as goal

pub returns-clause-last : goal.returns-clause-last
returns-clause-last c = λ thread.
    let points : (p : ℕ) → p ≤ length (cond (thread == 0) c.args.self.now.first c.args.self.now.second) → p ≤ cond (thread == 0) 4 2 = λ p h. few (thread == 0) c.args.self.now.first c.args.self.now.second p c.lengths.ensures.four c.lengths.ensures.two h in
    record {
      before = λ step p h own e. own_unnamed thread p c.args.address step (points p h.1) own e;
      since = λ step q p h own e low high. own_unnamed thread p c.args.address step (points p h.1) own e;
      between = λ step o q p h first then low high. is_between thread o q p c.args.address step (points p h.1) first then low high;
      none = λ q p h e high. some_writer (moment_of (cond (thread == 0) 0 5 + p)) c.args.address e;
    }
