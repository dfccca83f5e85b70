use Rattle.std.proofs.Common.{ℕ}
use Rattle.std.proofs.lemmas.Bool.{false≢true}
use Rattle.rept_timeline.specs.Paths.{timeline, lawful}
use Rattle.rept_report.specs.Last.Latest.{IsSought}
use Rattle.rept_timeline.proofs.Searching.{sought_row, none_before, more_before}
use Rattle.rept_timeline.proofs.last.search.LastRowSearch.has_rival.Goals as goal
use Rattle.rept_timeline.proofs.last.search.LastRowSearch.has_rival.Goals.{else-i-best-via-then-i-best+else-is_sought, else-i-best-via-else-i-best}

pub returns-in_default-clause-none : goal.returns-in_default-clause-none
returns-in_default-clause-none g c =
    let t = timeline c.args.self.now.paths.now in
    let law = lawful c.args.self.now.paths.now in
    let Is : ℕ → Type 0 = IsSought t (g.M.RowWrites.writes c.args.self.now.rows.now) c.args.self.now.sought in
    λ out k below one other. none_before t law Is (sought_row t law (g.M.RowWrites.writes c.args.self.now.rows.now) c.args.self.now.sought) c.args.best c.loop-least.least c.requires.best c.in_default.ensures.row c.loop-least.invariant.before k one other

pub loop-least-preserved : goal.loop-least-preserved
loop-least-preserved g c =
    let t = timeline c.args.self.now.paths.now in
    let law = lawful c.args.self.now.paths.now in
    let Is : ℕ → Type 0 = IsSought t (g.M.RowWrites.writes c.args.self.now.rows.now) c.args.self.now.sought in
    record {
      before = more_before t law Is (sought_row t law (g.M.RowWrites.writes c.args.self.now.rows.now) c.args.self.now.sought) c.args.best c.loop-least.least c.in-Some.i c.requires.best c.in-Some.ensures.row c.loop-least.invariant.before (λ one other. elim c.else-i-best.branch [
        | else-i-best-via-then-i-best+else-is_sought w ↦ false≢true (w.if-is_sought.ensures.1 one)
        | else-i-best-via-else-i-best w ↦ other w.if-i-best.false
      ]);
    }
