use Rattle.std.proofs.Common.{ℕ, ◌∙◌}
use Rattle.std.proofs.lemmas.Bool.{false≢true}
use Rattle.rept_timeline.specs.Paths.{timeline, lawful}
use Rattle.rept_report.specs.Last.Latest.{IsSought}
use Rattle.rept_timeline.proofs.Searching.{sought_row, more_only}
use Rattle.rept_timeline.proofs.last.search.LastRowSearch.newest.Goals as goal
use Rattle.rept_timeline.proofs.last.search.LastRowSearch.newest.Goals.{else-is_later-via-then-is_later+else-is_sought, else-is_later-via-else-is_later}

pub loop-least-preserved : goal.loop-least-preserved
loop-least-preserved g c =
    let t = timeline c.args.self.now.paths.now in
    let law = lawful c.args.self.now.paths.now in
    let Is : ℕ → Type 0 = IsSought t (g.M.RowWrites.writes c.args.self.now.rows.now) c.args.self.now.sought in
    record {
      one = c.loop-least.invariant.one;
      only = more_only t law Is (sought_row t law (g.M.RowWrites.writes c.args.self.now.rows.now) c.args.self.now.sought) c.loop-least.best c.loop-least.least c.in-Some.i c.loop-least.invariant.one c.in-Some.ensures.row c.loop-least.invariant.only (λ last other. elim c.else-is_later.branch [
        | else-is_later-via-then-is_later+else-is_sought w ↦ false≢true (w.if-is_sought.ensures.1 last.one)
        | else-is_later-via-else-is_later w ↦ false≢true (w.if-is_later.ensures ∙ (last.after c.loop-least.best c.loop-least.invariant.one other).later)
      ]);
    }
