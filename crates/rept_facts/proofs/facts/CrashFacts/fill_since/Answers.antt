use Rattle.std.proofs.Common.{◌≡◌, ◌≤◌, length, false, sym, subst, ◌∙◌}
use Rattle.rept_reason.specs.Facts.{told}
use Rattle.rept_span.specs.Filled.{IsFilledElse}
use Rattle.rept_report.specs.Log.{oldest}
use Rattle.rept_report.specs.Setting.{way_of}
use Rattle.rept_facts.specs.State.{Whole, setting_of}
use Rattle.rept_facts.proofs.Passing.{kept_filled}
use Rattle.rept_facts.proofs.facts.CrashFacts.fill_since.Goals as goal

pub fill_since-filled-requires-clause-former : goal.fill_since-filled-requires-clause-former
fill_since-filled-requires-clause-former g c =
    subst (λ (x : Whole g.row.B.Denot g.row.W.Denot g.row.R.Denot). IsFilledElse (way_of (setting_of g.W.Partial.sets g.W.Transfer.moves g.R.RowRules.rules x)) x.spans (told (oldest c.args.limit x.known.log)) c.mark_news.new.points) (sym c.self.view_is) (record {
      former = told (oldest c.args.self.now.filled c.args.self.now.known.log);
      filled = c.requires.fitted;
      same = c.mark_news.ensures.news;
    })

pub invariant_of-self : goal.invariant_of-self
invariant_of-self g c =
    let open_ = subst (λ (x : Whole g.row.B.Denot g.row.W.Denot g.row.R.Denot). x.complete ≡ false) (sym c.self.view_is) c.requires.open in
    let within = subst (λ (x : Whole g.row.B.Denot g.row.W.Denot g.row.R.Denot). c.args.limit ≤ length x.known.log) (sym c.self.view_is) c.requires.within in
    kept_filled _ c.self.invariant open_ c.fill_since-filled.new.self c.args.limit (c.fill_since-filled.ensures.points ∙ c.self.invariant.sized) within

pub returns-clause-some : goal.returns-clause-some
returns-clause-some g c = rw (← c.self.view_is) c.fill_since-filled.ensures.some
