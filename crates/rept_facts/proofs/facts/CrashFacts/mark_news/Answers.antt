use Rattle.std.proofs.Common.{◌≡◌, Some, sym, ap, subst, ◌∙◌}
use Rattle.rept_reason.specs.Facts.{told, register_fact}
use Rattle.rept_report.specs.Log.{oldest, entry}
use Rattle.rept_facts.specs.State.{Whole}
use Rattle.rept_facts.proofs.Since.{same_more}
use Rattle.rept_facts.proofs.facts.CrashFacts.mark_news.Goals as goal

pub loop-place-init : goal.loop-place-init
loop-place-init g c = record {
  long = c.clear.ensures.count ∙ c.requires.marks;
  news = λ p early bare r. ap (λ (x : Whole g.row.B.Denot g.row.W.Denot g.row.R.Denot). register_fact (told (oldest x.filled c.args.self.now.known.log)) p r) (sym c.self.view_is);
}

pub loop-place-preserved : goal.loop-place-preserved
loop-place-preserved g c =
    let there = subst (λ (x : Whole g.row.B.Denot g.row.W.Denot g.row.R.Denot). entry x.known.log c.loop-place.place ≡ Some c.entry.result) c.self.view_is c.entry.ensures in
    record {
      long = c.mark_fact.ensures.count ∙ c.loop-place.invariant.long;
      news = λ p early bare. same_more c.args.self.now.known.log c.args.self.now.filled c.loop-place.place c.entry.result c.count-last.result c.loop-place.points c.mark_fact.new.points there c.mark_fact.ensures.kept c.mark_fact.ensures.here p (rw c.count-last.ensures.value early) (λ none. c.loop-place.invariant.news p early none) bare;
    }
