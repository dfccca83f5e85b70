use Rattle.rept_timeline.specs.Paths.{lawful}
use Rattle.std.proofs.Common.{◌≡◌, ◌+◌, ap, sym, subst, arith}
use Rattle.rept_facts.specs.State.{AnalysisState, state_of, all_known}
use Rattle.rept_report.specs.Conclusions.{HasWords}
use Rattle.rept_facts.specs.Inferring.{AreWritings, AreExact}
use Rattle.rept_facts.proofs.Learning.{known_words}
use Rattle.rept_facts.proofs.Listing.{fitted_listed, writings_listed, writings_back, listed_then, listed_barriers, listed_exact}
use Rattle.rept_facts.proofs.facts.CrashFacts.list_writing.Goals as goal

pub overflow_add-count : goal.overflow_add-count
overflow_add-count g c =
    let value = c.end-count.ensures.value in
    let few = (lawful c.args.self.now.paths).numbers in
    omega (arith, value, few)

pub list_at-requires-clause-before : goal.list_at-requires-clause-before
list_at-requires-clause-before g c = writings_listed (state_of g.W.Partial.sets g.W.Transfer.moves g.R.RowRules.rules g.B.ByteFacts.store c.args.self.now) (state_of g.W.Partial.sets g.W.Transfer.moves g.R.RowRules.rules g.B.ByteFacts.store c.loop-number.self) _ c.loop-number.invariant.same c.loop-number.number c.loop-number.self.work.writing c.loop-number.invariant.listed

pub loop-number-preserved : goal.loop-number-preserved
loop-number-preserved g c = record {
  same = listed_then (state_of g.W.Partial.sets g.W.Transfer.moves g.R.RowRules.rules g.B.ByteFacts.store c.args.self.now) (state_of g.W.Partial.sets g.W.Transfer.moves g.R.RowRules.rules g.B.ByteFacts.store c.loop-number.self) (state_of g.W.Partial.sets g.W.Transfer.moves g.R.RowRules.rules g.B.ByteFacts.store c.list_at.new.self) _ _ c.loop-number.invariant.same c.list_at.ensures.same;
  room = c.list_at.ensures.room;
  listed = writings_back (state_of g.W.Partial.sets g.W.Transfer.moves g.R.RowRules.rules g.B.ByteFacts.store c.args.self.now) (state_of g.W.Partial.sets g.W.Transfer.moves g.R.RowRules.rules g.B.ByteFacts.store c.loop-number.self) _ c.loop-number.invariant.same (c.loop-number.number + 1) c.list_at.new.self.work.writing c.list_at.ensures.listed;
  count = c.loop-number.invariant.count;
}

pub returns-clause-listed : goal.returns-clause-listed
returns-clause-listed g c =
    let s = (state_of g.W.Partial.sets g.W.Transfer.moves g.R.RowRules.rules g.B.ByteFacts.store c.args.self.now) in
    let t = (state_of g.W.Partial.sets g.W.Transfer.moves g.R.RowRules.rules g.B.ByteFacts.store c.loop-number.self) in
    let rows = ap (λ (x : AnalysisState g.row.W.Denot). x.path.given.moments.end) c.loop-number.invariant.same in
    let count = c.loop-number.invariant.count in
    let all : c.loop-number.number ≡ t.path.given.moments.end + 1 = omega (arith, rows, count) in
    subst (λ (x : AnalysisState g.row.W.Denot). AreWritings x) (sym c.index_writing.ensures) (record {
      laws = (record { sets = g.met.W.Partial.lawful; moves = g.met.W.Transfer.covers; rules = g.met.R.RowRules.lawful; legs = (lawful c.loop-number.self.paths).legs; moments = (lawful c.loop-number.self.paths).moments });
      words = subst (λ (x : AnalysisState g.row.W.Denot). HasWords (all_known x)) (sym c.loop-number.invariant.same) (known_words s c.held.ensures);
      fitted = fitted_listed s t _ c.loop-number.invariant.same c.requires.fitted;
      barriers = listed_barriers t c.loop-number.number (lawful c.loop-number.self.paths).moments all (writings_listed s t _ c.loop-number.invariant.same c.loop-number.number c.loop-number.self.work.writing c.loop-number.invariant.listed);
    })

pub returns-clause-exact : goal.returns-clause-exact
returns-clause-exact g c =
    let s = (state_of g.W.Partial.sets g.W.Transfer.moves g.R.RowRules.rules g.B.ByteFacts.store c.args.self.now) in
    let t = (state_of g.W.Partial.sets g.W.Transfer.moves g.R.RowRules.rules g.B.ByteFacts.store c.loop-number.self) in
    subst (λ (x : AnalysisState g.row.W.Denot). AreExact x) (sym c.index_writing.ensures) (listed_exact t c.loop-number.number (writings_listed s t _ c.loop-number.invariant.same c.loop-number.number c.loop-number.self.work.writing c.loop-number.invariant.listed))
