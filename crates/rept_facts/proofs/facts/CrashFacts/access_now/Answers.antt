use Rattle.rept_timeline.specs.Paths.{lawful}
use Rattle.std.proofs.Common.{◌≡◌, ◌<◌, ◌^◌, ℕ, List, subst, arith}
use Rattle.rept_dump.specs.Program.{contents}
use Rattle.rept_alias.specs.Accesses.{call_hits}
use Rattle.rept_reason.specs.declared.fact.Fact.{Fact}
use Rattle.rept_report.proofs.Places.{oldest_all}
use Rattle.rept_facts.specs.Moments.{moment}
use Rattle.rept_facts.specs.State.{state_of}
use Rattle.rept_facts.proofs.Learning.{known_words}
use Rattle.rept_facts.proofs.Following.{not_touched}
use Rattle.rept_facts.proofs.facts.CrashFacts.access_now.Goals as goal

pub returns : goal.returns
returns g c =
    let s = (state_of g.W.Partial.sets g.W.Transfer.moves g.R.RowRules.rules g.B.ByteFacts.store c.args.self.now) in
    let long = c.len.ensures in
    let hits : (a : ℕ) → a < 2 ^ 32 → call_hits c.access_below-access.result a ≡ g.R.RowRules.rules.touched c.args.row.now (moment g.W.Partial.sets c.args.self.now.known.log c.args.self.now.spans c.args.i) (contents c.args.self.now.exe).end a = λ a small. subst (λ (l : List Fact). call_hits c.access_below-access.result a ≡ g.R.RowRules.rules.touched c.args.row.now (moment g.W.Partial.sets l c.args.self.now.spans c.args.i) (contents c.args.self.now.exe).end a) (oldest_all c.len.result c.args.self.now.known.log (omega (arith, long))) (c.access_below-access.ensures a small) in
    λ a small miss quiet. not_touched s c.args.i c.requires.inside c.requires.fitted (record { sets = g.met.W.Partial.lawful; moves = g.met.W.Transfer.covers; rules = g.met.R.RowRules.lawful; legs = (lawful c.args.self.now.paths).legs; moments = (lawful c.args.self.now.paths).moments }) (known_words s c.held.ensures) c.held.ensures.once quiet c.args.row.now c.access_below-access.result a small c.requires.row (hits a small) miss
