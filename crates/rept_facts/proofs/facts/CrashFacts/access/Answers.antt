use Rattle.std.proofs.Common.{◌≡◌, ℕ, ap, subst}
use Rattle.rept_dump.specs.Program.{contents}
use Rattle.rept_alias.specs.Accesses.{call_hits}
use Rattle.rept_report.specs.Log.{oldest}
use Rattle.rept_facts.specs.Moments.{moment}
use Rattle.rept_facts.specs.State.{Whole, state_of}
use Rattle.rept_facts.proofs.Following.{access_is}
use Rattle.rept_facts.proofs.facts.CrashFacts.access.Goals as goal

pub returns : goal.returns
returns g c =
    let s = state_of g.W.Partial.sets g.W.Transfer.moves g.R.RowRules.rules g.B.ByteFacts.store c.args.self.now in
    let now = c.args.self.now in
    let filled = ap (λ (x : Whole g.row.B.Denot g.row.W.Denot g.row.R.Denot). x.filled) c.self.view_is in
    access_is s c.args.i c.requires.inside c.requires.fitted c.args.row.now c.access_below.result c.requires.row (λ a small. subst (λ (limit : ℕ). call_hits c.access_below.result a ≡ g.R.RowRules.rules.touched c.args.row.now (moment g.W.Partial.sets (oldest limit now.known.log) now.spans c.args.i) (contents now.exe).end a) filled (c.access_below.ensures a small))
