use Rattle.rept_timeline.specs.Paths.{lawful}
use Rattle.std.proofs.Common.{◌≡◌, ◌<◌, ◌^◌, sym, subst, arith, false}
use Rattle.rept_log.specs.Known.{known_of}
use Rattle.rept_facts.specs.State.{Whole, state_of}
use Rattle.rept_facts.specs.Inferring.{IsRowAddress}
use Rattle.rept_facts.proofs.Learning.{tracked_byte}
use Rattle.rept_facts.proofs.facts.CrashFacts.track.Goals as goal

pub invariant_of-self : goal.invariant_of-self
invariant_of-self g c =
    let open_ = subst (λ (x : Whole g.row.B.Denot g.row.W.Denot g.row.R.Denot). x.complete ≡ false) (sym c.self.view_is) c.requires.open in
    let row = subst (λ (x : Whole g.row.B.Denot g.row.W.Denot g.row.R.Denot). IsRowAddress c.args.a (state_of g.W.Partial.sets g.W.Transfer.moves g.R.RowRules.rules g.B.ByteFacts.store x)) (sym c.self.view_is) c.requires.row in
    let small : c.args.a < 2 ^ 32 = omega arith in
    (tracked_byte _ (lawful c.self.inside.paths.now).legs c.self.invariant c.args.a small open_ row (known_of g.B.ByteFacts.store c.track.new.self) c.track.result c.track.ensures).0

pub returns : goal.returns
returns g c =
    let open_ = subst (λ (x : Whole g.row.B.Denot g.row.W.Denot g.row.R.Denot). x.complete ≡ false) (sym c.self.view_is) c.requires.open in
    let row = subst (λ (x : Whole g.row.B.Denot g.row.W.Denot g.row.R.Denot). IsRowAddress c.args.a (state_of g.W.Partial.sets g.W.Transfer.moves g.R.RowRules.rules g.B.ByteFacts.store x)) (sym c.self.view_is) c.requires.row in
    let small : c.args.a < 2 ^ 32 = omega arith in
    rw (← c.self.view_is) (tracked_byte _ (lawful c.self.inside.paths.now).legs c.self.invariant c.args.a small open_ row (known_of g.B.ByteFacts.store c.track.new.self) c.track.result c.track.ensures).1
