use Rattle.rept_timeline.specs.Paths.{timeline, lawful}
use Rattle.std.proofs.Common.{◌≡◌, ◌≤◌, ◌<◌, ◌^◌, sym, subst, arith, false}
use Rattle.rept_reason.specs.declared.fact.Cell.TheVariants.{Byte}
use Rattle.rept_log.specs.Known.{known_of}
use Rattle.rept_facts.specs.State.{Whole, state_of}
use Rattle.rept_report.specs.Why.{fact_of}
use Rattle.rept_facts.specs.Inferring.{IsTracked, IsFollowing, IsBrought, HasPlace}
use Rattle.rept_facts.proofs.Learning.{told_byte}
use Rattle.rept_facts.proofs.facts.CrashFacts.tell_byte.Goals as goal

pub invariant_of-self : goal.invariant_of-self
invariant_of-self g c =
    let moment = subst (λ (x : Whole g.row.B.Denot g.row.W.Denot g.row.R.Denot). c.args.point ≤ (timeline x.paths).moments.end) (sym c.self.view_is) c.requires.point in
    let open_ = subst (λ (x : Whole g.row.B.Denot g.row.W.Denot g.row.R.Denot). x.complete ≡ false) (sym c.self.view_is) c.requires.open in
    let tracked = subst (λ (x : Whole g.row.B.Denot g.row.W.Denot g.row.R.Denot). IsTracked c.args.a (state_of g.W.Partial.sets g.W.Transfer.moves g.R.RowRules.rules g.B.ByteFacts.store x)) (sym c.self.view_is) c.requires.tracked in
    let follows = subst (λ (x : Whole g.row.B.Denot g.row.W.Denot g.row.R.Denot). IsFollowing (state_of g.W.Partial.sets g.W.Transfer.moves g.R.RowRules.rules g.B.ByteFacts.store x) (fact_of c.args.point (Byte c.args.a) c.args.value)) (sym c.self.view_is) c.requires.follows in
    let brought = subst (λ (x : Whole g.row.B.Denot g.row.W.Denot g.row.R.Denot). c.args.keep ≡ false → IsBrought (state_of g.W.Partial.sets g.W.Transfer.moves g.R.RowRules.rules g.B.ByteFacts.store x) (fact_of c.args.point (Byte c.args.a) c.args.value)) (sym c.self.view_is) c.requires.brought in
    let place = subst (λ (x : Whole g.row.B.Denot g.row.W.Denot g.row.R.Denot). HasPlace c.args.keep c.args.point c.args.a (state_of g.W.Partial.sets g.W.Transfer.moves g.R.RowRules.rules g.B.ByteFacts.store x)) (sym c.self.view_is) c.requires.place in
    let small : c.args.a < 2 ^ 32 = omega arith in
    (told_byte _ (record { sets = g.met.W.Partial.lawful; moves = g.met.W.Transfer.covers; rules = g.met.R.RowRules.lawful; legs = (lawful c.self.inside.paths.now).legs; moments = (lawful c.self.inside.paths.now).moments }) c.self.invariant g.B.ByteFacts.JOINS c.args.point c.args.a c.args.value moment small tracked open_ follows c.args.keep brought place (known_of g.B.ByteFacts.store c.learn_byte-answer.new.self) c.len-len.ensures.once c.learn_byte-answer.result c.learn_byte-answer.ensures).0

pub returns : goal.returns
returns g c =
    let moment = subst (λ (x : Whole g.row.B.Denot g.row.W.Denot g.row.R.Denot). c.args.point ≤ (timeline x.paths).moments.end) (sym c.self.view_is) c.requires.point in
    let open_ = subst (λ (x : Whole g.row.B.Denot g.row.W.Denot g.row.R.Denot). x.complete ≡ false) (sym c.self.view_is) c.requires.open in
    let tracked = subst (λ (x : Whole g.row.B.Denot g.row.W.Denot g.row.R.Denot). IsTracked c.args.a (state_of g.W.Partial.sets g.W.Transfer.moves g.R.RowRules.rules g.B.ByteFacts.store x)) (sym c.self.view_is) c.requires.tracked in
    let follows = subst (λ (x : Whole g.row.B.Denot g.row.W.Denot g.row.R.Denot). IsFollowing (state_of g.W.Partial.sets g.W.Transfer.moves g.R.RowRules.rules g.B.ByteFacts.store x) (fact_of c.args.point (Byte c.args.a) c.args.value)) (sym c.self.view_is) c.requires.follows in
    let brought = subst (λ (x : Whole g.row.B.Denot g.row.W.Denot g.row.R.Denot). c.args.keep ≡ false → IsBrought (state_of g.W.Partial.sets g.W.Transfer.moves g.R.RowRules.rules g.B.ByteFacts.store x) (fact_of c.args.point (Byte c.args.a) c.args.value)) (sym c.self.view_is) c.requires.brought in
    let place = subst (λ (x : Whole g.row.B.Denot g.row.W.Denot g.row.R.Denot). HasPlace c.args.keep c.args.point c.args.a (state_of g.W.Partial.sets g.W.Transfer.moves g.R.RowRules.rules g.B.ByteFacts.store x)) (sym c.self.view_is) c.requires.place in
    let small : c.args.a < 2 ^ 32 = omega arith in
    rw (← c.self.view_is) (told_byte _ (record { sets = g.met.W.Partial.lawful; moves = g.met.W.Transfer.covers; rules = g.met.R.RowRules.lawful; legs = (lawful c.self.inside.paths.now).legs; moments = (lawful c.self.inside.paths.now).moments }) c.self.invariant g.B.ByteFacts.JOINS c.args.point c.args.a c.args.value moment small tracked open_ follows c.args.keep brought place (known_of g.B.ByteFacts.store c.learn_byte-answer.new.self) c.len-len.ensures.once c.learn_byte-answer.result c.learn_byte-answer.ensures).1
