use Rattle.rept_timeline.specs.Paths.{timeline}
use Rattle.std.proofs.Common.{◌≡◌, ◌≤◌, ◌<◌, ◌^◌, sym, subst, arith, false}
use Rattle.rept_reason.specs.declared.fact.Cell.TheVariants.{Register}
use Rattle.rept_log.specs.Known.{known_of}
use Rattle.rept_facts.specs.State.{Whole, state_of}
use Rattle.rept_report.specs.Why.{fact_of}
use Rattle.rept_facts.specs.Inferring.{IsFollowing}
use Rattle.rept_facts.proofs.Learning.{told_register}
use Rattle.rept_facts.proofs.facts.CrashFacts.tell.Goals as goal

pub invariant_of-self : goal.invariant_of-self
invariant_of-self g c =
    let early = subst (λ (x : Whole g.row.B.Denot g.row.W.Denot g.row.R.Denot). c.args.point ≤ (timeline x.paths).legs.count) (sym c.self.view_is) c.requires.point in
    let open_ = subst (λ (x : Whole g.row.B.Denot g.row.W.Denot g.row.R.Denot). x.complete ≡ false) (sym c.self.view_is) c.requires.open in
    let follows = subst (λ (x : Whole g.row.B.Denot g.row.W.Denot g.row.R.Denot). c.args.value < 2 ^ 32 → IsFollowing (state_of g.W.Partial.sets g.W.Transfer.moves g.R.RowRules.rules g.B.ByteFacts.store x) (fact_of c.args.point (Register c.args.r) c.args.value)) (sym c.self.view_is) c.requires.follows in
    let in_file : c.args.r < 32 = let n = c.number-number.ensures.value in let h = c.number-number.ensures.in_file in omega (arith, n, h) in
    let small : c.args.value < 2 ^ 32 = omega arith in
    (told_register _ c.self.invariant c.args.point c.args.r c.args.value early c.requires.named in_file small open_ (follows small) (known_of g.B.ByteFacts.store c.learn_register-answer.new.self) c.len-len.ensures.once c.learn_register-answer.result c.learn_register-answer.ensures).0

pub returns : goal.returns
returns g c =
    let early = subst (λ (x : Whole g.row.B.Denot g.row.W.Denot g.row.R.Denot). c.args.point ≤ (timeline x.paths).legs.count) (sym c.self.view_is) c.requires.point in
    let open_ = subst (λ (x : Whole g.row.B.Denot g.row.W.Denot g.row.R.Denot). x.complete ≡ false) (sym c.self.view_is) c.requires.open in
    let follows = subst (λ (x : Whole g.row.B.Denot g.row.W.Denot g.row.R.Denot). c.args.value < 2 ^ 32 → IsFollowing (state_of g.W.Partial.sets g.W.Transfer.moves g.R.RowRules.rules g.B.ByteFacts.store x) (fact_of c.args.point (Register c.args.r) c.args.value)) (sym c.self.view_is) c.requires.follows in
    let in_file : c.args.r < 32 = let n = c.number-number.ensures.value in let h = c.number-number.ensures.in_file in omega (arith, n, h) in
    let small : c.args.value < 2 ^ 32 = omega arith in
    rw (← c.self.view_is) (told_register _ c.self.invariant c.args.point c.args.r c.args.value early c.requires.named in_file small open_ (follows small) (known_of g.B.ByteFacts.store c.learn_register-answer.new.self) c.len-len.ensures.once c.learn_register-answer.result c.learn_register-answer.ensures).1
