use Rattle.rept_timeline.specs.Paths.{timeline, lawful}
use Rattle.std.proofs.Common.{◌≡◌, ◌≤◌, ◌<◌, ◌^◌, false, sym, subst, refl, arith}
use Rattle.rept_reason.specs.declared.fact.Cell.TheVariants.{Byte}
use Rattle.rept_log.specs.Known.{known_of}
use Rattle.rept_facts.specs.State.{Whole, state_of}
use Rattle.rept_facts.specs.Inferring.{Knows, IsLed}
use Rattle.rept_facts.proofs.Spreading.{sent}
use Rattle.rept_facts.proofs.facts.CrashFacts.send.Goals as goal

pub invariant_of-self : goal.invariant_of-self
invariant_of-self g c =
    let open_ = subst (λ (x : Whole g.row.B.Denot g.row.W.Denot g.row.R.Denot). x.complete ≡ false) (sym c.self.view_is) c.requires.open in
    let from = subst (λ (x : Whole g.row.B.Denot g.row.W.Denot g.row.R.Denot). c.args.from ≤ (timeline x.paths).moments.end) (sym c.self.view_is) c.requires.from in
    let to = subst (λ (x : Whole g.row.B.Denot g.row.W.Denot g.row.R.Denot). c.args.to ≤ (timeline x.paths).moments.end) (sym c.self.view_is) c.requires.to in
    let known = subst (λ (x : Whole g.row.B.Denot g.row.W.Denot g.row.R.Denot). Knows c.args.from (Byte c.args.a) c.args.value (state_of g.W.Partial.sets g.W.Transfer.moves g.R.RowRules.rules g.B.ByteFacts.store x)) (sym c.self.view_is) c.requires.known in
    let led = subst (λ (x : Whole g.row.B.Denot g.row.W.Denot g.row.R.Denot). IsLed (record { address = c.args.a; from = c.args.from; to = c.args.to; value = c.args.value }) (state_of g.W.Partial.sets g.W.Transfer.moves g.R.RowRules.rules g.B.ByteFacts.store x)) (sym c.self.view_is) c.requires.led in
    let small : c.args.a < 2 ^ 32 = omega arith in
    (sent _ (record { sets = g.met.W.Partial.lawful; moves = g.met.W.Transfer.covers; rules = g.met.R.RowRules.lawful; legs = (lawful c.self.inside.paths.now).legs; moments = (lawful c.self.inside.paths.now).moments }) c.self.invariant open_ c.args.a c.args.from c.args.to c.args.value small from to known led (known_of g.B.ByteFacts.store c.carry.new.self) c.carry.ensures.log c.carry.result (c.carry.ensures.carries c.args.value known)).0

pub returns : goal.returns
returns g c =
    let open_ = subst (λ (x : Whole g.row.B.Denot g.row.W.Denot g.row.R.Denot). x.complete ≡ false) (sym c.self.view_is) c.requires.open in
    let from = subst (λ (x : Whole g.row.B.Denot g.row.W.Denot g.row.R.Denot). c.args.from ≤ (timeline x.paths).moments.end) (sym c.self.view_is) c.requires.from in
    let to = subst (λ (x : Whole g.row.B.Denot g.row.W.Denot g.row.R.Denot). c.args.to ≤ (timeline x.paths).moments.end) (sym c.self.view_is) c.requires.to in
    let known = subst (λ (x : Whole g.row.B.Denot g.row.W.Denot g.row.R.Denot). Knows c.args.from (Byte c.args.a) c.args.value (state_of g.W.Partial.sets g.W.Transfer.moves g.R.RowRules.rules g.B.ByteFacts.store x)) (sym c.self.view_is) c.requires.known in
    let led = subst (λ (x : Whole g.row.B.Denot g.row.W.Denot g.row.R.Denot). IsLed (record { address = c.args.a; from = c.args.from; to = c.args.to; value = c.args.value }) (state_of g.W.Partial.sets g.W.Transfer.moves g.R.RowRules.rules g.B.ByteFacts.store x)) (sym c.self.view_is) c.requires.led in
    let small : c.args.a < 2 ^ 32 = omega arith in
    rw (← c.self.view_is) (sent _ (record { sets = g.met.W.Partial.lawful; moves = g.met.W.Transfer.covers; rules = g.met.R.RowRules.lawful; legs = (lawful c.self.inside.paths.now).legs; moments = (lawful c.self.inside.paths.now).moments }) c.self.invariant open_ c.args.a c.args.from c.args.to c.args.value small from to known led (known_of g.B.ByteFacts.store c.carry.new.self) c.carry.ensures.log c.carry.result (c.carry.ensures.carries c.args.value known)).1

pub carry-requires : goal.carry-requires
carry-requires g c =
    let known = subst (λ (x : Whole g.row.B.Denot g.row.W.Denot g.row.R.Denot). Knows c.args.from (Byte c.args.a) c.args.value (state_of g.W.Partial.sets g.W.Transfer.moves g.R.RowRules.rules g.B.ByteFacts.store x)) (sym c.self.view_is) c.requires.known in
    rw known refl
