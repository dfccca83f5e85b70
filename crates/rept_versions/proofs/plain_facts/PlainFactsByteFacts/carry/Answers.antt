use Rattle.std.proofs.Common.{◌≡◌, Ok, Some, false, refl, sym, subst, ◌∙◌}
use Rattle.rept_versions.specs.declared.facts.Learnt.TheVariants.{New}
use Rattle.rept_versions.specs.Facts.{change, CarriesOr, Learns}
use Rattle.rept_versions.specs.Listed.{store, fact_in}
use Rattle.rept_versions.proofs.Steps.{some_same, within, gone_new, gone_fail, failed}
use Rattle.rept_versions.proofs.plain_facts.PlainFactsByteFacts.carry.Goals as goal

pub returns-in_err-learn : goal.returns-in_err-learn
returns-in_err-learn c v known =
    let is : fact_in c.args.self.now.entries c.args.from c.args.a ≡ Some c.in-Some.value = sym c.known.ensures ∙ c.in-Some.is in
    subst (λ w. CarriesOr (change false (store c.args.self.now) (store c.learn.new.self)) (record { address = c.args.a; from = c.args.from; to = c.args.to; value = w }) c.from_residual.result) (some_same v c.in-Some.value (sym known ∙ is))
    (failed (store c.args.self.now) (store c.learn.new.self) c.args.a c.args.from c.args.to c.in-Some.value c.from_residual.result c.from_residual.ensures.0
    (gone_fail (store c.args.self.now) (store c.loop-point.self) (store c.learn.new.self) c.args.a c.args.from c.args.to c.loop-point.point c.toward-next.result c.in-Some.value c.loop-point.invariant.way c.toward-next.ensures c.loop-point.more c.loop-point.invariant.gone c.in_err-learn.field-0.0 refl c.in_err-learn.ensures))

pub loop-point-preserved : goal.loop-point-preserved
loop-point-preserved c =
    let learns : Learns (change false (store c.loop-point.self) (store c.learn.new.self)) (record { point = c.toward-next.result; address = c.args.a; value = c.in-Some.value }) (Ok New) = subst (λ r. Learns (change false (store c.loop-point.self) (store c.learn.new.self)) (record { point = c.toward-next.result; address = c.args.a; value = c.in-Some.value }) (Ok r)) c.in-New.is c.in_ok-learn.ensures in
    record {
      way = within c.args.from c.args.to c.loop-point.point c.toward-next.result c.loop-point.invariant.way c.toward-next.ensures;
      gone = gone_new (store c.args.self.now) (store c.loop-point.self) (store c.learn.new.self) c.args.a c.args.from c.args.to c.loop-point.point c.toward-next.result c.in-Some.value c.loop-point.invariant.way c.toward-next.ensures c.loop-point.more c.loop-point.invariant.gone learns;
    }
