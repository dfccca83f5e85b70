use Rattle.std.proofs.Common.{false, arith}
use Rattle.rept_reason.specs.Facts.{told}
use Rattle.rept_report.specs.Log.{oldest}
use Rattle.rept_report.specs.Conflicts.{IsWrongTurn}
use Rattle.rept_span.proofs.Refilling.{first_is, none_is}
use Rattle.rept_facts.specs.State.{setting_of}
use Rattle.rept_facts.proofs.Since.{right_more, right_all}
use Rattle.rept_facts.proofs.facts.CrashFacts.are_right.Goals as goal

pub loop-point-init : goal.loop-point-init
loop-point-init g c = λ i less. absurd (omega (arith, less))

pub loop-point-preserved : goal.loop-point-preserved
loop-point-preserved g c =
    right_more c.args.points.now (λ i. IsWrongTurn (setting_of g.W.Partial.sets g.W.Transfer.moves g.R.RowRules.rules c.args.self.now) (told (oldest c.args.limit c.args.self.now.known.log)) i → ⊥) c.loop-point.from c.in-Some.point c.loop-point.invariant (first_is c.args.points.now c.loop-point.from c.next.result c.in-Some.point c.in-Some.is c.next.ensures.next) (c.is_right-right.ensures c.if-not-right.false)

pub loop-point-smaller : goal.loop-point-smaller
loop-point-smaller g c =
    let next = first_is c.args.points.now c.loop-point.from c.next.result c.in-Some.point c.in-Some.is c.next.ensures.next in
    let inside = next.inside in
    let later = next.later in
    omega (arith, inside, later)

pub returns-in_default : goal.returns-in_default
returns-in_default g c =
    λ _. right_all c.args.points.now (λ i. IsWrongTurn (setting_of g.W.Partial.sets g.W.Transfer.moves g.R.RowRules.rules c.args.self.now) (told (oldest c.args.limit c.args.self.now.known.log)) i → ⊥) c.loop-point.from c.loop-point.invariant (none_is c.args.points.now c.loop-point.from c.next.result c.in_default.not-Some c.next.ensures.next)
