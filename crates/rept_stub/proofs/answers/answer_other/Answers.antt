use Rattle.std.proofs.Common.{◌≡◌, subst}
use Rattle.rept_remote.specs.declared.request.request.GdbRequest.{GdbRequest}
use Rattle.rept_stub.specs.Answers.{changed, spots_after}
use Rattle.rept_stub.proofs.Stands.{selects}
use Rattle.rept_stub.proofs.answers.answer_other.Goals as goal

pub returns-clause-stand : goal.returns-clause-stand
returns-clause-stand g c =
    let s = g.F.Findings.shown c.args.findings.now in
    let old = c.args.stand.now in
    subst (λ (r : GdbRequest). c.select.new.stand ≡ changed s old r (spots_after old.spots r)) c.parse-request.ensures
    (selects s old c.select.new.stand c.change.new.spots c.parse-request.result c.in_ok-is_changed.is_changed c.in_ok-is_changed.ensures.ok c.if-is_changed.false c.select.ensures.stand)
