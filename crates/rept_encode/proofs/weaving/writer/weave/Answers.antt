use Rattle.std.proofs.Common.{◌≡◌, List, length, take, arith, subst}
use Rattle.std.proofs.Math.Seq.{take-length}
use Rattle.rept_encode.specs.declared.weaving.stretch.HartStretch.{HartStretch}
use Rattle.rept_encode.specs.Weaving.Woven.{IsWoven}
use Rattle.rept_encode.proofs.WeavingLemmas.Weaving.{front_on, front_woven}
use Rattle.rept_encode.proofs.weaving.writer.weave.Goals as goal

pub loop-i-preserved : goal.loop-i-preserved
loop-i-preserved c = front_on c.args.halves (length c.all-all.result.now) c.all-all.result.now c.loop-i.i c.index-all-i.result c.loop-i.trace c.push_hart.new.trace (omega arith) c.index-all-i.is c.loop-i.invariant c.in_default.ensures.ok

pub returns-clause-woven : goal.returns-clause-woven
returns-clause-woven c =
    let end : c.loop-i.i ≡ length c.all-all.result.now = omega arith in
    let all : take c.loop-i.i c.all-all.result.now ≡ c.all-all.result.now = rw end (take-length c.all-all.result.now) in
    subst (λ (hs : List (List HartStretch)). IsWoven c.args.halves hs c.loop-i.trace) c.all-all.ensures (front_woven c.args.halves c.all-all.result.now (take c.loop-i.i c.all-all.result.now) c.loop-i.trace all (omega arith) (omega arith) c.loop-i.invariant)
