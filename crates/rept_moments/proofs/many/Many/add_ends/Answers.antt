use Rattle.std.proofs.Common.{◌≡◌, ℕ, [], length, subst, arith}
use Rattle.rept_moments.specs.Nexts.{ends_to, AddsOthers, Member}
use Rattle.rept_moments.proofs.Adding.{adds_none, ends_more}
use Rattle.rept_moments.proofs.many.Many.add_ends.Goals as goal

pub loop-thread-init : goal.loop-thread-init
loop-thread-init c = adds_none c.args.own (Member []) c.args.list.now.items (λ v h. h)

pub loop-thread-preserved : goal.loop-thread-preserved
loop-thread-preserved c = ends_more c.args.self.now c.args.own c.args.list.now.items c.loop-thread.list.items c.add_last.new.list.items c.loop-thread.thread c.loop-thread.invariant c.in_ok-add_last.ensures

pub returns : goal.returns
returns c =
    let last : c.loop-thread.thread ≡ length c.args.self.now.threads = omega (arith, c.loop-thread-test.false, c.loop-thread.auto.thread-end, c.threads-thread-end.ensures) in
    subst (λ (k : ℕ). AddsOthers c.args.own (Member (ends_to c.args.self.now k)) c.args.list.now.items c.loop-thread.list.items) last c.loop-thread.invariant
