use Rattle.std.proofs.Common.{◌≡◌, ◌+◌, ℕ, List, sym, subst, arith}
use Rattle.rept_moments.specs.Several.{seen_of}
use Rattle.rept_report.specs.declared.paths.Strip.{Strip}
use Rattle.rept_extents.specs.Timelines.{as_timeline}
use Rattle.rept_timeline.specs.Strips.{AreStripsBelow}
use Rattle.rept_timeline.proofs.Stripping.{no_strips, strips_more}
use Rattle.rept_timeline.proofs.strips.Strips.new.Goals as goal

pub loop-number-init : goal.loop-number-init
loop-number-init c = record { strips = rw c.new-list.ensures.items (no_strips (as_timeline (seen_of c.args.many.now))); strip = c.strip_from-strip.ensures }

pub loop-number-preserved : goal.loop-number-preserved
loop-number-preserved c =
    let T = as_timeline (seen_of c.args.many.now) in
    record {
      strips = subst (λ (xs : List Strip). AreStripsBelow T (c.loop-number.number + 1) xs) (sym c.in_ok-push.ensures.items) (strips_more T c.loop-number.number c.loop-number.strip c.loop-number.list.items c.loop-number.invariant.strips c.loop-number.invariant.strip);
      strip = c.strip_after-strip.ensures;
    }

pub returns : goal.returns
returns c =
    let T = as_timeline (seen_of c.args.many.now) in
    let last : c.loop-number.number ≡ T.moments.end = omega (arith, c.loop-number-test.false, c.loop-number.auto.number-end, c.end-number-end.ensures) in
    subst (λ (k : ℕ). AreStripsBelow T (k + 1) c.push-2.new.self.items) last (subst (λ (xs : List Strip). AreStripsBelow T (c.loop-number.number + 1) xs) (sym c.in_ok-push-2.ensures.items) (strips_more T c.loop-number.number c.loop-number.strip c.loop-number.list.items c.loop-number.invariant.strips c.loop-number.invariant.strip))
