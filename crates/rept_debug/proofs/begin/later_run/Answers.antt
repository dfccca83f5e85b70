use Rattle.std.proofs.Common.{◌+◌, ◌-◌, ◌/◌, Option, IfSome, arith, inl, subst}
use Rattle.std.specs.Prelude.{MatchOption}
use Rattle.rept_found.specs.Crash.{crash_of}
use Rattle.rept_steps.specs.declared.run.Run.{Run}
use Rattle.rept_opening.specs.TraceRun.{FitsDump, IsRunOf}
use Rattle.rept_debug.specs.Begin.{HasNoStart}
use Rattle.rept_debug.proofs.Sought.{begun_after, fault_to_the_end, has_no_start, never_begun, next_to, refused_at}
use Rattle.rept_debug.proofs.begin.later_run.Goals as goal

pub loop-high-preserved-in-Ok : goal.loop-high-preserved-in-Ok
loop-high-preserved-in-Ok c =
    let i = c.loop-high.invariant in
    let order = i.order in
    let high = i.high in
    let far = c.loop-high-test.true in
    record { order = omega arith; high = omega arith; inside = λ some. (let below = i.inside some in omega arith); refused = i.refused; sought = λ notes are. (c.in-Ok.ensures.read notes are).run; fits = c.in-Ok.ensures.fits }

pub loop-high-preserved-in-NoStart : goal.loop-high-preserved-in-NoStart
loop-high-preserved-in-NoStart c =
    let i = c.loop-high.invariant in
    let order = i.order in
    let high = i.high in
    let far = c.loop-high-test.true in
    let middle = c.loop-high.low + (c.loop-high.high - c.loop-high.low) / 2 in
    record {
      order = omega arith;
      high = omega arith;
      inside = λ some. (let below = i.inside some in omega arith);
      refused = i.refused;
      sought = λ notes are. has_no_start (crash_of c.args.dump.now notes) c.args.trace.now middle c.in-Err.other c.in-NoStart.ensures (c.in-Err.ensures.read notes are);
      fits = tt;
    }

pub loop-high-preserved : goal.loop-high-preserved
loop-high-preserved c =
    let i = c.loop-high.invariant in
    let order = i.order in
    let far = c.loop-high-test.true in
    let middle = c.loop-high.low + (c.loop-high.high - c.loop-high.low) / 2 in
    record {
      order = omega arith;
      high = i.high;
      inside = i.inside;
      refused = λ notes are. refused_at (crash_of c.args.dump.now notes) c.args.trace.now middle c.in-Err.other c.in-Other.ensures (c.in-Err.ensures.read notes are);
      sought = i.sought;
      fits = i.fits;
    }

pub returns-in-OutOfMemory-clause-begun : goal.returns-in-OutOfMemory-clause-begun
returns-in-OutOfMemory-clause-begun c = λ notes are. never_begun (crash_of c.args.dump.now notes) c.args.trace.now 0 c.in-Err.other (inl c.in-OutOfMemory.ensures)

pub returns-in-Some-clause-begun : goal.returns-in-Some-clause-begun
returns-in-Some-clause-begun c = λ notes are.
    let i = c.loop-high.invariant in
    let sought = subst (λ (o : Option Run). MatchOption o (HasNoStart (crash_of c.args.dump.now notes) c.args.trace.now c.loop-high.high) (IsRunOf (crash_of c.args.dump.now notes) c.args.trace.now c.loop-high.high)) c.in-Some.is (i.sought notes are) in
    begun_after (crash_of c.args.dump.now notes) c.args.trace.now 0 c.loop-high.high c.in-Some.run' sought
    (next_to (crash_of c.args.dump.now notes) c.args.trace.now c.loop-high.low c.loop-high.high c.loop-high.fault (c.requires.long notes are) (i.refused notes are) i.order c.loop-high-test.false i.inside)

pub returns-in-Some-clause-fits : goal.returns-in-Some-clause-fits
returns-in-Some-clause-fits c = subst (λ (o : Option Run). IfSome o (FitsDump c.args.dump.now)) c.in-Some.is c.loop-high.invariant.fits

pub returns-in-None-clause-begun : goal.returns-in-None-clause-begun
returns-in-None-clause-begun c = λ notes are.
    let i = c.loop-high.invariant in
    never_begun (crash_of c.args.dump.now notes) c.args.trace.now 0 _
    (fault_to_the_end (crash_of c.args.dump.now notes) c.args.trace.now c.loop-high.low c.loop-high.high c.loop-high.fault (c.requires.long notes are) (i.refused notes are) i.order c.loop-high-test.false i.inside
    (subst (λ (o : Option Run). MatchOption o (HasNoStart (crash_of c.args.dump.now notes) c.args.trace.now c.loop-high.high) (IsRunOf (crash_of c.args.dump.now notes) c.args.trace.now c.loop-high.high)) c.in-None.is (i.sought notes are)))
