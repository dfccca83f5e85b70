use Rattle.std.proofs.Common.{[], ◌∷◌, length, arith, ap, length-append}
use Rattle.rept_steps.specs.declared.threads.ThreadRows.{ThreadRows}
use Rattle.test_kit.proofs.ThreadsLemmas.PlayLemmas.Listing.{threads_more}
use Rattle.test_kit.proofs.threads.play.threads.threads_of.Goals as goal

pub loop-thread-preserved : goal.loop-thread-preserved
loop-thread-preserved c =
    let i = c.loop-thread.invariant in
    record {
      size = omega (arith, i.size, ap (length {A = ThreadRows}) c.in_ok-push.ensures.ok, length-append c.loop-thread.threads (c.in_ok-thread_of.field-0 ∷ []));
      each = threads_more c.args.code.now c.args.turns.now c.loop-thread.threads c.push.new.self c.loop-thread.thread c.in_ok-thread_of.field-0 c.in_ok-push.ensures.ok i.size i.each c.in_ok-thread_of.ensures;
    }
