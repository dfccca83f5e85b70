use Rattle.std.proofs.Common.{◌≡◌, ℕ, arith, [], ◌∷◌, length, ap, length-append}
use Rattle.test_kit.specs.Threads.Turns.Turns.{all_rows}
use Rattle.test_kit.proofs.ThreadsLemmas.TurnsLemmas.Places.{turn_there, counted}
use Rattle.test_kit.proofs.ThreadsLemmas.PlayLemmas.Turning.{thread_below}
use Rattle.test_kit.proofs.ThreadsLemmas.PlayLemmas.Listing.{words_more}
use Rattle.test_kit.proofs.threads.play.machine.program.Goals as goal

pub thread_at-thread-requires : goal.thread_at-thread-requires
thread_at-thread-requires c = turn_there c.args.turns.now c.loop-k.k (omega (arith, c.loop-k-test.true, c.loop-k.auto.k-end, c.all_rows-k-end.ensures))

pub word_in-requires-clause-thread : goal.word_in-requires-clause-thread
word_in-requires-clause-thread c =
    let here = turn_there c.args.turns.now c.loop-k.k (omega (arith, c.loop-k-test.true, c.loop-k.auto.k-end, c.all_rows-k-end.ensures)) in
    let few = thread_below c.args.turns.now c.loop-k.k here.0 c.requires.threads here.1 in
    let is = c.thread_at-thread.ensures here.0 here.1 in
    omega arith

pub loop-k-preserved : goal.loop-k-preserved
loop-k-preserved c =
    let i = c.loop-k.invariant in
    record {
      size = omega (arith, i.size, ap (length {A = ℕ}) c.in_ok-push.ensures.items, length-append c.loop-k.words.items (c.word_in.result ∷ []));
      spell = words_more c.args.code.now c.args.turns.now c.loop-k.words.items c.push.new.self.items c.loop-k.k c.word_in.result c.thread_at-thread.result c.steps_before-slot.result c.in_ok-push.ensures.items i.size i.spell c.word_in.ensures c.thread_at-thread.ensures c.steps_before-slot.ensures.value;
    }

pub returns : goal.returns
returns c =
    let i = c.loop-k.invariant in
    let size : length c.loop-k.words.items ≡ all_rows c.args.turns.now = omega (arith, i.size, c.loop-k-test.false, c.loop-k.auto.k-end, c.all_rows-k-end.ensures) in
    record {
      size = size;
      spell = λ k turn at. i.spell k turn (let inside = (counted c.args.turns.now k turn at).inside in let is = i.size in omega arith) at;
    }
