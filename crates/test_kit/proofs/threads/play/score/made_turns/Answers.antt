use Rattle.std.proofs.Common.{◌≡◌, arith, ap, ◌∙◌}
use Rattle.test_kit.specs.Threads.Turns.Turns.{all_rows}
use Rattle.test_kit.specs.Threads.Play.Drawn.{drawn_turns, last_end}
use Rattle.test_kit.proofs.ThreadsLemmas.PlayLemmas.Drawing.{turns_few, turns_soon}
use Rattle.test_kit.proofs.threads.play.score.made_turns.Goals as goal

pub next_turn-turn-requires-clause-few : goal.next_turn-turn-requires-clause-few
next_turn-turn-requires-clause-few c =
    let is : all_rows c.as_slice.result.now ≡ all_rows (drawn_turns c.args.sizes c.args.seed c.loop-number.number) = ap all_rows c.as_slice.ensures.value ∙ ap all_rows c.loop-number.invariant in
    omega (arith, is, turns_few c.args.sizes c.args.seed c.loop-number.number, c.loop-number-test.true, c.loop-number.auto.number-end, c.requires.turns)

pub next_turn-turn-requires-clause-soon : goal.next_turn-turn-requires-clause-soon
next_turn-turn-requires-clause-soon c =
    let is : last_end c.as_slice.result.now ≡ last_end (drawn_turns c.args.sizes c.args.seed c.loop-number.number) = ap last_end c.as_slice.ensures.value ∙ ap last_end c.loop-number.invariant in
    omega (arith, is, (turns_soon c.args.sizes c.args.seed c.loop-number.number).0, c.loop-number-test.true, c.loop-number.auto.number-end, c.requires.turns)
