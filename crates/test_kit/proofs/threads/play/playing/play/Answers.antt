use Rattle.std.proofs.Common.{None, refl, sym, subst}
use Rattle.test_kit.specs.declared.threads.play.playing.Played.{Played}
use Rattle.test_kit.specs.Threads.Play.Code.{AreWords}
use Rattle.test_kit.proofs.ThreadsLemmas.PlayLemmas.Finishing.{has, row_is, run_sound, executed}
use Rattle.test_kit.proofs.threads.play.playing.play.Goals as goal

pub returns : goal.returns
returns c =
    let words : AreWords c.args.code.now c.args.turns.now c.as_slice.result.now = subst (λ ws. AreWords c.args.code.now c.args.turns.now ws) (sym c.as_slice.ensures.value) c.in_ok-words.ensures in
    let ran = c.in_ok-machine.ensures c.args.code.now c.args.turns.now c.requires words in
    let played : Played = record { run = record { threads = c.in_ok-threads.threads; untraced = None; skipped = 0 }; registers = c.registers_of.result; bytes = c.in_ok-bytes.bytes } in
    record {
      four = c.in_ok-threads.ensures.size;
      played_turns = has c.args.code.now c.args.turns.now played c.requires c.in_ok-threads.ensures None;
      rows = row_is c.args.code.now c.args.turns.now played c.requires c.in_ok-threads.ensures None;
      told = refl;
      none_skipped = refl;
      sound = run_sound c.args.code.now c.args.turns.now played c.requires c.in_ok-threads.ensures None;
      left = (c.registers_of.ensures.size, c.in_ok-bytes.ensures.size);
      execution = λ untraced. executed c.args.code.now c.args.turns.now played c.requires c.in_ok-threads.ensures untraced c.in_ok-machine.machine ran.0 c.registers_of.ensures.value c.in_ok-bytes.ensures.bytes c.args.registers ran.1;
    }
