use Rattle.std.proofs.Common.{◌<◌, ◌+◌, ◌*◌, length, arith}
use Rattle.std.proofs.lemmas.Grind.{common_steps}
use Rattle.rept_elf.specs.Header.{word_at}
use Rattle.rept_dump.proofs.SearchLemmas.{one_more_read}
use Rattle.rept_dump.proofs.status.read_status.Goals as goal

pub loop-i-preserved : goal.loop-i-preserved
loop-i-preserved c =
    let inside : c.loop-i.i < length c.loop-i.regs = omega (arith, c.loop-i.invariant.all) in
    record {
      in_range = omega arith;
      all = grind (arith, common_steps);
      zero = grind (arith, common_steps);
      read = one_more_read (λ k. word_at c.args.desc.now (72 + 4 * k)) c.loop-i.regs c.loop-i.i c.word.result inside c.word.ensures c.loop-i.invariant.read;
    }
