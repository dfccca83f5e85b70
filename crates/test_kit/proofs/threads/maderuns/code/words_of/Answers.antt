use Rattle.std.proofs.Common.{ℕ, ◌<◌, ◌^◌, ◌+◌, ◌*◌, ◌/◌, ◌%◌, [], ◌∷◌, get_or, length, arith, ap, subst, length-append}
use Rattle.rept_isa.specs.Words.{IsWord}
use Rattle.test_kit.specs.Threads.Play.Code.{instr_in}
use Rattle.test_kit.proofs.ThreadsLemmas.PlayLemmas.Drawing.{all_more}
use Rattle.test_kit.proofs.ThreadsLemmas.MaderunsLemmas.Filed.{all_small}
use Rattle.test_kit.proofs.threads.maderuns.code.words_of.Goals as goal

pub loop-i-preserved : goal.loop-i-preserved
loop-i-preserved c =
    let i = c.loop-i.invariant in
    record {
      size = omega (arith, i.size, ap (length {A = ℕ}) c.in_ok-push.ensures.items, length-append c.loop-i.words.items (c.word_in.result ∷ []));
      small = all_more (λ (j w : ℕ). w < 2 ^ 32) c.loop-i.words.items c.push.new.self.items c.loop-i.i c.word_in.result 0 c.in_ok-push.ensures.items i.size i.small (omega (arith, c.word_in.type_inv));
      spell = all_more (λ (j w : ℕ). IsWord w (instr_in c.args.code.now (j / 16) (j % 16))) c.loop-i.words.items c.push.new.self.items c.loop-i.i c.word_in.result 0 c.in_ok-push.ensures.items i.size i.spell c.word_in.ensures;
    }

pub returns : goal.returns
returns c =
    let i = c.loop-i.invariant in
    record {
      size = omega (arith, i.size, c.loop-i-test.false, c.loop-i.auto.i-end);
      small = all_small c.loop-i.words.items 64 (omega (arith, i.size, c.loop-i-test.false, c.loop-i.auto.i-end)) (λ k less. i.small k (omega (arith, c.loop-i-test.false)));
      spell = λ t s few less.
          subst (λ (n : ℕ). IsWord (get_or c.loop-i.words.items (16 * t + s) 0) (instr_in c.args.code.now t n)) (omega arith)
          (subst (λ (n : ℕ). IsWord (get_or c.loop-i.words.items (16 * t + s) 0) (instr_in c.args.code.now n ((16 * t + s) % 16))) (omega arith)
          (i.spell (16 * t + s) (omega arith)));
    }
