use Rattle.std.proofs.Common.{◌≡◌, ℕ, List, ◌∷◌, ◌++◌, ◌∙◌, ap, arith}
use Rattle.rept_make.specs.Files.{bytes_of_words}
use Rattle.test_kit.specs.Threads.Maderuns.Files.{shares_of}
use Rattle.test_kit.proofs.ThreadsLemmas.MaderunsLemmas.Filed.{saved_none, saved_more}
use Rattle.test_kit.proofs.threads.maderuns.files.push_saved.Goals as goal

pub loop-i-init : goal.loop-i-init
loop-i-init c = saved_none c.args.thread c.args.pc c.args.registers.now c.args.file.now c.push.new.self (c.in_ok-push.ensures.ok ∙ ap (λ (bytes : List ℕ). c.args.file.now ++ bytes) c.to_le_bytes.ensures)

pub loop-i-preserved : goal.loop-i-preserved
loop-i-preserved c =
    saved_more c.args.thread c.args.pc c.args.registers.now c.loop-i.i c.share.result c.args.file.now c.loop-i.file c.push-in-loop-i.new.self c.loop-i.invariant
    (c.in_ok-push-2.ensures.ok ∙ ap (λ (bytes : List ℕ). c.loop-i.file ++ bytes) c.to_le_bytes-in-loop-i.ensures) c.share.ensures

pub returns : goal.returns
returns c =
    let all : c.loop-i.i ≡ 31 = omega (arith, c.loop-i-test.false, c.loop-i.auto.i-end) in
    c.loop-i.invariant ∙ ap (λ (n : ℕ). c.args.file.now ++ bytes_of_words (c.args.pc ∷ shares_of c.args.thread c.args.registers.now n)) all
