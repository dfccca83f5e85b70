use Rattle.std.proofs.Common.{◌≡◌, ℕ, ◌/◌, ◌%◌, [], ◌∷◌, length, arith, ap, length-append}
use Rattle.rept_isa.specs.declared.instr.Instr.{Instr}
use Rattle.rept_isa.specs.declared.instr.Instr.TheVariants.{Fence}
use Rattle.rept_isa.specs.Range.{InRange}
use Rattle.test_kit.specs.Threads.Play.Shares.{UsesOwn}
use Rattle.test_kit.specs.Threads.Play.Drawn.{made_instr}
use Rattle.test_kit.proofs.ThreadsLemmas.PlayLemmas.Drawing.{all_more}
use Rattle.test_kit.proofs.threads.play.score.made_code.Goals as goal

pub loop-i-preserved : goal.loop-i-preserved
loop-i-preserved c =
    let i = c.loop-i.invariant in
    let own = c.made_instr-instr.ensures in
    record {
      size = omega (arith, i.size, ap (length {A = Instr}) c.in_default.ensures.items, length-append c.loop-i.code.items (c.made_instr-instr.result ∷ []));
      drawn = all_more (λ (j : ℕ) (x : Instr). x ≡ made_instr c.args.seed (j / 15) (j % 15)) c.loop-i.code.items c.push.new.self.items c.loop-i.i c.made_instr-instr.result Fence c.in_default.ensures.items i.size i.drawn own.value;
      uses = all_more (λ (j : ℕ) (x : Instr). UsesOwn (j / 15) x) c.loop-i.code.items c.push.new.self.items c.loop-i.i c.made_instr-instr.result Fence c.in_default.ensures.items i.size i.uses own.uses;
      range = all_more (λ (j : ℕ) (x : Instr). InRange x) c.loop-i.code.items c.push.new.self.items c.loop-i.i c.made_instr-instr.result Fence c.in_default.ensures.items i.size i.range own.range;
    }
