use Rattle.std.proofs.Common.{ℕ, [], ◌∷◌, length, ◌∙◌, sym, ap, arith, length-append}
use Rattle.rept_make.specs.Draws.{after_slot, slot_of}
use Rattle.rept_make.specs.Code.{slot_instr}
use Rattle.rept_make.proofs.Coding.{next_state, spells_more}
use Rattle.rept_make.proofs.code.made_code.Goals as goal

pub loop-i-preserved : goal.loop-i-preserved
loop-i-preserved c =
    let i = c.loop-i.invariant in
    record {
      state = c.draw_slot-next.ensures.after ∙ ap after_slot i.state ∙ sym (next_state c.loop-i.i c.args.seed);
      size = omega (arith, i.size, ap (length {A = ℕ}) c.in_ok-push.ensures.items, length-append c.loop-i.code.items (c.encode-word.result ∷ []));
      spells = spells_more c.loop-i.code.items c.push.new.self.items c.loop-i.i c.encode-word.result c.args.seed c.slot_instr.result c.in_ok-push.ensures.items i.size i.spells c.encode-word.ensures.spelled c.slot_instr.ensures.placed (c.slot_instr.ensures.value ∙ ap (slot_instr c.loop-i.i) (c.draw_slot-next.ensures.slot ∙ ap slot_of i.state));
    }
