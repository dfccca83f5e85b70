use Rattle.std.proofs.Common.{◌≡◌, ◌≤◌, ◌<◌, ◌+◌, ◌-◌, ◌*◌, ◌%◌, ◌^◌, ℕ, List, arith, sym, ap, ◌∙◌, subst}
use Rattle.rept_word.specs.Bits.{field}
use Rattle.rept_word.specs.Cursor.{IsAt}
use Rattle.rept_word.proofs.BitLemmas.{field_zero, joined, joined_small, shifted}
use Rattle.rept_word.proofs.cursor.BitCursor.take.Goals as goal

pub parts-init : goal.parts-init
parts-init c = record {
  few = omega arith;
  small = omega arith;
  value = λ payload i at. sym (field_zero payload i);
  at = λ payload i at. (let P : ℕ → Type 0 = λ n. IsAt c.args.self.now payload n in let e : i ≡ i + 0 = omega arith in subst P e at);
}

pub overflow_add-value : goal.overflow_add-value
overflow_add-value c =
    let s = shifted c.part-part.result.bits c.parts.taken c.part-part.result.count c.part-part.ensures.small (omega arith) in
    let small = joined_small c.parts.value c.part-part.result.bits c.parts.taken c.part-part.result.count c.parts.invariant.small c.part-part.ensures.small (omega arith) in
    rw s (omega arith)

pub parts-preserved : goal.parts-preserved
parts-preserved c =
    let s = shifted c.part-part.result.bits c.parts.taken c.part-part.result.count c.part-part.ensures.small (omega arith) in
    record {
      few = omega arith;
      small = rw s (joined_small c.parts.value c.part-part.result.bits c.parts.taken c.part-part.result.count c.parts.invariant.small c.part-part.ensures.small (omega arith)).0;
      value = λ payload i at. rw s (joined payload i c.parts.taken c.part-part.result.count c.parts.value c.part-part.result.bits (c.parts.invariant.value payload i at) (c.part-part.ensures.value payload (i + c.parts.taken) (c.parts.invariant.at payload i at)));
      at = λ payload i at. (let P : ℕ → Type 0 = λ n. IsAt c.part-part.new.self payload n in let e : i + c.parts.taken + c.part-part.result.count ≡ i + (c.parts.taken + c.part-part.result.count) = omega arith in subst P e (c.part-part.ensures.at payload (i + c.parts.taken) (c.parts.invariant.at payload i at)));
    }
