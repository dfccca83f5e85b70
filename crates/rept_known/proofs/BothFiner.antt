-- A range with known bits is never wider than the range alone.
use Rattle.std.proofs.Common.{◌≡◌, ℕ, Bool, true, false, Option, Some, None, inl, inr, refl, sym, ap, subst}
use Rattle.std.specs.Prelude.{◌==◌, ◌||◌, ◌+◌, ◌-◌, ◌^◌, if◌then◌else◌, ℤ}
use Rattle.rept_isa.specs.declared.instr.Instr.{Instr}
use Rattle.rept_isa.specs.declared.instr.Instr.TheVariants.{Branch, Jalr}
use Rattle.rept_isa.specs.declared.row.StepRow.{StepRow}
use Rattle.rept_isa.specs.declared.class.Turn.{Turn}
use Rattle.rept_isa.specs.Operands.{turn_of}
use Rattle.rept_partial.specs.declared.range.Range.{Range}
use Rattle.rept_partial.specs.Sets.{IsWithin}
use Rattle.rept_partial.specs.Ranges.{range_has, range_sets, range_meet, from_to}
use Rattle.rept_span.specs.Tables.{applied_range, base_of, base_leaves, with_second as range_with_second, leaves, narrowed_range}
use Rattle.rept_span.specs.Laws.RangeBounds.{has_in, lies_within}
use Rattle.rept_span.specs.Tables.{range_moves}
use Rattle.rept_span.specs.Laws.RangeMoves.{range_covers}
use Rattle.rept_span.specs.Finer.{kind, IsFiner}
use Rattle.rept_known.specs.declared.bits.Bits.{Bits}
use Rattle.rept_known.specs.declared.both.Both.{Both}
use Rattle.rept_known.specs.Operations.{applied_bits, narrowed_bits}
use Rattle.rept_known.specs.Both.{both_has, reduced, both_sets}
use Rattle.rept_known.specs.Laws.BothLaws.{lowest_has, highest_has, reduced_common, reduced_none}
use Rattle.rept_known.specs.BothMoves.{both_moves, both_common, first_common, left_both, narrowed_both, reduced_cases, applied_common, pair_is, second_is, none_pair, some_pair}

-- each word of the first is one of the second
abbrev Inside : Both → Range → Type 0
Inside a b = (v : ℕ) → both_has a v ≡ true → range_has b v ≡ true

part_inside : (a : Both) (b : Range) → Inside a b → IsWithin range_sets a.range b
part_inside a b h =
    let p = has_in b a.range.lo (h a.range.lo (lowest_has a)) in
    let q = has_in b a.range.hi (h a.range.hi (highest_has a)) in
    lies_within a.range b (record { low = p.low; high = q.high })

reduced_inside : (r : Range) (b : Bits) (c : Both) → reduced r b ≡ Some c → Inside c r
reduced_inside r b c e v h = ((reduced_common r b c e).out v h).0

applied_inside : (instr : Instr) (address : ℕ) (a b : Both) (a' b' : Range) → Inside a a' → Inside b b' → Inside (both_moves.apply instr address a b) (applied_range instr address a' b')
applied_inside instr address a b a' b' h k v t =
    let r = applied_range instr address a.range b.range in
    let q = applied_bits instr address a.bits b.bits in
    let one = applied_common instr address a b in
    elim (reduced_cases r q) [
      | inl none ↦ absurd (reduced_none r q none one.value one.in_range one.in_bits)
      | inr (c, some) ↦ range_covers.monotony instr address a.range a' b.range b' (part_inside a a' h) (part_inside b b' k) v (reduced_inside r q c some v (rw some at t))
    ]

-- two ranges of which the first pair of sets lies inside
record LeftInside (n : Both × Both) (left : Option (Range × Range)) : Type 0 where
  pair : Range × Range
  is : left ≡ Some pair
  first : Inside n.0 pair.0
  second : Inside n.1 pair.1

some_range : {x y : Range × Range} → Some x ≡ Some y → x ≡ y
some_range e = cc

none_range : {x : Range × Range} → None ≡ Some x → ⊥
none_range e = cc

-- a JALR leaves its second operand alone
second_kept : (rd rs1 : ℕ) (imm : ℤ) (turn : Turn) (next : ℕ) (a b : Range) (n : Range × Range) → leaves (Jalr rd rs1 imm) turn next a b ≡ Some n → b ≡ n.1
second_kept rd rs1 imm turn next a b n e = outer (rs1 == 0 || rs1 == rd) e
  where
    meets : (x : Option Range) → range_with_second b x ≡ Some n → b ≡ n.1
    meets None e = absurd (none_range e)
    meets (Some x) e = ap (λ (p : Range × Range). p.1) (some_range e)

    inner : (t : Bool) → (if t then Some (a, b) else range_with_second b (range_meet a (from_to (base_of next imm) (base_of next imm + 1)))) ≡ Some n → b ≡ n.1
    inner true e = ap (λ (p : Range × Range). p.1) (some_range e)
    inner false e = meets (range_meet a (from_to (base_of next imm) (base_of next imm + 1))) e

    outer : (t : Bool) → (if t then Some (a, b) else base_leaves (base_of next imm) a b) ≡ Some n → b ≡ n.1
    outer true e = ap (λ (p : Range × Range). p.1) (some_range e)
    outer false e = inner (base_of next imm == 2 ^ 32 - 1) e

by_both : (row : StepRow) (a b : Both) (a' b' : Range) (n : Both × Both) (r : Option (Range × Range)) (k : Option (Bits × Bits)) → narrowed_range row a.range b.range ≡ r → Inside a a' → Inside b b' → both_common r k ≡ Some n → LeftInside n (narrowed_range row a' b')
by_both row a b a' b' n (Some r) (Some k) e h g is =
    let more = range_covers.narrower row a.range a' b.range b' r (part_inside a a' h) (part_inside b b' g) e in
    let pair = pair_is (reduced r.0 k.0) (reduced r.1 k.1) n is in
    record {
      pair = more.0;
      is = more.1;
      first = λ v t. more.2.first v (reduced_inside r.0 k.0 n.0 pair.first v t);
      second = λ v t. more.2.second v (reduced_inside r.1 k.1 n.1 pair.second v t);
    }
by_both row a b a' b' n (Some r) None e h g is = absurd (none_pair is)
by_both row a b a' b' n None k e h g is = absurd (none_pair is)

by_first : (row : StepRow) (rd rs1 : ℕ) (imm : ℤ) (a b : Both) (a' b' : Range) (n : Both × Both) (r : Option (Range × Range)) → row.instr ≡ Jalr rd rs1 imm → narrowed_range row a.range b.range ≡ r → Inside a a' → Inside b b' → first_common r a b ≡ Some n → LeftInside n (narrowed_range row a' b')
by_first row rd rs1 imm a b a' b' n (Some r) named e h g is =
    let more = range_covers.narrower row a.range a' b.range b' r (part_inside a a' h) (part_inside b b' g) e in
    let one = second_is b (reduced r.0 a.bits) n is in
    let jumps : leaves (Jalr rd rs1 imm) (turn_of row) row.next a' b' ≡ Some more.0 = subst (λ (i : Instr). leaves i (turn_of row) row.next a' b' ≡ Some more.0) named more.1 in
    let kept = second_kept rd rs1 imm (turn_of row) row.next a' b' more.0 jumps in
    record {
      pair = more.0;
      is = more.1;
      first = λ v t. more.2.first v (reduced_inside r.0 a.bits n.0 one.0 v t);
      second = λ v t. subst (λ (x : Range). range_has x v ≡ true) kept (g v (subst (λ (x : Both). both_has x v ≡ true) (sym one.1) t));
    }
by_first row rd rs1 imm a b a' b' n None named e h g is = absurd (none_pair is)

by_instr : (instr : Instr) (row : StepRow) (a b : Both) (a' b' : Range) (n : Both × Both) → row.instr ≡ instr → Inside a a' → Inside b b' → left_both instr (narrowed_range row a.range b.range) (narrowed_bits row a.bits b.bits) a b ≡ Some n → LeftInside n (narrowed_range row a' b')
by_instr (Branch op rs1 rs2 imm) row a b a' b' n named h g is = by_both row a b a' b' n (narrowed_range row a.range b.range) (narrowed_bits row a.bits b.bits) refl h g is
by_instr (Jalr rd rs1 imm) row a b a' b' n named h g is = by_first row rd rs1 imm a b a' b' n (narrowed_range row a.range b.range) named refl h g is
by_instr _ row a b a' b' n named h g is = record {
  pair = (a', b');
  is = subst (λ (i : Instr). leaves i (turn_of row) row.next a' b' ≡ Some (a', b')) (sym named) refl;
  first = subst (λ (x : Both × Both). Inside x.0 a') (some_pair is) h;
  second = subst (λ (x : Both × Both). Inside x.1 b') (some_pair is) g;
}

narrowed_inside : (row : StepRow) (a b : Both) (a' b' : Range) (n : Both × Both) → Inside a a' → Inside b b' → narrowed_both row a b ≡ Some n → (n' : Range × Range) × (narrowed_range row a' b' ≡ Some n') × Inside n.0 n'.0 × Inside n.1 n'.1
narrowed_inside row a b a' b' n h g is = let left = by_instr row.instr row a b a' b' n refl h g is in (left.pair, left.is, left.first, left.second)

pub both_finer : IsFiner (kind both_sets both_moves) (kind range_sets range_moves)
both_finer = record {
  apply = applied_inside;
  narrow = narrowed_inside;
  lower = λ a b h. (has_in b a.range.lo (h a.range.lo (lowest_has a))).low;
  upper = λ a b h. (has_in b a.range.hi (h a.range.hi (highest_has a))).high;
}
