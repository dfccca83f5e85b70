-- The greatest word up to a bound is the complement of the least complement from the bound's on.
use Rattle.std.proofs.Common.{◌≡◌, ℕ, ◌-◌, ◌^◌, ◌<◌, ◌≤◌, true, arith}
use Rattle.rept_known.specs.declared.bits.Bits.{Bits}
use Rattle.rept_known.specs.Bits.{bits_has}
use Rattle.rept_known.specs.Laws.BitsLaws.{has_parts, has_agrees, agrees_has}
use Rattle.rept_known.specs.Laws.Sums.{flipped, flipped_agrees, agrees_flipped}
use Rattle.rept_known.specs.Least.{IsLeastFrom, IsGreatestTo}

flipped_has : (b : Bits) (u : ℕ) → bits_has b u ≡ true → bits_has (flipped b) (2 ^ 32 - 1 - u) ≡ true
flipped_has b u t = agrees_has (flipped b) (2 ^ 32 - 1 - u) (flipped_agrees b u (has_agrees b u t))

pub greatest_by_least : (b : Bits) (hi v : ℕ) → hi < 2 ^ 32 → IsLeastFrom (flipped b) (2 ^ 32 - 1 - hi) v → IsGreatestTo b hi (2 ^ 32 - 1 - v)
greatest_by_least b hi v s h =
    let small = (has_parts (flipped b) v h.has).0 in
    let beyond = h.beyond in
    record {
      has = agrees_has b (2 ^ 32 - 1 - v) (agrees_flipped b v (has_agrees (flipped b) v h.has));
      within = omega (arith, small, beyond);
      last = λ u t l. let f = h.first (2 ^ 32 - 1 - u) (flipped_has b u t) (omega arith) in let w = (has_parts b u t).0 in omega (arith, small, f, w);
    }

pub no_greatest_by : (b : Bits) (hi : ℕ) → hi < 2 ^ 32 → ((v : ℕ) → bits_has (flipped b) v ≡ true → v < 2 ^ 32 - 1 - hi) → (u : ℕ) → bits_has b u ≡ true → u ≤ hi → ⊥
no_greatest_by b hi s h u t l = let f = h (2 ^ 32 - 1 - u) (flipped_has b u t) in let w = (has_parts b u t).0 in omega (arith, f, w)
