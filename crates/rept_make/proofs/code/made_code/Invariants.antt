use Rattle.std.proofs.Common.{◌≡◌, ℕ, ◌+◌, ◌*◌, ◌<◌, length, slice_index}
use Rattle.rept_make.specs.Draws.{drawn_times}
use Rattle.rept_make.specs.Code.{made_instr}
use Rattle.rept_make.specs.Words.{SpellsAt}
use Rattle.rept_make.proofs.code.made_code.Given as goal

abbrev pub invariant-loop-i : goal.invariant-loop-i
invariant-loop-i l = record {
  state : l.state ≡ drawn_times (11 + 5 * l.i) l.seed;
  size : length l.code.items ≡ l.i;
  spells : (k : ℕ) → k < l.i → SpellsAt k (slice_index l.code.items k) (made_instr l.seed k);
}
