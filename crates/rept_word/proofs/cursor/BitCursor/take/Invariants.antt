use Rattle.std.proofs.Common.{◌≡◌, ℕ, ◌+◌, ◌-◌, ◌<◌, ◌≤◌, ◌^◌, List}
use Rattle.rept_word.specs.Bits.{field}
use Rattle.rept_word.specs.Cursor.{IsAt}
use Rattle.rept_word.proofs.cursor.BitCursor.take.Given as goal

abbrev pub invariant-parts : goal.invariant-parts
invariant-parts l = record {
  few : l.taken ≤ l.n;
  small : l.value < 2 ^ l.taken;
  value : (payload : List ℕ) (i : ℕ) → IsAt l.fn.self payload i → l.value ≡ field payload i l.taken;
  at : (payload : List ℕ) (i : ℕ) → IsAt l.fn.self payload i → IsAt l.self payload (i + l.taken);
}

abbrev pub decreases-parts : goal.decreases-parts
decreases-parts l = l.n - l.taken
