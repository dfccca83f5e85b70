use Rattle.std.proofs.Common.{◌≡◌, ℕ, ◌<◌, ◌≤◌, true, length, Some, slice_get}
use Rattle.rept_relate.specs.declared.words.WordSlot.{WordSlot}
use Rattle.rept_relate.specs.Holding.{IsSlotLeft, AreNodesBelow}
use Rattle.rept_relate.proofs.called.leave.Given as goal

abbrev pub invariant-loop-k : goal.invariant-loop-k
invariant-loop-k l = record {
  len : length l.slots.items ≡ length l.fn.slots.items;
  done : (m : ℕ) (slot : WordSlot) → m < l.k → slice_get l.slots.items m ≡ Some slot → slot.live ≡ true → IsSlotLeft l.fn.slots.items m slot l.access;
  rest : (m : ℕ) → l.k ≤ m → slice_get l.slots.items m ≡ slice_get l.fn.slots.items m;
  below : (limit : ℕ) → AreNodesBelow l.fn.slots.items limit → AreNodesBelow l.slots.items limit;
}
