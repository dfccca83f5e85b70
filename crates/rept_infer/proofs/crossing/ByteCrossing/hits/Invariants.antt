use Rattle.std.proofs.Common.{◌≡◌, ◌<◌, ℕ, Some, slice_get}
use Rattle.rept_machine.specs.State.{State}
use Rattle.rept_narrow.specs.declared.lanes.held.Held.{Held}
use Rattle.rept_narrow.specs.Lanes.{IsListed}
use Rattle.rept_narrow.specs.Admitted.{Story}
use Rattle.rept_narrow.specs.Rules.{HasSets, AreBytes, WritesNot}
use Rattle.rept_narrow.specs.Sweeps.{tells_in}
use Rattle.rept_infer.proofs.crossing.ByteCrossing.hits.Given as goal

abbrev pub invariant-loop-number : goal.invariant-loop-number
invariant-loop-number g l = (story : Story) (run : ℕ → State) → story.image_end ≡ l.self.image_end → slice_get story.rows l.self.index ≡ Some l.self.row → HasSets story l.self.table.now run → AreBytes story (tells_in (g.K.KnownPath.byte l.self.bytes.now.known.now) l.self.bytes.now.lanes.now l.self.bytes.now.sweep.now) run → (j a : ℕ) (h : Held) → j < l.number → slice_get l.self.bytes.now.sweep.now.held j ≡ Some (a, h) → (IsListed l.list.items a → ⊥) → WritesNot story run l.self.index a
