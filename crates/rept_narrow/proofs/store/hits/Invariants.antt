use Rattle.std.proofs.Common.{◌<◌, ℕ}
use Rattle.rept_narrow.specs.Stores.{IsStorePlaced}
use Rattle.rept_narrow.proofs.store.hits.Given as goal

abbrev pub invariant-loop-k : goal.invariant-loop-k
invariant-loop-k g l = (k : ℕ) → k < l.k → IsStorePlaced l.base l.source l.imm l.width (g.B.ToldBytes.tells l.bytes l.point) l.a k → ⊥
