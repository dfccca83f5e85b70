use Rattle.std.proofs.Common.{◌≡◌, ◌<◌, ◌≤◌, ℕ, false}
use Rattle.rept_writing.specs.Hits.{hits_at}
use Rattle.rept_writing.proofs.wide.scan_back.Given as goal

abbrev pub invariant-loop-j : goal.invariant-loop-j
invariant-loop-j l = (m : ℕ) → l.j ≤ m → m < l.fn.k → hits_at l.list m l.a ≡ false
