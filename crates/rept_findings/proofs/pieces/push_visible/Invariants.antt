use Rattle.std.proofs.Common.{◌≡◌, ◌++◌, map, take}
use Rattle.rept_findings.specs.Texts.{visible}
use Rattle.rept_findings.proofs.pieces.push_visible.Given as goal

abbrev pub invariant-loop-byte : goal.invariant-loop-byte
invariant-loop-byte l = l.text ≡ l.fn.text ++ map visible (take l.byte-index l.name)
