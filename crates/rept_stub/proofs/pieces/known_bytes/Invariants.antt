use Rattle.std.proofs.Common.{◌≡◌, ◌+◌, ◌-◌, ◌++◌, map}
use Rattle.std.specs.List.{range_with_len}
use Rattle.rept_findings.specs.Texts.{wrapped}
use Rattle.rept_stub.specs.Files.{byte_shown, known_bytes}
use Rattle.rept_stub.specs.Replies.{known_run}
use Rattle.rept_stub.proofs.pieces.known_bytes.Given as goal

abbrev pub invariant-loop-i : goal.invariant-loop-i
invariant-loop-i g l =
    let s = g.F.Findings.shown l.findings in
    known_bytes s l.files l.moment l.asked.0 l.asked.1 ≡ l.text ++ known_run (map (λ k. byte_shown s l.files l.moment (wrapped (l.asked.0 + k))) (range_with_len l.i (l.most - l.i)))
