use Rattle.std.proofs.Common.{◌≡◌, ◌+◌, ◌-◌, ◌++◌, map, List, ℕ, sym, subst}
use Rattle.std.specs.List.{range_with_len}
use Rattle.rept_findings.specs.Texts.{wrapped}
use Rattle.rept_stub.specs.Files.{byte_shown, known_bytes}
use Rattle.rept_stub.specs.Replies.{known_run}
use Rattle.rept_stub.proofs.Bytes.{known_ends, known_more}
use Rattle.rept_stub.proofs.pieces.known_bytes.Goals as goal

pub loop-i-preserved : goal.loop-i-preserved
loop-i-preserved g c =
    let s = g.F.Findings.shown c.args.findings.now in
    let i = c.loop-i.i in
    let n = c.min-most.result in
    subst (λ (t : List ℕ). known_bytes s c.args.files.now c.args.moment c.args.asked.0 c.args.asked.1 ≡ t ++ known_run (map (λ k. byte_shown s c.args.files.now c.args.moment (wrapped (c.args.asked.0 + k))) (range_with_len (i + 1) (n - (i + 1))))) (sym c.in_ok-push-in-Some.ensures.ok)
    (known_more (λ k. byte_shown s c.args.files.now c.args.moment (wrapped (c.args.asked.0 + k))) (known_bytes s c.args.files.now c.args.moment c.args.asked.0 c.args.asked.1) c.loop-i.text i n c.loop-i-test.true c.loop-i.invariant c.in-Some.byte (sym c.in-Some.ensures))

pub returns-in-None : goal.returns-in-None
returns-in-None g c =
    let s = g.F.Findings.shown c.args.findings.now in
    known_ends (λ k. byte_shown s c.args.files.now c.args.moment (wrapped (c.args.asked.0 + k))) (known_bytes s c.args.files.now c.args.moment c.args.asked.0 c.args.asked.1) c.loop-i.text c.loop-i.i c.min-most.result c.loop-i-test.true c.loop-i.invariant (sym c.in-None.ensures)
