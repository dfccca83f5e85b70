use Rattle.std.proofs.Common.{◌≡◌, ℕ, ◌+◌, ◌++◌, List, sym, ◌∙◌, ap, arith, append-nil}
use Rattle.rept_encode.specs.declared.weaving.stretch.HartStretch.{HartStretch}
use Rattle.test_kit.specs.Threads.Maderuns.Harts.{harts_of}
use Rattle.test_kit.proofs.ThreadsLemmas.MaderunsLemmas.Gathering.{harts_more}
use Rattle.test_kit.proofs.threads.maderuns.harts.harts_of.Goals as goal

pub loop-stream-init : goal.loop-stream-init
loop-stream-init c = λ n sum.
    let all : n ≡ c.args.streams = omega (arith, sum) in
    ap (λ (hs : List (List HartStretch)). hs ++ harts_of c.args.threads.now c.args.turns.now n 0) c.new-harts.ensures
    ∙ ap (λ (k : ℕ). harts_of c.args.threads.now c.args.turns.now k 0) all

pub loop-stream-preserved : goal.loop-stream-preserved
loop-stream-preserved c = λ n sum.
    harts_more c.args.threads.now c.args.turns.now c.loop-stream.stream c.args.streams c.loop-stream.harts c.push.new.self (harts_of c.args.threads.now c.args.turns.now c.args.streams 0) c.in_ok-hart_of.field-0 c.loop-stream.invariant c.in_ok-hart_of.ensures c.in_ok-push.ensures.ok n sum

pub returns : goal.returns
returns c =
    let end : c.loop-stream.stream + 0 ≡ c.args.streams = omega (arith, c.loop-stream-test.false, c.loop-stream.auto.stream-end) in
    sym (append-nil c.loop-stream.harts) ∙ c.loop-stream.invariant 0 end
