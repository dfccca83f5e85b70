use Rattle.std.proofs.Common.{◌≡◌, ℕ, ◌*◌, ◌/◌, Bool, true, false, ◌==◌, ◌∙◌, length, rules, sym}
use Rattle.rept_elf.specs.Header.{word_at}
use Rattle.rept_remote.proofs.MovesLemmas.Ranges.{find_here, find_on}
use Rattle.rept_stub.proofs.loading.entry_of.Goals as goal

pub returns-then-word-kind-clause-value : goal.returns-then-word-kind-clause-value
returns-then-word-kind-clause-value c =
    let hit : (word_at c.args.vector.now (8 * c.loop-i.i) == c.args.kind) ≡ true = (let is = sym c.word.ensures ∙ c.if-word-kind.true in search rules) in
    sym (c.loop-i.invariant ∙ find_here (λ (k : ℕ). word_at c.args.vector.now (8 * k) == c.args.kind) c.loop-i.i (length c.args.vector.now / 8) c.loop-i-test.true hit)

pub loop-i-preserved : goal.loop-i-preserved
loop-i-preserved c =
    let miss : (word_at c.args.vector.now (8 * c.loop-i.i) == c.args.kind) ≡ false = (let is = c.word.ensures in let other = c.if-word-kind.false in search rules) in
    c.loop-i.invariant ∙ find_on (λ (k : ℕ). word_at c.args.vector.now (8 * k) == c.args.kind) c.loop-i.i (length c.args.vector.now / 8) c.loop-i-test.true miss
