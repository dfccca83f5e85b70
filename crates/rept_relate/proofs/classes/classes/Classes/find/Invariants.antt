use Rattle.std.proofs.Common.{◌≡◌, ℕ, ◌≤◌, length}
use Rattle.rept_relate.specs.Classes.Valuations.{word_of, IsValued, IsRoot, HaveSameWords}
use Rattle.rept_relate.proofs.classes.classes.Classes.find.Given as goal

abbrev pub invariant-loop-self : goal.invariant-loop-self
invariant-loop-self l = record {
  len : length l.self ≡ length l.fn.self;
  lower : l.at.node ≤ l.fn.term.node;
  alike : (value : ℕ → ℕ) → IsValued l.fn.self value → word_of value l.at ≡ word_of value l.fn.term;
  same : HaveSameWords l.fn.self l.self;
  roots : (y : ℕ) → IsRoot l.fn.self y → IsRoot l.self y;
}

abbrev pub decreases-loop-self : goal.decreases-loop-self
decreases-loop-self l = l.at.node
