-- All bits of a word, without as many as it has leading zeros.
use Rattle.std.proofs.Common.{sym, ap, ◌∙◌}
use Rattle.std.proofs.lemmas.Nat.{leading_le}
use Rattle.std.proofs.lemmas.Nat.Bits.{ones_shr}
use Rattle.std.specs.Int.Count.{count_leading_zeros}
use Rattle.rept_span.specs.Tables.{cover}
use Rattle.rept_known.specs.Laws.Tops.{cover_none}
use Rattle.rept_known.proofs.nearest.filled.Goals as goal

pub returns-then-v-eq0 : goal.returns-then-v-eq0
returns-then-v-eq0 c = sym (ap (λ n. cover n) c.if-v-eq0.true ∙ cover_none)

pub returns-else-v-eq0 : goal.returns-else-v-eq0
returns-else-v-eq0 c = ones_shr 32 (count_leading_zeros 32 c.args.v) (leading_le 32 c.args.v)
