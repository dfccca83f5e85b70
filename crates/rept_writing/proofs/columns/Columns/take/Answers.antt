use Rattle.std.proofs.Common.{sym, ◌∙◌}
use Rattle.std.proofs.lemmas.Bool.{false≢true}
use Rattle.std.specs.Cmp.{booleans_Decides}
use Rattle.rept_writing.proofs.Rising.{taken_push, taken_skip}
use Rattle.rept_writing.proofs.columns.Columns.take.Goals as goal

pub returns-then-row-self-clause-taken : goal.returns-then-row-self-clause-taken
returns-then-row-self-clause-taken c = taken_push c.args.list.now c.args.k _ c.args.self.now c.push.new.self c.requires.inside c.requires.taken c.push.ensures.kind c.push.ensures.places c.push.ensures.firsts c.push.ensures.lasts

pub returns-else-row-self-clause-taken : goal.returns-else-row-self-clause-taken
returns-else-row-self-clause-taken c = taken_skip c.args.list.now c.args.k _ c.args.self.now c.requires.inside (λ e. false≢true (sym c.if-row-self.false ∙ (booleans_Decides _ _).1 e)) c.requires.taken
