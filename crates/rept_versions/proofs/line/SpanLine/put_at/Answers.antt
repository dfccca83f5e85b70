use Rattle.rept_versions.proofs.Fill.{added_above, added_below, added_between, inserted_joined}
use Rattle.std.proofs.Common.{◌∙◌}
use Rattle.rept_versions.proofs.line.SpanLine.put_at.Goals as goal

pub returns-then-follows-clause-added : goal.returns-then-follows-clause-added
returns-then-follows-clause-added c = added_above _ _ c.requires.rising _ _ _ c.requires.at (c.meet.ensures.room ∙ c.raise.ensures.room) c.if-follows.ensures _ c.raise.ensures.spans c.meet.ensures.reads c.meet.ensures.len

pub returns-then-precedes-clause-added : goal.returns-then-precedes-clause-added
returns-then-precedes-clause-added c = added_below _ _ c.requires.rising _ _ _ c.requires.at c.lower.ensures.room c.if-precedes.ensures c.lower.ensures.spans

pub returns-clause-added : goal.returns-clause-added
returns-clause-added c = added_between _ _ c.requires.rising _ _ _ c.requires.at c.add.ensures.room c.if-follows.ensures c.if-precedes.ensures c.add.ensures.spans

pub returns-clause-joined : goal.returns-clause-joined
returns-clause-joined c = rw c.add.ensures.spans (inserted_joined _ _ _ _ c.requires.joined c.requires.at c.if-follows.ensures c.if-precedes.ensures)
