use Rattle.rept_timeline.proofs.strips.is_still.Goals as goal

pub is_still_too-requires-clause-still : goal.is_still_too-requires-clause-still
is_still_too-requires-clause-still c = c.requires.hint.still c.in-Some.still c.in-Some.is
