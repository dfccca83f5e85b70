use Rattle.rept_maps.proofs.notes.nth.search_segment.Goals as goal

pub returns-then-segment-eq-PT_NOTE : goal.returns-then-segment-eq-PT_NOTE
returns-then-segment-eq-PT_NOTE c = λ notes a. c.search_notes.ensures notes (rw c.if-segment-eq-PT_NOTE.true at a)
