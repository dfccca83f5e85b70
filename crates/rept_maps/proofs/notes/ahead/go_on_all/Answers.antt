use Rattle.std.proofs.Common.{arith, length, ◌<◌, ◌∙◌}
use Rattle.std.proofs.lemmas.List.{length-set}
use Rattle.rept_elf.specs.Image.{segments_of, segment_of}
use Rattle.rept_maps.specs.Notes.Found.{wanted}
use Rattle.rept_maps.proofs.NotesLemmas.Leaping.{ahead_at, ahead_put}
use Rattle.rept_maps.proofs.notes.ahead.go_on_all.Goals as goal
use Rattle.rept_maps.proofs.notes.ahead.go_on_all.Goals.{then-segment-eq-PT_NOTE, else-segment-eq-PT_NOTE}

pub ahead_of-ahead-requires : goal.ahead_of-ahead-requires
ahead_of-ahead-requires c ahead e =
    let i = c.loop-i.invariant in
    let few = c.count-i-end.ensures.few in
    let inside : c.loop-i.i < length c.loop-i.aheads = omega (arith, i.room, few) in
    ahead_at (wanted c.args.sought) (segments_of c.args.core.now) c.loop-i.aheads c.loop-i.i (segment_of c.segment-segment.result) ahead i.aheads c.segment-segment.ensures.segment inside e

pub loop-i-preserved : goal.loop-i-preserved
loop-i-preserved c = elim c.if-segment-eq-PT_NOTE.branch [
  | then-segment-eq-PT_NOTE w ↦
      let i = c.loop-i.invariant in
      let put = ahead_put (wanted c.args.sought) (segments_of c.args.core.now) c.loop-i.aheads c.loop-i.i (segment_of c.segment-segment.result) w.go_on.result i.aheads c.segment-segment.ensures.segment w.go_on.ensures.ahead in
      rw (w.aheads-is, w.leaps-is) (record {
        room = length-set c.loop-i.aheads c.loop-i.i _ ∙ i.room;
        aheads = put;
        places = w.go_on.ensures.places;
        leaps = rw w.file.ensures at w.go_on.ensures.leaps;
      })
  | else-segment-eq-PT_NOTE w ↦ rw (w.aheads-is, w.leaps-is) c.loop-i.invariant
]
