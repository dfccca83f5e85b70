use Rattle.std.proofs.Common.{arith, ◌∙◌}
use Rattle.rept_elf.specs.Image.{segments_of, segment_of}
use Rattle.rept_elf.proofs.SegmentLemmas.{ends_load, ends_other}
use Rattle.rept_elf.proofs.image.Image.image_end.Goals as goal
use Rattle.rept_elf.proofs.image.Image.image_end.Goals.{then-segment-eq-PT_LOAD, else-segment-eq-PT_LOAD}

pub loop-i-preserved : goal.loop-i-preserved
loop-i-preserved c = elim c.if-segment-eq-PT_LOAD.branch [
  | then-segment-eq-PT_LOAD w ↦
      ends_load (segments_of c.args.self.now) c.loop-i.i (segment_of c.segment-segment.result) c.loop-i.end c.if-segment-eq-PT_LOAD.end c.segment-segment.ensures.segment w.if-segment-eq-PT_LOAD.true (omega (arith, w.end-is, w.max-end.ensures, w.from.ensures, w.from-then-segment-eq-PT_LOAD.ensures)) ∙ c.loop-i.invariant
  | else-segment-eq-PT_LOAD w ↦
      ends_other (segments_of c.args.self.now) c.loop-i.i (segment_of c.segment-segment.result) c.loop-i.end c.if-segment-eq-PT_LOAD.end c.segment-segment.ensures.segment w.if-segment-eq-PT_LOAD.false w.end-is ∙ c.loop-i.invariant
]
