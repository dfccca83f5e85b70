use Rattle.std.proofs.Common.{ap, sym, ◌∙◌}
use Rattle.std.specs.Prelude.{Some}
use Rattle.rept_elf.proofs.SegmentLemmas.{length-segments, slice_get-segments}
use Rattle.rept_elf.specs.Segments.{ElfSegment, part_of}
use Rattle.rept_elf.proofs.image.Image.segment.Goals as goal

pub entry-requires-clause-index : goal.entry-requires-clause-index
entry-requires-clause-index c = rw (length-segments c.args.self.now.bytes.now) at c.requires

pub returns-clause-segment : goal.returns-clause-segment
returns-clause-segment c =
    slice_get-segments c.args.self.now.bytes.now c.args.i (rw (length-segments c.args.self.now.bytes.now) at c.requires) ∙ ap Some (sym c.entry.ensures.segment)

pub returns-clause-part : goal.returns-clause-part
returns-clause-part c =
    let is = c.entry.ensures.segment in
    ap (λ (s : ElfSegment). s.body) is ∙ sym (ap (λ (s : ElfSegment). part_of c.args.self.now.bytes.now s.offset s.filesz) is)
