use Rattle.std.proofs.Common.{◌∙◌, sym}
use Rattle.rept_elf.proofs.SegmentLemmas.{length-segments}
use Rattle.rept_elf.proofs.image.Image.count.Goals as goal

pub returns-clause-count : goal.returns-clause-count
returns-clause-count c = c.entry_count.ensures ∙ sym (length-segments c.args.self.now.bytes.now)
