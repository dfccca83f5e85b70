use Rattle.std.proofs.Common.{sym, ◌∙◌}
use Rattle.rept_elf.specs.Image.{segments_of, segment_of}
use Rattle.rept_dump.proofs.Stretches.{passed, found}
use Rattle.rept_dump.proofs.stretch.find_stretch.Goals as goal

pub returns-then-fits-clause-alike : goal.returns-then-fits-clause-alike
returns-then-fits-clause-alike c =
    let n = c.narrow-bounds in
    found (record { allowed = c.args.allowed; count = c.args.count; segments = segments_of c.args.image.now }) c.args.a c.loop-i.i (segment_of c.segment-segment.result) c.segment-segment.ensures.segment
    c.loop-i.bounds.from c.loop-i.bounds.to n.result.from n.result.to c.loop-i.invariant n.ensures.inside.0 n.ensures.inside.1 n.ensures.alike (sym c.fits.ensures ∙ c.if-fits.true)

pub loop-i-preserved : goal.loop-i-preserved
loop-i-preserved c =
    let n = c.narrow-bounds in
    passed (record { allowed = c.args.allowed; count = c.args.count; segments = segments_of c.args.image.now }) c.args.a c.loop-i.i (segment_of c.segment-segment.result) c.segment-segment.ensures.segment
    c.loop-i.bounds.from c.loop-i.bounds.to n.result.from n.result.to c.loop-i.invariant n.ensures.inside.0 n.ensures.inside.1 n.ensures.within.0 n.ensures.within.1 n.ensures.alike (sym c.fits.ensures ∙ c.if-fits.false)
