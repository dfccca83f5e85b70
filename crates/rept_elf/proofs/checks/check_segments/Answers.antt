use Rattle.std.proofs.Common.{◌≡◌, ap, sym, ◌∙◌, length, ◌≤◌, arith, rules}
use Rattle.std.specs.Prelude.{Some, slice_get}
use Rattle.rept_elf.specs.Segments.{segments}
use Rattle.rept_elf.specs.Image.{segment_of}
use Rattle.rept_elf.proofs.SegmentLemmas.{checked_from, slice_get-segments, length-segments, one_passes, one_fails, none_left}
use Rattle.rept_elf.proofs.checks.check_segments.Goals as goal

pub returns-in_err-check_segment : goal.returns-in_err-check_segment
returns-in_err-check_segment c =
    let bytes = c.args.bytes.now in
    let at : slice_get (segments bytes) c.loop-index.index ≡ Some (segment_of c.entry-segment.result) =
    slice_get-segments bytes c.loop-index.index (omega (arith, c.entry_count-index-end.ensures)) ∙ ap Some (sym c.entry-segment.ensures.segment) in
    let failed : checked_from c.args.want (length bytes) 0 (segments bytes) ≡ Some c.in_err-check_segment.field-0.0 =
    c.loop-index.invariant ∙ one_fails _ _ _ _ _ _ at (sym c.in_err-check_segment.ensures) in
    rw failed (search rules)

pub loop-index-preserved : goal.loop-index-preserved
loop-index-preserved c =
    let bytes = c.args.bytes.now in
    let at : slice_get (segments bytes) c.loop-index.index ≡ Some (segment_of c.entry-segment.result) =
    slice_get-segments bytes c.loop-index.index (omega (arith, c.entry_count-index-end.ensures)) ∙ ap Some (sym c.entry-segment.ensures.segment) in
    c.loop-index.invariant ∙ one_passes _ _ _ _ _ at (sym c.in_ok-check_segment.ensures)

pub returns : goal.returns
returns c =
    let bytes = c.args.bytes.now in
    let all : length (segments bytes) ≤ c.loop-index.index = omega (arith, c.entry_count-index-end.ensures, length-segments bytes) in
    sym (c.loop-index.invariant ∙ none_left _ _ _ _ all)
