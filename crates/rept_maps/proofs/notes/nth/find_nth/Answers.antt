use Rattle.std.proofs.Common.{◌≤◌, length, arith}
use Rattle.rept_elf.specs.Image.{file_of, segments_of, segment_of}
use Rattle.rept_maps.specs.Notes.Found.{note_of}
use Rattle.rept_maps.specs.Notes.Sought.{is_sought}
use Rattle.rept_maps.proofs.NotesLemmas.NthLemmas.{none_segmented, segment_found, segment_passed, all_segments}
use Rattle.rept_maps.proofs.notes.nth.find_nth.Goals as goal

pub loop-i-init : goal.loop-i-init
loop-i-init c = none_segmented (is_sought c.args.kind) (length (file_of c.args.core.now)) (segments_of c.args.core.now) c.args.skip

pub returns-in-Found : goal.returns-in-Found
returns-in-Found c =
    segment_found (is_sought c.args.kind) (length (file_of c.args.core.now)) (segments_of c.args.core.now) c.loop-i.i (segment_of c.segment-segment.result) c.args.skip c.loop-i.left (note_of c.in-Found.note) c.loop-i.invariant
    c.segment-segment.ensures.segment c.in-Found.ensures

pub loop-i-preserved : goal.loop-i-preserved
loop-i-preserved c =
    segment_passed (is_sought c.args.kind) (length (file_of c.args.core.now)) (segments_of c.args.core.now) c.loop-i.i (segment_of c.segment-segment.result) c.args.skip c.loop-i.left c.in-Past.more c.loop-i.invariant
    c.segment-segment.ensures.segment c.in-Past.ensures

pub returns : goal.returns
returns c =
    let all : length (segments_of c.args.core.now) ≤ c.loop-i.i = omega (arith, c.count-i-end.ensures) in
    all_segments (is_sought c.args.kind) (length (file_of c.args.core.now)) (segments_of c.args.core.now) c.loop-i.i c.args.skip c.loop-i.left c.loop-i.invariant all
