use Rattle.std.proofs.Common.{◌<◌, ◌≤◌, arith, length}
use Rattle.std.proofs.lemmas.Result.{err_from_is_err_and}
use Rattle.rept_elf.specs.Image.{file_of, segments_of, segment_of}
use Rattle.rept_maps.specs.Notes.Notes.{note_segments}
use Rattle.rept_maps.specs.Notes.Found.{wanted}
use Rattle.rept_maps.proofs.NotesLemmas.NoteLemmas.{past_segment, cut_segment, past_all}
use Rattle.rept_maps.proofs.NotesLemmas.Leaping.{none_ahead, ahead_at}
use Rattle.rept_maps.proofs.notes.notes.read_core.Goals as goal

pub returns-in_err-found-clause-cut : goal.returns-in_err-found-clause-cut
returns-in_err-found-clause-cut c =
    let p = err_from_is_err_and c.from_residual.result c.from_residual.ensures.1 in
    let q = rw c.file_size.ensures at c.in_err-found.ensures.cut in
    let size = length (file_of c.args.core.now) in
    let segs = segments_of c.args.core.now in
    rw (p.1, p.2) (cut_segment (wanted c.args.sought) size (note_segments segs) segs c.loop-i.i (segment_of c.segment-segment.result) c.loop-i.found c.in_err-found.field-0.0.offset c.loop-i.invariant.through c.segment-segment.ensures.segment q)

pub loop-i-preserved : goal.loop-i-preserved
loop-i-preserved c = record {
  few = omega (arith, c.loop-i.invariant.few, c.in_ok-found.ensures.few, c.segment-segment.ensures.within);
  through =
      past_segment (wanted c.args.sought) (length (file_of c.args.core.now)) (note_segments (segments_of c.args.core.now)) (segments_of c.args.core.now) c.loop-i.i (segment_of c.segment-segment.result) c.loop-i.found
      c.in_ok-found.found c.loop-i.invariant.through c.segment-segment.ensures.segment (rw c.file_size.ensures at c.in_ok-found.ensures.ok);
}

pub returns-clause-ok : goal.returns-clause-ok
returns-clause-ok c =
    let all : length (segments_of c.args.core.now) ≤ c.loop-i.i = omega (arith, c.count-i-end.ensures) in
    past_all (wanted c.args.sought) (length (file_of c.args.core.now)) (note_segments (segments_of c.args.core.now)) (segments_of c.args.core.now) c.loop-i.i c.loop-i.found c.loop-i.invariant.through all

pub go_ahead-requires-clause-aheads : goal.go_ahead-requires-clause-aheads
go_ahead-requires-clause-aheads c = none_ahead (wanted c.args.sought) (segments_of c.args.core.now) 4096

pub ahead_of-ahead-requires : goal.ahead_of-ahead-requires
ahead_of-ahead-requires c ahead e =
    let kept = c.go_ahead.ensures in
    let few = c.count-i-end.ensures.few in
    let inside : c.loop-i.i < length c.go_ahead.new.aheads = omega (arith, kept.room, few) in
    ahead_at (wanted c.args.sought) (segments_of c.args.core.now) c.go_ahead.new.aheads c.loop-i.i (segment_of c.segment-segment.result) ahead kept.aheads c.segment-segment.ensures.segment inside e
