use Rattle.std.proofs.lemmas.Result.{on_ok_weaker, on_err_weaker}
use Rattle.rept_narrow.proofs.Sentences.{row_here}
use Rattle.rept_infer.proofs.Carrying.{bytes_true}
use Rattle.rept_infer.proofs.passing.tell_at.Goals as goal

pub returns-clause-keeps : goal.returns-clause-keeps
returns-clause-keeps g c = on_ok_weaker c.tell.result (λ keeps story run e around f.
    let at = row_here story.rows c.args.earlier.now.rows.now c.args.index c.index-earlier-index.result e c.requires.inside in
    record {
      sets = keeps story run at (bytes_true story run (g.K.KnownPath.byte c.args.earlier.now.known.now) c.args.earlier.now.lanes.now c.args.sweep.now c.args.earlier.now.image_end around f.bytes) f.sets;
      bytes = f.bytes;
    }) c.tell.ensures.keeps

pub returns-clause-refuses : goal.returns-clause-refuses
returns-clause-refuses g c = on_err_weaker c.tell.result (λ refuses story run e around f.
    let at = row_here story.rows c.args.earlier.now.rows.now c.args.index c.index-earlier-index.result e c.requires.inside in
    refuses story run at (bytes_true story run (g.K.KnownPath.byte c.args.earlier.now.known.now) c.args.earlier.now.lanes.now c.args.sweep.now c.args.earlier.now.image_end around f.bytes) f.sets) c.tell.ensures.refuses
