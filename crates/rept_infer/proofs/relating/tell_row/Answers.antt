use Rattle.std.proofs.Common.{◌+◌, sym, ◌∙◌, arith}
use Rattle.std.proofs.lemmas.Result.{on_ok_weaker, on_err_weaker}
use Rattle.std.proofs.lemmas.Option.{slice_get_within}
use Rattle.rept_relate.specs.Numbering.{value_in}
use Rattle.rept_relate.proofs.Rowing.{inside_small}
use Rattle.rept_infer.proofs.Classing.{after_sound}
use Rattle.rept_infer.proofs.relating.tell_row.Goals as goal

pub returns-in-Some-clause-keeps : goal.returns-in-Some-clause-keeps
returns-in-Some-clause-keeps c = on_ok_weaker c.narrow.result (λ keeps story run at h valued.
    let onward = c.set_of-set.ensures.has (value_in story.rows run) valued in
    let small = inside_small (value_in story.rows run) c.args.classes.now (32 + c.args.index) c.requires.nodes valued in
    let sound = after_sound story run c.args.index c.in-Some.rd c.args.row.now c.set_of-set.result at (sym c.writes.ensures ∙ c.in-Some.is) onward small in
    keeps story run h sound) c.narrow.ensures.keeps

pub returns-in-Some-clause-refuses : goal.returns-in-Some-clause-refuses
returns-in-Some-clause-refuses c = on_err_weaker c.narrow.result (λ refuses story run at h valued.
    let onward = c.set_of-set.ensures.has (value_in story.rows run) valued in
    let small = inside_small (value_in story.rows run) c.args.classes.now (32 + c.args.index) c.requires.nodes valued in
    let sound = after_sound story run c.args.index c.in-Some.rd c.args.row.now c.set_of-set.result at (sym c.writes.ensures ∙ c.in-Some.is) onward small in
    let inside = slice_get_within story.rows c.args.index c.args.row.now at in
    refuses story run h sound (omega (arith, inside))) c.narrow.ensures.refuses
