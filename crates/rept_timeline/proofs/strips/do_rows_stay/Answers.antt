use Rattle.std.proofs.Common.{sym, ◌∙◌}
use Rattle.rept_timeline.proofs.Lists.{sound_of}
use Rattle.rept_timeline.proofs.Stripping.{stay_end, stay_more, over_not}
use Rattle.rept_timeline.proofs.Steady.{steady_stay}
use Rattle.rept_timeline.proofs.strips.do_rows_stay.Goals as goal

pub returns-then-is_steady-clause-yes : goal.returns-then-is_steady-clause-yes
returns-then-is_steady-clause-yes c = λ _. steady_stay c.args.many.now (sound_of c.args.many.now c.args.storing.now c.requires.listed) c.args.pause c.args.number c.requires.two (c.is_steady.ensures c.if-is_steady.true)

pub returns-in-None-clause-yes : goal.returns-in-None-clause-yes
returns-in-None-clause-yes c = λ _. stay_end c.args.many.now (sound_of c.args.many.now c.args.storing.now c.requires.listed) c.args.pause c.args.number c.requires.two c.loop-row.from c.loop-row.invariant.clear c.in-None.ensures

pub returns-then-is_past-clause-no : goal.returns-then-is_past-clause-no
returns-then-is_past-clause-no c = λ _. over_not c.args.many.now (sound_of c.args.many.now c.args.storing.now c.requires.listed) c.args.pause c.args.number c.requires.two c.in-Some.row c.in-Some.ensures.1 (sym c.is_past.ensures ∙ c.if-is_past.true)

pub loop-row-preserved : goal.loop-row-preserved
loop-row-preserved c = record {
  clear = stay_more c.args.many.now (sound_of c.args.many.now c.args.storing.now c.requires.listed) c.args.pause c.args.number c.requires.two c.loop-row.from c.in-Some.row c.last_of-from.result c.loop-row.invariant.clear c.in-Some.ensures (sym c.is_past.ensures ∙ c.if-is_past.false) c.last_of-from.ensures.rows;
}
