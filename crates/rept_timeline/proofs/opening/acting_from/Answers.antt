use Rattle.std.proofs.Common.{sym, ◌∙◌, arith}
use Rattle.std.proofs.lemmas.Bool.{false≢true}
use Rattle.rept_timeline.proofs.Lists.{sound_of}
use Rattle.rept_timeline.proofs.Acting.{own_some, own_none}
use Rattle.rept_timeline.proofs.opening.acting_from.Goals as goal

pub returns-then-stores : goal.returns-then-stores
returns-then-stores c = own_some c.args.many.now (sound_of c.args.many.now c.args.storing.now c.requires.listed) c.args.m c.args.w c.requires.next c.in-Some.own c.in-Some.ensures c.args.least (let up = c.if-own-least.false in omega arith) (sym c.stores.ensures ∙ c.if-stores.true)

pub returns-else-stores : goal.returns-else-stores
returns-else-stores c = own_none c.args.many.now (sound_of c.args.many.now c.args.storing.now c.requires.listed) c.args.m c.args.w c.requires.next c.in-Some.own c.in-Some.ensures c.args.least (λ up writes. false≢true (sym c.if-stores.false ∙ c.stores.ensures ∙ writes))

pub returns-then-own-least : goal.returns-then-own-least
returns-then-own-least c = own_none c.args.many.now (sound_of c.args.many.now c.args.storing.now c.requires.listed) c.args.m c.args.w c.requires.next c.in-Some.own c.in-Some.ensures c.args.least (λ up writes. let low = c.if-own-least.true in absurd (omega arith))
