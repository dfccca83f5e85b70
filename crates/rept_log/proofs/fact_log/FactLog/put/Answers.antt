use Rattle.std.proofs.Common.{refl}
use Rattle.std.proofs.lemmas.Bool.{false≢true}
use Rattle.rept_log.proofs.Telling.{told_other, told_here, is_told}
use Rattle.rept_log.proofs.fact_log.FactLog.put.Goals as goal

pub byte_below-byte-requires : goal.byte_below-byte-requires
byte_below-byte-requires g c = is_told c.args.self.now.log c.args.place c.entry-fact.result c.entry-fact.ensures c.args.end c.args.a c.args.bytes.now.items c.requires.told (c.if-is_on.ensures.0 refl).0

pub returns-then-is_on : goal.returns-then-is_on
returns-then-is_on g c =
    let on = c.if-is_on.ensures.0 refl in
    told_here c.args.self.now.log c.args.place c.entry-fact.result c.entry-fact.ensures c.args.end c.args.a c.args.bytes.now.items c.requires.told c.byte_below-byte.result on.0 on.1 c.byte_below-byte.ensures

pub returns-else-is_on : goal.returns-else-is_on
returns-else-is_on g c = told_other c.args.self.now.log c.args.place c.entry-fact.result c.entry-fact.ensures c.args.end c.args.a c.args.bytes.now.items c.requires.told (λ on. false≢true (c.if-is_on.ensures.1 on))
