use Rattle.std.proofs.Common.{◌≡◌, to_z, of_z, w32, rules}
use Rattle.rept_narrow.proofs.Placing.{store_missed}
use Rattle.rept_narrow.proofs.store.may_hit.Goals as goal

pub returns-in-Store : goal.returns-in-Store
returns-in-Store g c = λ none story run at sets bytes.
    let read : to_z w32 (of_z w32 c.in-Store.imm) ≡ c.in-Store.imm = search rules in
    store_missed story run c.args.table.now (g.B.ToldBytes.tells c.args.bytes.now) c.args.index c.args.a c.args.row.now c.in-Store.op c.in-Store.rs1 c.in-Store.rs2 c.in-Store.imm (to_z w32 (of_z w32 c.in-Store.imm)) c.store_width.result c.at-base.result c.at-source.result at c.in-Store.is c.at-base.ensures.value c.at-source.ensures.value read c.store_width.ensures.value (c.hits.ensures none) sets bytes
