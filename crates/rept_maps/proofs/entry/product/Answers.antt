use Rattle.std.proofs.Common.{ℕ, ◌+◌, ◌*◌, ◌^◌, ◌<◌, ◌≤◌, arith}
use Rattle.std.proofs.lemmas.Nat.{mul-le}
use Rattle.rept_maps.proofs.entry.product.Goals as goal

pub returns-clause-small : goal.returns-clause-small
returns-clause-small c =
    let most : c.from.result * c.from-2.result ≤ 4294967295 * 4294967295 = mul-le c.from.result c.from-2.result 4294967295 4294967295 (omega arith) (omega arith) in
    omega arith
