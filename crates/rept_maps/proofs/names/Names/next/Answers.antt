use Rattle.std.proofs.Common.{◌≡◌, ℕ, ◌-◌, suc, length, ap, arith}
use Rattle.rept_maps.specs.FileMap.{parts}
use Rattle.rept_maps.proofs.NameLemmas.{texts_after}
use Rattle.rept_maps.proofs.names.Names.next.Goals as goal

pub invariant_of-self : goal.invariant_of-self
invariant_of-self c =
    let now = c.args.self.now in
    let one : now.left ≡ suc (now.left - 1) = omega (arith, c.if-self-eq0.false) in
    let size : length (parts now.rest.now) ≡ suc (length (parts c.in_ok-named.named.after.now)) = ap length c.in_ok-named.ensures in
    record {
      enough = (let before = now.enough in omega (arith, before, size, one));
      text = texts_after (now.left - 1) now.left c.in_ok-named.named.name.now (parts c.in_ok-named.named.after.now) (parts now.rest.now) c.in_ok-named.ensures one now.text;
    }
