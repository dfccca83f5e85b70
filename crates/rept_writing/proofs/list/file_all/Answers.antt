use Rattle.std.proofs.Common.{◌≡◌, ◌∙◌, List, length, refl, arith, subst}
use Rattle.std.proofs.lemmas.List.{length-take-le}
use Rattle.std.specs.Vec.{vec_len}
use Rattle.rept_writing.specs.declared.list.Writing.{Writing}
use Rattle.rept_writing.specs.Filed.{IsFiled}
use Rattle.rept_writing.proofs.Keeping.{filed_none, filed_next, take_all}
use Rattle.rept_writing.proofs.list.file_all.Goals as goal

pub loop-k-init : goal.loop-k-init
loop-k-init c = record { filed = rw (c.requires.none, c.requires.clear) filed_none; capacity = refl }

pub file-requires : goal.file-requires
file-requires c =
    let few = c.loop-k.invariant.filed.few in
    let long = length-take-le c.loop-k.k c.args.list.now (omega arith) in
    let len : vec_len c.loop-k.wide ≡ length c.loop-k.wide.items = c.loop-k.wide.ok.0 in
    let room = c.requires.room in
    let same = c.loop-k.invariant.capacity in
    omega (arith, few, long, len, room, same)

pub loop-k-preserved : goal.loop-k-preserved
loop-k-preserved c = record {
  filed = filed_next c.args.list.now c.loop-k.k _ c.loop-k.narrow.items c.file.new.narrow.items c.loop-k.wide.items c.file.new.wide.items (omega arith) c.loop-k.invariant.filed c.file.ensures.filed;
  capacity = c.file.ensures.capacity ∙ c.loop-k.invariant.capacity;
}

pub returns-clause-filed : goal.returns-clause-filed
returns-clause-filed c = subst (λ (xs : List Writing). IsFiled xs c.loop-k.narrow.items c.loop-k.wide.items) (take_all c.loop-k.k c.args.list.now (omega arith)) c.loop-k.invariant.filed
