use Rattle.std.proofs.Common.{◌≡◌, ◌<◌, ℕ, List, get_or, length, subst}
use Rattle.rept_writing.specs.declared.list.Writing.{Writing}
use Rattle.rept_writing.specs.Acting.{MayActAs}
use Rattle.rept_writing.proofs.Bounding.{bounded_replaced}
use Rattle.rept_writing.proofs.Keeping.{filed_replaced}
use Rattle.rept_writing.proofs.Passing.{contains_at}
use Rattle.rept_writing.proofs.Rising.{columns_replaced}
use Rattle.rept_writing.proofs.Within.{calls_replaced, within_replaced}
use Rattle.rept_writing.proofs.list.StoreIndex.replace.Goals as goal

pub invariant_of-self : goal.invariant_of-self
invariant_of-self c =
    let inside : c.args.k < length c.self.inside.list.items = rw (← c.self.view_is) at c.requires in
    let may_act = subst (λ (x : Writing). MayActAs x c.args.writing) c.index.ensures (c.may_act_as.ensures c.if-not-may_act_as.false) in
    let place = c.in-Some.place in
    let at = subst (λ (xs : List ℕ). (place < length xs) × (get_or xs place 0 ≡ c.args.k)) c.as_slice.ensures.value c.in-Some.ensures in
    record {
      filed = filed_replaced c.self.inside.list.items c.self.inside.narrow.items c.self.inside.wide.items c.args.k c.args.writing (contains_at c.self.inside.wide.items place c.args.k at.0 at.1) c.self.invariant.filed;
      sorted = c.self.invariant.sorted;
      room = c.self.invariant.room;
      calls = λ on. columns_replaced c.self.inside.list.items c.args.k c.index.result.now c.args.writing c.self.inside.calls inside may_act (c.self.invariant.calls on);
      others = λ on. columns_replaced c.self.inside.list.items c.args.k c.index.result.now c.args.writing c.self.inside.others inside may_act (c.self.invariant.others on);
      bounded = λ on. bounded_replaced c.self.inside.list.items c.self.inside.narrow.items c.self.inside.wide.items c.args.k place c.args.writing _ _ inside at c.self.invariant.filed c.widen.ensures (c.self.invariant.bounded on);
      wide_within = λ on. within_replaced c.self.inside.list.items c.args.k c.args.writing inside c.self.inside.wide.items c.self.inside.wide_bounds c.with_row-self-inside.result c.with_row-self-inside.ensures (c.self.invariant.wide_within on);
      calls_within = λ on. calls_replaced c.self.inside.list.items c.args.k c.args.writing inside c.self.inside.call_bounds c.with_call-self-inside.result c.with_call-self-inside.ensures.call c.with_call-self-inside.ensures.other (c.self.invariant.calls_within on);
      are_calls = c.self.invariant.are_calls;
      are_others = c.self.invariant.are_others;
      calls_room = c.self.invariant.calls_room;
      others_room = c.self.invariant.others_room;
    }
