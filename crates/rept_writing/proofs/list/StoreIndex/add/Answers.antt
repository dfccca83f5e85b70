use Rattle.std.proofs.Common.{◌≡◌, ℕ, subst, inl, inr, ◌∙◌, arith, length}
use Rattle.std.specs.Vec.{vec_len}
use Rattle.rept_writing.specs.Filed.{IsKeptByAddress}
use Rattle.rept_writing.proofs.Keeping.{filed_narrow, filed_wide}
use Rattle.rept_writing.proofs.list.StoreIndex.add.Goals as goal

pub invariant_of-self : goal.invariant_of-self
invariant_of-self c = let len : vec_len c.self.inside.list ≡ length c.self.inside.list.items = c.self.inside.list.ok.0 in record {
  filed = rw (c.push_reserved.ensures.items) (elim c.file.ensures.filed [
    | inl (kept, same) ↦ rw same (filed_narrow c.self.inside.list.items c.self.inside.narrow.items c.file.new.narrow.items c.self.inside.wide.items c.args.writing c.self.invariant.filed (subst (λ (j : ℕ). IsKeptByAddress c.args.writing.access j c.self.inside.narrow.items c.file.new.narrow.items) (c.len-index.ensures ∙ len) kept))
    | inr (same, wide) ↦ rw (same, wide, c.len-index.ensures, len) (filed_wide c.self.inside.list.items c.self.inside.narrow.items c.self.inside.wide.items c.args.writing c.self.invariant.filed)
  ]);
  sorted = λ e. absurd (cc);
  room = let a = c.self.invariant.room in omega (arith, a, c.file.ensures.capacity, c.push_reserved.ensures.capacity);
  calls = λ e. absurd (cc);
  others = λ e. absurd (cc);
  bounded = λ e. absurd (cc);
  wide_within = λ e. absurd (cc);
  calls_within = λ e. absurd (cc);
  are_calls = c.self.invariant.are_calls;
  are_others = c.self.invariant.are_others;
  calls_room = let a = c.self.invariant.calls_room in omega (arith, a, c.push_reserved.ensures.capacity);
  others_room = let a = c.self.invariant.others_room in omega (arith, a, c.push_reserved.ensures.capacity);
}
