use Rattle.std.proofs.Common.{ℕ, ◌<◌, Bool, List, length, ◌∙◌, arith, subst, rules}
use Rattle.rept_writing.specs.declared.list.Writing.{Writing}
use Rattle.rept_writing.specs.Bounded.{AreBounded, AreInBounds, AreOfKindWithin}
use Rattle.rept_writing.specs.Filed.{IsFiled}
use Rattle.rept_writing.specs.Acting.{AreColumns}
use Rattle.rept_writing.proofs.Filing.{filed_sorted}
use Rattle.rept_writing.proofs.list.StoreIndex.index.Goals as goal

pub invariant_of-self : goal.invariant_of-self
invariant_of-self c = record {
  filed = filed_sorted _ _ _ _ (subst (λ (xs : List Writing). IsFiled xs c.file_all.new.narrow.items c.file_all.new.wide.items) c.as_slice.ensures.value c.file_all.ensures.filed) c.sort_unstable.ensures.permutation;
  sorted = λ _. c.sort_unstable.ensures.sorted;
  room = search rules;
  calls = λ _. subst (λ (xs : List Writing). AreColumns xs c.fill.new.self) c.as_slice-6.ensures.value c.fill.ensures.columns;
  others = λ _. subst (λ (xs : List Writing). AreColumns xs c.fill-2.new.self) c.as_slice-8.ensures.value c.fill-2.ensures.columns;
  bounded = λ _. subst (λ (xs : List Writing). AreBounded xs c.file_all.new.wide.items c.bound_all.new.blocks.items) c.as_slice-2.ensures.value (subst (λ (js : List ℕ). AreBounded c.as_slice-2.result.now js c.bound_all.new.blocks.items) c.as_slice-3.ensures.value c.bound_all.ensures);
  wide_within = λ _. subst (λ (xs : List Writing). AreInBounds xs c.file_all.new.wide.items (λ m. m < length c.file_all.new.wide.items) c.bounds_of_all-self-inside.result) c.as_slice-4.ensures.value (subst (λ (js : List ℕ). AreInBounds c.as_slice-4.result.now js (λ m. m < length js) c.bounds_of_all-self-inside.result) c.as_slice-5.ensures.value c.bounds_of_all-self-inside.ensures);
  calls_within = λ _. subst (λ (b : Bool). AreOfKindWithin c.self.inside.list.items b c.bounds-self-inside.result) (c.fill.ensures.kind ∙ c.self.invariant.are_calls) (subst (λ (xs : List Writing). AreOfKindWithin xs c.fill.new.self.is_call c.bounds-self-inside.result) c.as_slice-7.ensures.value c.bounds-self-inside.ensures);
  are_calls = c.fill.ensures.kind ∙ c.self.invariant.are_calls;
  are_others = c.fill-2.ensures.kind ∙ c.self.invariant.are_others;
  calls_room = let a = c.self.invariant.calls_room in omega (arith, a, c.fill.ensures.room);
  others_room = let a = c.self.invariant.others_room in omega (arith, a, c.fill-2.ensures.room);
}
