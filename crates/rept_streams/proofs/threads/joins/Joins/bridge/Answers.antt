use Rattle.std.proofs.Common.{◌≡◌, inl, inr, Ok, List, length, reverse, set, refl, sym, subst, ap, ◌∙◌, arith}
use Rattle.std.proofs.lemmas.List.{length-reverse}
use Rattle.rept_isa.specs.declared.row.StepRow.{StepRow}
use Rattle.rept_path.specs.State.{Counts}
use Rattle.rept_path.specs.Program.{code_of}
use Rattle.rept_streams.specs.Slices.Order.{head_of}
use Rattle.rept_streams.specs.declared.threads.walks.FinishedWalk.{FinishedWalk}
use Rattle.rept_streams.specs.declared.slices.telling.StreamSlice.{StreamSlice}
use Rattle.std.specs.Prelude.{Option}
use Rattle.rept_streams.proofs.ThreadsLemmas.Joinery.{NextRan, first_walked, next_ran, there_within, there_is, set_same, leads_on, leads_nowhere, leads_fit}
use Rattle.rept_streams.proofs.threads.joins.Joins.bridge.Goals as goal

pub index_mut-kept-requires : goal.index_mut-kept-requires
index_mut-kept-requires c =
    let q = c.requires.ran in
    let all = c.args.self.now.stretches.items in
    let i = first_walked all c.args.walked.now c.in-Some.first.now q.0 q.1 q.2 c.in-Some.ensures.value in
    let lt = there_within all c.in-Some.first.now.stretch i.stretch i.there in
    let ok = c.args.self.now.stretches.ok.0 in
    omega (arith, lt, ok)

pub returns-in_default-onward-clause-ok : goal.returns-in_default-onward-clause-ok
returns-in_default-onward-clause-ok c = λ r rs a.
    let all = c.args.self.now.stretches.items in
    let i = first_walked all c.args.walked.now c.in-Some.first.now r rs a c.in-Some.ensures.value in
    let kept = c.index_mut-kept.result.now in
    let kept_is : kept ≡ i.stretch = c.index_mut-kept.ensures.value ∙ there_is all c.in-Some.first.now.stretch i.stretch _ i.there in
    let n = subst (λ (o : Option StreamSlice). NextRan o (head_of rs)) (sym c.second.ensures) (next_ran all c.args.walked.now r rs a) in
    leads_nowhere c.args.self.now c.args.pc all c.in-Some.first.now r i kept kept_is c.second.result (head_of rs) n (sym c.onward.ensures ∙ c.in_default-onward.is) ∙ ap (λ (xs : List StepRow). Ok (reverse xs)) (sym c.new-in_default-onward.ensures)

pub returns-in_default-onward-clause-count : goal.returns-in_default-onward-clause-count
returns-in_default-onward-clause-count c =
    let q = c.requires.ran in
    let all = c.args.self.now.stretches.items in
    let i = first_walked all c.args.walked.now c.in-Some.first.now q.0 q.1 q.2 c.in-Some.ensures.value in
    let kept = c.index_mut-kept.result.now in
    let kept_is : kept ≡ i.stretch = c.index_mut-kept.ensures.value ∙ there_is all c.in-Some.first.now.stretch i.stretch _ i.there in
    let none = ap (length {A = StepRow}) c.new-in_default-onward.ensures in
    record { program = refl; packets = refl; stretches = ap (set all c.in-Some.first.now.stretch) kept_is ∙ set_same all c.in-Some.first.now.stretch i.stretch i.there; count = omega (arith, none) }

pub cross-requires-clause-walk : goal.cross-requires-clause-walk
cross-requires-clause-walk c =
    let q = c.requires.ran in
    let all = c.args.self.now.stretches.items in
    let i = first_walked all c.args.walked.now c.in-Some.first.now q.0 q.1 q.2 c.in-Some.ensures.value in
    let kept_is : c.index_mut-kept.result.now ≡ i.stretch = c.index_mut-kept.ensures.value ∙ there_is all c.in-Some.first.now.stretch i.stretch _ i.there in
    subst (λ (k : FinishedWalk). Counts k.walk) (sym kept_is) i.counts

pub cross-requires-clause-empty : goal.cross-requires-clause-empty
cross-requires-clause-empty c =
    let q = c.requires.ran in
    let all = c.args.self.now.stretches.items in
    let i = first_walked all c.args.walked.now c.in-Some.first.now q.0 q.1 q.2 c.in-Some.ensures.value in
    let kept_is : c.index_mut-kept.result.now ≡ i.stretch = c.index_mut-kept.ensures.value ∙ there_is all c.in-Some.first.now.stretch i.stretch _ i.there in
    ap (λ (k : FinishedWalk). k.walk.steps) kept_is ∙ i.empty

pub returns-in-Err-clause-err : goal.returns-in-Err-clause-err
returns-in-Err-clause-err c = λ r rs a.
    let all = c.args.self.now.stretches.items in
    let i = first_walked all c.args.walked.now c.in-Some.first.now r rs a c.in-Some.ensures.value in
    let kept = c.index_mut-kept.result.now in
    let kept_is : kept ≡ i.stretch = c.index_mut-kept.ensures.value ∙ there_is all c.in-Some.first.now.stretch i.stretch _ i.there in
    let n = subst (λ (o : Option StreamSlice). NextRan o (head_of rs)) (sym c.second.ensures) (next_ran all c.args.walked.now r rs a) in
    let same = leads_on c.args.self.now c.args.pc all c.in-Some.first.now r i kept kept_is c.saturating_sub-room.result c.in-Some-onward.lead c.second.result (head_of rs) n c.saturating_sub-room.ensures (sym c.onward.ensures ∙ c.in-Some-onward.is) in
    elim c.in-Err.ensures.err [ inl m ↦ inl m | inr e ↦ inr (sym same ∙ e) ]

pub returns-clause-ok : goal.returns-clause-ok
returns-clause-ok c = λ r rs a.
    let all = c.args.self.now.stretches.items in
    let i = first_walked all c.args.walked.now c.in-Some.first.now r rs a c.in-Some.ensures.value in
    let kept = c.index_mut-kept.result.now in
    let kept_is : kept ≡ i.stretch = c.index_mut-kept.ensures.value ∙ there_is all c.in-Some.first.now.stretch i.stretch _ i.there in
    let n = subst (λ (o : Option StreamSlice). NextRan o (head_of rs)) (sym c.second.ensures) (next_ran all c.args.walked.now r rs a) in
    let same = leads_on c.args.self.now c.args.pc all c.in-Some.first.now r i kept kept_is c.saturating_sub-room.result c.in-Some-onward.lead c.second.result (head_of rs) n c.saturating_sub-room.ensures (sym c.onward.ensures ∙ c.in-Some-onward.is) in
    sym same ∙ c.in-Ok.ensures.ok

pub returns-clause-count : goal.returns-clause-count
returns-clause-count c =
    let q = c.requires.ran in
    let all = c.args.self.now.stretches.items in
    let i = first_walked all c.args.walked.now c.in-Some.first.now q.0 q.1 q.2 c.in-Some.ensures.value in
    let kept = c.index_mut-kept.result.now in
    let kept_is : kept ≡ i.stretch = c.index_mut-kept.ensures.value ∙ there_is all c.in-Some.first.now.stretch i.stretch _ i.there in
    let len = c.len.ensures.value in
    record { program = refl; packets = refl; stretches = ap (set all c.in-Some.first.now.stretch) (c.in-Ok.ensures.same ∙ kept_is) ∙ set_same all c.in-Some.first.now.stretch i.stretch i.there; count = omega (arith, len) }

pub returns-clause-few : goal.returns-clause-few
returns-clause-few c =
    let fits = leads_fit (code_of c.args.self.now.program) c.in-Some-onward.lead c.index_mut-kept.result.now c.saturating_sub-room.result (reverse c.in-Ok.more) c.in-Ok.ensures.ok in
    let size = length-reverse c.in-Ok.more in
    let room = c.saturating_sub-room.ensures in
    let few = c.requires.few in
    omega (arith, fits, size, room, few)
