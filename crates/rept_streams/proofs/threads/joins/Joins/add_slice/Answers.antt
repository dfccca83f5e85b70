use Rattle.std.proofs.Common.{◌≡◌, ◌++◌, List, length, reverse, take, drop, sym, subst, ap, ◌∙◌, arith}
use Rattle.std.proofs.lemmas.List.{length-reverse, reverse-reverse}
use Rattle.std.specs.Prelude.{option_map}
use Rattle.rept_streams.specs.Slices.Stamps.{clock_of}
use Rattle.rept_streams.specs.declared.slices.telling.StreamSlice.{StreamSlice}
use Rattle.rept_isa.specs.declared.row.StepRow.{StepRow}
use Rattle.rept_streams.specs.Slices.Order.{head_of}
use Rattle.rept_streams.specs.declared.threads.walks.FinishedWalk.{FinishedWalk}
use Rattle.rept_streams.proofs.ThreadsLemmas.Joinery.{first_walked, next_ran, next_clock, there_within, there_is, slice_added, goes_to}
use Rattle.rept_steps.specs.Linked.{EndBefore}
use Rattle.rept_streams.specs.Slices.Stamps.{address_of}
use Rattle.rept_streams.specs.Threads.Linking.{GoesFromTo, onward_to}
use Rattle.rept_streams.specs.Threads.Joining.{ending_of}
use Rattle.rept_streams.proofs.ThreadsLemmas.Leading.{ends_on}
use Rattle.rept_streams.proofs.ThreadsLemmas.Bridging.{target, bridge_goes, ready_of}
use Rattle.rept_streams.proofs.threads.joins.Joins.add_slice.Goals as goal

pub index-requires : goal.index-requires
index-requires c =
    let q = c.requires.ran in
    let all = c.args.self.now.stretches.items in
    let i = first_walked all c.args.walked.now c.in-Some.slice.now q.0 q.1 q.2 c.in-Some.ensures.value in
    let lt = there_within all c.in-Some.slice.now.stretch i.stretch i.there in
    let ok = c.args.self.now.stretches.ok.0 in
    omega (arith, lt, ok)

pub part-rows-requires : goal.part-rows-requires
part-rows-requires c =
    let q = c.requires.ran in
    let all = c.args.self.now.stretches.items in
    let i = first_walked all c.args.walked.now c.in-Some.slice.now q.0 q.1 q.2 c.in-Some.ensures.value in
    let kept_is : c.index.result.now ≡ i.stretch = c.index.ensures ∙ there_is all c.in-Some.slice.now.stretch i.stretch _ i.there in
    let rows = ap (length {A = StepRow}) (c.rows-rows.ensures.list ∙ ap (λ (k : FinishedWalk). k.rows) kept_is) in
    let fits = i.fits in
    omega (arith, rows, fits)

pub returns-clause-ok : goal.returns-clause-ok
returns-clause-ok c = λ r rs a.
    let all = c.args.self.now.stretches.items in
    let slice = c.in-Some.slice.now in
    let i = first_walked all c.args.walked.now slice r rs a c.in-Some.ensures.value in
    let kept_is : c.index.result.now ≡ i.stretch = c.index.ensures ∙ there_is all slice.stretch i.stretch _ i.there in
    let own : c.part-rows.result.now ≡ r.rows = c.part-rows.ensures ∙ ap (λ (xs : List StepRow). take slice.count (drop slice.first xs)) (c.rows-rows.ensures.list ∙ ap (λ (k : FinishedWalk). k.rows) kept_is) ∙ i.rows in
    let b = c.in-Ok.ensures.ok r rs a in
    let steps : c.add_rows-2.new.steps ≡ (c.args.thread.now.steps ++ r.rows) ++ c.in-Ok.more =
    c.in_ok-add_rows-2.ensures.ok ∙ ap (λ (xs : List StepRow). c.add_rows.new.steps ++ xs) c.rows.ensures.list ∙ ap (λ (xs : List StepRow). xs ++ c.in-Ok.more) (c.in_ok-add_rows.ensures.ok ∙ ap (λ (xs : List StepRow). c.args.thread.now.steps ++ xs) own) in
    let n = next_clock _ (head_of rs) (next_ran all c.args.walked.now r rs a) in
    let back = length-reverse c.in-Ok.more in
    let count = c.in-Ok.ensures.count in
    let few = c.in-Ok.ensures.few in
    let first = c.len-first.ensures.value in
    let len = c.len.ensures.value in (
      reverse c.in-Ok.more,
      b,
      goes_to c.args.self.now c.bridge.new.self _ _ count (let m = count.count in omega (arith, m, back)),
      omega (arith, few, back),
      slice_added c.args.thread.now r rs c.in-Ok.more c.add_rows-2.new.steps c.push.new.self c.slice_of-slice.result _ c.len-first.result c.len.result steps first (len ∙ ap (length {A = StepRow}) steps) (c.slice_of-slice.ensures r.told i.told) (ap (option_map (λ (e : StreamSlice). clock_of e.start)) c.second.ensures ∙ n) c.in_default-push.ensures.ok,
    )

pub add_rows-requires : goal.add_rows-requires
add_rows-requires c =
    let q = c.requires.ran in
    let all = c.args.self.now.stretches.items in
    let slice = c.in-Some.slice.now in
    let i = first_walked all c.args.walked.now slice q.0 q.1 q.2 c.in-Some.ensures.value in
    let kept_is : c.index.result.now ≡ i.stretch = c.index.ensures ∙ there_is all slice.stretch i.stretch _ i.there in
    let own : c.part-rows.result.now ≡ (q.0).rows = c.part-rows.ensures ∙ ap (λ (xs : List StepRow). take slice.count (drop slice.first xs)) (c.rows-rows.ensures.list ∙ ap (λ (k : FinishedWalk). k.rows) kept_is) ∙ i.rows in
    (address_of (q.0).told.start, onward_to q.0 (head_of q.1), q.3, subst (λ (xs : List StepRow). GoesFromTo xs (address_of (q.0).told.start) (onward_to q.0 (head_of q.1))) (sym own) q.4)

pub add_rows-requires-2 : goal.add_rows-requires-2
add_rows-requires-2 c =
    let q = c.requires.ran in
    let all = c.args.self.now.stretches.items in
    let slice = c.in-Some.slice.now in
    let i = first_walked all c.args.walked.now slice q.0 q.1 q.2 c.in-Some.ensures.value in
    let kept_is : c.index.result.now ≡ i.stretch = c.index.ensures ∙ there_is all slice.stretch i.stretch _ i.there in
    let own : c.part-rows.result.now ≡ (q.0).rows = c.part-rows.ensures ∙ ap (λ (xs : List StepRow). take slice.count (drop slice.first xs)) (c.rows-rows.ensures.list ∙ ap (λ (k : FinishedWalk). k.rows) kept_is) ∙ i.rows in
    let steps : c.add_rows.new.steps ≡ c.args.thread.now.steps ++ (q.0).rows = c.in_ok-add_rows.ensures.ok ∙ ap (λ (xs : List StepRow). c.args.thread.now.steps ++ xs) own in
    let e = ending_of c.args.self.now c.args.pc in
    let goes = bridge_goes e c.args.self.now.count q.0 (head_of q.1) (reverse c.in-Ok.more) (c.in-Ok.ensures.ok q.0 q.1 q.2) in
    let more : GoesFromTo c.rows.result.now (onward_to q.0 (head_of q.1)) (target e (head_of q.1)) = subst (λ (xs : List StepRow). GoesFromTo xs (onward_to q.0 (head_of q.1)) (target e (head_of q.1))) (reverse-reverse c.in-Ok.more ∙ sym c.rows.ensures.list) goes in
    let ends = ends_on c.args.thread.now.steps (q.0).rows (address_of (q.0).told.start) (onward_to q.0 (head_of q.1)) q.3 q.4 in
    (onward_to q.0 (head_of q.1), target e (head_of q.1), subst (λ (xs : List StepRow). EndBefore xs (onward_to q.0 (head_of q.1))) (sym steps) ends, more)

pub returns-clause-ready : goal.returns-clause-ready
returns-clause-ready c = λ r rs a end goes_own.
    let all = c.args.self.now.stretches.items in
    let slice = c.in-Some.slice.now in
    let i = first_walked all c.args.walked.now slice r rs a c.in-Some.ensures.value in
    let kept_is : c.index.result.now ≡ i.stretch = c.index.ensures ∙ there_is all slice.stretch i.stretch _ i.there in
    let own : c.part-rows.result.now ≡ r.rows = c.part-rows.ensures ∙ ap (λ (xs : List StepRow). take slice.count (drop slice.first xs)) (c.rows-rows.ensures.list ∙ ap (λ (k : FinishedWalk). k.rows) kept_is) ∙ i.rows in
    let steps : c.add_rows-2.new.steps ≡ (c.args.thread.now.steps ++ r.rows) ++ c.in-Ok.more =
    c.in_ok-add_rows-2.ensures.ok ∙ ap (λ (xs : List StepRow). c.add_rows.new.steps ++ xs) c.rows.ensures.list ∙ ap (λ (xs : List StepRow). xs ++ c.in-Ok.more) (c.in_ok-add_rows.ensures.ok ∙ ap (λ (xs : List StepRow). c.args.thread.now.steps ++ xs) own) in
    let e = ending_of c.args.self.now c.args.pc in
    let goes = bridge_goes e c.args.self.now.count r (head_of rs) (reverse c.in-Ok.more) (c.in-Ok.ensures.ok r rs a) in
    let more : GoesFromTo c.in-Ok.more (onward_to r (head_of rs)) (target e (head_of rs)) = subst (λ (xs : List StepRow). GoesFromTo xs (onward_to r (head_of rs)) (target e (head_of rs))) (reverse-reverse c.in-Ok.more) goes in
    let ends = ends_on (c.args.thread.now.steps ++ r.rows) c.in-Ok.more (onward_to r (head_of rs)) (target e (head_of rs)) (ends_on c.args.thread.now.steps r.rows (address_of r.told.start) (onward_to r (head_of rs)) end goes_own) more in
    ready_of e (head_of rs) c.add_rows-2.new.steps (subst (λ (xs : List StepRow). EndBefore xs (target e (head_of rs))) (sym steps) ends)
