use Rattle.std.proofs.Common.{◌++◌, ◌∷◌, ◌∙◌, [], List, ap, append_assoc, map, take, sym}
use Rattle.std.proofs.lemmas.List.{append-nil}
use Rattle.rept_steps.specs.declared.slice.Slice.{Slice}
use Rattle.rept_streams.specs.Runs.Calls.{later_by}
use Rattle.rept_streams.proofs.RunsLemmas.Adding.{later_more}
use Rattle.rept_streams.proofs.runs.calls.add_slices.Goals as goal

pub loop-slice-init : goal.loop-slice-init
loop-slice-init c = λ n taken few. sym (append-nil c.args.slices.now)

pub loop-slice-preserved : goal.loop-slice-preserved
loop-slice-preserved c = λ n taken few.
    let own = c.args.own.now in
    let old = c.args.slices.now in
    let i = c.loop-slice.slice-index in
    let x = c.later.result in
    let before = map (later_by c.args.places) (take i own) in
    let more = later_more _ own i c.args.places n x c.loop-slice-test.true taken few c.later.ensures in
    c.in_ok-add_slice.ensures.ok ∙ ap (λ (xs : List Slice). xs ++ x ∷ []) (c.loop-slice.invariant n taken few) ∙ append_assoc old before (x ∷ []) ∙ ap (λ (xs : List Slice). old ++ xs) more
