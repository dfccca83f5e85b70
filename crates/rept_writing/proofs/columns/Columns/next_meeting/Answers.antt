use Rattle.std.proofs.Common.{◌≡◌, ℕ, ◌+◌, List, Some, get_or, length, arith, ◌∙◌, sym, subst}
use Rattle.std.specs.List.{Contains}
use Rattle.std.proofs.lemmas.List.{get_or_default}
use Rattle.std.proofs.lemmas.Option.{slice_get-get_or}
use Rattle.rept_writing.specs.Hits.{IsMeeting}
use Rattle.rept_writing.specs.Filed.{IsFirst}
use Rattle.rept_writing.specs.Acting.{IsSplitByActing}
use Rattle.rept_writing.proofs.Meeting.{first_met, meeting_at, none_apart, none_met}
use Rattle.rept_writing.proofs.columns.Columns.next_meeting.Goals as goal

pub returns-then-meets : goal.returns-then-meets
returns-then-meets c =
    let inside = c.requires.inside c.loop-p.p 0 (omega (arith, c.requires.as_many_firsts, c.up_to_near-end.ensures.bound)) in
    let e : get_or c.args.self.now.places.items c.loop-p.p 0 ≡ c.index-j.result.now = get_or_default c.args.self.now.places.items c.loop-p.p 0 c.index-j.result.now (omega (arith, c.requires.as_many_firsts, c.up_to_near-end.ensures.bound)) ∙ sym c.index-j.ensures in
    let met = meeting_at c.args.list.now (record { from = c.args.m; to = c.args.w; address = c.args.a }) c.index-j.result.now _ (slice_get-get_or c.args.list.now c.index-j.result.now _ (omega (arith, inside, e))) (c.meets.ensures.0 c.if-meets.true) in
    let first = first_met c.args.list.now c.args.self.now c.requires c.args.k c.args.m c.args.w c.args.a c.up_to_near-late.result c.below_near-start.result c.up_to_near-end.result
    (subst (λ (xs : List ℕ). IsSplitByActing xs (c.args.m + 1) c.up_to_near-late.result) c.as_slice.ensures.value c.up_to_near-late.ensures)
    (subst (λ (xs : List ℕ). IsSplitByActing xs c.args.k c.below_near-start.result) c.as_slice-3.ensures.value c.below_near-start.ensures)
    (subst (λ (xs : List ℕ). IsSplitByActing xs (c.args.w + 1) c.up_to_near-end.result) c.as_slice-2.ensures.value c.up_to_near-end.ensures)
    c.loop-p.p c.loop-p.invariant (omega (arith, c.max-p.ensures)) c.loop-p-test.true (subst (IsMeeting c.args.list.now (record { from = c.args.m; to = c.args.w; address = c.args.a })) (sym e) met) in
    subst (λ (h : ℕ). IsFirst (λ j. Contains c.args.self.now.places.items j × IsMeeting c.args.list.now (record { from = c.args.m; to = c.args.w; address = c.args.a }) j) c.args.k (length c.args.list.now) (Some h)) e first

pub returns-then-late-end : goal.returns-then-late-end
returns-then-late-end c =
    none_apart c.args.list.now c.args.self.now c.requires c.args.k c.args.m c.args.w c.args.a c.up_to_near-late.result c.up_to_near-end.result
    (subst (λ (xs : List ℕ). IsSplitByActing xs (c.args.m + 1) c.up_to_near-late.result) c.as_slice.ensures.value c.up_to_near-late.ensures)
    (subst (λ (xs : List ℕ). IsSplitByActing xs (c.args.w + 1) c.up_to_near-end.result) c.as_slice-2.ensures.value c.up_to_near-end.ensures)
    (omega (arith, c.if-late-end.true))

pub returns : goal.returns
returns c =
    none_met c.args.list.now c.args.self.now c.requires c.args.k c.args.m c.args.w c.args.a c.up_to_near-late.result c.below_near-start.result c.up_to_near-end.result
    (subst (λ (xs : List ℕ). IsSplitByActing xs (c.args.m + 1) c.up_to_near-late.result) c.as_slice.ensures.value c.up_to_near-late.ensures)
    (subst (λ (xs : List ℕ). IsSplitByActing xs c.args.k c.below_near-start.result) c.as_slice-3.ensures.value c.below_near-start.ensures)
    (subst (λ (xs : List ℕ). IsSplitByActing xs (c.args.w + 1) c.up_to_near-end.result) c.as_slice-2.ensures.value c.up_to_near-end.ensures)
    c.loop-p.p c.loop-p.invariant c.loop-p-test.false
