use Rattle.std.proofs.Common.{◌≡◌, ◌<◌, ◌^◌, ℕ, Bool, List, true, ◌∙◌, ap, arith, length, subst, sym}
use Rattle.std.specs.List.{Contains}
use Rattle.rept_writing.specs.declared.list.Writing.{Writing}
use Rattle.rept_writing.specs.Hits.{IsMeeting, Listed}
use Rattle.rept_writing.specs.Bounded.{AreOfKindWithin}
use Rattle.rept_writing.specs.Filed.{IsFirst}
use Rattle.rept_writing.specs.Acting.{AreColumns, IsAround}
use Rattle.rept_writing.proofs.Meeting.{meeting_of, sooner_meeting}
use Rattle.rept_writing.proofs.Within.{other_meeting}
use Rattle.rept_writing.proofs.list.StoreIndex.next_meeting.Goals as goal

pub returns-else-not-has : goal.returns-else-not-has
returns-else-not-has c =
    let list = c.args.self.now.list in
    let e : c.as_slice-list.result.now ≡ list = c.as_slice-list.ensures.value ∙ ap (λ (v : Listed). v.list) c.self.view_is in
    let calls = subst (λ (v : Listed). AreColumns v.list c.self.inside.calls) c.self.view_is (c.self.invariant.calls c.if-self.true) in
    let within = subst (λ (b : Bool). IsAround list b (record { from = c.args.m; to = c.args.w; address = 0 }) c.around-low.result.0 c.around-low.result.1) c.self.invariant.are_others (subst (λ (xs : List Writing). IsAround xs c.self.inside.others.is_call (record { from = c.args.m; to = c.args.w; address = 0 }) c.around-low.result.0 c.around-low.result.1) e c.around-low.ensures) in
    let other = subst (λ (n : ℕ). IsFirst (λ j. IsMeeting list (record { from = c.args.m; to = c.args.w; address = c.args.a }) j) n c.around-low.result.1 c.meeting_below-other.result) c.max.ensures c.meeting_below-other.ensures in
    let call = subst (λ (xs : List Writing). IsFirst (λ j. Contains c.self.inside.calls.places.items j × IsMeeting xs (record { from = c.args.m; to = c.args.w; address = c.args.a }) j) c.args.k (length xs) c.next_meeting-call.result) e c.next_meeting-call.ensures in
    rw c.sooner.ensures (sooner_meeting list c.self.inside.calls c.args.k c.args.m c.args.w c.args.a c.around-low.result.0 c.around-low.result.1 _ _ calls c.self.invariant.are_calls within other call)

pub returns-then-not-has : goal.returns-then-not-has
returns-then-not-has c =
    let small : c.args.a < 2 ^ 32 = omega arith in
    let list = c.args.self.now.list in
    let e : c.as_slice-list.result.now ≡ list = c.as_slice-list.ensures.value ∙ ap (λ (v : Listed). v.list) c.self.view_is in
    let calls = subst (λ (v : Listed). AreOfKindWithin v.list true c.self.inside.call_bounds) c.self.view_is (c.self.invariant.calls_within c.if-self.true) in
    let around = subst (λ (b : Bool). IsAround list b (record { from = c.args.m; to = c.args.w; address = 0 }) c.around-low.result.0 c.around-low.result.1) c.self.invariant.are_others (subst (λ (xs : List Writing). IsAround xs c.self.inside.others.is_call (record { from = c.args.m; to = c.args.w; address = 0 }) c.around-low.result.0 c.around-low.result.1) e c.around-low.ensures) in
    let other = subst (λ (n : ℕ). IsFirst (λ j. IsMeeting list (record { from = c.args.m; to = c.args.w; address = c.args.a }) j) n c.around-low.result.1 c.meeting_below-other.result) c.max.ensures c.meeting_below-other.ensures in
    let out = sym c.has.ensures ∙ c.if-not-has.true in
    other_meeting list c.args.a small c.self.inside.call_bounds out c.args.k c.args.m c.args.w c.around-low.result.0 c.around-low.result.1 c.meeting_below-other.result calls around other

pub returns-else-self : goal.returns-else-self
returns-else-self c =
    let list = c.args.self.now.list in
    let e : c.as_slice-list.result.now ≡ list = c.as_slice-list.ensures.value ∙ ap (λ (v : Listed). v.list) c.self.view_is in
    meeting_of list (record { from = c.args.m; to = c.args.w; address = c.args.a }) c.args.k c.meeting_below.result (subst (λ (xs : List Writing). IsFirst (λ j. IsMeeting list (record { from = c.args.m; to = c.args.w; address = c.args.a }) j) c.args.k (length xs) c.meeting_below.result) e c.meeting_below.ensures)
