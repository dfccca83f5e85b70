use Rattle.std.proofs.Common.{◌≡◌, ◌<◌, ◌^◌, Bool, List, true, ◌∙◌, ap, arith, subst, sym}
use Rattle.rept_alias.specs.Accesses.{call_hits}
use Rattle.rept_writing.specs.declared.list.Writing.{Writing}
use Rattle.rept_writing.specs.Hits.{Listed}
use Rattle.rept_writing.specs.Bounded.{AreOfKindWithin}
use Rattle.rept_writing.specs.Acting.{IsSince}
use Rattle.rept_writing.proofs.Meeting.{since_free}
use Rattle.rept_writing.proofs.Within.{none_of_kind}
use Rattle.rept_writing.proofs.list.StoreIndex.free_since.Goals as goal

pub returns-then-not-has : goal.returns-then-not-has
returns-then-not-has c =
    let small : c.args.a < 2 ^ 32 = omega arith in
    let list = c.args.self.now.list in
    let k = c.before-k.result in
    let past = c.past_hit-past.result in
    let since = c.last_before-since.result in
    let e : c.as_slice-list.result.now ≡ list = c.as_slice-list.ensures.value ∙ ap (λ (v : Listed). v.list) c.self.view_is in
    let others = subst (λ (b : Bool). IsSince list b (λ j w. j < past) since) c.self.invariant.are_others (subst (λ (xs : List Writing). IsSince xs c.self.inside.others.is_call (λ j w. j < past) since) e c.last_before-since.ensures) in
    let within = subst (λ (v : Listed). AreOfKindWithin v.list true c.self.inside.call_bounds) c.self.view_is (c.self.invariant.calls_within c.if-not-self.false) in
    let out = sym c.has.ensures ∙ c.if-not-has.true in
    λ up. since_free list c.args.number c.args.a k c.saturating_sub.result past since since (c.before-k.ensures.split up) (c.past_hit-past.ensures.past up) others (omega arith) (λ j x is kind there. absurd (none_of_kind list c.args.a small c.self.inside.call_bounds out true within j x is kind there.1))

pub returns : goal.returns
returns c =
    let list = c.args.self.now.list in
    let k = c.before-k.result in
    let past = c.past_hit-past.result in
    let e : c.as_slice-list.result.now ≡ list = c.as_slice-list.ensures.value ∙ ap (λ (v : Listed). v.list) c.self.view_is in
    let others = subst (λ (b : Bool). IsSince list b (λ j w. j < past) c.last_before-since.result) c.self.invariant.are_others (subst (λ (xs : List Writing). IsSince xs c.self.inside.others.is_call (λ j w. j < past) c.last_before-since.result) e c.last_before-since.ensures) in
    let calls = subst (λ (b : Bool). IsSince list b (λ j w. (j < k) × (call_hits w.access c.args.a ≡ true)) c.since.result) c.self.invariant.are_calls (subst (λ (xs : List Writing). IsSince xs c.self.inside.calls.is_call (λ j w. (j < k) × (call_hits w.access c.args.a ≡ true)) c.since.result) e c.since.ensures.since) in
    λ up. since_free list c.args.number c.args.a k c.saturating_sub.result past c.last_before-since.result c.since.result (c.before-k.ensures.split up) (c.past_hit-past.ensures.past up) others c.since.ensures.least calls
