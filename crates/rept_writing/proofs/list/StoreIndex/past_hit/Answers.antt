use Rattle.std.proofs.Common.{◌≡◌, ◌<◌, ◌≤◌, ◌^◌, ℕ, List, length, true, arith, subst, sym, ◌∙◌}
use Rattle.std.specs.List.{Contains}
use Rattle.rept_writing.specs.declared.list.Writing.{Writing}
use Rattle.rept_writing.specs.declared.narrow.Hit.{Hit}
use Rattle.rept_writing.specs.Hits.{hits_at}
use Rattle.rept_writing.specs.Filed.{IsPast, hit}
use Rattle.rept_writing.proofs.Filing.{past_filed}
use Rattle.rept_writing.proofs.Going.{past_bound}
use Rattle.rept_writing.proofs.Numbers.{past_row}
use Rattle.rept_writing.proofs.Within.{past_narrowed}
use Rattle.rept_writing.proofs.list.StoreIndex.past_hit.Goals as goal

pub returns-else-not-has : goal.returns-else-not-has
returns-else-not-has c =
    let small : c.args.a < 2 ^ 32 = omega arith in
    let list = c.self.inside.list.items in
    let k = c.before-k.result in
    let narrow = subst (λ (xs : List Hit). IsPast (λ j. Contains xs (hit c.args.a j)) 0 k c.past_narrow-narrow.result) c.as_slice.ensures.value c.past_narrow-narrow.ensures in
    let rows = subst (λ (xs : List Writing). IsPast (λ j. Contains c.as_slice-then-self.result.now j × (hits_at xs j c.args.a ≡ true)) c.args.low k c.past_wide-wide.result) c.as_slice-list.ensures.value c.past_wide-wide.ensures in
    let wide = subst (λ (xs : List ℕ). IsPast (λ j. Contains xs j × (hits_at list j c.args.a ≡ true)) c.args.low k c.past_wide-wide.result) c.as_slice-then-self.ensures.value rows in
    let past = past_filed list c.self.inside.narrow.items c.self.inside.wide.items c.args.low k c.args.a _ _ c.self.invariant.filed small narrow wide in
    let low : c.args.low ≤ length list = rw (← c.self.view_is) at c.requires in
    let bound : k ≤ length list = rw (← c.self.view_is) at c.before-k.ensures.bound in
    let split = rw (← c.self.view_is) at c.before-k.ensures.split in
    rw (c.max-then-self-2.ensures, c.max-then-self.ensures, ← c.self.view_is) (record {
      bound = past_bound (λ j. hits_at list j c.args.a ≡ true) c.args.low k _ (length list) low bound past;
      past = λ up. past_row list c.args.low c.args.number k c.args.a _ (split up) past;
    })

pub returns-then-not-has : goal.returns-then-not-has
returns-then-not-has c =
    let small : c.args.a < 2 ^ 32 = omega arith in
    let list = c.self.inside.list.items in
    let k = c.before-k.result in
    let narrow = subst (λ (xs : List Hit). IsPast (λ j. Contains xs (hit c.args.a j)) 0 k c.past_narrow-narrow.result) c.as_slice.ensures.value c.past_narrow-narrow.ensures in
    let out = sym c.has.ensures ∙ c.if-not-has.true in
    let past = past_narrowed list c.args.a small c.self.inside.wide_bounds out c.self.inside.narrow.items c.self.inside.wide.items c.args.low k _ c.self.invariant.filed (c.self.invariant.wide_within c.if-self.true) narrow in
    let low : c.args.low ≤ length list = rw (← c.self.view_is) at c.requires in
    let bound : k ≤ length list = rw (← c.self.view_is) at c.before-k.ensures.bound in
    let split = rw (← c.self.view_is) at c.before-k.ensures.split in
    rw (c.max.ensures, ← c.self.view_is) (record {
      bound = past_bound (λ j. hits_at list j c.args.a ≡ true) c.args.low k _ (length list) low bound past;
      past = λ up. past_row list c.args.low c.args.number k c.args.a _ (split up) past;
    })

pub returns-else-self : goal.returns-else-self
returns-else-self c =
    let list = c.self.inside.list.items in
    let k = c.before-k.result in
    let past = subst (λ (xs : List Writing). IsPast (λ j. hits_at xs j c.args.a ≡ true) c.args.low k c.scan_back.result) c.as_slice-list.ensures.value c.scan_back.ensures in
    let low : c.args.low ≤ length list = rw (← c.self.view_is) at c.requires in
    let bound : k ≤ length list = rw (← c.self.view_is) at c.before-k.ensures.bound in
    let split = rw (← c.self.view_is) at c.before-k.ensures.split in
    rw (← c.self.view_is) (record {
      bound = past_bound (λ j. hits_at list j c.args.a ≡ true) c.args.low k _ (length list) low bound past;
      past = λ up. past_row list c.args.low c.args.number k c.args.a _ (split up) past;
    })
