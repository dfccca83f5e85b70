use Rattle.std.proofs.Common.{◌≡◌, ◌<◌, ◌^◌, ℕ, List, true, arith, subst, sym, ◌∙◌}
use Rattle.std.specs.List.{Contains}
use Rattle.rept_writing.specs.declared.list.Writing.{Writing}
use Rattle.rept_writing.specs.declared.narrow.Hit.{Hit}
use Rattle.rept_writing.specs.Hits.{hits_at}
use Rattle.rept_writing.specs.Filed.{IsFirst, hit}
use Rattle.rept_writing.proofs.Filing.{first_filed, next}
use Rattle.rept_writing.proofs.Within.{first_narrow}
use Rattle.rept_writing.proofs.list.StoreIndex.next_hit.Goals as goal

pub returns-else-not-has : goal.returns-else-not-has
returns-else-not-has c =
    let small : c.args.a < 2 ^ 32 = omega arith in
    let list = c.self.inside.list.items in
    let narrow = subst (λ (xs : List Hit). IsFirst (λ j. Contains xs (hit c.args.a j)) c.args.k c.args.end c.next_narrow-narrow.result) c.as_slice.ensures.value c.next_narrow-narrow.ensures in
    let rows = subst (λ (xs : List Writing). IsFirst (λ j. Contains c.as_slice-then-self.result.now j × (hits_at xs j c.args.a ≡ true)) c.args.k c.unwrap_or.result c.next_wide-wide.result) c.as_slice-list.ensures.value c.next_wide-wide.ensures in
    let wide = subst (λ (xs : List ℕ). IsFirst (λ j. Contains xs j × (hits_at list j c.args.a ≡ true)) c.args.k c.unwrap_or.result c.next_wide-wide.result) c.as_slice-then-self.ensures.value rows in
    let before = subst (λ (n : ℕ). IsFirst (λ j. Contains c.self.inside.wide.items j × (hits_at list j c.args.a ≡ true)) c.args.k n c.next_wide-wide.result) c.unwrap_or.ensures wide in
    rw (c.sooner.ensures, ← c.self.view_is) (first_filed list c.self.inside.narrow.items c.self.inside.wide.items c.args.k c.args.end c.args.a _ _ c.self.invariant.filed small narrow before)

pub returns-then-not-has : goal.returns-then-not-has
returns-then-not-has c =
    let small : c.args.a < 2 ^ 32 = omega arith in
    let narrow = subst (λ (xs : List Hit). IsFirst (λ j. Contains xs (hit c.args.a j)) c.args.k c.args.end c.next_narrow-narrow.result) c.as_slice.ensures.value c.next_narrow-narrow.ensures in
    let out = sym c.has.ensures ∙ c.if-not-has.true in
    rw (← c.self.view_is) (first_narrow c.self.inside.list.items c.args.a small c.self.inside.wide_bounds out c.self.inside.narrow.items c.self.inside.wide.items c.args.k c.args.end c.next_narrow-narrow.result c.self.invariant.filed (c.self.invariant.wide_within c.if-self.true) narrow)

pub returns-else-self : goal.returns-else-self
returns-else-self c =
    let rows = subst (λ (xs : List Writing). IsFirst (λ j. hits_at xs j c.args.a ≡ true) c.args.k c.args.end c.scan.result) c.as_slice-list.ensures.value c.scan.ensures in
    rw (← c.self.view_is) (next c.self.inside.list.items c.args.k c.args.end c.args.a _ rows)
