use Rattle.std.proofs.Common.{◌≡◌, ◌-◌, ◌<◌, ◌≤◌, true, length, get_or, sym, ◌∙◌, arith}
use Rattle.std.specs.Ordering.{is_lt}
use Rattle.rept_writing.specs.Filed.{hit, hit_cmp}
use Rattle.rept_writing.proofs.Order.{between}
use Rattle.rept_writing.proofs.narrow.is_between.Goals as goal
use Rattle.rept_writing.proofs.narrow.is_between.Goals.{else-at-gt0-via-then-at-gt0+else-not-is_less, else-at-gt0-via-else-at-gt0}

pub returns-then-at-narrow-2 : goal.returns-then-at-narrow-2
returns-then-at-narrow-2 c _ =
    let bound : c.args.at ≤ length c.args.narrow.now = omega (arith, c.if-at-narrow.false) in
    let low : 0 < c.args.at → is_lt (hit_cmp (get_or c.args.narrow.now (c.args.at - 1) (hit 0 0)) c.args.sought) ≡ true = λ some. elim c.else-at-gt0.branch [
      | else-at-gt0-via-then-at-gt0+else-not-is_less w ↦ sym w.is_less.ensures ∙ w.if-not-is_less.false
      | else-at-gt0-via-else-at-gt0 w ↦ absurd (omega (arith, some, w.if-at-gt0.false))
    ] in
    (bound, between c.args.narrow.now c.args.sought c.args.at (hit 0 0) c.requires bound low (λ lt. absurd (omega (arith, lt, c.if-at-narrow-2.true))))

pub returns-else-at-narrow-2 : goal.returns-else-at-narrow-2
returns-else-at-narrow-2 c less =
    let bound : c.args.at ≤ length c.args.narrow.now = omega (arith, c.if-at-narrow.false) in
    let low : 0 < c.args.at → is_lt (hit_cmp (get_or c.args.narrow.now (c.args.at - 1) (hit 0 0)) c.args.sought) ≡ true = λ some. elim c.else-at-gt0.branch [
      | else-at-gt0-via-then-at-gt0+else-not-is_less w ↦ sym w.is_less.ensures ∙ w.if-not-is_less.false
      | else-at-gt0-via-else-at-gt0 w ↦ absurd (omega (arith, some, w.if-at-gt0.false))
    ] in
    (bound, between c.args.narrow.now c.args.sought c.args.at (hit 0 0) c.requires bound low (λ _. sym c.is_less-else-at-narrow-2.ensures ∙ less))
