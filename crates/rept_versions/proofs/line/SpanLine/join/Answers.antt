use Rattle.std.proofs.Common.{◌≡◌, suc, ◌<◌, length, set, ap, sym, subst, ◌∙◌, arith}
use Rattle.std.specs.List.{remove}
use Rattle.rept_versions.specs.Line.{IsRising, nth, joined}
use Rattle.rept_versions.proofs.Lines.{rising_joined, length_joined}
use Rattle.rept_versions.proofs.line.SpanLine.join.Goals as goal

pub invariant_of-self : goal.invariant_of-self
invariant_of-self c =
    let ss = c.self.inside.spans.spans in
    let spans : c.remove_after.new.self.spans ≡ joined ss c.args.i = c.remove_after.ensures.spans ∙ ap (λ l. remove l (suc c.args.i)) (c.put.ensures.spans
    ∙ (ap (λ s. set ss c.args.i (record { low = s.low; high = c.after-t.result.high; value = s.value })) c.at-s.ensures
    ∙ ap (λ t. set ss c.args.i (record { low = (nth ss c.args.i).low; high = t.high; value = (nth ss c.args.i).value })) c.after-t.ensures)) in
    let lt : suc c.args.i < length ss = omega (arith, c.requires.at, ap (λ l. length l.spans) c.self.view_is) in
    subst IsRising (sym spans) (rising_joined ss c.args.i lt c.self.invariant)

pub returns-clause-len : goal.returns-clause-len
returns-clause-len c =
    let ss = c.self.inside.spans.spans in
    let spans : c.remove_after.new.self.spans ≡ joined ss c.args.i = c.remove_after.ensures.spans ∙ ap (λ l. remove l (suc c.args.i)) (c.put.ensures.spans
    ∙ (ap (λ s. set ss c.args.i (record { low = s.low; high = c.after-t.result.high; value = s.value })) c.at-s.ensures
    ∙ ap (λ t. set ss c.args.i (record { low = (nth ss c.args.i).low; high = t.high; value = (nth ss c.args.i).value })) c.after-t.ensures)) in
    let lt : suc c.args.i < length ss = omega (arith, c.requires.at, ap (λ l. length l.spans) c.self.view_is) in
    omega (arith, ap length spans, length_joined ss c.args.i lt, ap (λ l. length l.spans) c.self.view_is)

pub returns-clause-rising : goal.returns-clause-rising
returns-clause-rising c =
    let ss = c.self.inside.spans.spans in
    let spans : c.remove_after.new.self.spans ≡ joined ss c.args.i = c.remove_after.ensures.spans ∙ ap (λ l. remove l (suc c.args.i)) (c.put.ensures.spans
    ∙ (ap (λ s. set ss c.args.i (record { low = s.low; high = c.after-t.result.high; value = s.value })) c.at-s.ensures
    ∙ ap (λ t. set ss c.args.i (record { low = (nth ss c.args.i).low; high = t.high; value = (nth ss c.args.i).value })) c.after-t.ensures)) in
    let lt : suc c.args.i < length ss = omega (arith, c.requires.at, ap (λ l. length l.spans) c.self.view_is) in
    subst IsRising (sym spans) (rising_joined ss c.args.i lt c.self.invariant)
