use Rattle.std.proofs.Common.{◌≡◌, ℕ, List, [], ◌∷◌, ◌++◌, length, sym, ap, subst, arith, length-append}
use Rattle.rept_report.specs.declared.paths.NumberWindow.{NumberWindow}
use Rattle.rept_moments.specs.Numbers.{numbers_of}
use Rattle.rept_moments.specs.Several.{seen_of}
use Rattle.rept_extents.specs.Timelines.{as_timeline}
use Rattle.rept_extents.specs.Times.{AreBegins}
use Rattle.rept_extents.specs.Extents.{AreExtents}
use Rattle.rept_extents.proofs.Acting.{extents_more}
use Rattle.rept_extents.proofs.extents.windows.Goals as goal

pub window-requires-clause-begins : goal.window-requires-clause-begins
window-requires-clause-begins c = subst (λ (xs : List ℕ). AreBegins c.args.many.now (numbers_of c.args.many.now).end xs) (sym c.as_slice.ensures.value) c.in_ok-begins.ensures.times

pub loop-row-preserved : goal.loop-row-preserved
loop-row-preserved c =
    let i = c.loop-row.invariant in
    let count = i.total in
    let longer : length c.push.new.self.items ≡ length (c.loop-row.windows.items ++ c.window.result ∷ []) = ap (λ (xs : List NumberWindow). length xs) c.in_ok-push.ensures.items in
    let all = length-append c.loop-row.windows.items (c.window.result ∷ []) in
    record {
      extents = subst (λ (xs : List NumberWindow). AreExtents (as_timeline (seen_of c.args.many.now)) xs) (sym c.in_ok-push.ensures.items) (extents_more (as_timeline (seen_of c.args.many.now)) c.loop-row.windows.items c.loop-row.row c.window.result i.total i.extents c.window.ensures);
      total = omega arith;
    }
