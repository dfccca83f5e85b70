use Rattle.std.proofs.Common.{◌≡◌, ◌<◌, false, length, sym, subst, slice_index_or}
use Rattle.rept_report.specs.Nearest.Reached.{Reached}
use Rattle.rept_report.proofs.NearestLemmas.Reaching.{added}
use Rattle.rept_report.proofs.nearest.reach.Reach.add.Goals as goal

pub invariant_of-self : goal.invariant_of-self
invariant_of-self c =
    let lt : c.args.number < length c.self.inside.marks.items = subst (λ (x : Reached). c.args.number < x.bound) (sym c.self.view_is) c.requires in
    let free : slice_index_or c.self.inside.marks.items c.args.number false ≡ false = sym (rw c.if-index.false at c.index.ensures) in
    rw (c.push_reserved.ensures.items, c.push_reserved.ensures.capacity) (added c.self.inside.marks.items c.self.inside.list.items _ c.args.number lt free c.self.invariant)
