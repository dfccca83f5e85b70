use Rattle.std.proofs.Common.{◌≡◌, ◌<◌, Some, length, arith, sym, subst}
use Rattle.std.specs.Prelude.{slice_get}
use Rattle.std.proofs.lemmas.Option.{slice_get-get_or}
use Rattle.rept_writing.specs.declared.list.Writing.{Writing}
use Rattle.rept_writing.specs.Hits.{Listed}
use Rattle.rept_writing.proofs.Meeting.{first_hit, meeting_at, next_met, none_hit, not_meeting}
use Rattle.rept_writing.proofs.list.StoreIndex.meeting_below.Goals as goal

pub returns-in-None : goal.returns-in-None
returns-in-None c = none_hit c.args.self.now.list (record { from = c.args.m; to = c.args.w; address = c.args.a }) c.args.k c.loop-from.from c.args.end c.loop-from.invariant.none c.in-None.ensures

pub returns-then-meets : goal.returns-then-meets
returns-then-meets c =
    let hit = c.in-Some.ensures.1 in
    let inside : c.in-Some.j < length c.self.inside.list.items = rw (← c.self.view_is) at hit.inside in
    let at = subst (λ (x : Writing). slice_get c.self.inside.list.items c.in-Some.j ≡ Some x) (sym c.index.ensures) (slice_get-get_or c.self.inside.list.items c.in-Some.j _ inside) in
    let stands = subst (λ (v : Listed). slice_get v.list c.in-Some.j ≡ Some c.index.result.now) c.self.view_is at in
    first_hit c.args.self.now.list (record { from = c.args.m; to = c.args.w; address = c.args.a }) c.args.k c.loop-from.from c.args.end c.in-Some.j c.loop-from.invariant.low c.loop-from.invariant.none c.in-Some.ensures
    (meeting_at c.args.self.now.list (record { from = c.args.m; to = c.args.w; address = c.args.a }) c.in-Some.j c.index.result.now stands (c.meets.ensures.0 c.if-meets.true))

pub loop-from-preserved : goal.loop-from-preserved
loop-from-preserved c =
    let hit = c.in-Some.ensures.1 in
    let inside : c.in-Some.j < length c.self.inside.list.items = rw (← c.self.view_is) at hit.inside in
    let at = subst (λ (x : Writing). slice_get c.self.inside.list.items c.in-Some.j ≡ Some x) (sym c.index.ensures) (slice_get-get_or c.self.inside.list.items c.in-Some.j _ inside) in
    let stands = subst (λ (v : Listed). slice_get v.list c.in-Some.j ≡ Some c.index.result.now) c.self.view_is at in
    record {
      low = omega (arith, hit.from, c.loop-from.invariant.low);
      none = next_met c.args.self.now.list (record { from = c.args.m; to = c.args.w; address = c.args.a }) c.args.k c.loop-from.from c.args.end c.in-Some.j c.loop-from.invariant.none c.in-Some.ensures
          (not_meeting c.args.self.now.list (record { from = c.args.m; to = c.args.w; address = c.args.a }) c.in-Some.j c.index.result.now c.meets.result stands c.meets.ensures.1 c.if-meets.false);
    }
