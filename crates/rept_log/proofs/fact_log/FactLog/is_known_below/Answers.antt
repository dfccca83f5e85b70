use Rattle.std.proofs.Common.{◌≤◌, ◌<◌, Some, None, sym, subst, arith}
use Rattle.rept_log.specs.Known.{Held}
use Rattle.rept_log.proofs.Indexing.{read_place, in_table, known_nowhere, known_in_place}
use Rattle.rept_log.proofs.fact_log.FactLog.is_known_below.Goals as goal

pub returns-in-None : goal.returns-in-None
returns-in-None g c =
    let early : c.args.point ≤ c.self.inside.last = subst (λ (x : Held g.row.B.Denot). c.args.point ≤ x.last) (sym c.self.view_is) c.requires.point in
    let named : 0 < c.args.r = omega arith in
    let inside = in_table _ _ _ _ _ _ _ c.self.invariant c.args.point c.args.r early named c.slot.ensures.in_file in
    let empty = read_place c.self.inside.places.items _ _ _ None c.slot.ensures.value inside c.index.ensures c.in-None.is in
    rw (← c.self.view_is) (known_nowhere _ _ _ _ _ _ _ c.self.invariant c.args.point c.args.r early named c.slot.ensures.in_file c.args.limit empty)

pub returns-in-Some : goal.returns-in-Some
returns-in-Some g c =
    let early : c.args.point ≤ c.self.inside.last = subst (λ (x : Held g.row.B.Denot). c.args.point ≤ x.last) (sym c.self.view_is) c.requires.point in
    let named : 0 < c.args.r = omega arith in
    let inside = in_table _ _ _ _ _ _ _ c.self.invariant c.args.point c.args.r early named c.slot.ensures.in_file in
    let there = read_place c.self.inside.places.items _ _ _ (Some c.in-Some.place) c.slot.ensures.value inside c.index.ensures c.in-Some.is in
    rw (← c.self.view_is) (known_in_place _ _ _ _ _ _ _ c.self.invariant c.args.point c.args.r early named c.slot.ensures.in_file c.args.limit c.in-Some.place there)
