use Rattle.rept_streams.specs.Slices.Parts.{slices_told}
use Rattle.rept_streams.specs.Slices.Skipping.{windows, greatest, ends_of}
use Rattle.std.proofs.Common.{◌∷◌, nat_lt, List, sym, ◌∙◌, ap}
use Rattle.std.specs.List.{list_any}
use Rattle.rept_streams.specs.Slices.Stamps.{clock_of}
use Rattle.rept_streams.specs.declared.slices.telling.StreamSlice.{StreamSlice}
use Rattle.rept_streams.proofs.SlicesLemmas.Early.{time_alone}
use Rattle.rept_streams.proofs.SlicesLemmas.Until.{told_permuted, until, told_untraced}
use Rattle.rept_streams.proofs.slices.untraced.untraced.Goals as goal

pub returns-then-not-any_early-clause-ok : goal.returns-then-not-any_early-clause-ok
returns-then-not-any_early-clause-ok c = λ from lists a.
    let none = sym (c.any_early.ensures ∙ ap (λ (es : List StreamSlice). list_any (λ (e : StreamSlice). nat_lt (clock_of e.start) c.args.time) es) c.deref.ensures.value) ∙ c.if-not-any_early.true in
    told_untraced c.args.several c.args.time (greatest (c.args.time ∷ ends_of c.args.time (slices_told (windows from lists)))) c.if-not-several.false
    (time_alone c.args.time c.args.slices.now.items (slices_told (windows from lists)) a none)

pub last_end-requires : goal.last_end-requires
last_end-requires c =
    let r = told_permuted c.args.slices.now.items c.put_in_order.new.slices.items c.requires.0 c.put_in_order.ensures.permutation c.requires.1 in
    (r.0, rw c.deref-2.ensures.value r.1)

pub returns-clause-ok : goal.returns-clause-ok
returns-clause-ok c = λ from lists a.
    told_untraced c.args.several c.last_end.result (greatest (c.args.time ∷ ends_of c.args.time (slices_told (windows from lists)))) c.if-not-several.false
    (until from lists c.args.slices.now.items c.put_in_order.new.slices.items c.args.time c.last_end.result a c.put_in_order.ensures.permutation c.in_ok-put_in_order.ensures.processes c.in_ok-put_in_order.ensures.times (λ us b. c.last_end.ensures us (rw c.deref-2.ensures.value b)))
