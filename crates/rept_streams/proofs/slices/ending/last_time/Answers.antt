use Rattle.std.proofs.Common.{◌≡◌, ◌-◌, ℕ, List, Bool, cond, sym, ◌∙◌, ap}
use Rattle.rept_streams.specs.Slices.Lefts.{AreLeft}
use Rattle.rept_streams.specs.Slices.Parts.{slices_told}
use Rattle.rept_streams.specs.Slices.Skipping.{full_from}
use Rattle.rept_streams.specs.Slices.Ending.{begun, ends_alone}
use Rattle.rept_streams.specs.Slices.Free.{alone_kept}
use Rattle.rept_streams.specs.declared.slices.reading.StreamWindow.{StreamWindow}
use Rattle.rept_streams.proofs.SlicesLemmas.Ending.{alone_is, last_is}
use Rattle.rept_streams.proofs.SlicesLemmas.Until.{told_permuted}
use Rattle.rept_streams.proofs.slices.ending.last_time.Goals as goal

pub tell_all-requires : goal.tell_all-requires
tell_all-requires c =
    let held = c.requires.packets in
    (begun c.args.from held.0, rw c.deref-2.ensures.value (c.in_ok-windows.ensures.ok held.0 held.1))

pub streams_met-requires : goal.streams_met-requires
streams_met-requires c =
    let held = c.requires.packets in
    let ls = begun c.args.from held.0 in
    let left : AreLeft c.deref-2.result.now ls = rw c.deref-2.ensures.value (c.in_ok-windows.ensures.ok held.0 held.1) in
    let r = told_permuted c.in_ok-told.told.windows.items c.put_in_order.new.slices.items (slices_told ls) c.put_in_order.ensures.permutation (c.in_ok-told.ensures.ok ls left) in
    (r.0, rw c.deref-3.ensures.value r.1)

pub returns-then-ends_alone-clause-ok : goal.returns-then-ends_alone-clause-ok
returns-then-ends_alone-clause-ok c = λ lists h.
    let ls = begun c.args.from lists in
    let full = c.full_from-full.result in
    let end = c.args.end in
    let ws = c.in_ok-windows.windows.items in
    let met = c.in_ok-met.met.items in
    let kept : AreLeft ws ls = c.in_ok-windows.ensures.ok lists h in
    let first : AreLeft c.deref.result.now ls = rw c.deref.ensures.value kept in
    let left : AreLeft c.deref-2.result.now ls = rw c.deref-2.ensures.value kept in
    let all : full ≡ full_from ls = c.full_from-full.ensures ls first in
    let alone : alone_kept end ws met ≡ ends_alone full end ls = alone_is (record { full = full; end = end }) ws ls c.in_ok-told.told.windows.items c.put_in_order.new.slices.items met kept (c.in_ok-told.ensures.ok ls left) c.put_in_order.ensures.permutation c.in_ok-put_in_order.ensures.processes c.in_ok-put_in_order.ensures.times
    (λ us b. c.in_ok-met.ensures.ok us (rw c.deref-3.ensures.value b)) in
    let found : c.ends_alone.result ≡ ends_alone full end ls = c.ends_alone.ensures ∙ ap (λ (vs : List StreamWindow). alone_kept end vs c.deref-5.result.now) c.deref-4.ensures.value ∙ ap (λ (ns : List ℕ). alone_kept end ws ns) c.deref-5.ensures.value ∙ alone in
    last_is c.args.from lists full end c.saturating_sub.result c.ends_alone.result all found (c.saturating_sub.ensures ∙ ap (λ (b : Bool). cond b (end - 1) end) (sym c.if-ends_alone.true))

pub returns-clause-ok : goal.returns-clause-ok
returns-clause-ok c = λ lists h.
    let ls = begun c.args.from lists in
    let full = c.full_from-full.result in
    let end = c.args.end in
    let ws = c.in_ok-windows.windows.items in
    let met = c.in_ok-met.met.items in
    let kept : AreLeft ws ls = c.in_ok-windows.ensures.ok lists h in
    let first : AreLeft c.deref.result.now ls = rw c.deref.ensures.value kept in
    let left : AreLeft c.deref-2.result.now ls = rw c.deref-2.ensures.value kept in
    let all : full ≡ full_from ls = c.full_from-full.ensures ls first in
    let alone : alone_kept end ws met ≡ ends_alone full end ls = alone_is (record { full = full; end = end }) ws ls c.in_ok-told.told.windows.items c.put_in_order.new.slices.items met kept (c.in_ok-told.ensures.ok ls left) c.put_in_order.ensures.permutation c.in_ok-put_in_order.ensures.processes c.in_ok-put_in_order.ensures.times
    (λ us b. c.in_ok-met.ensures.ok us (rw c.deref-3.ensures.value b)) in
    let found : c.ends_alone.result ≡ ends_alone full end ls = c.ends_alone.ensures ∙ ap (λ (vs : List StreamWindow). alone_kept end vs c.deref-5.result.now) c.deref-4.ensures.value ∙ ap (λ (ns : List ℕ). alone_kept end ws ns) c.deref-5.ensures.value ∙ alone in
    last_is c.args.from lists full end end c.ends_alone.result all found (ap (λ (b : Bool). cond b (end - 1) end) (sym c.if-ends_alone.false))
