use Rattle.std.proofs.Common.{◌≤◌, ◌+◌, ◌++◌, ◌∷◌, [], length, inr, refl, subst, sym, arith, ℕ}
use Rattle.rept_streams.specs.Slices.Raw.{streams_of}
use Rattle.rept_streams.proofs.SlicesLemmas.ReadLemmas.{sizes, as_many, Read, none_read, room, one_read, one_refused, all_read, held_few}
use Rattle.rept_streams.proofs.slices.reading.read_all.Goals as goal

pub loop-s-init : goal.loop-s-init
loop-s-init c = rw c.new-windows.ensures.items (none_read c.args.from (streams_of c.args.streams.now))

pub read_stream-requires-clause-few : goal.read_stream-requires-clause-few
read_stream-requires-clause-few c = λ stream at.
    let r = room c.args.from (streams_of c.args.streams.now) c.loop-s.s c.loop-s.number c.loop-s.windows.items c.loop-s.invariant stream at in
    let few = c.requires in
    omega (arith, r, few, sizes c.args.streams.now)

pub returns-in-Err-clause-err : goal.returns-in-Err-clause-err
returns-in-Err-clause-err c =
    let e = c.in-Err.ensures.err in
    inr (c.in-Err.fault, one_refused c.args.from (streams_of c.args.streams.now) c.loop-s.s c.loop-s.number c.loop-s.windows.items c.loop-s.invariant e.0 e.2 e.1 c.in-Err.fault e.3, refl)

pub overflow_add-number : goal.overflow_add-number
overflow_add-number c =
    let o = c.in-Ok.ensures.ok in
    let r = room c.args.from (streams_of c.args.streams.now) c.loop-s.s c.loop-s.number c.loop-s.windows.items c.loop-s.invariant o.0 o.2 in
    let few = c.requires in
    let counted = o.3.surveys.count in
    let short = held_few o.0 o.1 o.3.surveys.hold in
    omega (arith, r, few, counted, short, sizes c.args.streams.now)

pub loop-s-preserved : goal.loop-s-preserved
loop-s-preserved c =
    let o = c.in-Ok.ensures.ok in
    rw c.in_default.ensures.items (subst (λ (n : ℕ). Read c.args.from (streams_of c.args.streams.now) (c.loop-s.s + 1) (c.loop-s.number + n) (c.loop-s.windows.items ++ c.in-Ok.window ∷ [])) (sym o.3.surveys.count) (one_read c.args.from (streams_of c.args.streams.now) c.loop-s.s c.loop-s.number c.loop-s.windows.items c.loop-s.invariant o.0 o.2 o.1 c.in-Ok.window o.3 (held_few o.0 o.1 o.3.surveys.hold)))

pub returns-clause-ok : goal.returns-clause-ok
returns-clause-ok c =
    let all : length (streams_of c.args.streams.now) ≤ c.loop-s.s = omega (arith, c.count-s-end.ensures, as_many c.args.streams.now) in
    all_read c.args.from (streams_of c.args.streams.now) c.loop-s.s c.loop-s.number c.loop-s.windows.items c.loop-s.invariant all
