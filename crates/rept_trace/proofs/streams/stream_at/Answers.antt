use Rattle.std.proofs.Common.{◌≡◌, subst, slice_get, Some, arith, ℕ}
use Rattle.rept_trace.proofs.StreamLemmas.{stream_found, none_cut, cut_in}
use Rattle.rept_trace.proofs.streams.stream_at.Goals as goal

pub returns-in_default : goal.returns-in_default
returns-in_default c = λ streams rest m lt.
    let e = c.in_default.ensures.err in
    let less = e.2 in
    none_cut c.args.bytes.now streams rest e.0 m e.3 (omega arith)

pub returns-in-Some : goal.returns-in-Some
returns-in-Some c = λ streams rest m lt.
    let o = c.in-Ok.ensures.ok in
    let n = o.1 in
    subst (λ (k : ℕ). slice_get streams k ≡ Some c.in-Some.stream.now) n (stream_found c.args.bytes.now streams rest o.0 c.in-Ok.rest.now c.in-Some.stream.now c.in-Some.field-0-1.now m o.2 c.in-Some.ensures.some (omega (arith, n, lt)))

pub returns-in-None : goal.returns-in-None
returns-in-None c = λ streams rest m lt.
    let o = c.in-Ok.ensures.ok in
    let n = o.1 in
    cut_in c.args.bytes.now streams rest o.0 c.in-Ok.rest.now m o.2 c.in-None.ensures.none (omega (arith, n, lt))
