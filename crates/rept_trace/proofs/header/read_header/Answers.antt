use Rattle.std.proofs.Common.{◌≡◌, ◌-◌, ◌==◌, ℕ, List, length, take, drop, sym, subst, slice_index, arith}
use Rattle.std.proofs.lemmas.Grind.{common_steps}
use Rattle.rept_trace.specs.Header.{heading_of, HasHeader}
use Rattle.rept_trace.proofs.HeaderLemmas.{header_of}
use Rattle.rept_trace.proofs.header.read_header.Goals as goal

pub returns-clause-ok : goal.returns-clause-ok
returns-clause-ok c =
    let bytes = c.args.bytes.now in
    let rest : drop 8 bytes ≡ take (length bytes - 8) (drop 8 bytes) = grind (arith, common_steps) in
    let header = header_of c.args.container bytes c.if-bytes-lt-SIZE.false (λ j lt. c.loop-i.invariant j (omega arith)) in
    let count : slice_index bytes 4 ≡ c.from.result = sym c.from.ensures in
    subst (λ (l : List ℕ). HasHeader c.args.container bytes (heading_of c.from.result (slice_index bytes 5 == 1)) l) rest (subst (λ (n : ℕ). HasHeader c.args.container bytes (heading_of n (slice_index bytes 5 == 1)) (drop 8 bytes)) count header)
