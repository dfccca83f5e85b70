use Rattle.std.proofs.Common.{◌≡◌, ◌≤◌, ◌∙◌, ℕ, map, length, take, ap, arith, subst}
use Rattle.rept_dump.specs.Registers.{pid_of, first_twin}
use Rattle.rept_dump.proofs.ThreadLemmas.{front_is, length-pids}
use Rattle.rept_dump.proofs.threads.twin_of.Goals as goal

pub returns : goal.returns
returns c = λ descs h long count.
    let n : length (map pid_of descs) ≡ c.args.count = length-pids descs ∙ count in
    let room = c.loop-t.invariant.room in
    let few = c.requires in
    let at_end : c.args.count ≤ c.loop-t.t = omega arith in
    let front : take (length (map pid_of descs)) c.loop-t.pids ≡ map pid_of descs = front_is c.loop-t.pids (map pid_of descs) (omega arith) (λ k lt. c.loop-t.invariant.read descs h long count k (omega arith)) in
    let cut : take c.args.count c.loop-t.pids ≡ map pid_of descs = subst (λ (k : ℕ). take k c.loop-t.pids ≡ map pid_of descs) n front in
    c.first_twin.ensures ∙ ap first_twin cut
