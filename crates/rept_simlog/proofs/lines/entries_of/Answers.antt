use Rattle.std.proofs.Common.{ℕ, ◌+◌, ◌<◌, List, length, ap, sym, subst, arith}
use Rattle.rept_simlog.proofs.Reading.{ReadTo, size_push, read_push, read_stop}
use Rattle.rept_simlog.proofs.lines.entries_of.Goals as goal

pub returns-in_default-clause-err : goal.returns-in_default-clause-err
returns-in_default-clause-err g c = λ exe.
    let i = c.loop-rest.invariant in
    let some : 0 < length c.loop-rest.rest.now = c.loop-rest-test.true in
    read_stop g.E.LogEntry.tells c.args.log.now c.loop-rest.rest.now c.first_line.result.0.now c.first_line.result.1.now c.loop-rest.entries.items (c.loop-rest.number + 1) i.read some c.first_line.ensures.line (ap (λ (n : ℕ). n + 1) i.number) c.in_default.ensures.none

pub loop-rest-preserved : goal.loop-rest-preserved
loop-rest-preserved g c =
    let i = c.loop-rest.invariant in
    let pushed = c.in_default-push.ensures.items in
    let number = i.number in
    let some : 0 < length c.loop-rest.rest.now = c.loop-rest-test.true in
    let fewer = c.first_line.ensures.fewer some in
    let few = i.few in
    record {
      read = subst (λ (es : List g.row.E.Denot). ReadTo g.E.LogEntry.tells c.args.log.now es c.first_line.result.1.now) (sym {A = List g.row.E.Denot} pushed) (read_push g.E.LogEntry.tells c.args.log.now c.loop-rest.rest.now c.first_line.result.0.now c.first_line.result.1.now c.loop-rest.entries.items c.in-Some.entry (c.loop-rest.number + 1) i.read some c.first_line.ensures.line (ap (λ (n : ℕ). n + 1) number) c.in-Some.ensures.some);
      number = (let s = size_push c.loop-rest.entries.items c.push.new.self.items c.in-Some.entry pushed in omega arith);
      few = omega arith;
    }
