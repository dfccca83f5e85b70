use Rattle.std.proofs.Common.{◌≤◌, ◌+◌, length, take, arith, refl}
use Rattle.rept_simlog.specs.Recording.Qemu.{all_lines}
use Rattle.rept_simlog.specs.Recording.QemuParts.{lines_of}
use Rattle.rept_simlog.proofs.QemuLemmas.{all_read, less_left, line_read}
use Rattle.rept_simlog.proofs.recording.qemu.read_lines.Goals as goal

pub lines-preserved : goal.lines-preserved
lines-preserved c =
    let more : length (all_lines (lines_of c.in_ok-lines-in-Some.lines)) ≤ length (all_lines (lines_of c.lines.lines)) + length (take c.in-Some.end c.lines.rest.now) = c.in_ok-lines-in-Some.ensures.few in
    let less = less_left c.lines.rest.now c.after_place-rest.result.now c.in-Some.end c.in-Some.ensures.within c.after_place-rest.ensures.value in
    let few : length (all_lines (lines_of c.lines.lines)) + length c.lines.rest.now ≤ length c.args.log.now = c.lines.invariant.few in
    record {
      value = line_read c.args.log.now c.lines.rest.now _ _ (lines_of c.lines.lines) (lines_of c.in_ok-lines-in-Some.lines) c.in-Some.end c.lines.invariant.value c.in-Some.ensures.place refl c.after_place-rest.ensures.value c.in_ok-lines-in-Some.ensures.value;
      few = omega (arith, more, less, few);
    }

pub returns-in-None-clause-value : goal.returns-in-None-clause-value
returns-in-None-clause-value c = all_read c.args.log.now c.lines.rest.now (lines_of c.lines.lines) (lines_of c.in_ok-all-in-None.all) c.lines.invariant.value c.in-None.ensures.place c.in_ok-all-in-None.ensures.value
