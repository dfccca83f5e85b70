use Rattle.std.proofs.Common.{◌+◌, ◌<◌, ◌^◌, ◌≤◌, List, length, get_or, sym, subst, arith}
use Rattle.std.specs.List.{All}
use Rattle.std.proofs.lemmas.Option.{slice_get-get_or}
use Rattle.std.proofs.lemmas.List.Elements.{All-push}
use Rattle.rept_encode.specs.declared.weaving.stretch.HartStretch.{HartStretch}
use Rattle.rept_encode.specs.Walkable.{IsWalkable}
use Rattle.rept_simlog.specs.Program.{program_of}
use Rattle.rept_simlog.specs.declared.hartlog.log.HartLogLine.{HartLogLine}
use Rattle.rept_simlog.proofs.HartlogLemmas.Lines.{rest_whole, are_lines_rest}
use Rattle.rept_simlog.proofs.HartlogLemmas.Pieces.{no_entry, Progress, progress_skip, progress_push, few_left, short_piece, fault_on}
use Rattle.rept_simlog.proofs.hartlog.threads.stretches_of.Goals as goal

pub returns-in-Err-clause-err : goal.returns-in-Err-clause-err
returns-in-Err-clause-err c = fault_on (program_of c.args.program.now) c.args.entries.now c.loop-rest.rest.now c.loop-rest.stretches c.in-Err.refusal c.loop-rest.invariant.progress c.in-Err.ensures.err

pub loop-rest-preserved-then-len-eq0 : goal.loop-rest-preserved-then-len-eq0
loop-rest-preserved-then-len-eq0 c =
    let i = c.loop-rest.invariant in
    let piece = c.in-Ok.ensures.piece in
    let within = piece.within in
    let size = c.len.ensures.value in
    let none = c.if-len-eq0.true in
    record {
      progress = subst (λ (es : List HartLogLine). Progress (program_of c.args.program.now) c.args.entries.now es c.loop-rest.stretches) (sym (rest_whole c.loop-rest.rest.now c.in-Ok.piece.1)) (progress_skip (program_of c.args.program.now) c.args.entries.now c.loop-rest.rest.now c.loop-rest.stretches c.in-Ok.piece.0 c.in-Ok.piece.1 i.progress piece (omega arith));
      lines = are_lines_rest c.loop-rest.rest.now c.in-Ok.piece.1 within i.lines;
      few = few_left c.loop-rest.rest.now c.in-Ok.piece.1 i.few;
      walkable = i.walkable;
      short = i.short;
    }

pub loop-rest-preserved : goal.loop-rest-preserved
loop-rest-preserved c =
    let i = c.loop-rest.invariant in
    let piece = c.in-Ok.ensures.piece in
    let within = piece.within in
    let size = c.len.ensures.value in
    let not_none = c.if-len-eq0.false in
    let some : 0 < length c.in-Ok.piece.0 = omega arith in
    let left = c.loop-rest-test.true in
    let begins = slice_get-get_or c.loop-rest.rest.now 0 no_entry (omega arith) in
    let told = c.stretch_of.ensures in
    let pushed = c.in_default.ensures.ok in
    let more = progress_push (program_of c.args.program.now) c.args.entries.now c.loop-rest.rest.now c.loop-rest.stretches c.in-Ok.piece.0 c.in-Ok.piece.1 i.progress piece c.stretch_of.result (get_or c.loop-rest.rest.now 0 no_entry) begins some told.steps told.process told.begin told.end in
    let short : c.stretch_of.result.begin + length c.stretch_of.result.steps ≤ 2 ^ 32 = short_piece (program_of c.args.program.now) c.loop-rest.rest.now c.in-Ok.piece.0 c.in-Ok.piece.1 (get_or c.loop-rest.rest.now 0 no_entry) c.stretch_of.result piece i.lines begins told.steps told.begin in
    let walkable : IsWalkable c.args.program.now.halves c.stretch_of.result.steps = subst (IsWalkable c.args.program.now.halves) (sym told.steps) (record { some = some; steps = c.in-Ok.ensures.steps }) in
    record {
      progress = subst (λ (es : List HartLogLine). Progress (program_of c.args.program.now) c.args.entries.now es c.push.new.self) (sym (rest_whole c.loop-rest.rest.now c.in-Ok.piece.1)) (subst (Progress (program_of c.args.program.now) c.args.entries.now _) (sym pushed) more);
      lines = are_lines_rest c.loop-rest.rest.now c.in-Ok.piece.1 within i.lines;
      few = few_left c.loop-rest.rest.now c.in-Ok.piece.1 i.few;
      walkable = subst (λ (ss : List HartStretch). All (λ (s : HartStretch). IsWalkable c.args.program.now.halves s.steps) ss) (sym pushed) (All-push (λ (s : HartStretch). IsWalkable c.args.program.now.halves s.steps) c.loop-rest.stretches c.stretch_of.result i.walkable walkable);
      short = subst (λ (ss : List HartStretch). All (λ (s : HartStretch). s.begin + length s.steps ≤ 2 ^ 32) ss) (sym pushed) (All-push (λ (s : HartStretch). s.begin + length s.steps ≤ 2 ^ 32) c.loop-rest.stretches c.stretch_of.result i.short short);
    }
