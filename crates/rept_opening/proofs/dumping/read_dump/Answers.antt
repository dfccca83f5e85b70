use Rattle.std.proofs.Common.{Ok, Err}
use Rattle.rept_elf.specs.Image.{file_of}
use Rattle.rept_found.specs.Crash.{crash_of}
use Rattle.rept_opening.proofs.Notes.{has_notes, noted_at, noted_by}
use Rattle.rept_opening.proofs.ReadingLemmas.{core_refused, crash_is, dump_read, exe_refused, notes_refused}
use Rattle.rept_opening.proofs.dumping.read_dump.Goals as goal

pub returns-in-Err-clause-refused : goal.returns-in-Err-clause-refused
returns-in-Err-clause-refused c = exe_refused c.args.many c.args.exe.now c.args.core.now c.in-Err.fault c.in-Err.ensures.fault

pub returns-in-Err-read-clause-refused : goal.returns-in-Err-read-clause-refused
returns-in-Err-read-clause-refused c = core_refused c.args.many c.args.exe.now c.args.core.now c.in-Err-read.fault c.in-Ok.ensures.fault c.in-Err-read.ensures.fault

pub returns-in-Err-join-clause-refused : goal.returns-in-Err-join-clause-refused
returns-in-Err-join-clause-refused c =
    notes_refused c.args.many c.args.exe.now c.args.core.now c.in-Err-join.fault c.in-Ok.ensures.fault c.in-Ok-read.ensures.fault
    (noted_at c.args.core.now (file_of c.in-Ok-read.image) c.args.many (Err c.in-Err-join.fault) c.in-Ok-read.ensures.image (noted_by (file_of c.in-Ok-read.image) c.args.many (Err c.in-Err-join.fault) c.in-Err-join.ensures.notes))

pub returns-in-Ok-join-clause-notes : goal.returns-in-Ok-join-clause-notes
returns-in-Ok-join-clause-notes c = has_notes c.args.many (file_of c.in-Ok-read.image) c.in-Ok-join.dump (noted_by (file_of c.in-Ok-read.image) c.args.many (Ok c.in-Ok-join.dump) c.in-Ok-join.ensures.notes)

pub returns-in-Ok-join-clause-dump : goal.returns-in-Ok-join-clause-dump
returns-in-Ok-join-clause-dump c =
    let read = noted_at c.args.core.now (file_of c.in-Ok-read.image) c.args.many (Ok c.in-Ok-join.dump) c.in-Ok-read.ensures.image (noted_by (file_of c.in-Ok-read.image) c.args.many (Ok c.in-Ok-join.dump) c.in-Ok-join.ensures.notes) in
    dump_read c.args.many c.args.exe.now c.args.core.now c.in-Ok-join.dump c.in-Ok.ensures.fault c.in-Ok-read.ensures.fault read
    (crash_is (crash_of c.in-Ok-join.dump read.notes) (file_of c.in-Ok.image) c.args.exe.now (file_of c.in-Ok-read.image) c.args.core.now c.in-Ok-join.ensures.exe c.in-Ok.ensures.image c.in-Ok-join.ensures.core c.in-Ok-read.ensures.image)
