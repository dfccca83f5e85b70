use Rattle.rept_make.specs.Files.{core_header, status_note}
use Rattle.test_kit.specs.Threads.Maderuns.Files.{saved_of}
use Rattle.test_kit.proofs.ThreadsLemmas.MaderunsLemmas.Filed.{parts_are, core_is}
use Rattle.test_kit.proofs.threads.maderuns.files.core_file.Goals as goal

pub returns : goal.returns
returns c =
    let registers = c.args.registers.now in
    let bytes = c.args.saved_bytes.now in
    let p = c.pc_in.result in
    let q = c.pc_in-2.result in
    let r = c.pc_in-3.result in
    let s = c.pc_in-4.result in
    core_is c.args.turns.now registers bytes p q r s c.push.new.self c.pc_in.ensures c.pc_in-2.ensures c.pc_in-3.ensures c.pc_in-4.ensures
    (parts_are (core_header 896 32) (status_note 1 (saved_of 0 p registers)) (status_note 2 (saved_of 1 q registers)) (status_note 3 (saved_of 2 r registers)) (status_note 4 (saved_of 3 s registers)) bytes
    c.new-file.result c.push_core_header.new.file c.push_status.new.file c.push_status-2.new.file c.push_status-3.new.file c.push_status-4.new.file c.push.new.self
    c.new-file.ensures c.in_ok-push_core_header.ensures c.in_ok-push_status.ensures c.in_ok-push_status-2.ensures c.in_ok-push_status-3.ensures c.in_ok-push_status-4.ensures c.in_ok-push.ensures.ok)
