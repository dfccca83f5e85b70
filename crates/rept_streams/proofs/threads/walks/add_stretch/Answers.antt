use Rattle.std.proofs.Common.{◌∙◌, ap, length, refl, sym}
use Rattle.rept_streams.specs.declared.threads.walks.FinishedWalk.{FinishedWalk}
use Rattle.rept_path.specs.Program.{code_of}
use Rattle.rept_streams.proofs.ThreadsLemmas.Walking.{first_entry, held_at, stopped_or, stretch_on_from}
use Rattle.rept_streams.proofs.threads.walks.add_stretch.Goals as goal

pub returns-in-Err-clause-err : goal.returns-in-Err-clause-err
returns-in-Err-clause-err c = λ from lists before later t ws whole a walks keeps.
    let e = c.in-Some.slice.now in
    let f = first_entry c.args.slices.now e t later a c.in-Some.ensures.value in
    let h = c.in-Err.ensures.err t.later (held_at e t c.head.result f.1.0 c.head.ensures) in
    stopped_or (code_of c.args.program.now) from lists before later t ws c.args.walks.now e c.saturating_sub-room.result c.head.result c.in-Err.fault whole f.1.0 (sym c.is_some.ensures ∙ c.if-is_some.false) c.saturating_sub-room.ensures walks keeps c.head.ensures h

pub returns-clause-ok : goal.returns-clause-ok
returns-clause-ok c = λ from lists before later t ws whole a walks keeps.
    let e = c.in-Some.slice.now in
    let f = first_entry c.args.slices.now e t later a c.in-Some.ensures.value in
    let h = c.in-Ok.ensures.ok t.later (held_at e t c.head.result f.1.0 c.head.ensures) in
    stretch_on_from (code_of c.args.program.now) from lists before later t ws c.args.walks.now _ e c.args.slices.now f.0 c.saturating_sub-room.result c.head.result c.in-Ok.stretch.walk c.in-Ok.stretch.marks.items c.keep-kept.result whole walks keeps f.1 f.2 (sym c.is_some.ensures ∙ c.if-is_some.false) c.saturating_sub-room.ensures c.head.ensures h
    c.keep-kept.ensures.rows c.keep-kept.ensures.walk (length c.as_slice-number.result.now) (ap (length {A = FinishedWalk}) c.as_slice-number.ensures.value) c.in_ok-add_slices.ensures.ok c.in_default-push.ensures.items c.len.result c.len.ensures.value refl
