use Rattle.std.proofs.Common.{◌≡◌, Err, inl, inr, refl, ap, subst, sym, ◌∙◌}
use Rattle.rept_amo.specs.Atomic.{atomic_rules}
use Rattle.rept_moments.specs.Courses.{IsCourseOf}
use Rattle.rept_moments.specs.declared.course.NumberedRun as courses
use Rattle.rept_steps.specs.Runs.{course_of}
use Rattle.rept_found.specs.Contradictions.{contradiction_on}
use Rattle.rept_found.specs.Crash.{means}
use Rattle.rept_opening.specs.declared.refusal.Refusal.TheVariants as refusal
use Rattle.rept_opening.proofs.ReportLemmas.{conflict_here, course_ends, excluded_here, found_here, sound_ends}
use Rattle.rept_opening.proofs.analysis.analyse.Goals as goal

pub prepare-requires-clause-sound : goal.prepare-requires-clause-sound
prepare-requires-clause-sound g c = sound_ends (means g.W.Partial.sets g.W.Transfer.moves atomic_rules) c.args.dump.now c.args.run.now c.args.basis.now.ends c.requires.fits c.requires.ended

pub prepare-requires-clause-course : goal.prepare-requires-clause-course
prepare-requires-clause-course g c = course_ends (means g.W.Partial.sets g.W.Transfer.moves atomic_rules) c.args.dump.now c.args.run.now c.args.basis.now.ends c.requires.fits c.requires.ended c.args.basis.now.paths.ways c.requires.course

pub prepare-requires-clause-program : goal.prepare-requires-clause-program
prepare-requires-clause-program g c = c.requires.ended.program

pub returns-in-Ok-search-clause-found : goal.returns-in-Ok-search-clause-found
returns-in-Ok-search-clause-found g c = λ notes are.
    found_here (means g.W.Partial.sets g.W.Transfer.moves atomic_rules) c.args.dump.now c.args.run.now c.args.basis.now.ends c.requires.fits c.requires.ended notes are c.in-Ok.prepared c.in-Ok.ensures.prepared c.in-Ok-search.found c.in-Ok-search.ensures.found

pub returns-in-Err-Conflict-clause-refused : goal.returns-in-Err-Conflict-clause-refused
returns-in-Err-Conflict-clause-refused g c = λ notes are.
    let m = means g.W.Partial.sets g.W.Transfer.moves atomic_rules in
    let run = c.args.run.now in
    let ends = c.args.basis.now.ends in
    let kind = c.in-Err-Conflict.kind in
    let is = c.in-Err-Conflict.is ∙ ap Err c.in-Err-Conflict.field-0-is in
    let has = conflict_here m c.args.dump.now run ends c.requires.fits c.requires.ended notes are c.in-Ok.prepared c.in-Ok.ensures.prepared kind (c.search.ensures.conflict kind is) in
    let none = excluded_here m c.args.dump.now run ends c.requires.fits c.requires.ended notes are c.in-Ok.prepared c.in-Ok.ensures.prepared kind (c.search.ensures.conflict kind is) (c.search.ensures.impossible kind is) c.reports_are_true.ensures.impossible in
    let at_field = c.name_conflict-conflict.ensures (course_of run) (subst (λ (x : courses.NumberedRun). IsCourseOf (course_of run) x) (sym (c.course.ensures.value ∙ c.ways.ensures)) c.requires.course) in
    let named : c.name_conflict-conflict.result ≡ contradiction_on (course_of run) kind = at_field in
    inl (kind, has, none, ap refusal.Inconsistent named)
