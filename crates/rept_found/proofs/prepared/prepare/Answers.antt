use Rattle.std.proofs.Common.{◌≡◌, ◌<◌, ◌≤◌, Some, ap, subst, sym, arith, ◌∙◌}
use Rattle.rept_dump.specs.Dump.{exe_of, core_of}
use Rattle.rept_moments.specs.Courses.{seen_in}
use Rattle.rept_moments.specs.Seen.{SeenMoments}
use Rattle.rept_found.specs.Crash.{means}
use Rattle.rept_found.specs.View.{CrashView}
use Rattle.rept_found.proofs.Settings.{given_is, points_are, scene_is, seen_same, trip_is}
use Rattle.rept_timeline.proofs.Lasting.{values_long}
use Rattle.rept_found.proofs.prepared.prepare.Goals as goal

pub prepare-requires : goal.prepare-requires
prepare-requires g c =
    let all = points_are c.args.ends.now.course c.account.ensures.some in
    let few = c.account.ensures.few in
    let here : (seen_in c.args.paths.now.ways).legs.count ≤ 66560 = subst (λ (x : SeenMoments). x.legs.count ≤ 66560) (sym (seen_same c.args.ends.now.course c.args.paths.now.ways c.requires.course)) (omega arith) in
    record { few = here }

pub invariant_of-result : goal.invariant_of-result
invariant_of-result g c =
    let its = c.in-Ok.ensures in
    let paths = its.path.0 in
    let ends = its.path.1 in (
      record {
        some = c.account.ensures.some;
        sound = c.requires.sound;
        given = given_is c.in-Ok.analysis.propagation.facts c.args.paths.now c.args.ends.now (exe_of c.args.dump.now) (core_of c.args.dump.now) paths ends its.memory c.requires.course;
      },
      c.requires.course,
    )

pub returns-in-Ok : goal.returns-in-Ok
returns-in-Ok g c =
    let m = means g.W.Partial.sets g.W.Transfer.moves g.R.RowRules.rules in
    let new : CrashView g.row.W.Denot g.row.R.Denot = record { analysis = c.in-Ok.analysis.propagation.facts; ends = c.args.ends.now; program = exe_of c.args.dump.now; core = core_of c.args.dump.now } in
    record {
      prepared = λ notes noted same. record {
        trip = trip_is m new notes c.requires.program c.account.ensures.ends.whole noted same;
        same_scene = scene_is new notes noted same;
      };
    }
