use Rattle.std.proofs.Common.{◌≡◌, ap, subst, sym}
use Rattle.rept_found.specs.Crash.{ThreadEnd, ended_at}
use Rattle.rept_found.specs.View.{CrashView, scene_in}
use Rattle.rept_found.proofs.Settings.{status_ended}
use Rattle.rept_found.proofs.telling.AnalysedCrashFindings.end_pc.Goals as goal

pub returns : goal.returns
returns g c =
    subst (λ (v : CrashView g.row.W.Denot g.row.R.Denot). c.status.result.pc ≡ (ended_at (scene_in v) c.args.thread).end_pc) c.self.view_is
    (sym (ap (λ (e : ThreadEnd). e.end_pc) (status_ended c.self.inside.ends.now.statuses c.args.thread c.status.result c.status.ensures)))
