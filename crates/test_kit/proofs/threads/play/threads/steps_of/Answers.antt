use Rattle.std.proofs.Common.{◌≡◌, ℕ, ◌+◌, ◌%◌, [], ◌∷◌, length, arith, ap, subst, length-append}
use Rattle.rept_isa.specs.declared.row.StepRow.{StepRow}
use Rattle.rept_steps.specs.Linked.{EndBefore}
use Rattle.test_kit.specs.Threads.Play.Code.{address_in}
use Rattle.test_kit.proofs.ThreadsLemmas.PlayLemmas.Listing.{rows_more}
use Rattle.test_kit.proofs.threads.play.threads.steps_of.Goals as goal

pub loop-i-preserved : goal.loop-i-preserved
loop-i-preserved c =
    let i = c.loop-i.invariant in
    let next : c.row_in.result.next ≡ address_in c.args.thread ((c.loop-i.i + 1) % 16) = ap (λ (r : StepRow). r.next) c.row_in.ensures in
    record {
      size = omega (arith, i.size, ap (length {A = StepRow}) c.in-Ok.ensures.ok, length-append c.loop-i.steps (c.row_in.result ∷ []));
      rows = rows_more c.args.code.now c.args.thread c.loop-i.steps c.push.new.self c.loop-i.i c.row_in.result c.in-Ok.ensures.ok i.size i.rows c.row_in.ensures;
      ends = subst (λ (a : ℕ). EndBefore c.push.new.self a) next c.in-Ok.ensures.ends;
    }
