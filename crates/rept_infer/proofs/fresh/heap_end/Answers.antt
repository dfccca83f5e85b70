use Rattle.std.proofs.Common.{◌≡◌, ◌+◌, ◌-◌, ◌<◌, ◌≤◌, ℕ, length, ap, sym, subst, arith}
use Rattle.std.proofs.lemmas.Option.{IfSome_then}
use Rattle.rept_narrow.specs.Admitted.{HasNoCall}
use Rattle.rept_infer.proofs.Handing.{earlier, no_row_left, row_read}
use Rattle.rept_infer.proofs.fresh.heap_end.Goals as goal

pub loop-back-init : goal.loop-back-init
loop-back-init c = λ story run e h. no_row_left story run 214 (c.args.index - 0) c.args.index (omega arith)

pub loop-back-preserved : goal.loop-back-preserved
loop-back-preserved c = λ story run e h.
    let test = c.loop-back-test.true in
    let inside = c.requires.inside in
    let i = c.args.index - 1 - c.loop-back.back in
    let less : i < length c.args.rows.now = omega (arith, test, inside) in
    let at = row_read story.rows c.args.rows.now i c.index-rows-before.result e less c.index-rows-before.is in
    let here : i ≡ c.args.index - (c.loop-back.back + 1) = omega (arith, test) in
    let next : c.args.index - c.loop-back.back ≡ i + 1 = omega (arith, test) in
    let later : HasNoCall story run 214 (i + 1) c.args.index = subst (λ (m : ℕ). HasNoCall story run 214 m c.args.index) next (c.loop-back.invariant story run e h) in
    subst (λ (m : ℕ). HasNoCall story run 214 m c.args.index) here (earlier story run 214 i c.args.index (c.is_no_call.ensures c.if-not-is_no_call.false story run at h) later)

pub returns-then-not-is_no_call : goal.returns-then-not-is_no_call
returns-then-not-is_no_call c = IfSome_then c.brk_answer.result c.brk_answer.ensures (λ v answer story run e h.
    let test = c.loop-back-test.true in
    let inside = c.requires.inside in
    let i = c.args.index - 1 - c.loop-back.back in
    let less : i < length c.args.rows.now = omega (arith, test, inside) in
    let at = row_read story.rows c.args.rows.now i c.index-rows-before.result e less c.index-rows-before.is in
    let next : c.args.index - c.loop-back.back ≡ i + 1 = omega (arith, test) in
    let found = answer story run at h in
    record {
      row = i;
      before = omega (arith, test);
      call = found.0;
      last = subst (λ (m : ℕ). HasNoCall story run 214 m c.args.index) next (c.loop-back.invariant story run e h);
      answer = found.1;
    })
