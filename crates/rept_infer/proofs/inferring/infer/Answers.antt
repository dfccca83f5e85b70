use Rattle.std.proofs.Common.{◌≡◌, ℕ, ◌+◌, ◌<◌, true, [], length, Some, Err, ap, sym, subst, ◌∙◌, arith}
use Rattle.rept_narrow.specs.Admitted.{Premises, IsSettled}
use Rattle.rept_infer.specs.Path.{Fixed}
use Rattle.rept_narrow.specs.Rules.{HasSets}
use Rattle.rept_narrow.specs.Sweeps.{IsFound, memory_of}
use Rattle.rept_infer.proofs.Frame.{started, fixed_known, path_holds, path_finer}
use Rattle.rept_narrow.proofs.Sentences.{same_err}
use Rattle.rept_infer.proofs.inferring.infer.Goals as goal

pub returns-in-Err-rounds-clause-impossible : goal.returns-in-Err-rounds-clause-impossible
returns-in-Err-rounds-clause-impossible g c = λ empty is story s run h.
    let long : length story.rows ≡ length c.args.path.rows.now = ap length s.rows_are in
    let set = g.K.KnownPath.set c.args.known.now in
    let byte = g.K.KnownPath.byte c.args.known.now in
    let first : HasSets story c.in-Ok.table run = started story run set byte c.in-Ok.table (λ p r less file. c.in-Ok.ensures.known p r (omega (arith, less, long)) file) h in
    let begun : IsSettled story run c.settled_from.result = c.settled_from.ensures.settled story run s.rows_are first in
    let before : Fixed = record { on = []; back = []; is_read_only = (g.P.PathPremises.premises c.args.premises.now).is_read_only; settled = c.settled_from.result; last = length c.args.path.rows.now } in
    let known = fixed_known story run set byte h before (sym long) (λ b e. subst (λ (x : Premises). x.is_read_only b ≡ true) (sym s.premises_are) e) begun in
    c.rounds.ensures.refuses empty (c.in-Err-rounds.is ∙ ap Err (same_err is)) story run s.rows_are s.image_end_is s.premises_are known (record {
      sets = first;
      on_true = c.new.ensures (memory_of run);
      back_true = c.new-2.ensures (memory_of run);
    })

pub returns-in-Ok-rounds-clause-holds : goal.returns-in-Ok-rounds-clause-holds
returns-in-Ok-rounds-clause-holds g c = λ story s run h.
    let set = g.K.KnownPath.set c.args.known.now in
    let byte = g.K.KnownPath.byte c.args.known.now in
    let long : length story.rows ≡ length c.args.path.rows.now = ap length s.rows_are in
    let first : HasSets story c.in-Ok.table run = started story run set byte c.in-Ok.table (λ p r less file. c.in-Ok.ensures.known p r (omega (arith, less, long)) file) h in
    let begun : IsSettled story run c.settled_from.result = c.settled_from.ensures.settled story run s.rows_are first in
    let before : Fixed = record { on = []; back = []; is_read_only = (g.P.PathPremises.premises c.args.premises.now).is_read_only; settled = c.settled_from.result; last = length c.args.path.rows.now } in
    let known = fixed_known story run set byte h before (sym long) (λ b e. subst (λ (x : Premises). x.is_read_only b ≡ true) (sym s.premises_are) e) begun in
    let found : IsFound story run c.in-Ok-rounds.found.table c.in-Ok-rounds.found.on c.in-Ok-rounds.found.back = c.in-Ok-rounds.ensures.keeps story run s.rows_are s.image_end_is s.premises_are known (record {
      sets = first;
      on_true = c.new.ensures (memory_of run);
      back_true = c.new-2.ensures (memory_of run);
    }) in
    let settled : IsSettled story run c.settled_from-settled.result = c.settled_from-settled.ensures.settled story run s.rows_are found.sets in
    let fixed : Fixed = record { on = c.in-Ok-rounds.found.on; back = c.in-Ok-rounds.found.back; is_read_only = (g.P.PathPremises.premises c.args.premises.now).is_read_only; settled = c.settled_from-settled.result; last = length c.args.path.rows.now } in
    path_holds story run set byte h c.in-Ok-rounds.found.table fixed (sym long) (λ b e. subst (λ (x : Premises). x.is_read_only b ≡ true) (sym s.premises_are) e) settled found.on_true found.back_true found.sets

pub returns-in-Ok-rounds-clause-finer : goal.returns-in-Ok-rounds-clause-finer
returns-in-Ok-rounds-clause-finer g c =
    path_finer (g.K.KnownPath.set c.args.known.now) (g.K.KnownPath.byte c.args.known.now) c.in-Ok-rounds.found.table (record { on = c.in-Ok-rounds.found.on; back = c.in-Ok-rounds.found.back; is_read_only = (g.P.PathPremises.premises c.args.premises.now).is_read_only; settled = c.settled_from-settled.result; last = length c.args.path.rows.now })
