use Rattle.std.proofs.Common.{◌≤◌, ◌++◌, ◌∷◌, [], List, ℕ, length, take, ◌∙◌, sym, ap, subst, append_assoc}
use Rattle.std.specs.Int.{w128, to_le_bytes}
use Rattle.rept_trace.specs.Grammar.{untimed, IsPacket}
use Rattle.rept_encode.proofs.Spelling.{spells}
use Rattle.rept_encode.proofs.payload.push_packet.Goals as goal

pub returns : goal.returns
returns c =
    let f = c.cut-payload.ensures.few in
    let s = c.cut-payload.ensures.spells (untimed c.args.halves) c.args.packet.now in
    let n = c.number_of.ensures in
    let t = c.to_le_bytes-bytes.ensures in
    record {
      ok = record {
        payload = c.cut-payload.result.now;
        appended = c.in_ok-push-2.ensures.ok ∙ ap (λ (xs : List ℕ). xs ++ c.cut-payload.result.now) c.in_ok-push.ensures.ok ∙ append_assoc c.args.out.now (length c.cut-payload.result.now ∷ []) c.cut-payload.result.now;
        some = c.cut-payload.ensures.some;
        few = subst (λ (xs : List ℕ). length c.cut-payload.result.now ≤ length (take 10 xs)) t f;
        spells = s (subst (λ (xs : List ℕ). IsPacket (untimed c.args.halves) (take 10 xs) c.args.packet.now) (sym (t ∙ ap (to_le_bytes w128) n)) (spells c.args.halves c.args.packet.now c.requires.fits c.requires.silent));
        cut = c.cut-payload.ensures.cut;
      };
    }
