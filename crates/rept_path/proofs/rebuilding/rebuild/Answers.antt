use Rattle.std.proofs.Common.{◌≡◌, ◌⊎◌, inl, inr}
use Rattle.std.proofs.lemmas.Result.{MatchResult-from_both, IfOk-weaker, IfErr-weaker}
use Rattle.rept_path.specs.declared.fault.PathFault.TheVariants.{OutOfMemory}
use Rattle.rept_path.specs.Traced.{IsTracedPath, IsRefusedBy, raw_of}
use Rattle.rept_path.proofs.OneTrace.{one_path_of, path_or_refusal_of, one_refusal_of}
use Rattle.rept_path.specs.Stops.{HaveStops}
use Rattle.rept_path.specs.Traced.{pc_of, code_over}
use Rattle.rept_path.proofs.Decided.{decided}
use Rattle.rept_path.proofs.NoMemory.{refused_otherwise}
use Rattle.rept_path.proofs.StopLemmas.{stops_of}
use Rattle.rept_path.proofs.rebuilding.rebuild.Goals as goal

pub returns-clause-only_path : goal.returns-clause-only_path
returns-clause-only_path c = λ skipped rows h.
    let packets = c.args.packets in
    let dump = c.args.dump.now in
    let r = c.rebuild_once.result in
    MatchResult-from_both r (λ path. (path.skipped ≡ skipped) × (path.steps ≡ rows)) (λ e. e ≡ OutOfMemory)
    (IfOk-weaker r (λ path. IsTracedPath (raw_of packets dump c.args.from) path.skipped path.steps) (λ path. (path.skipped ≡ skipped) × (path.steps ≡ rows)) (λ path is. one_path_of packets dump c.args.from path.skipped skipped path.steps rows is h) c.rebuild_once.ensures.path)
    (IfErr-weaker r (λ e. (e ≡ OutOfMemory) ⊎ IsRefusedBy packets dump c.args.from e) (λ e. e ≡ OutOfMemory) (λ e is. elim is [ inl m ↦ m | inr f ↦ absurd (path_or_refusal_of packets dump c.args.from skipped rows e h f) ]) c.rebuild_once.ensures.refusal)

pub returns-clause-only_refusal : goal.returns-clause-only_refusal
returns-clause-only_refusal c = λ fault h.
    let packets = c.args.packets in
    let dump = c.args.dump.now in
    let r = c.rebuild_once.result in
    MatchResult-from_both r (λ _. ⊥) (λ e. (e ≡ OutOfMemory) ⊎ (e ≡ fault))
    (IfOk-weaker r (λ path. IsTracedPath (raw_of packets dump c.args.from) path.skipped path.steps) (λ _. ⊥) (λ path is. path_or_refusal_of packets dump c.args.from path.skipped path.steps fault is h) c.rebuild_once.ensures.path)
    (IfErr-weaker r (λ e. (e ≡ OutOfMemory) ⊎ IsRefusedBy packets dump c.args.from e) (λ e. (e ≡ OutOfMemory) ⊎ (e ≡ fault)) (λ e is. elim is [ inl m ↦ inl m | inr f ↦ inr (one_refusal_of packets dump c.args.from e fault f h) ]) c.rebuild_once.ensures.refusal)

pub returns-clause-stops : goal.returns-clause-stops
returns-clause-stops c =
    let packets = c.args.packets in
    let dump = c.args.dump.now in
    IfOk-weaker c.rebuild_once.result (λ path. IsTracedPath (raw_of packets dump c.args.from) path.skipped path.steps) (λ path. HaveStops (raw_of packets dump c.args.from) path.skipped path.steps)
    (λ path is. let s = stops_of (code_over packets dump) is.0 c.args.from (pc_of dump) path.skipped path.steps is.2 in (is.0, s.0, is.1, s.1)) c.rebuild_once.ensures.path

pub returns-clause-other : goal.returns-clause-other
returns-clause-other c = λ fault h. refused_otherwise c.args.packets c.args.dump.now c.args.from fault h

pub returns-clause-decided : goal.returns-clause-decided
returns-clause-decided c = decided c.args.packets c.args.dump.now c.args.from c.rebuild_once.ensures.whole
