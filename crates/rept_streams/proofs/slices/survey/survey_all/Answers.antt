use Rattle.std.proofs.Common.{◌≡◌, ◌⊎◌, inl, inr}
use Rattle.rept_path.specs.declared.fault.PathFault.TheVariants.{OutOfMemory}
use Rattle.rept_streams.specs.Slices.Raw.{Looked}
use Rattle.rept_streams.proofs.SlicesLemmas.OneSurvey.{one_refusal, refused_or_passed, only_refused, only_passed}
use Rattle.rept_streams.proofs.slices.survey.survey_all.Goals as goal

pub returns-clause-only_ok : goal.returns-clause-only_ok
returns-clause-only_ok c = λ lists p.
    let l : Looked = record { file = c.args.streams.now; processes = c.args.processes.now; from = c.args.from } in
    only_passed _ c.survey_once.result c.survey_once.ensures.err (λ e. e ≡ OutOfMemory) (λ e h. elim h [ inl m ↦ m | inr r ↦ absurd (refused_or_passed l e lists r p) ])

pub returns-clause-only_refusal : goal.returns-clause-only_refusal
returns-clause-only_refusal c = λ fault r.
    let l : Looked = record { file = c.args.streams.now; processes = c.args.processes.now; from = c.args.from } in
    only_refused _ _ c.survey_once.result c.survey_once.ensures.ok c.survey_once.ensures.err (λ s p. refused_or_passed l fault p.0 r p.1) (λ e. (e ≡ OutOfMemory) ⊎ (e ≡ fault)) (λ e h. elim h [ inl m ↦ inl m | inr q ↦ inr (one_refusal l e fault q r) ])
