use Rattle.std.proofs.Common.{List, ℕ, ap, sym, subst, ◌∙◌}
use Rattle.rept_dump.specs.Memory.{of_executable}
use Rattle.rept_dump.specs.Stretch.{AnswersAlike, sought_kept}
use Rattle.rept_elf.specs.Segments.{segments}
use Rattle.rept_dump.proofs.executable.Executable.near_code.Goals as goal

pub invariant_of-executable : goal.invariant_of-executable
invariant_of-executable c = record {
  ends = c.args.self.now.ends ∙ sym (ap (λ (file : List ℕ). (of_executable file).end) c.near-executable.ensures);
  answers = subst (λ (file : List ℕ). AnswersAlike (sought_kept (segments file)) c.args.self.now.kept) (sym c.near-executable.ensures) c.args.self.now.answers;
}
