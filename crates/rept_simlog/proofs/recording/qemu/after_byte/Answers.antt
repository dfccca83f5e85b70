use Rattle.std.proofs.Common.{◌∙◌}
use Rattle.std.specs.Prelude.{◌==◌}
use Rattle.rept_simlog.proofs.QemuLemmas.{after_found, after_none}
use Rattle.rept_simlog.proofs.recording.qemu.after_byte.Goals as goal

pub returns-in-Some-clause-value : goal.returns-in-Some-clause-value
returns-in-Some-clause-value c = c.after_place.ensures.value ∙ after_found (λ byte. byte == c.args.sought) c.args.text.now c.in-Some.place c.in-Some.ensures.place

pub returns-in-None-clause-value : goal.returns-in-None-clause-value
returns-in-None-clause-value c = after_none (λ byte. byte == c.args.sought) c.args.text.now c.in-None.ensures.place
