use Rattle.std.proofs.Common.{sym, ◌∙◌}
use Rattle.rept_word.proofs.BitLemmas.{is_bit}
use Rattle.rept_trace.proofs.read.support.Goals as goal

pub returns-then-options-eq0 : goal.returns-then-options-eq0
returns-then-options-eq0 c = λ payload at format subformat widths.
    let second = c.take-enabled.ensures.at payload 4 at in
    let third = c.take-mode.ensures.at payload 5 second in
    let fourth = c.take.ensures.at payload 6 third in
    record {
      format = format;
      subformat = subformat;
      enable = is_bit payload 4 c.take-enabled.result (c.take-enabled.ensures.value payload 4 at);
      mode = sym (c.take-mode.ensures.value payload 5 second) ∙ c.if-mode-eq0.true;
      number = sym (c.take.ensures.value payload 6 third) ∙ sym c.status_of-status.ensures;
      options = sym (c.take-options.ensures.value payload 8 fourth) ∙ c.if-options-eq0.true;
    }
