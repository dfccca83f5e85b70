use Rattle.rept_word.proofs.BitLemmas.{is_bit}
use Rattle.rept_trace.specs.Grammar.{after_stamp}
use Rattle.rept_trace.proofs.read.start.Goals as goal

pub returns : goal.returns
returns c = λ payload at format subformat.
    let third = c.take-branch.ensures.at payload 4 at in
    let fourth = c.take-privilege.ensures.at payload 5 third in
    let last = c.stamp-time.ensures.at payload 7 fourth in
    let address = c.address-address.ensures.value payload (after_stamp c.args.widths 7) last in
    record {
      format = format;
      subformat = subformat;
      branch_bit = is_bit payload 4 c.take-branch.result (c.take-branch.ensures.value payload 4 at);
      level = c.take-privilege.ensures.value payload 5 third;
      stamp = c.stamp-time.ensures.fields payload 7 fourth;
      place = address;
    }
