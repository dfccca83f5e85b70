use Rattle.std.proofs.Common.{◌≡◌, ◌+◌, ◌-◌, ℕ, List, subst, arith, ◌∙◌}
use Rattle.rept_word.specs.Cursor.{IsAt}
use Rattle.rept_word.specs.declared.cursor.BitCursor.{BitCursor}
use Rattle.rept_trace.specs.Grammar.{address_width}
use Rattle.rept_trace.proofs.ReadLemmas.{flag_is, highest, wide}
use Rattle.rept_trace.proofs.read.report.Goals as goal

moved : (payload : List ℕ) (i j : ℕ) (cursor : BitCursor) → i ≡ j → IsAt cursor payload i → IsAt cursor payload j
moved payload i j cursor e at = subst (λ n. IsAt cursor payload n) e at

pub returns : goal.returns
returns c = λ payload i at.
    let w = address_width c.args.widths in
    let some = wide c.args.widths in
    let second = c.address-difference.ensures.at payload i at in
    let third = moved payload (i + w + 1) (i + (w + 1)) _ (omega arith) (c.take-notify.ensures.at payload (i + w) second) in
    let fourth = moved payload (i + (w + 1) + 1) (i + (w + 2)) _ (omega arith) (c.take-updiscon.ensures.at payload (i + (w + 1)) third) in
    let notify = c.take-notify.ensures.value payload (i + w) second in
    let updiscon = c.take-updiscon.ensures.value payload (i + (w + 1)) third in
    let irreport = c.take-irreport.ensures.value payload (i + (w + 2)) fourth in
    let difference = c.address-difference.ensures.value payload i at in
    record {
      address = difference;
      asked = flag_is payload (i + (w - 1)) (i + w) c.take-notify.result _ (omega arith) notify (c.from.ensures ∙ highest c.args.widths payload i c.address-difference.result difference);
      discontinuity = flag_is payload (i + w) (i + (w + 1)) c.take-updiscon.result c.take-notify.result (omega arith) updiscon notify;
      returned = flag_is payload (i + (w + 1)) (i + (w + 2)) c.take-irreport.result c.take-updiscon.result (omega arith) irreport updiscon;
    }
