use Rattle.std.proofs.Common.{◌+◌, List, [], ◌∷◌, sym, ap, ◌∙◌, arith}
use Rattle.rept_partial.specs.declared.range.Range.{Range}
use Rattle.rept_partial.specs.declared.flat.Flat.TheVariants.{Known}
use Rattle.rept_havoc.specs.Havoc.{argument, IsExact}
use Rattle.tables_of_machine.proofs.Arguments.{all_exact, six}
use Rattle.tables_of_machine.proofs.calls.changes.Goals as goal

pub returns : goal.returns
returns c = λ register number each.
    let args : List Range = c.new.result ∷ c.new-2.result ∷ c.new-3.result ∷ c.new-4.result ∷ c.new-5.result ∷ c.new-6.result ∷ [] in
    let exact = six (λ k. IsExact (argument args (10 + k)) (register (10 + k)))
    (let e = each 0 (omega arith) in (c.new.ensures.lowest ∙ sym e, c.new.ensures.highest ∙ sym e))
    (let e = each 1 (omega arith) in (c.new-2.ensures.lowest ∙ sym e, c.new-2.ensures.highest ∙ sym e))
    (let e = each 2 (omega arith) in (c.new-3.ensures.lowest ∙ sym e, c.new-3.ensures.highest ∙ sym e))
    (let e = each 3 (omega arith) in (c.new-4.ensures.lowest ∙ sym e, c.new-4.ensures.highest ∙ sym e))
    (let e = each 4 (omega arith) in (c.new-5.ensures.lowest ∙ sym e, c.new-5.ensures.highest ∙ sym e))
    (let e = each 5 (omega arith) in (c.new-6.ensures.lowest ∙ sym e, c.new-6.ensures.highest ∙ sym e))
    in
    c.may_hit.ensures ∙ c.havoc.ensures.exact register c.args.call.now.answer c.args.a (ap Known (sym number)) (all_exact args register exact) (c.new-answer.ensures.lowest, c.new-answer.ensures.highest) c.ranges.a.fits
