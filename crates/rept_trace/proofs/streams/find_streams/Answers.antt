use Rattle.std.proofs.Common.{arith}
use Rattle.std.proofs.lemmas.Grind.{common_steps}
use Rattle.rept_trace.specs.Header.{several_streams}
use Rattle.rept_trace.proofs.HeaderLemmas.{length_of_header}
use Rattle.rept_trace.proofs.StreamLemmas.{shorter_rest, kept, opens, goes_on}
use Rattle.rept_trace.proofs.streams.find_streams.Goals as goal

pub overflow_sub-result : goal.overflow_sub-result
overflow_sub-result c =
    let o = c.in_ok-end.ensures.ok in
    let whole = length_of_header several_streams c.args.bytes.now c.in_ok-heading.heading c.in_ok-heading.rest.now c.in_ok-heading.ensures.ok in
    let less = shorter_rest c.in_ok-heading.rest.now o.0 c.in_ok-end.end.now o.2 in
    omega arith

pub invariant_of-result : goal.invariant_of-result
invariant_of-result c =
    let o = c.in_ok-end.ensures.ok in
    kept c.in_ok-heading.rest.now c.in_ok-heading.heading.count o.0 c.in_ok-end.end.now o.1 o.2 (grind (arith, common_steps))

pub returns-then-is_empty : goal.returns-then-is_empty
returns-then-is_empty c =
    let o = c.in_ok-end.ensures.ok in
    opens c.args.bytes.now c.in_ok-heading.heading c.in_ok-heading.rest.now o.0 c.in_ok-end.end.now c.in_ok-heading.ensures.ok o.1 o.2 (grind (arith, common_steps))

pub returns : goal.returns
returns c =
    let o = c.in_ok-end.ensures.ok in
    goes_on c.args.bytes.now c.in_ok-heading.heading c.in_ok-heading.rest.now o.0 c.in_ok-end.end.now c.in_ok-heading.ensures.ok o.1 o.2 (grind (arith, common_steps))
