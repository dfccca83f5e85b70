use Rattle.std.proofs.Common.{arith}
use Rattle.rept_word.proofs.number.inverse_odd.Goals as goal

pub returns : goal.returns
returns c =
    let two = c.refined-two.ensures 1 (omega arith) (omega arith) in
    let four = c.refined-four.ensures 2 (omega arith) two in
    let eight = c.refined-eight.ensures 4 (omega arith) four in
    let sixteen = c.refined-sixteen.ensures 8 (omega arith) eight in
    c.refined.ensures 16 (omega arith) sixteen
