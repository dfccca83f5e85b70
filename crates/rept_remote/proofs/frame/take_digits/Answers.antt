use Rattle.rept_remote.proofs.Taking.{digit_halts, digits_pass}
use Rattle.rept_remote.proofs.frame.take_digits.Goals as goal

pub returns-in-Ok : goal.returns-in-Ok
returns-in-Ok g c = digits_pass _ _ _ _ _ _ c.in_ok-high.high c.in-Ok.low c.in_ok-high.ensures c.in-Ok.ensures

pub returns-in-Err : goal.returns-in-Err
returns-in-Err g c = digit_halts _ _ _ _ _ _ c.in_ok-high.high c.in-Err.why c.in_ok-high.ensures c.in-Err.ensures
