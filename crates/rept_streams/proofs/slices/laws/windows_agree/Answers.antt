use Rattle.rept_streams.proofs.SlicesLemmas.Begun.{window_is}
use Rattle.rept_streams.proofs.slices.laws.windows_agree.Goals as goal

pub returns : goal.returns
returns c = λ from packets. window_is from packets
