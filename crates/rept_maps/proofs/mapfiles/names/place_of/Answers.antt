use Rattle.std.proofs.Common.{◌∙◌}
use Rattle.std.specs.Str.{bytes_eq}
use Rattle.rept_maps.proofs.MapfilesLemmas.Distinct.{placed}
use Rattle.rept_maps.proofs.mapfiles.names.place_of.Goals as goal

pub returns : goal.returns
returns c = c.position_of.ensures ∙ placed (λ n. n.now) (λ n. bytes_eq n c.args.name.now) c.args.names.now
