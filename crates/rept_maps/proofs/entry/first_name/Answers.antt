use Rattle.std.proofs.Common.{◌≡◌, ◌∙◌, List, ◌∷◌, take, ap, sym, ℕ, rules}
use Rattle.std.specs.Prelude.{None}
use Rattle.rept_maps.specs.FileMap.{parts}
use Rattle.rept_maps.proofs.Parts.{part_ended, part_alone}
use Rattle.rept_maps.proofs.entry.first_name.Goals as goal

pub returns-in_err-end : goal.returns-in_err-end
returns-in_err-end c =
    let none : c.from_residual.result ≡ None = search rules in
    rw none (part_alone c.args.bytes.now c.in_err-end.ensures.place)

pub returns : goal.returns
returns c =
    part_ended c.args.bytes.now c.in_ok-end.end c.in_ok-end.ensures.place
    ∙ ap (λ (rest : List ℕ). take c.in_ok-end.end c.args.bytes.now ∷ parts rest) (sym c.after.ensures)
