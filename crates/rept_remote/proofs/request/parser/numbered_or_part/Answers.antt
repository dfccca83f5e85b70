use Rattle.std.proofs.Common.{◌≡◌, ℕ, List, Some, drop, ap, sym, ◌∙◌}
use Rattle.rept_remote.specs.Request.Numbers.{pair_of}
use Rattle.rept_remote.specs.Request.Requests.{name_length, object_of, part_or_lettered, with_pair}
use Rattle.rept_remote.specs.declared.request.request.GdbRequest.TheVariants as request
use Rattle.rept_remote.proofs.request.parser.numbered_or_part.Goals as goal

pub returns-in-Some : goal.returns-in-Some
returns-in-Some c =
    let named : object_of c.args.packet.now ≡ Some c.in-Some.object = sym c.object_of.ensures ∙ c.in-Some.is in
    c.part_of.ensures
    ∙ ap (λ (rest : List ℕ). with_pair (request.Part c.in-Some.object) (pair_of rest)) (c.after.ensures ∙ ap (λ (n : ℕ). drop n c.args.packet.now) c.name_length.ensures)
    ∙ sym (ap (part_or_lettered c.args.packet.now) named)
