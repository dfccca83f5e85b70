use Rattle.std.proofs.Common.{ap, sym, ◌∙◌}
use Rattle.std.specs.Prelude.{Some}
use Rattle.rept_remote.specs.Request.Requests.{request_at}
use Rattle.rept_remote.specs.declared.request.request.GdbRequest.TheVariants as request
use Rattle.rept_remote.proofs.request.parser.spot_taken.Goals as goal

pub returns-in-Some-Code : goal.returns-in-Some-Code
returns-in-Some-Code c = sym (c.spot_of.ensures request.Unbreak request.Unwatch ∙ ap (request_at request.Unbreak request.Unwatch) (c.in-Some-Code.is ∙ ap Some c.in-Some-Code.field-0-is))

pub returns-in-Some-Bytes : goal.returns-in-Some-Bytes
returns-in-Some-Bytes c = sym (c.spot_of.ensures request.Unbreak request.Unwatch ∙ ap (request_at request.Unbreak request.Unwatch) (c.in-Some-Bytes.is ∙ ap Some c.in-Some-Bytes.field-0-is))

pub returns-in-None : goal.returns-in-None
returns-in-None c = sym (c.spot_of.ensures request.Unbreak request.Unwatch ∙ ap (request_at request.Unbreak request.Unwatch) c.in-None.is)
