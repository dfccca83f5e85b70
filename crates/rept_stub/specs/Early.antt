-- Answers that no report changes, to a debugger that stands where it began (GDB manual, appendix
-- Remote Serial Protocol, sections Packets and General Query Packets).
use Rattle.std.specs.Prelude.{ℕ, List, [], Option, None, Some, codes}
use Rattle.rept_remote.specs.declared.request.request.GdbRequest.{GdbRequest}
use Rattle.rept_remote.specs.declared.request.request.GdbRequest.TheVariants as request
use Rattle.rept_remote.specs.declared.request.request.TargetObject.TheVariants as object
use Rattle.rept_remote.specs.declared.request.request.ThreadName.{ThreadName}
use Rattle.rept_remote.specs.declared.request.request.ThreadName.TheVariants as name
use Rattle.rept_stub.specs.Answers.{fixed_reply}
use Rattle.rept_stub.specs.Description.{description_text}
use Rattle.rept_stub.specs.Replies.{part_reply}

-- any thread may be selected, and none is by that
abbrev pub early_selection : ThreadName → Option (List ℕ)
early_selection name.Any = Some (codes "OK")
early_selection _ = None

-- what this side can do, the description of the registers, and the empty answer to a packet that
-- isn't known; every other packet waits for the report
abbrev pub early_reply : GdbRequest → Option (List ℕ)
early_reply request.Features = Some (fixed_reply request.Features)
early_reply request.NoAcknowledgments = Some (fixed_reply request.NoAcknowledgments)
early_reply request.Moves = Some (fixed_reply request.Moves)
early_reply request.Attached = Some (fixed_reply request.Attached)
early_reply request.Unknown = Some (fixed_reply request.Unknown)
early_reply (request.Part object.Description offset count) = Some (part_reply description_text offset count)
early_reply (request.SelectThread name) = early_selection name
early_reply (request.SelectMoving name) = early_selection name
early_reply _ = None
