-- A run with the last time of its untraced prefix.
use Rattle.std.proofs.Common.{◌≡◌, ℕ, List, Option, Some, Result, Ok, sym, ◌∙◌, ap, subst}
use Rattle.std.specs.Option.{option_map}
use Rattle.rept_steps.specs.declared.run.Run.{Run}
use Rattle.rept_trace.specs.declared.fault.TraceFault.{TraceFault}
use Rattle.rept_trace.specs.declared.packet.Packet.{Packet}
use Rattle.rept_trace.specs.Streams.{StreamFile}
use Rattle.rept_streams.specs.Slices.Raw.{streams_of, HoldEach}
use Rattle.rept_streams.specs.Slices.Ending.{last_time}
use Rattle.rept_streams.specs.Runs.Ended.{with_untraced, HoldsPackets}

-- the packets that the bytes hold are those of the file that was opened
pub held_by : (trace : List ℕ) (file : StreamFile) (lists : List (List Packet)) (h : HoldsPackets trace lists) → ◌≡◌ {A = Result StreamFile TraceFault} (Ok file) (Ok h.file) → HoldEach (streams_of file) lists
held_by trace file lists h same =
    let one : h.file ≡ file = cc in
    subst (λ (f : StreamFile). HoldEach (streams_of f) lists) one h.packets

pub ended_is : (from : ℕ) (lists : List (List Packet)) (told : Run) (end last : ℕ) → told.untraced ≡ Some end → last ≡ last_time from lists end → with_untraced (Some last) told ≡ with_untraced (option_map (last_time from lists) told.untraced) told
ended_is from lists told end last ends is =
    let same : Some last ≡ option_map (last_time from lists) told.untraced = ap Some is ∙ sym (ap (option_map (last_time from lists)) ends) in
    ap (λ (u : Option ℕ). with_untraced u told) same
