-- What several streams tell before a row is walked, as it is kept. This project's own.
use Rattle.std.specs.Prelude.{◌≡◌, nat_lt, ℕ, List, length}
use Rattle.std.specs.List.{sum_by, filter_map}
use Rattle.rept_trace.specs.declared.packet.Packet.{Packet}
use Rattle.rept_streams.specs.Slices.Parts.{slices_told}
use Rattle.rept_streams.specs.Slices.Skipping.{windows as all_windows, opening, full_from, kept, skipped}
use Rattle.rept_streams.specs.Slices.Entries.{AreEntriesOf}
use Rattle.rept_streams.specs.declared.slices.survey.StreamSurvey.{StreamSurvey}

pub record IsSurvey (from : ℕ) (lists : List (List Packet)) (s : StreamSurvey) : Type 0 where
  pub windows : AreEntriesOf s.windows.items (slices_told (all_windows from lists))
  pub time : s.time ≡ full_from (all_windows from lists)
  pub several : s.several ≡ nat_lt 1 (length (filter_map opening (all_windows from lists)))
  pub slices : AreEntriesOf s.slices.items (slices_told (kept from lists))
  pub packets : s.packets ≡ sum_by (λ packets. length packets) lists
  pub skipped : s.skipped ≡ skipped from lists
