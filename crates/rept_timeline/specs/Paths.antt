-- The rows and moments of a run as an analysis takes them, and that they keep their laws. This
-- project's own.
use Rattle.rept_report.specs.Timeline.{Timeline, IsTimeline}
use Rattle.rept_extents.specs.Timelines.{time_of}
use Rattle.rept_timeline.specs.Lawful.{is_timeline}
use Rattle.rept_timeline.specs.declared.run_paths.RunPaths.{RunPaths}

abbrev pub timeline : RunPaths → Timeline
timeline p = time_of p.ways

pub lawful : (p : RunPaths) → IsTimeline (timeline p)
lawful p = is_timeline (time_of p.ways) p.lawful
