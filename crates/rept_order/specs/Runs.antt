-- The moments, acts and edges of the code as those of the definitions. This project's own.
use Rattle.std.specs.Prelude.{Bool, true, false}
use Rattle.rept_order.specs.declared.moment.Moment as values
use Rattle.rept_order.specs.declared.moment.Act as acts
use Rattle.rept_order.specs.declared.edge.Edge.{Edge}
use Rattle.rept_steps.specs.Course.{Course, row_of, Row, calls}
use Rattle.rept_order.specs.Events.{Event, Part, first_part, last_part}
use Rattle.rept_order.specs.Moments.{Moment, Act}
use Rattle.rept_order.specs.Moments.Moment.{before, after, at_end}
use Rattle.rept_order.specs.Moments.Act.{row, untraced}

abbrev pub moment_named : values.Moment → Moment
moment_named (values.TheVariants.Before t i) = before (row_of t i)
moment_named (values.TheVariants.After t i) = after (row_of t i)
moment_named values.TheVariants.End = at_end

abbrev pub act_named : acts.Act → Act
act_named (acts.TheVariants.Row t i) = row (row_of t i)
act_named acts.TheVariants.Untraced = untraced

abbrev pub edge_part : Bool → Bool → Part
edge_part false is_call = first_part is_call
edge_part true is_call = last_part is_call

-- the row's first event, or its last one
abbrev pub edge_event : Course → Edge → Event
edge_event C e = record { row = row_of e.thread e.step; part = edge_part e.last (calls C (row_of e.thread e.step)) }

abbrev pub beside_by : Row → Bool → Moment
beside_by r false = before r
beside_by r true = after r

-- the moment at a row's first event, or at its last one
abbrev pub moment_beside : Edge → Moment
moment_beside e = beside_by (row_of e.thread e.step) e.last
