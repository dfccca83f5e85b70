use Rattle.std.proofs.Common.{refl}
use Rattle.rept_streams.proofs.slices.laws.worked_examples.Goals as goal

pub returns-clause-two_harts : goal.returns-clause-two_harts
returns-clause-two_harts c = refl

pub returns-clause-two_harts_later : goal.returns-clause-two_harts_later
returns-clause-two_harts_later c = refl

pub returns-clause-moved : goal.returns-clause-moved
returns-clause-moved c = refl

pub returns-clause-next_elsewhere : goal.returns-clause-next_elsewhere
returns-clause-next_elsewhere c = refl

pub returns-clause-one_hart : goal.returns-clause-one_hart
returns-clause-one_hart c = refl

pub returns-clause-whole_stream_skipped : goal.returns-clause-whole_stream_skipped
returns-clause-whole_stream_skipped c = refl

pub returns-clause-tied_while_skipped : goal.returns-clause-tied_while_skipped
returns-clause-tied_while_skipped c = refl

pub returns-clause-start_at_the_time : goal.returns-clause-start_at_the_time
returns-clause-start_at_the_time c = refl

pub returns-clause-time_goes_back : goal.returns-clause-time_goes_back
returns-clause-time_goes_back c = refl

pub returns-clause-time_goes_back_after_a_slice : goal.returns-clause-time_goes_back_after_a_slice
returns-clause-time_goes_back_after_a_slice c = refl

pub returns-clause-no_packets : goal.returns-clause-no_packets
returns-clause-no_packets c = refl

pub returns-clause-no_start : goal.returns-clause-no_start
returns-clause-no_start c = refl

pub returns-clause-packets_lost : goal.returns-clause-packets_lost
returns-clause-packets_lost c = refl

pub returns-clause-back_before_no_start : goal.returns-clause-back_before_no_start
returns-clause-back_before_no_start c = refl

pub returns-clause-no_fault : goal.returns-clause-no_fault
returns-clause-no_fault c = refl

pub returns-clause-unknown_thread : goal.returns-clause-unknown_thread
returns-clause-unknown_thread c = refl

pub returns-clause-other_thread : goal.returns-clause-other_thread
returns-clause-other_thread c = refl

pub returns-clause-unknown_before_other : goal.returns-clause-unknown_before_other
returns-clause-unknown_before_other c = refl

pub returns-clause-no_start_before_unknown : goal.returns-clause-no_start_before_unknown
returns-clause-no_start_before_unknown c = refl

pub returns-clause-skipped_thread : goal.returns-clause-skipped_thread
returns-clause-skipped_thread c = refl

pub returns-clause-other_thread_skipped : goal.returns-clause-other_thread_skipped
returns-clause-other_thread_skipped c = refl

pub returns-clause-one_time : goal.returns-clause-one_time
returns-clause-one_time c = refl

pub returns-clause-later_packet : goal.returns-clause-later_packet
returns-clause-later_packet c = refl

pub returns-clause-packet_after_the_end : goal.returns-clause-packet_after_the_end
returns-clause-packet_after_the_end c = refl

pub returns-clause-start_that_ends : goal.returns-clause-start_that_ends
returns-clause-start_that_ends c = refl

pub returns-clause-times_that_touch : goal.returns-clause-times_that_touch
returns-clause-times_that_touch c = refl

pub returns-clause-streams_apart : goal.returns-clause-streams_apart
returns-clause-streams_apart c = refl

pub returns-clause-first_note_first : goal.returns-clause-first_note_first
returns-clause-first_note_first c = refl

pub returns-clause-least_time_first : goal.returns-clause-least_time_first
returns-clause-least_time_first c = refl
