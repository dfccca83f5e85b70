-- Turns of two threads, worked out by hand: thread 0 has two rows from time 1 to 3, thread 1 one
-- from 2 to 4, thread 0 one from 5 to 6, and thread 1 two from 6 to 9.
use Rattle.std.proofs.Common.{◌≡◌, List, [], ◌∷◌, Some, None, refl}
use Rattle.test_kit.specs.declared.threads.turns.turn.Turn.{Turn}
use Rattle.test_kit.specs.Threads.Turns.Turns.{all_rows, rows_in, steps_before, turn_at, slices_from}

abbrev first : Turn
first = record { thread = 0; stream = 0; count = 2; begin = 1; end = 3 }

abbrev second : Turn
second = record { thread = 1; stream = 1; count = 1; begin = 2; end = 4 }

abbrev third : Turn
third = record { thread = 0; stream = 0; count = 1; begin = 5; end = 6 }

abbrev fourth : Turn
fourth = record { thread = 1; stream = 0; count = 2; begin = 6; end = 9 }

abbrev turns : List Turn
turns = first ∷ second ∷ third ∷ fourth ∷ []

six_rows : all_rows turns ≡ 6
six_rows = refl

three_of_one : rows_in 1 turns ≡ 3
three_of_one = refl

-- the slices of each thread count its own rows
slices_of_first : slices_from 0 0 turns ≡ record { stream = 0; begin = 1; end = 3; first = 0; count = 2 } ∷ record { stream = 0; begin = 5; end = 6; first = 2; count = 1 } ∷ []
slices_of_first = refl

slices_of_second : slices_from 1 0 turns ≡ record { stream = 1; begin = 2; end = 4; first = 0; count = 1 } ∷ record { stream = 0; begin = 6; end = 9; first = 1; count = 2 } ∷ []
slices_of_second = refl

-- row 4 of all is in the fourth turn, and the second row of its thread
row_four : turn_at turns 4 ≡ Some fourth
row_four = refl

one_before : steps_before 1 turns 4 ≡ 1
one_before = refl

three_of_the_other : steps_before 0 turns 4 ≡ 3
three_of_the_other = refl

no_seventh : turn_at turns 6 ≡ None
no_seventh = refl
