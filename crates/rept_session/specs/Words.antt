-- The words of a line. This project's own.
use Rattle.std.specs.Prelude.{ℕ, List, [], ◌∷◌, Bool, true, false, not, ◌||◌, ◌==◌}
use Rattle.std.specs.List.{filter, slice_split}

-- a space or a tab
abbrev pub is_blank : ℕ → Bool
is_blank byte = byte == 32 || byte == 9

abbrev pub is_letter : ℕ → Bool
is_letter byte = not (is_blank byte)

abbrev pub is_some_part : List ℕ → Bool
is_some_part [] = false
is_some_part (byte ∷ bytes) = true

-- the words of a text: its parts between spaces and tabs that aren't empty
abbrev pub words_in : List ℕ → List (List ℕ)
words_in text = filter is_some_part (slice_split is_blank text)
