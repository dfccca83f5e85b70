-- The reading of an input.
use Rattle.std.proofs.Common.{◌≡◌, ℕ, List, Option}
use Rattle.rept_session.specs.Serving.Serving.{Reading}

abbrev pub reading_of : List ℕ → Option (List ℕ) → Reading
reading_of input left = record { input = input; left = left }
