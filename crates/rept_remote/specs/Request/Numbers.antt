-- Numbers and texts in packets: hexadecimal digits, the highest first, and bytes as pairs of digits
-- (GDB manual, appendix Remote Serial Protocol, section Overview). A number has at most eight
-- digits here, as addresses of 32 bits have.
use Rattle.std.specs.Prelude.{ℕ, ◌+◌, List, drop, take, Bool, ◌==◌, Option, None, Some}
use Rattle.std.specs.List.{position}
use Rattle.rept_word.specs.Parsing.Numbers.{hexadecimal_of}

abbrev pub both : Option ℕ → Option ℕ → Option (ℕ × ℕ)
both (Some first) (Some second) = Some (first, second)
both _ _ = None

abbrev pub is_comma : ℕ → Bool
is_comma byte = byte == 44

-- two numbers with a comma between them
abbrev pub pair_at : List ℕ → Option ℕ → Option (ℕ × ℕ)
pair_at text None = None
pair_at text (Some i) = both (hexadecimal_of (take i text)) (hexadecimal_of (drop (i + 1) text))

abbrev pub pair_of : List ℕ → Option (ℕ × ℕ)
pair_of text = pair_at text (position is_comma text)
