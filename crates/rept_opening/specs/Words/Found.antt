-- The meaning of what `clap` finds in words.
use Rattle.std.specs.Prelude.{ℕ, List, [], ◌∷◌, length, Bool, false, ◌&&◌, ◌||◌, nat_le, Option, Some, None, codes, if◌then◌else◌}
use Rattle.std.specs.List.{list_all}
use Rattle.std.specs.Str.{bytes_eq}
use Rattle.std.specs.Option.{option_and_then}
use Rattle.clap.specs.Words.{Row, Text, first_of}
use Rattle.rept_word.specs.Parsing.Numbers.{decimal_of}
use Rattle.rept_opening.specs.Words.Words.{CoreNames, Names, Meaning, is_plain, made_of, maps_from, opened_by}
use Rattle.rept_opening.specs.declared.words.request.Domain.{Domain}
use Rattle.rept_opening.specs.declared.words.request.Domain.TheVariants as domain
use Rattle.rept_opening.specs.Words.Words.Meaning.{Maps}

-- the names of the files, where all three are found
abbrev pub names_by : List Row → Option Names
names_by rows =
    option_and_then (λ exe. option_and_then (λ core. option_and_then (λ trace. Some (record { exe = exe; core = core; trace = trace }))
    (first_of (codes "trace") rows)) (first_of (codes "core") rows)) (first_of (codes "exe") rows)

-- these names and the word of a packet, if there is one
abbrev pub open_with : Domain → Names → Option Text → Option Meaning
open_with d names None = Some (opened_by d names None)
open_with d names (Some from) = option_and_then (λ k. Some (opened_by d names (Some k))) (decimal_of from)

abbrev pub open_by : Domain → List Row → Option Meaning
open_by d rows = option_and_then (λ names. open_with d names (first_of (codes "from") rows)) (names_by rows)

-- the names of a core file and of a trace, where both are found
abbrev pub core_names_by : List Row → Option CoreNames
core_names_by rows = option_and_then (λ core. option_and_then (λ trace. Some (record { core = core; trace = trace })) (first_of (codes "trace") rows)) (first_of (codes "core") rows)

abbrev pub maps_with : CoreNames → Option Text → Option Meaning
maps_with names None = Some (Maps domain.Ranges names None)
maps_with names (Some from) = maps_from names from

abbrev pub maps_by : List Row → Option Meaning
maps_by rows = option_and_then (λ names. maps_with names (first_of (codes "from") rows)) (core_names_by rows)

abbrev pub made_by : List Row → Option Meaning
made_by rows = option_and_then (λ seed. option_and_then (λ steps. made_of seed steps) (first_of (codes "steps") rows)) (first_of (codes "seed") rows)

-- the meaning of the words that are found after a subcommand of this name
abbrev pub meaning_after : Text → List Row → Option Meaning
meaning_after name rows =
    if bytes_eq name (codes "open") then open_by domain.Ranges rows
    else if bytes_eq name (codes "bits") then open_by domain.KnownBits rows
    else if bytes_eq name (codes "infer") then open_by domain.Inferred rows
    else if bytes_eq name (codes "maps") then maps_by rows
    else made_by rows

-- the meaning of a subcommand that is found, with its words
abbrev pub found_meaning : Option (Text × List Row) → Option Meaning
found_meaning found = option_and_then (λ p. meaning_after p.0 p.1) found

-- the word names a subcommand
abbrev pub is_command : Text → Bool
is_command word = bytes_eq word (codes "open") || bytes_eq word (codes "bits") || bytes_eq word (codes "infer") || bytes_eq word (codes "maps") || bytes_eq word (codes "self")

-- plain words after `open`, `bits`, `infer`, `maps` or `self`, five of them at most
abbrev pub is_screened : List (List ℕ) → Bool
is_screened [] = false
is_screened (first ∷ words) = is_command first && (nat_le (length words) 5 && list_all is_plain words)
