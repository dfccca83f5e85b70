-- What the words of the command line mean. This project's own.
use Rattle.std.specs.Prelude.{ℕ, List, [], ◌∷◌, Bool, false, not, ◌&&◌, ◌==◌, nat_lt, nat_le, Option, None, Some, codes, if◌then◌else◌}
use Rattle.std.specs.List.{list_all}
use Rattle.std.specs.Str.{bytes_eq}
use Rattle.std.specs.Option.{option_and_then}
use Rattle.rept_word.specs.Parsing.Numbers.{decimal_of}
use Rattle.rept_opening.specs.declared.words.request.Domain.{Domain}
use Rattle.rept_opening.specs.declared.words.request.Domain.TheVariants as domain

-- the names of the files of a crash
pub record Names : Type 0 where
  pub exe : List ℕ
  pub core : List ℕ
  pub trace : List ℕ

-- the names of those of a crash whose core file lists the files of the program
pub record CoreNames : Type 0 where
  pub core : List ℕ
  pub trace : List ℕ

-- `open`, `bits` and `infer` name three files and may name the packet to begin from; `maps` and
-- `infer maps` name two, and the same; `self` gives a seed and a count of steps
pub data Meaning : Type 0 where
  Open : Domain → Names → Option ℕ → Meaning
  Maps : Domain → CoreNames → Option ℕ → Meaning
  Made : ℕ → ℕ → Meaning

-- not empty, and no leading hyphen
abbrev pub is_plain : List ℕ → Bool
is_plain [] = false
is_plain (b ∷ bs) = not (b == 45)

-- 1 to 20000 steps
abbrev pub steps_of : List ℕ → Option ℕ
steps_of word = option_and_then (λ n. if nat_lt 0 n && nat_le n 20000 then Some n else None) (decimal_of word)

abbrev pub made_of : List ℕ → List ℕ → Option Meaning
made_of seed steps = option_and_then (λ s. option_and_then (λ n. Some (Made s n)) (steps_of steps)) (decimal_of seed)

-- what `maps` asks for with these names and the word of a packet
abbrev pub maps_from : CoreNames → List ℕ → Option Meaning
maps_from names from = option_and_then (λ k. Some (Maps domain.Ranges names (Some k))) (decimal_of from)

-- whether these are the words `infer maps`
abbrev pub asks_maps : Domain → List ℕ → Bool
asks_maps domain.Inferred exe = bytes_eq exe (codes "maps")
asks_maps other exe = false

-- what names that follow the word of a domain ask for: `infer maps` names a core file and a trace,
-- any other such words three files; an executable of the name `maps` is `./maps` there
abbrev pub opened_by : Domain → Names → Option ℕ → Meaning
opened_by d names from = if asks_maps d names.exe then Maps d (record { core = names.core; trace = names.trace }) from else Open d names from

-- the domain that a first word asks for
abbrev pub domain_of : List ℕ → Option Domain
domain_of first =
    if bytes_eq first (codes "open") then Some domain.Ranges
    else if bytes_eq first (codes "bits") then Some domain.KnownBits
    else if bytes_eq first (codes "infer") then Some domain.Inferred
    else None

-- the meaning of plain words, by their count and the first of them
abbrev pub plain_meaning : List (List ℕ) → Option Meaning
plain_meaning (first ∷ one ∷ two ∷ three ∷ []) =
    if bytes_eq first (codes "maps") then maps_from (record { core = one; trace = two }) three
    else option_and_then (λ d. Some (opened_by d (record { exe = one; core = two; trace = three }) None)) (domain_of first)
plain_meaning (first ∷ exe ∷ core ∷ trace ∷ from ∷ []) =
    option_and_then (λ d. option_and_then (λ k. Some (opened_by d (record { exe = exe; core = core; trace = trace }) (Some k))) (decimal_of from)) (domain_of first)
plain_meaning (first ∷ one ∷ two ∷ []) =
    if bytes_eq first (codes "self") then made_of one two
    else if bytes_eq first (codes "maps") then Some (Maps domain.Ranges (record { core = one; trace = two }) None)
    else None
plain_meaning words = None

-- the meaning of all words, None where they have none
abbrev pub meaning_of : List (List ℕ) → Option Meaning
meaning_of words = if list_all is_plain words then plain_meaning words else None
