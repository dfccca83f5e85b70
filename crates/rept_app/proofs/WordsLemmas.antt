-- The count of steps that words ask for.
use Rattle.std.proofs.Common.{◌≡◌, ℕ, ◌≤◌, List, [], ◌∷◌, Bool, true, false, ◌&&◌, cond, nat_lt, nat_le, Option, None, Some, codes, refl, subst, arith}
use Rattle.std.proofs.lemmas.Bool.Decides.{nat_tests}
use Rattle.std.specs.List.{list_all}
use Rattle.std.specs.Option.{option_and_then}
use Rattle.std.specs.Str.{bytes_eq}
use Rattle.rept_word.specs.Parsing.Numbers.{decimal_of}
use Rattle.rept_opening.specs.Words.Words.{CoreNames, Names, Meaning, maps_from, asks_maps, opened_by, is_plain, steps_of, made_of, domain_of, plain_meaning, meaning_of}
use Rattle.rept_opening.specs.Words.Words.Meaning.{Open, Maps, Made}
use Rattle.rept_opening.specs.declared.words.request.Domain.{Domain}
use Rattle.rept_opening.specs.declared.words.request.Domain.TheVariants as domain

-- it is one of 1 to 20000
abbrev pub AsksFew : Option Meaning → Type 0
AsksFew None = Unit {0}
AsksFew (Some (Maps d names from)) = Unit {0}
AsksFew (Some (Open d names from)) = Unit {0}
AsksFew (Some (Made seed steps)) = (1 ≤ steps) × (steps ≤ 20000)

abbrev IsFew : Option ℕ → Type 0
IsFew None = Unit {0}
IsFew (Some n) = (1 ≤ n) × (n ≤ 20000)

either : (b : Bool) (x y : Option Meaning) → AsksFew x → AsksFew y → AsksFew (cond b x y)
either true x y h k = h
either false x y h k = k

few_by : (n : ℕ) (b : Bool) → (nat_lt 0 n && nat_le n 20000) ≡ b → IsFew (cond b (Some n) None)
few_by n true e = (grind (arith, nat_tests), grind (arith, nat_tests))
few_by n false e = tt

few_of : (o : Option ℕ) → IsFew (option_and_then (λ n. cond (nat_lt 0 n && nat_le n 20000) (Some n) None) o)
few_of None = tt
few_of (Some n) = few_by n (nat_lt 0 n && nat_le n 20000) refl

made_few : (s : ℕ) (o : Option ℕ) → IsFew o → AsksFew (option_and_then (λ n. Some (Made s n)) o)
made_few s None h = tt
made_few s (Some n) h = h

seeded_few : (o steps : Option ℕ) → IsFew steps → AsksFew (option_and_then (λ s. option_and_then (λ n. Some (Made s n)) steps) o)
seeded_few None steps h = tt
seeded_few (Some s) steps h = made_few s steps h

made_of_few : (seed steps : List ℕ) → AsksFew (made_of seed steps)
made_of_few seed steps = seeded_few (decimal_of seed) (steps_of steps) (few_of (decimal_of steps))

maps_few : (names : CoreNames) (o : Option ℕ) → AsksFew (option_and_then (λ k. Some (Maps domain.Ranges names (Some k))) o)
maps_few names None = tt
maps_few names (Some k) = tt

chosen_few : (b : Bool) (x y : Meaning) → AsksFew (Some x) → AsksFew (Some y) → AsksFew (Some (cond b x y))
chosen_few true x y h k = h
chosen_few false x y h k = k

opened_few : (d : Domain) (names : Names) (from : Option ℕ) → AsksFew (Some (opened_by d names from))
opened_few d names from = chosen_few (asks_maps d names.exe) (Maps d (record { core = names.core; trace = names.trace }) from) (Open d names from) tt tt

from_few : (d : Domain) (names : Names) (o : Option ℕ) → AsksFew (option_and_then (λ k. Some (opened_by d names (Some k))) o)
from_few d names None = tt
from_few d names (Some k) = opened_few d names (Some k)

domain_few : (f : Domain → Option Meaning) (o : Option Domain) → ((d : Domain) → AsksFew (f d)) → AsksFew (option_and_then f o)
domain_few f None h = tt
domain_few f (Some d) h = h d

plain_few : (words : List (List ℕ)) → AsksFew (plain_meaning words)
plain_few [] = tt
plain_few (a ∷ []) = tt
plain_few (a ∷ b ∷ []) = tt
plain_few (first ∷ seed ∷ steps ∷ []) =
    let names : CoreNames = record { core = seed; trace = steps } in
    either (bytes_eq first (codes "self")) (made_of seed steps) (cond (bytes_eq first (codes "maps")) (Some (Maps domain.Ranges names None)) None) (made_of_few seed steps)
    (either (bytes_eq first (codes "maps")) (Some (Maps domain.Ranges names None)) None tt tt)
plain_few (first ∷ exe ∷ core ∷ trace ∷ []) =
    let names : CoreNames = record { core = exe; trace = core } in
    let opened : Option Meaning = option_and_then (λ d. Some (opened_by d (record { exe = exe; core = core; trace = trace }) None)) (domain_of first) in
    either (bytes_eq first (codes "maps")) (maps_from names trace) opened (maps_few names (decimal_of trace))
    (domain_few (λ d. Some (opened_by d (record { exe = exe; core = core; trace = trace }) None)) (domain_of first) (λ d. opened_few d (record { exe = exe; core = core; trace = trace }) None))
plain_few (first ∷ exe ∷ core ∷ trace ∷ from ∷ []) =
    domain_few (λ d. option_and_then (λ k. Some (opened_by d (record { exe = exe; core = core; trace = trace }) (Some k))) (decimal_of from)) (domain_of first) (λ d. from_few d (record { exe = exe; core = core; trace = trace }) (decimal_of from))
plain_few (a ∷ b ∷ c ∷ d ∷ e ∷ f ∷ more) = tt

pub asks_few : (words : List (List ℕ)) (seed steps : ℕ) → meaning_of words ≡ Some (Made seed steps) → (1 ≤ steps) × (steps ≤ 20000)
asks_few words seed steps named = subst AsksFew named (either (list_all is_plain words) (plain_meaning words) None (plain_few words) tt)
