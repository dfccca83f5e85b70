-- What is kept is within its bounds.
use Rattle.std.proofs.Common.{◌≡◌, ℕ, ◌-◌, ◌≤◌, List, [], ◌∷◌, length, min, Bool, true, false, ◌&&◌, cond, nat_le, Option, None, Some, refl, arith}
use Rattle.std.proofs.lemmas.Bool.Decides.{nat_tests}
use Rattle.std.proofs.lemmas.List.{length-take}
use Rattle.std.specs.Option.{option_and_then}
use Rattle.rept_ports.specs.Shelves.{Files}
use Rattle.rept_maps.specs.Mapfiles.Kept.{asked_names, distinct_from, is_image, kept_all, kept_by, most_bytes, names_of, taken, total}

pub few_names : (desc : List ℕ) → length (asked_names desc) ≤ 64
few_names desc = omega (arith, length-take 64 (distinct_from [] (names_of desc)))

by_tests : (limit : ℕ) (bytes : List ℕ) (within image : Bool) → nat_le (length bytes) limit ≡ within → taken (cond (within && image) (Some bytes) None) ≤ limit
by_tests limit bytes true true e = grind (arith, nat_tests)
by_tests limit bytes true false e = omega arith
by_tests limit bytes false image e = omega arith

one_within : (limit : ℕ) (o : Option (List ℕ)) → taken (option_and_then (λ bytes. cond (nat_le (length bytes) limit && is_image bytes) (Some bytes) None) o) ≤ limit
one_within limit None = omega arith
one_within limit (Some bytes) = by_tests limit bytes (nat_le (length bytes) limit) (is_image bytes) refl

pub kept_within : (files : Files) (limit : ℕ) (name : List ℕ) → taken (kept_by files limit name) ≤ limit
kept_within files limit name = one_within limit (files name)

pub all_within : (files : Files) (room : ℕ) (names : List (List ℕ)) → total (kept_all files room names) ≤ room
all_within files room [] = omega arith
all_within files room (n ∷ ns) =
    let size : ℕ = taken (kept_by files (min most_bytes room) n) in
    let one : size ≤ min most_bytes room = kept_within files (min most_bytes room) n in
    let rest : total (kept_all files (room - size) ns) ≤ room - size = all_within files (room - size) ns in
    let less : min most_bytes room ≤ room = omega arith in
    omega (arith, one, rest, less)
