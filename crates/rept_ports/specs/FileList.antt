-- Files in memory, as a list of names and bytes.
use Rattle.std.specs.Prelude.{ℕ, List, [], ◌∷◌, Option, None, Some, map, string_bytes, String, if◌then◌else◌}
use Rattle.std.specs.Str.{bytes_eq}
use Rattle.std.specs.Global.{Vec, Global}

-- the bytes of the file of that name
abbrev pub file_in : List (List ℕ × List ℕ) → List ℕ → Option (List ℕ)
file_in [] name = None
file_in (file ∷ files) name = if bytes_eq name file.0 then Some file.1 else file_in files name

-- the entries of a map, as texts
abbrev pub file_list : List (String Global × Vec ℕ) → List (List ℕ × List ℕ)
file_list entries = map (λ e. (string_bytes e.0, e.1.items)) entries
