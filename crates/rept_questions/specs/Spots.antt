-- The points of a thread at which something holds. This project's own.
use Rattle.std.specs.Prelude.{ℕ, ◌+◌, ◌-◌, List, [], ◌∷◌, ◌++◌, length, reverse, Bool, nat_lt, Option, None, Some, slice_get, codes, if◌then◌else◌}
use Rattle.std.specs.List.{filter, find, range_with_len}
use Rattle.std.specs.Fmt.{decimal}

-- of the points 0 to `last` those at which it holds
abbrev pub points_where : (ℕ → Bool) → ℕ → List ℕ
points_where holds last = filter holds (range_with_len 0 (last + 1))

-- one point, where it holds there
abbrev pub one_where : Bool → ℕ → List ℕ
one_where holds point = if holds then point ∷ [] else []

-- `P` or `none`
abbrev pub point_text : Option ℕ → List ℕ
point_text None = codes "none"
point_text (Some point) = decimal point

-- `points K first P last P before P after P`: how many there are, the first, the last, the nearest
-- one before a cursor and the next one after it
abbrev pub spots_line : List ℕ → ℕ → List ℕ
spots_line points cursor =
    codes "points " ++ decimal (length points) ++ codes " first " ++ point_text (slice_get points 0) ++ codes " last " ++ point_text (slice_get points (length points - 1))
    ++ codes " before " ++ point_text (find (λ p. nat_lt p cursor) (reverse points)) ++ codes " after " ++ point_text (find (λ p. nat_lt cursor p) points) ++ 10 ∷ []
