-- A number added to a row.
use Rattle.std.proofs.Common.{◌≡◌, ℕ, true, List, refl, subst}
use Rattle.std.specs.List.{Contains, list_any}
use Rattle.std.specs.Prelude.{nat_eq}
use Rattle.std.proofs.lemmas.Bool.{eqb-true}
use Rattle.indexmap.proofs.CallerLemmas.{Contains-list_any}
use Rattle.rept_versions.specs.Row.{VersionRow, Puts}

-- a number that the search finds is there
pub puts_again : (row : VersionRow) (xs : List ℕ) (a : ℕ) → xs ≡ row.items → list_any (nat_eq a) xs ≡ true → Puts row row a
puts_again row xs a is found = record {
  room = refl;
  there = λ _. refl;
  last = λ absent. absurd (absent (subst (λ l. Contains l a) is (Contains-list_any nat_eq eqb-true xs a found)));
}
