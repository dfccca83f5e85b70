-- What is traced and refused, where the ports tell their bytes.
use Rattle.std.proofs.Common.{◌≡◌, ℕ, ◌≤◌, List, [], ◌++◌, length, Option, Some, None, sym, ◌∙◌, ap, subst}
use Rattle.std.specs.Option.{IfSome}
use Rattle.std.specs.Io.KnownBytes.{Consumes, IsAtEnd}
use Rattle.std.proofs.lemmas.List.{append-nil}
use Rattle.rept_ports.specs.Shelves.{Files}
use Rattle.rept_simlog.specs.Recording.Worked.{exe_limit, log_limit, IsFile}

whole : (xs ys log : List ℕ) → xs ≡ log ++ ys → ys ≡ [] → log ≡ xs
whole xs ys log e none = sym (append-nil log) ∙ sym (ap (λ (zs : List ℕ). log ++ zs) none) ∙ sym e

pub told : (P : List ℕ → List ℕ → Type 0) (files : Option Files) (name exe log : List ℕ) (bytes left : Option (List ℕ)) → IfSome files (λ f. f name ≡ Some exe) → length exe ≤ exe_limit → Consumes bytes left log → IsAtEnd left → length log ≤ log_limit → P exe log
    → IfSome files (λ f. IfSome bytes (λ b. (x : List ℕ) × IsFile f name x × (length b ≤ log_limit) × P x b))
told P None name exe log bytes left f size c e few p = tt
told P (Some files) name exe log None left f size c e few p = tt
told P (Some files) name exe log (Some xs) None f size c e few p = absurd c
told P (Some files) name exe log (Some xs) (Some ys) f size c e few p =
    let w = whole xs ys log c e in
    (exe, (f, size), subst (λ (l : List ℕ). length l ≤ log_limit) w few, subst (λ (l : List ℕ). P exe l) w p)

-- the file that was loaded is one of those that are told
pub there : (files : Option Files) (name exe : List ℕ) → IfSome files (λ f. f name ≡ Some exe) → length exe ≤ exe_limit → IfSome files (λ f. (x : List ℕ) × IsFile f name x)
there None name exe f size = tt
there (Some files) name exe f size = (exe, (f, size))
