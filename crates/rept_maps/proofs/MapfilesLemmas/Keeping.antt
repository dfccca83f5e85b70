-- What is kept, one name on.
use Rattle.std.proofs.Common.{◌≡◌, ℕ, zero, suc, ◌+◌, ◌-◌, List, [], ◌∷◌, ◌++◌, Option, None, Some, IfSome, map, ap, sym, ◌∙◌, append_assoc, drop, min, subst, arith}
use Rattle.std.specs.Prelude.{slice_get}
use Rattle.rept_ports.specs.Shelves.{Files}
use Rattle.rept_ports.specs.Causes.{next_count}
use Rattle.rept_maps.specs.Mapfiles.Kept.{kept_all, kept_by, loads_after, most_bytes, taken}

kept_next : (files : Files) (front : List (Option (List ℕ))) (room : ℕ) (names rest : List (List ℕ)) (name : List ℕ) (file : Option (List ℕ)) → names ≡ name ∷ rest → file ≡ kept_by files (min most_bytes room) name
    → (front ++ file ∷ []) ++ kept_all files (room - taken file) rest ≡ front ++ kept_all files room names
kept_next files front room names rest name file e h =
    append_assoc front (file ∷ []) (kept_all files (room - taken file) rest)
    ∙ ap (λ (f : Option (List ℕ)). front ++ (f ∷ kept_all files (room - taken f) rest)) h
    ∙ ap (λ (ns : List (List ℕ)). front ++ kept_all files room ns) (sym e)

-- the same where the files are told
pub kept_told : (o o' : Option Files) (front new : List (Option (List ℕ))) (room size limit : ℕ) (names rest : List (List ℕ)) (name : List ℕ) (file : Option (List ℕ)) (all : Files → List (Option (List ℕ)))
    → o' ≡ o → new ≡ front ++ file ∷ [] → size ≡ taken file → limit ≡ min most_bytes room → names ≡ name ∷ rest
    → IfSome o (λ fs. front ++ kept_all fs room names ≡ all fs) → IfSome o' (λ fs. file ≡ kept_by fs limit name) → IfSome o (λ fs. new ++ kept_all fs (room - size) rest ≡ all fs)
kept_told o o' front new room size limit names rest name file all same pushed sized bounded e inv kept =
    by o inv (let P : Option Files → Type 0 = λ w. IfSome w (λ fs. file ≡ kept_by fs limit name) in subst P same kept)
  where
    by : (o : Option Files) → IfSome o (λ fs. front ++ kept_all fs room names ≡ all fs) → IfSome o (λ fs. file ≡ kept_by fs limit name) → IfSome o (λ fs. new ++ kept_all fs (room - size) rest ≡ all fs)
    by None inv kept = tt
    by (Some fs) inv kept =
        ap (λ (n : List (Option (List ℕ))). n ++ kept_all fs (room - size) rest) pushed ∙ ap (λ (n : ℕ). (front ++ file ∷ []) ++ kept_all fs (room - n) rest) sized
        ∙ kept_next fs front room names rest name file e (kept ∙ ap (λ (n : ℕ). kept_by fs n name) bounded) ∙ inv

-- no fault was counted where they are told
pub calm_told : (o o' : Option Files) (old mid new : ℕ) → o' ≡ o → IfSome o (λ _. mid ≡ old) → IfSome o' (λ _. new ≡ mid) → IfSome o (λ _. new ≡ old)
calm_told o o' old mid new same a b = by o a (let P : Option Files → Type 0 = λ w. IfSome w (λ _. new ≡ mid) in subst P same b)
  where
    by : (o : Option Files) → IfSome o (λ _. mid ≡ old) → IfSome o (λ _. new ≡ mid) → IfSome o (λ _. new ≡ old)
    by None a b = tt
    by (Some fs) a b = b ∙ a

drop_suc : {A : Type 0} (f : A → List ℕ) (xs : List A) (i : ℕ) (x : A) → Some x ≡ slice_get xs i → drop i (map f xs) ≡ f x ∷ drop (suc i) (map f xs)
drop_suc f [] i x e = let no : ⊥ = cc in absurd no
drop_suc f (y ∷ ys) zero x e = let same : x ≡ y = cc in ap (λ z. f z ∷ map f ys) (sym same)
drop_suc f (y ∷ ys) (suc i) x e = drop_suc f ys i x e

pub drop_get : {A : Type 0} (f : A → List ℕ) (xs : List A) (i : ℕ) (x : A) → Some x ≡ slice_get xs i → drop i (map f xs) ≡ f x ∷ drop (i + 1) (map f xs)
drop_get f xs i x e = let next : suc i ≡ i + 1 = omega arith in drop_suc f xs i x e ∙ ap (λ (n : ℕ). f x ∷ drop n (map f xs)) next

-- one load more
pub one_more : (place loads : ℕ) → next_count (loads_after place loads) ≡ loads_after (place + 1) loads
one_more place loads = let e : suc place ≡ place + 1 = omega arith in ap (λ (n : ℕ). loads_after n loads) e
