-- Names that differ, one name on.
use Rattle.std.proofs.Common.{◌≡◌, ℕ, List, [], ◌∷◌, ◌++◌, Bool, true, false, cond, refl, ap, sym, ◌∙◌, append_assoc, ◌+◌, ◌≤◌, length, take, arith}
use Rattle.std.specs.Prelude.{is_some, not, Some, None, nat_lt, map, suc}
use Rattle.std.proofs.lemmas.List.Recursion.{is_position_or_len}
use Rattle.std.proofs.lemmas.List.{append-nil, length-append, length-map, take_all, take_at}
use Rattle.std.specs.List.{position, position_or_len}
use Rattle.rept_maps.specs.Mapfiles.Kept.{distinct_from, place_in}

-- a name that was seen is left out
pub seen_before : (seen : List (List ℕ)) (n : List ℕ) (ns : List (List ℕ)) → is_some (place_in seen n) ≡ true → distinct_from seen (n ∷ ns) ≡ distinct_from seen ns
seen_before seen n ns h = ap (λ (b : Bool). cond b (distinct_from seen ns) (n ∷ distinct_from (seen ++ n ∷ []) ns)) h

-- another one comes next
pub seen_first : (seen : List (List ℕ)) (n : List ℕ) (ns : List (List ℕ)) → is_some (place_in seen n) ≡ false → seen ++ distinct_from seen (n ∷ ns) ≡ (seen ++ n ∷ []) ++ distinct_from (seen ++ n ∷ []) ns
seen_first seen n ns h =
    ap (λ (b : Bool). seen ++ cond b (distinct_from seen ns) (n ∷ distinct_from (seen ++ n ∷ []) ns)) h ∙ sym (append_assoc seen (n ∷ []) (distinct_from (seen ++ n ∷ []) ns))

-- with so many names the list is full
pub asked_full : (all asked rest : List (List ℕ)) (n : ℕ) → all ≡ asked ++ rest → length asked ≡ n → take n all ≡ asked
asked_full all asked rest n e size = ap (take n) e ∙ take_at asked rest n size

-- no name is left
pub asked_end : (all asked : List (List ℕ)) (n : ℕ) → all ≡ asked ++ [] → length asked ≤ n → take n all ≡ asked
asked_end all asked n e size = ap (take n) (e ∙ append-nil asked) ∙ take_all n asked size

flip : (b : Bool) (n : ℕ) → cond (not b) (1 + n) 0 ≡ cond b 0 (1 + n)
flip true n = refl
flip false n = refl

-- the place among what names stand for
place_map : {A : Type 0} (f : A → List ℕ) (p : List ℕ → Bool) (names : List A) → position_or_len p (map f names) ≡ position_or_len (λ n. p (f n)) names
place_map {A} f p names = is_position_or_len (λ (ns : List A). position_or_len p (map f ns)) (λ n. p (f n)) refl (λ n ns. flip (p (f n)) (position_or_len p (map f ns))) names

pub placed : {A : Type 0} (f : A → List ℕ) (p : List ℕ → Bool) (names : List A) → position (λ n. p (f n)) names ≡ position p (map f names)
placed f p names =
    ap (λ (i : ℕ). cond (nat_lt i (length names)) (Some i) None) (sym (place_map f p names))
    ∙ ap (λ (n : ℕ). cond (nat_lt (position_or_len p (map f names)) n) (Some (position_or_len p (map f names))) None) (sym (length-map names f))

-- one name on in a list
pub map_push : {A B : Type 0} (f : A → B) (xs : List A) (x : A) → map f (xs ++ x ∷ []) ≡ map f xs ++ f x ∷ []
map_push f [] x = refl
map_push f (y ∷ ys) x = ap (λ zs. f y ∷ zs) (map_push f ys x)

pub asked_next : (all seen new names rest : List (List ℕ)) (name : List ℕ) → names ≡ name ∷ rest → new ≡ seen ++ name ∷ [] → is_some (place_in seen name) ≡ false → all ≡ seen ++ distinct_from seen names → all ≡ new ++ distinct_from new rest
asked_next all seen new names rest name e pushed h inv =
    inv ∙ ap (λ (ns : List (List ℕ)). seen ++ distinct_from seen ns) e ∙ seen_first seen name rest h ∙ ap (λ (s : List (List ℕ)). s ++ distinct_from s rest) (sym pushed)

pub asked_same : (all seen names rest : List (List ℕ)) (name : List ℕ) → names ≡ name ∷ rest → is_some (place_in seen name) ≡ true → all ≡ seen ++ distinct_from seen names → all ≡ seen ++ distinct_from seen rest
asked_same all seen names rest name e h inv = inv ∙ ap (λ (ns : List (List ℕ)). seen ++ distinct_from seen ns) e ∙ ap (λ (ns : List (List ℕ)). seen ++ ns) (seen_before seen name rest h)

-- the images so far and those of the names that are left
pub images_next : {A B N : Type 0} (f : A → B) (k : N → B) (front new : List A) (x : A) (names rest : List N) (name : N) (all : List B) → new ≡ front ++ x ∷ [] → names ≡ name ∷ rest → f x ≡ k name → map f front ++ map k names ≡ all → map f new ++ map k rest ≡ all
images_next f k front new x names rest name all pushed e h inv =
    ap (λ xs. map f xs ++ map k rest) pushed ∙ ap (λ ys. ys ++ map k rest) (map_push f front x) ∙ append_assoc (map f front) (f x ∷ []) (map k rest)
    ∙ ap (λ y. map f front ++ (y ∷ map k rest)) h ∙ ap (λ ns. map f front ++ map k ns) (sym e) ∙ inv

pub images_count : {A N : Type 0} (front new : List A) (x : A) (names rest : List N) (name : N) (count : ℕ) → new ≡ front ++ x ∷ [] → names ≡ name ∷ rest → length front + length names ≡ count → length new + length rest ≡ count
images_count front new x names rest name count pushed e inv =
    let a : length new ≡ length front + 1 = ap length pushed ∙ length-append front (x ∷ []) in
    let b : length names ≡ suc (length rest) = ap length e in
    omega (arith, a, b, inv)
