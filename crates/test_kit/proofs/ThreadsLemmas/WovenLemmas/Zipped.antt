-- Two lists whose elements belong together one by one.
use Rattle.std.proofs.Common.{◌≡◌, ℕ, nat_le, List, [], ◌∷◌, ◌++◌, length, Bool, true, false, cond, refl, arith}
use Rattle.std.specs.List.{All, AllZip, filter}
use Rattle.std.proofs.lemmas.List.Elements.{All-head, All-tail}
use Rattle.rept_streams.specs.Slices.Order.{put, by_time}
use Rattle.rept_streams.proofs.SlicesLemmas.InTime.{Each}

pub each_of : {A : Type 0} (P : A → Type 0) (xs : List A) → All P xs → Each P xs
each_of P [] h = tt
each_of P (x ∷ xs) h = (All-head P x xs h, each_of P xs (All-tail P x xs h))

pub each_weaker : {A : Type 0} (P Q : A → Type 0) → ((x : A) → P x → Q x) → (xs : List A) → Each P xs → Each Q xs
each_weaker P Q w [] h = tt
each_weaker P Q w (x ∷ xs) h = (w x h.0, each_weaker P Q w xs h.1)

pub each_after : {A : Type 0} (P : A → Type 0) (xs ys : List A) → Each P (xs ++ ys) → Each P ys
each_after P [] ys h = h
each_after P (x ∷ xs) ys h = each_after P xs ys h.1

pub each_before : {A : Type 0} (P : A → Type 0) (xs ys : List A) → Each P (xs ++ ys) → Each P xs
each_before P [] ys h = tt
each_before P (x ∷ xs) ys h = (h.0, each_before P xs ys h.1)

module _ {A B : Type 0} (R : A → B → Type 0) where
  pub zip_append : (xs : List A) (ys : List B) (vs : List A) (ws : List B) → AllZip R xs ys → AllZip R vs ws → AllZip R (xs ++ vs) (ys ++ ws)
  zip_append [] [] vs ws h k = k
  zip_append [] (y ∷ ys) vs ws h k = absurd h
  zip_append (x ∷ xs) [] vs ws h k = absurd h
  zip_append (x ∷ xs) (y ∷ ys) vs ws h k = (h.0, zip_append xs ys vs ws h.1 k)

  pub zip_each : (P : A → Type 0) → ((x : A) (y : B) → R x y → P x) → (xs : List A) (ys : List B) → AllZip R xs ys → Each P xs
  zip_each P w [] ys h = tt
  zip_each P w (x ∷ xs) [] h = absurd h
  zip_each P w (x ∷ xs) (y ∷ ys) h = (w x y h.0, zip_each P w xs ys h.1)

  pub zip_length : (xs : List A) (ys : List B) → AllZip R xs ys → length xs ≡ length ys
  zip_length [] [] h = refl
  zip_length [] (y ∷ ys) h = absurd h
  zip_length (x ∷ xs) [] h = absurd h
  zip_length (x ∷ xs) (y ∷ ys) h = let n = zip_length xs ys h.1 in omega (arith, n)

  module _ (p : A → Bool) (q : B → Bool) (same : (x : A) (y : B) → R x y → p x ≡ q y) where
    pub zip_filter : (xs : List A) (ys : List B) → AllZip R xs ys → AllZip R (filter p xs) (filter q ys)
    zip_filter [] [] h = tt
    zip_filter [] (y ∷ ys) h = absurd h
    zip_filter (x ∷ xs) [] h = absurd h
    zip_filter (x ∷ xs) (y ∷ ys) h = go (p x) (q y) (same x y h.0) (zip_filter xs ys h.1) where
      go : (b c : Bool) → b ≡ c → AllZip R (filter p xs) (filter q ys) → AllZip R (cond b (x ∷ filter p xs) (filter p xs)) (cond c (y ∷ filter q ys) (filter q ys))
      go true true e k = (h.0, k)
      go true false e k = absurd (cc)
      go false true e k = absurd (cc)
      go false false e k = k

  module _ (f : A → ℕ) (g : B → ℕ) (same : (x : A) (y : B) → R x y → f x ≡ g y) where
    zip_put : (x : A) (y : B) (xs : List A) (ys : List B) → R x y → AllZip R xs ys → AllZip R (put f x xs) (put g y ys)
    zip_put x y [] [] r h = (r, tt)
    zip_put x y [] (w ∷ ys) r h = absurd h
    zip_put x y (v ∷ xs) [] r h = absurd h
    zip_put x y (v ∷ xs) (w ∷ ys) r h = go (nat_le (f x) (f v)) (nat_le (g y) (g w)) test (zip_put x y xs ys r h.1) where
      test : nat_le (f x) (f v) ≡ nat_le (g y) (g w)
      test = λ i. nat_le (same x y r i) (same v w h.0 i)

      go : (b c : Bool) → b ≡ c → AllZip R (put f x xs) (put g y ys) → AllZip R (cond b (x ∷ v ∷ xs) (v ∷ put f x xs)) (cond c (y ∷ w ∷ ys) (w ∷ put g y ys))
      go true true e k = (r, h)
      go true false e k = absurd (cc)
      go false true e k = absurd (cc)
      go false false e k = (h.0, k)

    pub zip_by_time : (xs : List A) (ys : List B) → AllZip R xs ys → AllZip R (by_time f xs) (by_time g ys)
    zip_by_time [] [] h = tt
    zip_by_time [] (y ∷ ys) h = absurd h
    zip_by_time (x ∷ xs) [] h = absurd h
    zip_by_time (x ∷ xs) (y ∷ ys) h = zip_put x y (by_time f xs) (by_time g ys) h.0 (zip_by_time xs ys h.1)
