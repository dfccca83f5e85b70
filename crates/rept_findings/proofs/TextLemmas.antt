-- Texts that are put together.
use Rattle.std.proofs.Common.{◌≡◌, ℕ, zero, suc, ◌+◌, List, ◌++◌, sym, ap, ◌∙◌, arith, append_assoc}
use Rattle.std.proofs.lemmas.List.{append-nil}
use Rattle.std.specs.List.{flat_map, range_with_len}

-- three pieces, one after the other
pub three_pieces : (t a b c first second third : List ℕ) → first ≡ t ++ a → second ≡ first ++ b → third ≡ second ++ c → third ≡ t ++ (a ++ b ++ c)
three_pieces t a b c first second third f s h =
    h ∙ ap (λ (x : List ℕ). x ++ c) (s ∙ ap (λ (x : List ℕ). x ++ b) f) ∙ ap (λ (x : List ℕ). x ++ c) (append_assoc t a b) ∙ append_assoc t (a ++ b) c

-- the pieces of one more number
pub pieces_more : (f : ℕ → List ℕ) (a k : ℕ) → flat_map f (range_with_len a (suc k)) ≡ flat_map f (range_with_len a k) ++ f (a + k)
pieces_more f a zero = let same : a ≡ a + 0 = omega arith in append-nil (f a) ∙ ap f same
pieces_more f a (suc k) =
    let same : a + 1 + k ≡ a + suc k = omega arith in
    ap (λ rest. f a ++ rest) (pieces_more f (a + 1) k ∙ ap (λ n. flat_map f (range_with_len (a + 1) k) ++ f n) same) ∙ sym (append_assoc (f a) (flat_map f (range_with_len (a + 1) k)) (f (a + suc k)))

-- a text that has grown by one more piece
pub grown : (f : ℕ → List ℕ) (a k n m : ℕ) (start old new : List ℕ) → n ≡ a + k → m ≡ suc k → old ≡ start ++ flat_map f (range_with_len a k) → new ≡ old ++ f n → new ≡ start ++ flat_map f (range_with_len a m)
grown f a k n m start old new at more before pushed =
    pushed ∙ ap (λ (t : List ℕ). t ++ f n) before ∙ append_assoc start (flat_map f (range_with_len a k)) (f n)
    ∙ ap (λ x. start ++ (flat_map f (range_with_len a k) ++ f x)) at ∙ ap (λ (t : List ℕ). start ++ t) (sym (pieces_more f a k))
    ∙ ap (λ x. start ++ flat_map f (range_with_len a x)) (sym more)

-- the same of a text that began empty
pub grown_whole : (f : ℕ → List ℕ) (a k n m : ℕ) (old new : List ℕ) → n ≡ a + k → m ≡ suc k → old ≡ flat_map f (range_with_len a k) → new ≡ old ++ f n → new ≡ flat_map f (range_with_len a m)
grown_whole f a k n m old new at more before pushed =
    pushed ∙ ap (λ (t : List ℕ). t ++ f n) before
    ∙ ap (λ x. flat_map f (range_with_len a k) ++ f x) at ∙ sym (pieces_more f a k)
    ∙ ap (λ x. flat_map f (range_with_len a x)) (sym more)

-- four pieces
pub four_pieces : (t a b c d first second third fourth : List ℕ) → first ≡ t ++ a → second ≡ first ++ b → third ≡ second ++ c → fourth ≡ third ++ d → fourth ≡ t ++ (a ++ b ++ c ++ d)
four_pieces t a b c d first second third fourth f s h l =
    l ∙ ap (λ (x : List ℕ). x ++ d) (three_pieces t a b c first second third f s h) ∙ append_assoc t (a ++ b ++ c) d
