-- Known bits by their two words.
use Rattle.std.proofs.Common.{◌≡◌, ◌<◌, ◌+◌, ◌^◌, ℕ, arith, subst, ap, ◌∙◌}
use Rattle.std.specs.Prelude.{bit_and}
use Rattle.std.proofs.Math.Nat.{ℕ_set}
use Rattle.std.proofs.Math.Bridge.{le_prop}
use Rattle.rept_known.specs.declared.bits.Bits.{Bits}
use Rattle.rept_known.specs.Masks.{but}
use Rattle.rept_partial.specs.Ranges.{word}
use Rattle.rept_known.specs.Bits.{agreeing, none_open, in_word, outside}

-- their proofs are alike
same_proofs : (v m : ℕ) (a b : bit_and v m ≡ 0) (s t : v + m < 2 ^ 32) → agreeing v m a s ≡ agreeing v m b t
same_proofs v m a b s t = ap (λ (x : bit_and v m ≡ 0). agreeing v m x s) (ℕ_set (bit_and v m) 0 a b) ∙ ap (λ (x : v + m < 2 ^ 32). agreeing v m b x) (le_prop s t)

pub same_words : (v m w k : ℕ) (a : bit_and v m ≡ 0) (s : v + m < 2 ^ 32) (b : bit_and w k ≡ 0) (t : w + k < 2 ^ 32) → v ≡ w → m ≡ k → agreeing v m a s ≡ agreeing w k b t
same_words v m w k a s b t e f =
    subst (λ (y : ℕ). (b : bit_and w y ≡ 0) (t : w + y < 2 ^ 32) → agreeing v m a s ≡ agreeing w y b t) f (subst (λ (x : ℕ). (b : bit_and x m ≡ 0) (t : x + m < 2 ^ 32) → agreeing v m a s ≡ agreeing x m b t) e (λ b t. same_proofs v m a b s t)) b t

-- words of 32 bits are taken as they are
pub outside_is : (v m : ℕ) (r : Bits) → v < 2 ^ 32 → m < 2 ^ 32 → r.value ≡ but v m → r.loose ≡ m → r ≡ outside v m
outside_is v m r s t e f =
    let x : v ≡ word v = omega arith in
    let y : m ≡ word m = omega arith in
    same_words r.value r.loose (but (word v) (word m)) (word m) r.apart r.small (none_open v m) (in_word v m) (e ∙ ap (λ n. but n m) x ∙ ap (λ n. but (word v) n) y) (f ∙ y)
