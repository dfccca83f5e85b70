-- Laws of the words on causes and known bytes, for callers.
use Rattle.std.proofs.Common.{◌≡◌, ℕ, ◌+◌, ◌-◌, List, [], ◌++◌, length, take, drop, append_assoc, sym, ◌∙◌, ap, subst}
use Rattle.std.proofs.Math.Seq.{take-add}
use Rattle.std.proofs.lemmas.List.{take_rest, append-nil}
use Rattle.std.specs.Prelude.{Option, None, Some}
use Rattle.std.specs.Io.KnownBytes.{Appends, Keeps}
use Rattle.rept_ports.specs.Causes.{OneFault}

pub Appends-nothing : (a : Option (List ℕ)) → Appends a a []
Appends-nothing None = tt
Appends-nothing (Some xs) = sym (append-nil xs)

pub Appends-trans : (a b c : Option (List ℕ)) (xs ys : List ℕ) → Appends a b xs → Appends b c ys → Appends a c (xs ++ ys)
Appends-trans None b c xs ys h k = tt
Appends-trans (Some x) None c xs ys h k = absurd h
Appends-trans (Some x) (Some y) None xs ys h k = absurd k
Appends-trans (Some x) (Some y) (Some z) xs ys h k = k ∙ ap (λ w. w ++ ys) h ∙ append_assoc x xs ys

pub Appends-Keeps : (a b c : Option (List ℕ)) (xs : List ℕ) → Appends a b xs → Keeps b c → Appends a c xs
Appends-Keeps None b c xs h k = tt
Appends-Keeps (Some x) None c xs h k = absurd h
Appends-Keeps (Some x) (Some y) None xs h k = absurd k
Appends-Keeps (Some x) (Some y) (Some z) xs h k = k ∙ h

-- a part of the text was written, and then the next part of it
pub Appends-take : (a b c : Option (List ℕ)) (n m : ℕ) (text : List ℕ) → Appends a b (take n text) → Appends b c (take m (drop n text)) → Appends a c (take (n + m) text)
Appends-take a b c n m text h k = rw (take-add n m text) (Appends-trans a b c (take n text) (take m (drop n text)) h k)

-- a fault after calls without one
pub fault_after : (a b c : ℕ) → b ≡ a → OneFault b c → OneFault a c
fault_after a b c same fault = subst (λ before. OneFault before c) same fault

-- what the code's `&text[n..]` is
pub from_here : (n : ℕ) (text : List ℕ) → take (length text - n) (drop n text) ≡ drop n text
from_here n text = take_rest text n

-- the same, where the second part was cut from `&text[n..]`
pub Appends-from : (a b c : Option (List ℕ)) (n m : ℕ) (text : List ℕ) → Appends a b (take n text) → Appends b c (take m (take (length text - n) (drop n text))) → Appends a c (take (n + m) text)
Appends-from a b c n m text h k = Appends-take a b c n m text h (rw from_here at k)
