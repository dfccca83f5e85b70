-- What is said where a port tells its bytes.
use Rattle.std.proofs.Common.{◌≡◌, Option, None, Some, IfSome, refl, subst}

pub where_told : {T : Type 0} (o : Option T) (P : T → Type 0) → ((x : T) → o ≡ Some x → P x) → IfSome o P
where_told None P h = tt
where_told (Some x) P h = h x refl

pub at_some : {T : Type 0} (o : Option T) (x : T) (P : T → Type 0) → o ≡ Some x → IfSome o P → P x
at_some {T} o x P e h = let Q : Option T → Type 0 = λ w. IfSome w P in subst Q e h

-- what follows where it tells them
pub over : {T : Type 0} (o o' : Option T) (P Q : T → Type 0) → o ≡ o' → IfSome o P → ((x : T) → P x → Q x) → IfSome o' Q
over {T} o o' P Q e h k = let R : Option T → Type 0 = λ w. IfSome w Q in subst R e (where_told o Q (λ x is. k x (at_some o x P is h)))
