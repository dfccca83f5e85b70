-- Streams are told in one way.
use Rattle.std.proofs.Common.{◌≡◌, inl, inr, ℕ, ◌+◌, List, [], ◌∷◌, length, Some, None, Result, Ok, Err, sym, ◌∙◌, ap, subst}
use Rattle.std.specs.Prelude.{IfOk, IfErr, MatchResult}
use Rattle.rept_trace.specs.declared.packet.Packet.{Packet}
use Rattle.rept_trace.specs.declared.fault.TraceFault.{TraceFault}
use Rattle.rept_trace.specs.Stream.{Stream}
use Rattle.rept_trace.proofs.Going.{one_list, one_fault, not_both}
use Rattle.rept_path.specs.declared.fault.PathFault.{PathFault}
use Rattle.rept_path.specs.declared.fault.PathFault.TheVariants as fault
use Rattle.rept_streams.specs.Slices.Checks.{check}
use Rattle.rept_streams.specs.Slices.Raw.{streams_of, HoldEach, FailsIn, Looked, IsRefusedBefore, PassBefore}

pub same_lists : (streams : List Stream) (a b : List (List Packet)) → HoldEach streams a → HoldEach streams b → a ≡ b
same_lists [] a b x y = x ∙ sym y
same_lists (stream ∷ streams) [] b x y = absurd x
same_lists (stream ∷ streams) (p ∷ a) [] x y = absurd y
same_lists (stream ∷ streams) (p ∷ a) (q ∷ b) x y =
    let first : p ≡ q = one_list stream p q x.0 y.0 in
    let rest : a ≡ b = same_lists streams a b x.1 y.1 in
    cc

pub held_or_refused : (k : ℕ) (streams : List Stream) (lists : List (List Packet)) (f : TraceFault) → HoldEach streams lists → FailsIn k streams f → ⊥
held_or_refused k [] lists f x y = y
held_or_refused k (stream ∷ streams) [] f x y = x
held_or_refused k (stream ∷ streams) (p ∷ lists) f x (inl y) = not_both k stream p y.0 f x.0 y.1
held_or_refused k (stream ∷ streams) (p ∷ lists) f x (inr y) = held_or_refused (k + length y.0) streams lists f x.1 y.2

pub same_refused : (k : ℕ) (streams : List Stream) (f g : TraceFault) → FailsIn k streams f → FailsIn k streams g → f ≡ g
same_refused k [] f g x y = absurd x
same_refused k (stream ∷ streams) f g (inl x) (inl y) = one_fault k stream x.0 y.0 f g x.1 y.1
same_refused k (stream ∷ streams) f g (inl x) (inr y) = absurd (not_both k stream y.0 x.0 f y.1 x.1)
same_refused k (stream ∷ streams) f g (inr x) (inl y) = absurd (not_both k stream x.0 y.0 g x.1 y.1)
same_refused k (stream ∷ streams) f g (inr x) (inr y) =
    let same : y.0 ≡ x.0 = one_list stream y.0 x.0 y.1 x.1 in
    same_refused (k + length x.0) streams f g x.2 (subst (λ (ps : List Packet). FailsIn (k + length ps) streams g) same y.2)

pub one_refusal : (l : Looked) (d e : PathFault) → IsRefusedBefore l d → IsRefusedBefore l e → d ≡ e
one_refusal l d e (inl x) (inl y) = x.2 ∙ ap fault.Packet (same_refused 0 (streams_of l.file) x.0 y.0 x.1 y.1) ∙ sym y.2
one_refusal l d e (inl x) (inr y) = absurd (held_or_refused 0 (streams_of l.file) y.0 x.0 y.1 x.1)
one_refusal l d e (inr x) (inl y) = absurd (held_or_refused 0 (streams_of l.file) x.0 y.0 x.1 y.1)
one_refusal l d e (inr x) (inr y) =
    let same : x.0 ≡ y.0 = same_lists (streams_of l.file) x.0 y.0 x.1 y.1 in
    let one : Some d ≡ Some e = sym x.2 ∙ ap (check l.from l.processes) same ∙ y.2 in
    cc

pub refused_or_passed : (l : Looked) (e : PathFault) (lists : List (List Packet)) → IsRefusedBefore l e → PassBefore l lists → ⊥
refused_or_passed l e lists (inl x) p = held_or_refused 0 (streams_of l.file) lists x.0 p.0 x.1
refused_or_passed l e lists (inr x) p =
    let one : Some e ≡ None = sym x.2 ∙ ap (check l.from l.processes) (same_lists (streams_of l.file) x.0 lists x.1 p.0) ∙ p.1 in
    cc

pub only_refused : {A : Type 0} (P : A → Type 0) (Q : PathFault → Type 0) (r : Result A PathFault) → IfOk r P → IfErr r Q → ((a : A) → P a → ⊥) → (R : PathFault → Type 0) → ((e : PathFault) → Q e → R e) → MatchResult r (λ a. ⊥) R
only_refused P Q (Ok a) ok err none R on = none a ok
only_refused P Q (Err e) ok err none R on = on e err

pub only_passed : {A : Type 0} (Q : PathFault → Type 0) (r : Result A PathFault) → IfErr r Q → (R : PathFault → Type 0) → ((e : PathFault) → Q e → R e) → IfErr r R
only_passed Q (Ok a) err R on = tt
only_passed Q (Err e) err R on = on e err
