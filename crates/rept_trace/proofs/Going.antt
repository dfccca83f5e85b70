-- Going through the bytes packet by packet.
use Rattle.std.proofs.Common.{◌≡◌, ℕ, ◌+◌, List, [], ◌∷◌, ◌++◌, length, Some, None, Ok, Err, Result, refl, sym, ◌∙◌, ap, subst, arith, append_assoc, length-append, ◌⊎◌, inl, inr}
use Rattle.std.proofs.lemmas.List.{append-nil}
use Rattle.rept_trace.specs.declared.packet.Packet.{Packet}
use Rattle.rept_trace.specs.declared.fault.TraceFault.{TraceFault}
use Rattle.rept_trace.specs.Stream.{Stream, IsStreamEnded, FailsNext, AnswersNext, Hold, FailsAfter}
use Rattle.rept_trace.proofs.Frames.{one_answer}

-- So many packets were read, and what is told of the rest is told of all the bytes.
pub record Reached (first : ℕ) (bytes : Stream) (count number : ℕ) (rest : Stream) : Type 0 where
  pub packets : List Packet
  pub counted : count ≡ length packets
  pub numbered : number ≡ first + count
  pub hold : (tail : List Packet) → Hold rest tail → Hold bytes (packets ++ tail)
  pub fails : (tail : List Packet) (fault : TraceFault) → FailsAfter number rest tail fault → FailsAfter first bytes (packets ++ tail) fault

pub begins : (first : ℕ) (bytes : Stream) → Reached first bytes 0 first bytes
begins first bytes = record { packets = []; counted = refl; numbered = omega arith; hold = λ tail h. h; fails = λ tail fault h. h }

pub goes_on : (first : ℕ) (bytes : Stream) (count number : ℕ) (rest : Stream) (packet : Packet) (next : ℕ) (after : Stream) → Reached first bytes count number rest → AnswersNext number rest (Ok (Some packet)) next after → Reached first bytes (count + 1) next after
goes_on first bytes count number rest packet next after r a =
    let counted = r.counted in
    let numbered = r.numbered in
    let step = a.1 in
    let P : ℕ → Type 0 = λ n. Reached first bytes (count + 1) n after in
    subst P (sym step) (record {
      packets = r.packets ++ packet ∷ [];
      counted = omega (arith, counted, length-append r.packets (packet ∷ []));
      numbered = omega (arith, numbered);
      hold = λ tail h. rw (append_assoc r.packets (packet ∷ []) tail) (r.hold (packet ∷ tail) (after, a.0, h));
      fails = λ tail fault h. rw (append_assoc r.packets (packet ∷ []) tail) (r.fails (packet ∷ tail) fault (after, a.0, h));
    })

pub ends : (first : ℕ) (bytes : Stream) (count number : ℕ) (rest : Stream) (r : Reached first bytes count number rest) → IsStreamEnded rest.bytes → Hold bytes r.packets
ends first bytes count number rest r e = rw append-nil at (r.hold [] e)

pub fails : (first : ℕ) (bytes : Stream) (count number : ℕ) (rest : Stream) (fault : TraceFault) → (r : Reached first bytes count number rest) → FailsNext number rest fault → FailsAfter first bytes r.packets fault
fails first bytes count number rest fault r f = rw append-nil at (r.fails [] fault f)

-- the bytes hold one list, or have one fault
pub one_list : (bytes : Stream) (a b : List Packet) → Hold bytes a → Hold bytes b → a ≡ b
one_list bytes [] [] x y = refl
one_list bytes [] (q ∷ b) x y = let o = one_answer 0 bytes (Ok None) (Ok (Some q)) 0 1 bytes y.0 (x, refl, refl) (y.1, refl) in absurd (let h = o.0 in cc)
one_list bytes (p ∷ a) [] x y = let o = one_answer 0 bytes (Ok (Some p)) (Ok None) 1 0 x.0 bytes (x.1, refl) (y, refl, refl) in absurd (let h = o.0 in cc)
one_list bytes (p ∷ a) (q ∷ b) x y =
    let o = one_answer 0 bytes (Ok (Some p)) (Ok (Some q)) 1 1 x.0 y.0 (x.1, refl) (y.1, refl) in
    let h = o.0 in
    let t : Hold y.0 a = subst (λ (l : Stream). Hold l a) o.2 x.2 in
    let s : a ≡ b = one_list y.0 a b t y.2 in
    cc

pub not_both : (k : ℕ) (bytes : Stream) (a b : List Packet) (fault : TraceFault) → Hold bytes a → FailsAfter k bytes b fault → ⊥
not_both k bytes [] [] fault x y = let o = one_answer k bytes (Ok None) (Err fault) k k bytes bytes (x, refl, refl) (y, refl, refl) in let h = o.0 in cc
not_both k bytes [] (q ∷ b) fault x y = let o = one_answer k bytes (Ok None) (Ok (Some q)) k (k + 1) bytes y.0 (x, refl, refl) (y.1, refl) in let h = o.0 in cc
not_both k bytes (p ∷ a) [] fault x y = let o = one_answer k bytes (Ok (Some p)) (Err fault) (k + 1) k x.0 bytes (x.1, refl) (y, refl, refl) in let h = o.0 in cc
not_both k bytes (p ∷ a) (q ∷ b) fault x y =
    let o = one_answer k bytes (Ok (Some p)) (Ok (Some q)) (k + 1) (k + 1) x.0 y.0 (x.1, refl) (y.1, refl) in
    let t : Hold y.0 a = subst (λ (l : Stream). Hold l a) o.2 x.2 in
    not_both (k + 1) y.0 a b fault t y.2

pub one_fault : (k : ℕ) (bytes : Stream) (a b : List Packet) (f g : TraceFault) → FailsAfter k bytes a f → FailsAfter k bytes b g → f ≡ g
one_fault k bytes [] [] f g x y = let o = one_answer k bytes (Err f) (Err g) k k bytes bytes (x, refl, refl) (y, refl, refl) in let h = o.0 in cc
one_fault k bytes [] (q ∷ b) f g x y = let o = one_answer k bytes (Err f) (Ok (Some q)) k (k + 1) bytes y.0 (x, refl, refl) (y.1, refl) in absurd (let h = o.0 in cc)
one_fault k bytes (p ∷ a) [] f g x y = let o = one_answer k bytes (Ok (Some p)) (Err g) (k + 1) k x.0 bytes (x.1, refl) (y, refl, refl) in absurd (let h = o.0 in cc)
one_fault k bytes (p ∷ a) (q ∷ b) f g x y =
    let o = one_answer k bytes (Ok (Some p)) (Ok (Some q)) (k + 1) (k + 1) x.0 y.0 (x.1, refl) (y.1, refl) in
    let t : FailsAfter (k + 1) y.0 a f = subst (λ (l : Stream). FailsAfter (k + 1) l a f) o.2 x.2 in
    one_fault (k + 1) y.0 a b f g t y.2

-- what the call answers for each list and for each fault
pub counts : (k : ℕ) (bytes : Stream) (r : Result ℕ TraceFault) → Rattle.std.specs.Result.IfOk r (λ count. (packets : List Packet) × Hold bytes packets × (count ≡ length packets)) → Rattle.std.specs.Result.IfErr r (λ fault. (packets : List Packet) × FailsAfter k bytes packets fault) → (packets : List Packet) → Hold bytes packets → r ≡ Ok (length packets)
counts k bytes (Ok count) ok err packets h = let e = one_list bytes ok.0 packets ok.1 h in ap (λ (n : ℕ). Ok n) (ok.2 ∙ ap (length {A = Packet}) e)
counts k bytes (Err fault) ok err packets h = absurd (not_both k bytes packets err.0 fault h err.1)

pub faults : (k : ℕ) (bytes : Stream) (r : Result ℕ TraceFault) → Rattle.std.specs.Result.IfOk r (λ count. (packets : List Packet) × Hold bytes packets × (count ≡ length packets)) → Rattle.std.specs.Result.IfErr r (λ fault. (packets : List Packet) × FailsAfter k bytes packets fault) → (packets : List Packet) (fault : TraceFault) → FailsAfter k bytes packets fault → r ≡ Err fault
faults k bytes (Ok count) ok err packets fault h = absurd (not_both k bytes ok.0 packets fault ok.1 h)
faults k bytes (Err f) ok err packets fault h = ap (λ (z : TraceFault). Err z) (one_fault k bytes err.0 packets f fault err.1 h)

-- any bytes hold packets, or fail after some
pub decided : (k : ℕ) (bytes : Stream) (r : Result ℕ TraceFault) → Rattle.std.specs.Result.IfOk r (λ count. (packets : List Packet) × Hold bytes packets × (count ≡ length packets)) → Rattle.std.specs.Result.IfErr r (λ fault. (packets : List Packet) × FailsAfter k bytes packets fault) → ((packets : List Packet) × Hold bytes packets) ⊎ ((packets : List Packet) × (fault : TraceFault) × FailsAfter k bytes packets fault)
decided k bytes (Ok count) ok err = inl (ok.0, ok.1)
decided k bytes (Err fault) ok err = inr (err.0, fault, err.1)
