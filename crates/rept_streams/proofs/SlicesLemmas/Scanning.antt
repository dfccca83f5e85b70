-- Going over packets to the first one of a kind.
use Rattle.std.proofs.Common.{◌≡◌, ℕ, suc, ◌+◌, List, [], ◌∷◌, drop, Bool, true, false, not, cond, Option, Some, None, Ok, sym, ◌∙◌, ap, arith}
use Rattle.std.specs.List.{prefix_len}
use Rattle.std.specs.Option.{option_or}
use Rattle.rept_trace.specs.declared.packet.Packet.{Packet}
use Rattle.rept_trace.specs.Stream.{Hold, AnswersNext}
use Rattle.rept_trace.proofs.Going.{one_list}
use Rattle.rept_path.proofs.Packeting.{taken, none_left}
use Rattle.rept_streams.specs.Slices.Stamps.{stamp_of, closes}
use Rattle.rept_streams.specs.Slices.Parts.{first_time}
use Rattle.rept_streams.proofs.SlicesLemmas.Going.{Bytes}

-- What is wanted of the packets is what is wanted of those that are left.
pub record Same {A : Type 0} (wanted : List Packet → A) (all rest : Bytes) : Type 0 where
  pub more : List Packet
  pub hold : Hold rest more
  pub same : (list : List Packet) → Hold all list → wanted list ≡ wanted more

module _ {A : Type 0} (wanted : List Packet → A) where
  pub same_first : (all : Bytes) (list : List Packet) → Hold all list → Same wanted all all
  same_first all list h = record { more = list; hold = h; same = λ other k. ap wanted (one_list all other list k h) }

  -- a packet that isn't it
  pub same_on : (all rest after : Bytes) (k n : ℕ) (packet : Packet) → Same wanted all rest → AnswersNext k rest (Ok (Some packet)) n after → ((later : List Packet) → wanted (packet ∷ later) ≡ wanted later) → Same wanted all after
  same_on all rest after k n packet s a passes =
      let t = taken k n rest after packet s.more s.hold a in
      record { more = t.0; hold = t.2; same = λ list h. s.same list h ∙ ap wanted t.1 ∙ passes t.0 }

  -- a packet that is it
  pub same_found : (all rest after : Bytes) (k n : ℕ) (packet : Packet) (x : A) → Same wanted all rest → AnswersNext k rest (Ok (Some packet)) n after → ((later : List Packet) → wanted (packet ∷ later) ≡ x) → (list : List Packet) → Hold all list → x ≡ wanted list
  same_found all rest after k n packet x s a is list h =
      let t = taken k n rest after packet s.more s.hold a in
      sym (s.same list h ∙ ap wanted t.1 ∙ is t.0)

  -- the packets after it
  pub same_later : (all rest after : Bytes) (k n : ℕ) (packet : Packet) → Same wanted all rest → AnswersNext k rest (Ok (Some packet)) n after → (list : List Packet) × Hold after list
  same_later all rest after k n packet s a = let t = taken k n rest after packet s.more s.hold a in (t.0, t.2)

  -- a packet from which on it is found
  pub same_from : (all rest after : Bytes) (k n : ℕ) (packet : Packet) (x : A) → Same wanted all rest → AnswersNext k rest (Ok (Some packet)) n after → ((later : List Packet) → Hold after later → x ≡ wanted (packet ∷ later)) → (list : List Packet) → Hold all list → x ≡ wanted list
  same_from all rest after k n packet x s a is list h =
      let t = taken k n rest after packet s.more s.hold a in
      is t.0 t.2 ∙ sym (s.same list h ∙ ap wanted t.1)

  pub same_none : (all rest after : Bytes) (k n : ℕ) → Same wanted all rest → AnswersNext k rest (Ok None) n after → (list : List Packet) → Hold all list → wanted [] ≡ wanted list
  same_none all rest after k n s a list h =
      let none = none_left k n rest after s.more s.hold a in
      sym (s.same list h ∙ ap wanted none)

-- the packets from the one on that ends the slice
abbrev pub from_end : List Packet → List Packet
from_end list = drop (prefix_len (λ p. not (closes p)) list) list

pub end_on : (p : Packet) (later : List Packet) → closes p ≡ false → from_end (p ∷ later) ≡ from_end later
end_on p later h =
    let n = prefix_len (λ q. not (closes q)) later in
    let one : from_end (p ∷ later) ≡ drop (1 + n) (p ∷ later) = ap (λ (b : Bool). drop (cond (not b) (1 + n) 0) (p ∷ later)) h in
    one ∙ ap (λ (m : ℕ). drop m (p ∷ later)) (let e : 1 + n ≡ suc n = omega arith in e)

pub end_here : (p : Packet) (later : List Packet) → closes p ≡ true → from_end (p ∷ later) ≡ p ∷ later
end_here p later h = ap (λ (b : Bool). drop (cond (not b) (1 + prefix_len (λ q. not (closes q)) later) 0) (p ∷ later)) h

pub time_on : (p : Packet) (later : List Packet) → stamp_of p ≡ None → first_time (p ∷ later) ≡ first_time later
time_on p later h = ap (λ (o : Option ℕ). option_or o (first_time later)) h

pub time_here : (p : Packet) (later : List Packet) (time : ℕ) → stamp_of p ≡ Some time → first_time (p ∷ later) ≡ Some time
time_here p later time h = ap (λ (o : Option ℕ). option_or o (first_time later)) h

-- the first time from the end of the slice on
abbrev pub time_past : List Packet → Option ℕ
time_past list = first_time (from_end list)

pub past_on : (p : Packet) (later : List Packet) → closes p ≡ false → time_past (p ∷ later) ≡ time_past later
past_on p later h = ap first_time (end_on p later h)

pub past_here : (p : Packet) (later : List Packet) → closes p ≡ true → time_past (p ∷ later) ≡ first_time (p ∷ later)
past_here p later h = ap first_time (end_here p later h)
