-- The slices of a stream, packet by packet.
use Rattle.std.proofs.Common.{◌≡◌, ℕ, suc, ◌+◌, ◌<◌, ◌^◌, List, [], ◌∷◌, ◌++◌, length, Bool, true, false, cond, Option, Some, None, Ok, refl, sym, ◌∙◌, ap, subst, arith, append_assoc, add-one}
use Rattle.std.proofs.lemmas.List.{append-nil}
use Rattle.rept_trace.specs.declared.packet.Packet.{Packet}
use Rattle.rept_trace.specs.declared.packets.Packets.{Packets}
use Rattle.rept_trace.specs.Packets.{rest_of}
use Rattle.rept_trace.specs.Stream.{Hold, AnswersNext}
use Rattle.rept_trace.proofs.Going.{one_list}
use Rattle.rept_path.proofs.Packeting.{taken, none_left}
use Rattle.rept_streams.specs.Slices.Stamps.{is_start, running_after}
use Rattle.rept_streams.specs.Slices.Parts.{ToldSlice, told_from}
use Rattle.rept_streams.specs.Slices.Entries.{AreEntriesOf}
use Rattle.rept_streams.specs.declared.slices.telling.StreamSlice.{StreamSlice}
use Rattle.rept_streams.proofs.SlicesLemmas.Going.{Bytes}

pub AreEntriesOf-append : (a b : List StreamSlice) (x y : List ToldSlice) → AreEntriesOf a x → AreEntriesOf b y → AreEntriesOf (a ++ b) (x ++ y)
AreEntriesOf-append [] b x y h k = subst (λ (ts : List ToldSlice). AreEntriesOf b (ts ++ y)) (sym h) k
AreEntriesOf-append (e ∷ a) b [] y h k = absurd h
AreEntriesOf-append (e ∷ a) b (t ∷ x) y h k = (h.0, AreEntriesOf-append a b x y h.1 k)

-- the slice that a packet begins, if it does
pub record Begun (s k : ℕ) (inside : Option ℕ) (p : Packet) (later : List Packet) (after : Packets) : Type 0 where
  pub entries : List StreamSlice
  pub told : List ToldSlice
  pub are : AreEntriesOf entries told
  pub added : cond (is_start p) (record { stream = s; number = k; start = p; later = after; inside = inside } ∷ []) [] ≡ entries
  pub list : told_from s k inside (p ∷ later) ≡ told ++ told_from s (suc k) (running_after p inside) later

begun : (s k : ℕ) (inside : Option ℕ) (p : Packet) (later : List Packet) (after : Packets) → Hold (rest_of after) later → Begun s k inside p later after
begun s k inside p later after h = go (is_start p) refl where
  entry : StreamSlice
  entry = record { stream = s; number = k; start = p; later = after; inside = inside }

  told : ToldSlice
  told = record { stream = s; number = k; start = p; later = later; inside = inside }

  others : List ToldSlice
  others = told_from s (suc k) (running_after p inside) later

  go : (b : Bool) → is_start p ≡ b → Begun s k inside p later after
  go true e = record {
    entries = record { stream = s; number = k; start = p; later = after; inside = inside } ∷ [];
    told = record { stream = s; number = k; start = p; later = later; inside = inside } ∷ [];
    are = (record { stream = refl; number = refl; start = refl; later = h; inside = refl }, refl);
    added = let x : List StreamSlice = record { stream = s; number = k; start = p; later = after; inside = inside } ∷ [] in ap (λ (b : Bool). cond b x []) e;
    list = let x : ToldSlice = record { stream = s; number = k; start = p; later = later; inside = inside } in ap (λ (b : Bool). cond b (x ∷ told_from s (suc k) (running_after p inside) later) (told_from s (suc k) (running_after p inside) later)) e;
  }
  go false e = record {
    entries = [];
    told = [];
    are = refl;
    added = let x : List StreamSlice = record { stream = s; number = k; start = p; later = after; inside = inside } ∷ [] in ap (λ (b : Bool). cond b x []) e;
    list = let x : ToldSlice = record { stream = s; number = k; start = p; later = later; inside = inside } in ap (λ (b : Bool). cond b (x ∷ told_from s (suc k) (running_after p inside) later) (told_from s (suc k) (running_after p inside) later)) e;
  }

-- The slices that were added, and the packets that are left.
pub record Telling (s : ℕ) (wanted : List Packet → List ToldSlice) (all : Bytes) (old : List StreamSlice) (k : ℕ) (inside : Option ℕ) (rest : Bytes) (now : List StreamSlice) : Type 0 where
  pub done : List StreamSlice
  pub told : List ToldSlice
  pub are : AreEntriesOf done told
  pub items : now ≡ old ++ done
  pub more : List Packet
  pub hold : Hold rest more
  pub same : (list : List Packet) → Hold all list → wanted list ≡ told ++ told_from s k inside more
  pub few : k + length more < 2 ^ 32

pub tells_first : (s number : ℕ) (start : Packet) (all : Packets) (list : List Packet) (old now : List StreamSlice) → Hold (rest_of all) list → number + 1 + length list < 2 ^ 32
    → now ≡ old ++ cond (is_start start) (record { stream = s; number = number; start = start; later = all; inside = None } ∷ []) []
    → Telling s (λ list. told_from s number None (start ∷ list)) (rest_of all) old (number + 1) (running_after start None) (rest_of all) now
tells_first s number start all list old now h few e =
    let b = begun s number None start list all h in
    record {
      done = b.entries;
      told = b.told;
      are = b.are;
      items = e ∙ ap (λ (xs : List StreamSlice). old ++ xs) b.added;
      more = list;
      hold = h;
      same = λ other held. rw add-one (ap (λ (xs : List Packet). told_from s number None (start ∷ xs)) (one_list (rest_of all) other list held h) ∙ b.list);
      few = few;
    }

module _ (s : ℕ) (wanted : List Packet → List ToldSlice) (all : Bytes) (old : List StreamSlice) (k : ℕ) (inside : Option ℕ) (rest : Bytes) (now : List StreamSlice) (t : Telling s wanted all old k inside rest now) where
  module _ (key n : ℕ) (after : Packets) (p : Packet) (a : AnswersNext key rest (Ok (Some p)) n (rest_of after)) where
    left : (later : List Packet) × (t.more ≡ p ∷ later) × Hold (rest_of after) later
    left = taken key n rest (rest_of after) p t.more t.hold a

    pub tells_on : (new : List StreamSlice) → new ≡ now ++ cond (is_start p) (record { stream = s; number = k; start = p; later = after; inside = inside } ∷ []) [] → Telling s wanted all old (k + 1) (running_after p inside) (rest_of after) new
    tells_on new e =
        let b = begun s k inside p left.0 after left.2 in
        let fewer = ap (length {A = Packet}) left.1 in
        let few = t.few in
        record {
          done = t.done ++ b.entries;
          told = t.told ++ b.told;
          are = AreEntriesOf-append t.done b.entries t.told b.told t.are b.are;
          items = e ∙ ap (λ (xs : List StreamSlice). now ++ xs) b.added ∙ ap (λ (xs : List StreamSlice). xs ++ b.entries) t.items ∙ append_assoc old t.done b.entries;
          more = left.0;
          hold = left.2;
          same = λ list h. rw add-one (t.same list h ∙ ap (λ (xs : List Packet). t.told ++ told_from s k inside xs) left.1 ∙ ap (λ (ts : List ToldSlice). t.told ++ ts) b.list ∙ sym (append_assoc t.told b.told (told_from s (suc k) (running_after p inside) left.0)));
          few = omega (arith, fewer, few);
        }

    pub tells_room : k + 1 < 2 ^ 32
    tells_room =
        let fewer = ap (length {A = Packet}) left.1 in
        let few = t.few in
        omega (arith, fewer, few)

  pub tells_end : (key n : ℕ) (after : Bytes) → AnswersNext key rest (Ok None) n after → (list : List Packet) → Hold all list → (more : List StreamSlice) × (now ≡ old ++ more) × AreEntriesOf more (wanted list)
  tells_end key n after a list h =
      let none = none_left key n rest after t.more t.hold a in
      let e : wanted list ≡ t.told = t.same list h ∙ ap (λ (xs : List Packet). t.told ++ told_from s k inside xs) none ∙ append-nil t.told in
      (t.done, t.items, subst (λ (ts : List ToldSlice). AreEntriesOf t.done ts) (sym e) t.are)
