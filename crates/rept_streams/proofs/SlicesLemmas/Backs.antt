-- Times of a stream's packets, one after the other.
use Rattle.std.proofs.Common.{◌≡◌, ℕ, suc, ◌+◌, ◌<◌, ◌≤◌, ◌^◌, nat_lt, List, [], ◌∷◌, length, Bool, true, false, cond, ◌||◌, Option, Some, None, Ok, refl, sym, ◌∙◌, ap, arith, add-one}
use Rattle.std.proofs.lemmas.Bool.{lt-ltb, le-ltb, ltb-true, ltb-false}
use Rattle.std.specs.List.{list_any}
use Rattle.rept_trace.specs.declared.packet.Packet.{Packet}
use Rattle.rept_trace.specs.Stream.{Hold, AnswersNext}
use Rattle.rept_trace.proofs.Going.{one_list}
use Rattle.rept_path.specs.declared.fault.PathFault.TheVariants.{TimeBack}
use Rattle.rept_path.proofs.Packeting.{taken, none_left}
use Rattle.rept_streams.specs.Slices.Stamps.{stamp_of, is_past, is_before}
use Rattle.rept_streams.specs.Slices.Checks.{back_from}
use Rattle.rept_streams.specs.Slices.Latest.{latest_by}
use Rattle.rept_streams.proofs.SlicesLemmas.Going.{Bytes}

-- The packets that were read, newest first, and those that are left: whether one of the former is
-- later than a time is asked of the latest time.
pub record Back (all : Bytes) (number : ℕ) (rest : Bytes) (k latest : ℕ) : Type 0 where
  pub done : List Packet
  pub more : List Packet
  pub hold : Hold rest more
  pub same : (list : List Packet) → Hold all list → back_from number [] list ≡ back_from k done more
  pub asks : (time : ℕ) → list_any (λ q. is_past time (stamp_of q)) done ≡ nat_lt time latest
  pub few : k + length more < 2 ^ 32

pub back_first : (all : Bytes) (number : ℕ) (list : List Packet) → Hold all list → number + length list < 2 ^ 32 → Back all number all number 0
back_first all number list h few = record {
  done = [];
  more = list;
  hold = h;
  same = λ other k. ap (back_from number []) (one_list all other list k h);
  asks = λ time. sym (le-ltb time 0 (omega arith));
  few = few;
}

none_before : (done : List Packet) → list_any (λ q. is_before None (stamp_of q)) done ≡ false
none_before [] = refl
none_before (q ∷ done) = none_before done

-- of two times, the one after the other
either_past : (time new latest : ℕ) → latest ≤ new → (nat_lt time new || nat_lt time latest) ≡ nat_lt time new
either_past time new latest h = go (nat_lt time latest) refl where
  both : (b : Bool) → (b || false) ≡ b
  both true = refl
  both false = refl

  go : (b : Bool) → nat_lt time latest ≡ b → (nat_lt time new || nat_lt time latest) ≡ nat_lt time new
  go true e = let before = ltb-true time latest e in let later : nat_lt time new ≡ true = lt-ltb time new (omega arith) in rw (e, later) refl
  go false e = rw e (both (nat_lt time new))

module _ (all : Bytes) (number : ℕ) (rest : Bytes) (k latest : ℕ) (b : Back all number rest k latest) where
  module _ (key next : ℕ) (after : Bytes) (p : Packet) (a : AnswersNext key rest (Ok (Some p)) next after) where
    left : (later : List Packet) × (b.more ≡ p ∷ later) × Hold after later
    left = taken key next rest after p b.more b.hold a

    step : (found : Bool) → list_any (λ q. is_before (stamp_of p) (stamp_of q)) b.done ≡ found → (list : List Packet) → Hold all list → back_from number [] list ≡ cond found (Some (TimeBack k)) (back_from (suc k) (p ∷ b.done) left.0)
    step found e list h = b.same list h ∙ ap (back_from k b.done) left.1 ∙ ap (λ (x : Bool). cond x (Some (TimeBack k)) (back_from (suc k) (p ∷ b.done) left.0)) e

    on : (new : ℕ) → list_any (λ q. is_before (stamp_of p) (stamp_of q)) b.done ≡ false → ((time : ℕ) → (is_past time (stamp_of p) || nat_lt time latest) ≡ nat_lt time new) → Back all number after (k + 1) new
    on new none later =
        let fewer = ap (length {A = Packet}) left.1 in
        let few = b.few in
        record {
          done = p ∷ b.done;
          more = left.0;
          hold = left.2;
          same = λ list h. rw add-one (step false none list h);
          asks = λ time. ap (λ (x : Bool). is_past time (stamp_of p) || x) (b.asks time) ∙ later time;
          few = omega (arith, fewer, few);
        }

    -- a packet that isn't of an earlier time
    pub back_on : (new : ℕ) → latest_by (stamp_of p) latest ≡ Some new → Back all number after (k + 1) new
    back_on new e = go (stamp_of p) refl where
      go : (o : Option ℕ) → stamp_of p ≡ o → Back all number after (k + 1) new
      go None is =
          let plain : latest_by None latest ≡ Some new = ap (λ (o : Option ℕ). latest_by o latest) (sym is) ∙ e in
          let same : latest ≡ new = (cc) in
          on new (rw is (none_before b.done)) (λ time. rw (is, same) refl)
      go (Some t) is =
          let timed : latest_by (Some t) latest ≡ Some new = ap (λ (o : Option ℕ). latest_by o latest) (sym is) ∙ e in
          by_test (nat_lt t latest) refl timed
        where
          by_test : (x : Bool) → nat_lt t latest ≡ x → cond x None (Some t) ≡ Some new → Back all number after (k + 1) new
          by_test true test h = absurd ((cc))
          by_test false test h =
              let same : t ≡ new = (cc) in
              let order = ltb-false t latest test in
              on new (rw is (b.asks t ∙ test)) (λ time. rw (is, same) (either_past time new latest (omega arith)))

    -- a packet that is
    pub back_here : latest_by (stamp_of p) latest ≡ None → (list : List Packet) → Hold all list → Some (TimeBack k) ≡ back_from number [] list
    back_here e = go (stamp_of p) refl where
      go : (o : Option ℕ) → stamp_of p ≡ o → (list : List Packet) → Hold all list → Some (TimeBack k) ≡ back_from number [] list
      go None is = let plain : latest_by None latest ≡ None = ap (λ (o : Option ℕ). latest_by o latest) (sym is) ∙ e in absurd ((cc))
      go (Some t) is =
          let timed : latest_by (Some t) latest ≡ None = ap (λ (o : Option ℕ). latest_by o latest) (sym is) ∙ e in
          by_test (nat_lt t latest) refl timed
        where
          by_test : (x : Bool) → nat_lt t latest ≡ x → cond x None (Some t) ≡ None → (list : List Packet) → Hold all list → Some (TimeBack k) ≡ back_from number [] list
          by_test true test h = λ list held. sym (step true (rw is (b.asks t ∙ test)) list held)
          by_test false test h = absurd ((cc))

  pub back_none : (key next : ℕ) (after : Bytes) → AnswersNext key rest (Ok None) next after → (list : List Packet) → Hold all list → None ≡ back_from number [] list
  back_none key next after a list h =
      let none = none_left key next rest after b.more b.hold a in
      sym (b.same list h ∙ ap (back_from k b.done) none)

  pub back_room : (key next : ℕ) (after : Bytes) (p : Packet) → AnswersNext key rest (Ok (Some p)) next after → k + 1 < 2 ^ 32
  back_room key next after p a =
      let t = taken key next rest after p b.more b.hold a in
      let fewer = ap (length {A = Packet}) t.1 in
      let few = b.few in
      omega (arith, fewer, few)
