-- The room that an analysis took at first stays enough for all bytes that it can learn.
use Rattle.std.proofs.Common.{◌≡◌, ℕ, zero, suc, ◌+◌, ◌*◌, ◌<◌, ◌≤◌, ◌⊎◌, ◌&&◌, Bool, true, false, cond, eqb, List, [], ◌∷◌, length, Option, Some, None, Contains, inl, inr, refl, sym, ap, subst, ◌∙◌, arith, get_or, is_none}
use Rattle.std.specs.Prelude.{sum_by}
use Rattle.std.proofs.lemmas.Bool.{cases_Bool, cond-true, and_parts, and_from, eqb-true, eq-eqb, false≢true}
use Rattle.std.proofs.lemmas.List.{length_push}
use Rattle.std.proofs.lemmas.List.Elements.{Contains-append_left, Contains-push}
use Rattle.std.proofs.lemmas.List.Sums.{sum_by-cons, sum_by_push, sum_by-le-sum_by, get_or-le-sum_by}
use Rattle.rept_isa.specs.declared.row.StepRow.{StepRow}
use Rattle.rept_isa.specs.Numbers.{plus, beside}
use Rattle.rept_isa.specs.Operands.{first_read}
use Rattle.rept_reason.specs.declared.fact.Fact.{Fact}
use Rattle.rept_reason.specs.declared.fact.Cell.{Cell}
use Rattle.rept_reason.specs.declared.fact.Cell.TheVariants.{Register, Byte}
use Rattle.rept_reason.specs.Facts.{told, register_known}
use Rattle.rept_reason.specs.declared.view.inferred.Conclusion.{Conclusion}
use Rattle.rept_reason.specs.declared.view.inferred.When.{When}
use Rattle.rept_reason.specs.declared.view.inferred.When.TheVariants.{Before}
use Rattle.rept_reason.specs.View.Rules.{offset_of}
use Rattle.rept_span.specs.Ranges.{AreLegs}
use Rattle.rept_report.specs.Setting.{HasLaws}
use Rattle.rept_report.specs.Views.{moment_of}
use Rattle.rept_report.proofs.Told.{same_some, none_some}
use Rattle.rept_report.proofs.ViewLaws.{known_more}
use Rattle.rept_versions.specs.Facts.{KnownValues}
use Rattle.rept_log.specs.Known.{Known, knows, known_change, AddsByte, HasNoRoom, TracksMore}
use Rattle.rept_facts.specs.Sums.{one_if, count_true, sum_to}
use Rattle.rept_facts.specs.Room.{places_of, places_at, bytes_looked_at, marked, unread, IsInferable, IsInferredAt, IsSlotLearnt, OwnByte, own_at, IsOwnByte, IsByteTracked, HasRoom}
use Rattle.rept_facts.proofs.Sums.{count_le, count_less, sum_le, sum_less}
use Rattle.rept_facts.specs.State.{Subject, along}

-- the same marks but one
abbrev unmark : (ℕ → ℕ → Bool) → ℕ → ℕ → ℕ → ℕ → Bool
unmark marks i j x y = cond (eqb x i && eqb y j) false (marks x y)

module _ (marks : ℕ → ℕ → Bool) (i j : ℕ) where
  unmark_here : unmark marks i j i j ≡ false
  unmark_here = cond-true (eqb i i && eqb j j) false (marks i j) (and_from (eqb i i) (eqb j j) (eq-eqb i i refl) (eq-eqb j j refl))

  unmark_less : (x y : ℕ) → unmark marks i j x y ≡ true → marks x y ≡ true
  unmark_less x y = of (eqb x i && eqb y j)
    where
      of : (b : Bool) → cond b false (marks x y) ≡ true → marks x y ≡ true
      of true e = absurd (false≢true e)
      of false e = e

  unmark_cases : (x y : ℕ) → unmark marks i j x y ≡ false → ((x ≡ i) × (y ≡ j)) ⊎ (marks x y ≡ false)
  unmark_cases x y = of (eqb x i && eqb y j) refl
    where
      of : (b : Bool) → (eqb x i && eqb y j) ≡ b → cond b false (marks x y) ≡ false → ((x ≡ i) × (y ≡ j)) ⊎ (marks x y ≡ false)
      of true is e = let parts = and_parts (eqb x i) (eqb y j) is in inl (eqb-true x i parts.0, eqb-true y j parts.1)
      of false is e = inr e

  unmark_fewer : (width : ℕ → ℕ) (n : ℕ) → i < n → j < width i → marks i j ≡ true → marked width (unmark marks i j) n < marked width marks n
  unmark_fewer width n inside below here =
      sum_less (λ x. count_true (marks x) (width x)) (λ x. count_true (unmark marks i j x) (width x)) n i
      (λ x lt. count_le (marks x) (unmark marks i j x) (width x) (λ y under e. unmark_less x y e))
      inside
      (count_less (marks i) (unmark marks i j i) (width i) j (λ y under e. unmark_less i y e) below here unmark_here)

count_all : (n : ℕ) → count_true (λ y. true) n ≡ n
unfolding count_true
count_all zero = refl
count_all (suc n) = let rest = count_all n in omega (arith, rest)

-- where all are marked
pub marked_all : (width : ℕ → ℕ) (n : ℕ) → marked width (λ x y. true) n ≡ sum_to width n
unfolding sum_to
marked_all width zero = refl
marked_all width (suc n) = let here = count_all (width n) in let rest = marked_all width n in omega (arith, here, rest)

-- a sum with one term that is less, and none that is more
sum_by_less : (f g : ℕ → ℕ) (a : ℕ) (xs : List ℕ) (k : ℕ) → ((x : ℕ) → f x ≤ g x) → f a < g a → k < length xs → get_or xs k a ≡ a → sum_by f xs < sum_by g xs
sum_by_less f g a [] k le less lt is = absurd (omega (arith, lt))
sum_by_less f g a (x ∷ xs) zero le less lt is =
    let e : x ≡ a = is in
    let here : f x < g x = rw e less in
    let rest = sum_by-le-sum_by f g xs le in
    subst (λ n. n < sum_by g (x ∷ xs)) (sym (sum_by-cons f x xs)) (subst (λ n. f x + sum_by f xs < n) (sym (sum_by-cons g x xs)) (omega (arith, here, rest)))
sum_by_less f g a (x ∷ xs) (suc k) le less lt is =
    let here = le x in
    let rest = sum_by_less f g a xs k le less (omega (arith, lt)) is in
    subst (λ n. n < sum_by g (x ∷ xs)) (sym (sum_by-cons f x xs)) (subst (λ n. f x + sum_by f xs < n) (sym (sum_by-cons g x xs)) (omega (arith, here, rest)))

none_le : (x y : Option ℕ) → ((v : ℕ) → x ≡ Some v → y ≡ Some v) → one_if (is_none y) ≤ one_if (is_none x)
none_le None None h = omega arith
none_le None (Some w) h = omega arith
none_le (Some v) y h = rw (h v refl) (omega arith)

module _ (last : ℕ) (old new : Known) (more : (p : ℕ) (c : Cell) (v : ℕ) → knows old p c ≡ Some v → knows new p c ≡ Some v) where
  unread_le : (a : ℕ) → one_if (is_none (new.store.fact last a)) ≤ one_if (is_none (old.store.fact last a))
  unread_le a = none_le (old.store.fact last a) (new.store.fact last a) (λ v e. more last (Byte a) v e)

  unread_more : new.store.tracked ≡ old.store.tracked → unread last new ≤ unread last old
  unread_more tracked = subst (λ (xs : List ℕ). sum_by (λ a. one_if (is_none (new.store.fact last a))) xs ≤ unread last old) (sym tracked) (sum_by-le-sum_by (λ a. one_if (is_none (new.store.fact last a))) (λ a. one_if (is_none (old.store.fact last a))) old.store.tracked unread_le)

  unread_less : (a v : ℕ) → new.store.tracked ≡ old.store.tracked → Contains old.store.tracked a → old.store.fact last a ≡ None → new.store.fact last a ≡ Some v → unread last new < unread last old
  unread_less a v tracked at was is =
      let one : one_if (is_none (old.store.fact last a)) ≡ 1 = rw was refl in
      let none : one_if (is_none (new.store.fact last a)) ≡ 0 = rw is refl in
      subst (λ (xs : List ℕ). sum_by (λ b. one_if (is_none (new.store.fact last b))) xs < unread last old) (sym tracked) (sum_by_less (λ b. one_if (is_none (new.store.fact last b))) (λ b. one_if (is_none (old.store.fact last b))) a old.store.tracked at.0 unread_le (omega (arith, one, none)) at.1 at.2)

one_most : (b : Bool) → one_if b ≤ 1
one_most true = omega arith
one_most false = omega arith

unread_track : (last : ℕ) (old new : Known) (a : ℕ) → TracksMore old new a → unread last new ≤ unread last old + 1
unread_track last old new a h =
    let push = sum_by_push (λ b. one_if (is_none (old.store.fact last b))) old.store.tracked a in
    let most = one_most (is_none (old.store.fact last a)) in
    subst (λ (t : KnownValues). sum_by (λ b. one_if (is_none (t last b))) new.store.tracked ≤ unread last old + 1) (sym h.fact) (subst (λ (xs : List ℕ). sum_by (λ b. one_if (is_none (old.store.fact last b))) xs ≤ unread last old + 1) (sym h.tracked) (subst (λ n. n ≤ unread last old + 1) (sym push) (omega (arith, most))))

unread_some : (last : ℕ) (k : Known) (a : ℕ) → Contains k.store.tracked a → k.store.fact last a ≡ None → 0 < unread last k
unread_some last k a at none =
    let f : ℕ → ℕ = λ b. one_if (is_none (k.store.fact last b)) in
    let le = get_or-le-sum_by f k.store.tracked at.0 a at.1 in
    let one : one_if (is_none (k.store.fact last (get_or k.store.tracked at.0 a))) ≡ 1 = rw (at.2, none) refl in
    omega (arith, le, one)

same_row : {x y : StepRow} → Some x ≡ Some y → x ≡ y
same_row e = cc

same_byte : {a b : ℕ} → Byte a ≡ Byte b → a ≡ b
same_byte e = cc

module _ {W : Type 0} (P : Subject W) (old new : List Fact) (more : (p r v : ℕ) → told old p (Register r) ≡ Some v → told new p (Register r) ≡ Some v) where
  pub inferable_more : (i : ℕ) (d : Conclusion) → IsInferable P old i d → IsInferable P new i d
  inferable_more i d h = record {
    row = h.row;
    found = h.found;
    view = h.view;
    lawful = h.lawful;
    inferred = h.inferred;
    base_register = h.base_register;
    base = h.base;
    read = h.read;
    seen = h.seen;
    known = known_more (told old) (told new) more i h.base_register h.base h.known;
  }

  pub own_byte_more : (b : OwnByte) → IsOwnByte P old b → IsOwnByte P new b
  own_byte_more b h = record {
    row = h.row;
    found = h.found;
    base_register = h.base_register;
    base = h.base;
    read = h.read;
    known = known_more (told old) (told new) more b.row h.base_register h.base h.known;
    below_places = h.below_places;
    below_four = h.below_four;
    address = h.address;
  }

-- two conclusions of one slot are on one byte at one point
slot_same : {W : Type 0} (P : Subject W) → HasLaws (along P) → (log : List Fact) (i : ℕ) (d e : Conclusion) (a b : ℕ) → IsInferable P log i d → d.cell ≡ Byte a → IsInferable P log i e → e.cell ≡ Byte b → d.slot ≡ e.slot → (d.when ≡ e.when) × (a ≡ b)
slot_same P laws log i d e a b h on_a g on_b slot =
    let row : h.row ≡ g.row = same_row (sym h.found ∙ g.found) in
    let inferred = subst (λ (x : StepRow). Contains (P.rules.infer x h.view) d) row h.inferred in
    let read = subst (λ (x : StepRow). first_read x.instr ≡ Some h.base_register) row h.read in
    let register : h.base_register ≡ g.base_register = same_some (sym read ∙ g.read) in
    let seen = subst (λ (r : ℕ). h.view.register Before r ≡ Some h.base) register h.seen in
    let known = subst (λ (r : ℕ). register_known (told log) i r ≡ Some h.base) register h.known in
    let base : h.base ≡ g.base = same_some (sym known ∙ g.known) in
    laws.rules.slot_once g.row h.view g.view d e a b g.base_register h.lawful g.lawful inferred g.inferred on_a on_b g.read (seen ∙ ap Some base ∙ sym g.seen) slot

-- one byte of a row has one address
own_same : {W : Type 0} (P : Subject W) (log : List Fact) (i j a b : ℕ) → IsOwnByte P log (own_at i j a) → IsOwnByte P log (own_at i j b) → a ≡ b
own_same P log i j a b h g =
    let row : h.row ≡ g.row = same_row (sym h.found ∙ g.found) in
    let read = subst (λ (x : StepRow). first_read x.instr ≡ Some h.base_register) row h.read in
    let register : h.base_register ≡ g.base_register = same_some (sym read ∙ g.read) in
    let known = subst (λ (r : ℕ). register_known (told log) i r ≡ Some h.base) register h.known in
    let base : h.base ≡ g.base = same_some (sym known ∙ g.known) in
    let address = subst (λ (x : StepRow). a ≡ beside (plus h.base (offset_of x.instr)) j) row h.address in
    subst (λ (x : ℕ). a ≡ beside (plus x (offset_of g.row.instr)) j) base address ∙ sym g.address

row_places : {W : Type 0} (P : Subject W) (i : ℕ) (row : StepRow) → P.given.legs.row i ≡ Some row → places_at P i ≡ P.rules.places row
row_places P i row found = ap (λ (x : Option StepRow). places_of P.rules x) found

-- a slot of a row, and a byte of it
inferred_slot : {W : Type 0} (P : Subject W) → HasLaws (along P) → (log : List Fact) (i : ℕ) (d : Conclusion) (a : ℕ) → IsInferable P log i d → d.cell ≡ Byte a → (i < P.given.legs.count) × (d.slot < places_at P i)
inferred_slot P laws log i d a h on_a =
    let below = laws.rules.slot_inside h.row h.view d a h.lawful h.inferred on_a in
    let places = row_places P i h.row h.found in
    (laws.legs.inside i h.row h.found, omega (arith, below, places))

own_byte : {W : Type 0} (P : Subject W) → AreLegs P.given.legs → (log : List Fact) (i j a : ℕ) → IsOwnByte P log (own_at i j a) → (i < P.given.legs.count) × (j < bytes_looked_at P i)
own_byte P legs log i j a h =
    let below : j < P.rules.places h.row = h.below_places in
    let four : j < 4 = h.below_four in
    let places = row_places P i h.row h.found in
    (legs.inside i h.row h.found, omega (arith, below, four, places))

module _ {W : Type 0} (P : Subject W) (old new : Known) (more : (p : ℕ) (c : Cell) (v : ℕ) → knows old p c ≡ Some v → knows new p c ≡ Some v) where
  slot_more : (i j : ℕ) → IsSlotLearnt P old i j → IsSlotLearnt P new i j
  slot_more i j h = record {
    conclusion = h.conclusion;
    address = h.address;
    value = h.value;
    slot = h.slot;
    cell = h.cell;
    inferred = inferable_more P old.log new.log (λ p r v e. more p (Register r) v e) i h.conclusion h.inferred;
    byte = more (moment_of P.given.moments i h.conclusion.when) (Byte h.address) h.value h.byte;
  }

  byte_more : ((a : ℕ) → Contains old.store.tracked a → Contains new.store.tracked a) → (i j : ℕ) → IsByteTracked P old i j → IsByteTracked P new i j
  byte_more stays i j h = record {
    address = h.address;
    own = own_byte_more P old.log new.log (λ p r v e. more p (Register r) v e) (own_at i j h.address) h.own;
    tracked = stays h.address h.tracked;
  }

  same_tracked : new.store.tracked ≡ old.store.tracked → (a : ℕ) → Contains old.store.tracked a → Contains new.store.tracked a
  same_tracked tracked a at = subst (λ (xs : List ℕ). Contains xs a) (sym tracked) at

  -- where no less is known, and no less room is left
  pub room_like : old.store.spare ≤ new.store.spare → old.left ≤ new.left → new.store.tracked ≡ old.store.tracked → new.store.places ≡ old.store.places → HasRoom P old → HasRoom P new
  room_like spare left tracked places r =
      let read = unread_more P.given.moments.end old new more tracked in
      let count : length new.store.tracked ≡ length old.store.tracked = ap length tracked in
      let old_spare = r.spare in
      let old_log = r.log in
      let old_places = r.places in
      record {
        unlearnt = r.unlearnt;
        untracked = r.untracked;
        spare = omega (arith, read, old_spare, spare);
        log = omega (arith, old_log, left);
        places = omega (arith, old_places, count, places);
        learnt = λ i j e. slot_more i j (r.learnt i j e);
        tracked = λ i j e. byte_more (same_tracked tracked) i j (r.tracked i j e);
      }

  -- the byte of the dump was learnt
  pub room_last : (joins : Bool) (p a v : ℕ) → p ≡ P.given.moments.end → Contains old.store.tracked a → AddsByte (known_change joins old new) (record { point = p; address = a; value = v }) false → HasRoom P old → HasRoom P new
  room_last joins p a v end tracked adds r =
      let was : old.store.fact P.given.moments.end a ≡ None = subst (λ (q : ℕ). old.store.fact q a ≡ None) end adds.store.none in
      let is : new.store.fact P.given.moments.end a ≡ Some v = subst (λ (q : ℕ). new.store.fact q a ≡ Some v) end adds.store.here in
      let read = unread_less P.given.moments.end old new more a v adds.store.tracked tracked was is in
      let count : length new.store.tracked ≡ length old.store.tracked = ap length adds.store.tracked in
      let taken = adds.store.spare in
      let places = adds.store.places in
      let left = adds.left in
      let old_spare = r.spare in
      let old_log = r.log in
      let old_places = r.places in
      record {
        unlearnt = r.unlearnt;
        untracked = r.untracked;
        spare = omega (arith, read, old_spare, taken);
        log = omega (arith, old_log, left);
        places = omega (arith, old_places, count, places);
        learnt = λ i j e. slot_more i j (r.learnt i j e);
        tracked = λ i j e. byte_more (same_tracked adds.store.tracked) i j (r.tracked i j e);
      }

-- a slot that isn't marked is of a byte that is known
slot_known : {W : Type 0} (P : Subject W) → HasLaws (along P) → (k : Known) → (i : ℕ) (d : Conclusion) (a : ℕ) → IsInferable P k.log i d → d.cell ≡ Byte a → IsSlotLearnt P k i d.slot → (v : ℕ) × (k.store.fact (moment_of P.given.moments i d.when) a ≡ Some v)
slot_known P laws k i d a h on_a l =
    let same = slot_same P laws k.log i l.conclusion d l.address a l.inferred l.cell h on_a l.slot in
    let point = subst (λ (w : When). k.store.fact (moment_of P.given.moments i w) l.address ≡ Some l.value) same.0 l.byte in
    (l.value, subst (λ (x : ℕ). k.store.fact (moment_of P.given.moments i d.when) x ≡ Some l.value) same.1 point)

-- so where nothing is known of the byte, its slot is marked
slot_marked : {W : Type 0} (P : Subject W) → HasLaws (along P) → (k : Known) → (r : HasRoom P k) → (p a : ℕ) → (place : IsInferredAt P k.log p a) → k.store.fact p a ≡ None → r.unlearnt place.number place.conclusion.slot ≡ true
slot_marked P laws k r p a place none =
    elim (cases_Bool (r.unlearnt place.number place.conclusion.slot)) [
      | inl is ↦ is
      | inr isnt ↦
          let known = slot_known P laws k place.number place.conclusion a place.inferred place.cell (r.learnt place.number place.conclusion.slot isnt) in
          let here : k.store.fact p a ≡ Some known.0 = subst (λ (q : ℕ). k.store.fact q a ≡ Some known.0) (sym place.moment) known.1 in
          absurd (none_some (sym none ∙ here))
    ]

-- a byte that rows let one conclude was learnt
module _ {W : Type 0} (P : Subject W) (laws : HasLaws (along P)) (old new : Known) (more : (p : ℕ) (c : Cell) (v : ℕ) → knows old p c ≡ Some v → knows new p c ≡ Some v) (joins : Bool) (p a v : ℕ) (place : IsInferredAt P old.log p a) (adds : AddsByte (known_change joins old new) (record { point = p; address = a; value = v }) true) (r : HasRoom P old) where
  abbrev i : ℕ
  i = place.number

  abbrev slot : ℕ
  slot = place.conclusion.slot

  fewer : marked (places_at P) (unmark r.unlearnt i slot) (P.given.legs.count) < marked (places_at P) r.unlearnt (P.given.legs.count)
  fewer =
      let inside = inferred_slot P laws old.log i place.conclusion a place.inferred place.cell in
      unmark_fewer r.unlearnt i slot (places_at P) (P.given.legs.count) inside.0 inside.1 (slot_marked P laws old r p a place adds.store.none)

  here : IsSlotLearnt P new i slot
  here = record {
    conclusion = place.conclusion;
    address = a;
    value = v;
    slot = refl;
    cell = place.cell;
    inferred = inferable_more P old.log new.log (λ q s w e. more q (Register s) w e) i place.conclusion place.inferred;
    byte = subst (λ (q : ℕ). new.store.fact q a ≡ Some v) place.moment adds.store.here;
  }

  pub room_inferred : HasRoom P new
  room_inferred =
      let less = fewer in
      let read = unread_more P.given.moments.end old new more adds.store.tracked in
      let count : length new.store.tracked ≡ length old.store.tracked = ap length adds.store.tracked in
      let taken = adds.store.spare in
      let places = adds.store.places in
      let left = adds.left in
      let old_spare = r.spare in
      let old_log = r.log in
      let old_places = r.places in
      record {
        unlearnt = unmark r.unlearnt i slot;
        untracked = r.untracked;
        spare = omega (arith, read, old_spare, taken, less);
        log = omega (arith, old_log, left, less);
        places = omega (arith, old_places, count, places);
        learnt = λ x y e. elim (unmark_cases r.unlearnt i slot x y e) [
          | inl is ↦ subst (λ (z : ℕ). IsSlotLearnt P new z y) (sym is.0) (subst (λ (z : ℕ). IsSlotLearnt P new i z) (sym is.1) here)
          | inr was ↦ slot_more P old new more x y (r.learnt x y was)
        ];
        tracked = λ x y e. byte_more P old new more (same_tracked P old new more adds.store.tracked) x y (r.tracked x y e);
      }

-- a byte of a row was tracked
module _ {W : Type 0} (P : Subject W) (legs : AreLegs P.given.legs) (old : Known) (r : HasRoom P old) (i j a : ℕ) (own : IsOwnByte P old.log (own_at i j a)) (was_not : Contains old.store.tracked a → ⊥) where
  byte_marked : r.untracked i j ≡ true
  byte_marked =
      elim (cases_Bool (r.untracked i j)) [
        | inl is ↦ is
        | inr isnt ↦
            let h = r.tracked i j isnt in
            absurd (was_not (subst (λ (x : ℕ). Contains old.store.tracked x) (own_same P old.log i j h.address a h.own own) h.tracked))
      ]

  fewer_bytes : marked (bytes_looked_at P) (unmark r.untracked i j) (P.given.legs.count) < marked (bytes_looked_at P) r.untracked (P.given.legs.count)
  fewer_bytes = let inside = own_byte P legs old.log i j a own in unmark_fewer r.untracked i j (bytes_looked_at P) (P.given.legs.count) inside.0 inside.1 byte_marked

  -- there was a place for it
  pub room_to_track : length old.store.tracked < old.store.places
  room_to_track = let less = fewer_bytes in let places = r.places in omega (arith, less, places)

  module _ (new : Known) (h : TracksMore old new a) where
    same_knows : (p : ℕ) (c : Cell) (v : ℕ) → knows old p c ≡ Some v → knows new p c ≡ Some v
    same_knows p (Register s) v e = rw h.log e
    same_knows p (Byte b) v e = rw h.fact e

    still : (b : ℕ) → Contains old.store.tracked b → Contains new.store.tracked b
    still b at = rw h.tracked (Contains-append_left old.store.tracked (a ∷ []) b at)

    tracked_here : IsByteTracked P new i j
    tracked_here = record { address = a; own = rw h.log own; tracked = rw h.tracked (Contains-push old.store.tracked a) }

    pub room_tracked : HasRoom P new
    room_tracked =
        let less = fewer_bytes in
        let read = unread_track P.given.moments.end old new a h in
        let count : length new.store.tracked ≡ length old.store.tracked + 1 = let long = length_push old.store.tracked a in rw h.tracked (omega (arith, long)) in
        let spare = h.spare in
        let places = h.places in
        let left = h.left in
        let old_spare = r.spare in
        let old_log = r.log in
        let old_places = r.places in
        record {
          unlearnt = r.unlearnt;
          untracked = unmark r.untracked i j;
          spare = omega (arith, read, old_spare, spare, less);
          log = omega (arith, old_log, left);
          places = omega (arith, old_places, count, places, less);
          learnt = λ x y e. slot_more P old new same_knows x y (r.learnt x y e);
          tracked = λ x y e. elim (unmark_cases r.untracked i j x y e) [
            | inl is ↦ subst (λ (z : ℕ). IsByteTracked P new z y) (sym is.0) (subst (λ (z : ℕ). IsByteTracked P new i z) (sym is.1) tracked_here)
            | inr was ↦ byte_more P old new same_knows still x y (r.tracked x y was)
          ];
        }

-- there is room for a byte that rows let one conclude
pub room_to_infer : {W : Type 0} (P : Subject W) → HasLaws (along P) → (k : Known) → HasRoom P k → (p a : ℕ) → IsInferredAt P k.log p a → HasNoRoom k p a true → ⊥
room_to_infer P laws k r p a place full =
    let inside = inferred_slot P laws k.log place.number place.conclusion a place.inferred place.cell in
    let less = unmark_fewer r.unlearnt place.number place.conclusion.slot (places_at P) (P.given.legs.count) inside.0 inside.1 (slot_marked P laws k r p a place full.none) in
    let spare = r.spare in
    let log = r.log in
    elim full.full [
      | inl both ↦ let none = both.1 in omega (arith, less, log, none)
      | inr none ↦ omega (arith, less, spare, none)
    ]

-- and for the byte of the dump at a tracked address
pub room_to_read : {W : Type 0} (P : Subject W) (k : Known) → HasRoom P k → (p a : ℕ) → p ≡ P.given.moments.end → Contains k.store.tracked a → HasNoRoom k p a false → ⊥
room_to_read P k r p a end tracked full =
    let some = unread_some P.given.moments.end k a tracked (subst (λ (q : ℕ). k.store.fact q a ≡ None) end full.none) in
    let spare = r.spare in
    elim full.full [
      | inl both ↦ absurd (false≢true both.0)
      | inr none ↦ omega (arith, some, spare, none)
    ]

-- all is marked at first
pub room_new : {W : Type 0} (P : Subject W) (k : Known) (bytes : ℕ) → bytes ≡ sum_to (places_at P) (P.given.legs.count) → k.store.tracked ≡ [] → k.left ≡ bytes → bytes ≤ k.store.places → 2 * bytes ≤ k.store.spare → HasRoom P k
room_new P k bytes is tracked left places spare =
    let slots = marked_all (places_at P) (P.given.legs.count) in
    let own = marked_all (bytes_looked_at P) (P.given.legs.count) in
    let less = sum_le (places_at P) (bytes_looked_at P) (P.given.legs.count) (λ i lt. omega arith) in
    let none : unread P.given.moments.end k ≡ 0 = rw tracked refl in
    let empty : length k.store.tracked ≡ 0 = rw tracked refl in
    record {
      unlearnt = λ x y. true;
      untracked = λ x y. true;
      spare = omega (arith, slots, own, less, none, is, spare);
      log = omega (arith, slots, is, left);
      places = omega (arith, own, less, empty, is, places);
      learnt = λ i j e. absurd (false≢true (sym e));
      tracked = λ i j e. absurd (false≢true (sym e));
    }
