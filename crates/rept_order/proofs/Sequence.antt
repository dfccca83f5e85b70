-- The order of events and moments, without times.
use Rattle.std.proofs.Common.{◌≡◌, Bool, true, false, List, [], ◌∷◌, ◌++◌, inl, inr, refl, sym, ap, subst}
use Rattle.rept_steps.specs.Course.{Course, Row, IsRow, calls}
use Rattle.rept_order.specs.Events.{Part, Event, IsEvent, FitsRow, first_part, last_part, first_event, last_event, Before, Chain, Precedes, PrecedesOrIs}
use Rattle.rept_order.specs.Events.Part.{whole, entry, return}
use Rattle.rept_order.specs.Moments.{Moment, NotLater}
use Rattle.rept_order.specs.Moments.Moment.{before, after, at_end}

fits_first : (b : Bool) → FitsRow b (first_part b)
fits_first true = refl
fits_first false = refl

fits_last : (b : Bool) → FitsRow b (last_part b)
fits_last true = refl
fits_last false = refl

pub first_is_event : (C : Course) (r : Row) → IsRow C r → IsEvent C (first_event C r)
first_is_event C r is = record { row = is; part = fits_first (calls C r) }

pub last_is_event : (C : Course) (r : Row) → IsRow C r → IsEvent C (last_event C r)
last_is_event C r is = record { row = is; part = fits_last (calls C r) }

-- an event by its row and its part
abbrev pub part_of : Row → Part → Event
part_of r p = record { row = r; part = p }

pub first_whole : (C : Course) (r : Row) → calls C r ≡ false → first_event C r ≡ part_of r whole
first_whole C r e = ap (λ (b : Bool). part_of r (first_part b)) e

pub last_whole : (C : Course) (r : Row) → calls C r ≡ false → last_event C r ≡ part_of r whole
last_whole C r e = ap (λ (b : Bool). part_of r (last_part b)) e

pub first_entry : (C : Course) (r : Row) → calls C r ≡ true → first_event C r ≡ part_of r entry
first_entry C r e = ap (λ (b : Bool). part_of r (first_part b)) e

pub last_return : (C : Course) (r : Row) → calls C r ≡ true → last_event C r ≡ part_of r return
last_return C r e = ap (λ (b : Bool). part_of r (last_part b)) e

module _ (C : Course) where
  pub chain_first : (e f : Event) (xs : List Event) → Chain C e xs f → IsEvent C e
  chain_first e f [] h = h.first
  chain_first e f (x ∷ xs) h = h.0.first

  pub chain_last : (e f : Event) (xs : List Event) → Chain C e xs f → IsEvent C f
  chain_last e f [] h = h.second
  chain_last e f (x ∷ xs) h = chain_last x f xs h.1

  chain_joined : (e f g : Event) (xs ys : List Event) → Chain C e xs f → Chain C f ys g → Chain C e (xs ++ f ∷ ys) g
  chain_joined e f g [] ys h k = (h, k)
  chain_joined e f g (x ∷ xs) ys h k = (h.0, chain_joined x f g xs ys h.1 k)

  pub precedes_trans : (e f g : Event) → Precedes C e f → Precedes C f g → Precedes C e g
  precedes_trans e f g (xs, h) (ys, k) = (xs ++ f ∷ ys, chain_joined e f g xs ys h k)

  pub directly : (e f : Event) → Before C e f → Precedes C e f
  directly e f h = ([], h)

  pub after_or : (e f g : Event) → PrecedesOrIs C e f → Precedes C f g → Precedes C e g
  after_or e f g (inl same) k = subst (λ (x : Event). Precedes C x g) (sym same) k
  after_or e f g (inr h) k = precedes_trans e f g h k

  pub or_after : (e f g : Event) → Precedes C e f → PrecedesOrIs C f g → Precedes C e g
  or_after e f g h (inl same) = subst (λ (x : Event). Precedes C e x) same h
  or_after e f g h (inr k) = precedes_trans e f g h k

  pub or_or : (e f g : Event) → PrecedesOrIs C e f → PrecedesOrIs C f g → PrecedesOrIs C e g
  or_or e f g (inl same) k = subst (λ (x : Event). PrecedesOrIs C x g) (sym same) k
  or_or e f g (inr h) k = inr (or_after e f g h k)

  -- the order of moments is one order
  pub not_later_trans : (m w x : Moment) → NotLater C m w → NotLater C w x → NotLater C m x
  not_later_trans (before p) (before q) (before r) h k = or_or _ _ _ h k
  not_later_trans (before p) (before q) (after r) h k = or_or _ _ _ h k
  not_later_trans (before p) (after q) (before r) h k = inr (after_or _ _ _ h k)
  not_later_trans (before p) (after q) (after r) h k = or_or _ _ _ h k
  not_later_trans (after p) (before q) (before r) h k = or_after _ _ _ h k
  not_later_trans (after p) (before q) (after r) h k = inr (or_after _ _ _ h k)
  not_later_trans (after p) (after q) (before r) h k = after_or _ _ _ h k
  not_later_trans (after p) (after q) (after r) h k = or_or _ _ _ h k
  not_later_trans m w at_end h k = any_end m
    where
      any_end : (m : Moment) → NotLater C m at_end
      any_end (before r) = tt
      any_end (after r) = tt
      any_end at_end = tt
  not_later_trans (before p) at_end (before r) h k = absurd k
  not_later_trans (before p) at_end (after r) h k = absurd k
  not_later_trans (after p) at_end (before r) h k = absurd k
  not_later_trans (after p) at_end (after r) h k = absurd k
  not_later_trans at_end (before q) (before r) h k = absurd h
  not_later_trans at_end (before q) (after r) h k = absurd h
  not_later_trans at_end (after q) (before r) h k = absurd h
  not_later_trans at_end (after q) (after r) h k = absurd h
  not_later_trans at_end at_end (before r) h k = absurd k
  not_later_trans at_end at_end (after r) h k = absurd k
