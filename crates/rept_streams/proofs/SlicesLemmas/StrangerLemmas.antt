-- Slices of threads that aren't known, one after the other.
use Rattle.std.proofs.Common.{◌≡◌, ◌==◌, ℕ, ◌+◌, ◌<◌, ◌≤◌, List, [], ◌∷◌, length, drop, get_or, Option, Some, None, refl, sym, ◌∙◌, ap, subst, if◌then◌else◌}
use Rattle.std.specs.List.{list_any}
use Rattle.std.proofs.lemmas.List.{at_drop_all, at_drop_more}
use Rattle.rept_trace.specs.declared.packet.Packet.{Packet}
use Rattle.rept_path.specs.declared.fault.PathFault.{PathFault}
use Rattle.rept_path.specs.declared.fault.PathFault.TheVariants.{UnknownThread}
use Rattle.rept_streams.specs.Slices.Stamps.{context_of}
use Rattle.rept_streams.specs.Slices.Parts.{ToldSlice, thread_of}
use Rattle.rept_streams.specs.Slices.Checks.{first_fault, stranger, while_other}
use Rattle.rept_streams.specs.Slices.Entries.{IsEntryOf, AreEntriesOf, judged, judged_inside}
use Rattle.rept_streams.specs.declared.slices.telling.StreamSlice.{StreamSlice}
use Rattle.rept_streams.proofs.SlicesLemmas.Checking.{fault_on, fault_here}

while_is : (t : ToldSlice) (o : Option ℕ) → while_other t o ≡ judged_inside t.number (thread_of t) o
while_is t None = refl
while_is t (Some inside) = refl

judged_is : (threads : List ℕ) (e : StreamSlice) (t : ToldSlice) → IsEntryOf e t → judged threads e.number (context_of e.start) e.inside ≡ stranger threads t
judged_is threads e t is =
    ap (λ (n : ℕ). judged threads n (context_of e.start) e.inside) is.number
    ∙ ap (λ (p : Packet). judged threads t.number (context_of p) e.inside) is.start
    ∙ ap (λ (o : Option ℕ). judged threads t.number (thread_of t) o) is.inside
    ∙ ap (λ (o : Option PathFault). if list_any (λ known. known == thread_of t) threads then o else Some (UnknownThread t.number (thread_of t))) (sym (while_is t t.inside))

-- The slices that are left, after those that pass.
pub record Judges (threads : List ℕ) (ts : List ToldSlice) (es : List StreamSlice) : Type 0 where
  pub later : List ToldSlice
  pub are : AreEntriesOf es later
  pub same : first_fault (stranger threads) ts ≡ first_fault (stranger threads) later

pub none_judged : (threads : List ℕ) (ts : List ToldSlice) (es : List StreamSlice) → AreEntriesOf es ts → Judges threads ts es
none_judged threads ts es a = record { later = ts; are = a; same = refl }

pub split_told : (e : StreamSlice) (es : List StreamSlice) (ts : List ToldSlice) → AreEntriesOf (e ∷ es) ts → (t : ToldSlice) × (later : List ToldSlice) × (ts ≡ t ∷ later) × IsEntryOf e t × AreEntriesOf es later
split_told e es [] a = absurd a
split_told e es (t ∷ later) a = (t, later, refl, a.0, a.1)

pub split_at : (es : List StreamSlice) (i : ℕ) (e : StreamSlice) → i < length es → e ≡ get_or es i e → drop i es ≡ e ∷ drop (i + 1) es
split_at es i e within at = at_drop_more (λ (xs : List StreamSlice). xs) es i e within ∙ ap (λ (x : StreamSlice). x ∷ drop (i + 1) es) (sym at)

module _ (threads : List ℕ) (ts : List ToldSlice) (es : List StreamSlice) (i : ℕ) (e : StreamSlice) (within : i < length es) (at : e ≡ get_or es i e) (j : Judges threads ts (drop i es)) where
  parts : (t : ToldSlice) × (later : List ToldSlice) × (j.later ≡ t ∷ later) × IsEntryOf e t × AreEntriesOf (drop (i + 1) es) later
  parts = split_told e (drop (i + 1) es) j.later (subst (λ (xs : List StreamSlice). AreEntriesOf xs j.later) (split_at es i e within at) j.are)

  pub one_judged : judged threads e.number (context_of e.start) e.inside ≡ None → Judges threads ts (drop (i + 1) es)
  one_judged calm = record {
    later = parts.1;
    are = parts.4;
    same = j.same ∙ ap (first_fault (stranger threads)) parts.2 ∙ fault_on (stranger threads) parts.0 parts.1 (sym (judged_is threads e parts.0 parts.3) ∙ calm);
  }

  pub one_refused : (f : PathFault) → judged threads e.number (context_of e.start) e.inside ≡ Some f → Some f ≡ first_fault (stranger threads) ts
  one_refused f h = sym (j.same ∙ ap (first_fault (stranger threads)) parts.2 ∙ fault_here (stranger threads) parts.0 parts.1 f (sym (judged_is threads e parts.0 parts.3) ∙ h))

pub all_judged : (threads : List ℕ) (ts : List ToldSlice) (es : List StreamSlice) (i : ℕ) → length es ≤ i → Judges threads ts (drop i es) → None ≡ first_fault (stranger threads) ts
all_judged threads ts es i past j =
    let none : j.later ≡ [] = subst (λ (xs : List StreamSlice). AreEntriesOf xs j.later) (at_drop_all (λ (xs : List StreamSlice). xs) es i past) j.are in
    sym (j.same ∙ ap (first_fault (stranger threads)) none)
