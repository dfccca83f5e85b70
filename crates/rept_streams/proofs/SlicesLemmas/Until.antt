-- Until when anything may have happened, by slices that were put in order.
use Rattle.std.proofs.Common.{◌≡◌, ℕ, ◌==◌, List, [], ◌∷◌, Bool, true, false, cond, Some, None, sym, ◌∙◌, ap, subst, arith}
use Rattle.std.specs.List.{All, filter}
use Rattle.std.specs.List.Sorted.{IsPermutation, IsNonDecreasingBy}
use Rattle.std.proofs.lemmas.List.Elements.{All-nil, All-cons, All-head, All-tail}
use Rattle.std.proofs.lemmas.List.Sorted.{All-permutation}
use Rattle.rept_trace.specs.declared.packet.Packet.{Packet}
use Rattle.rept_streams.specs.Slices.Stamps.{clock_of, context_of}
use Rattle.rept_streams.specs.Slices.Parts.{ToldSlice, slices_told, thread_of}
use Rattle.rept_streams.specs.Slices.Order.{by_time, head_of, slices_of}
use Rattle.rept_streams.specs.Slices.Skipping.{windows, greatest, ends_of}
use Rattle.rept_streams.specs.Slices.Ends.{ends_in}
use Rattle.rept_streams.specs.Slices.Entries.{AreEntriesOf}
use Rattle.rept_streams.specs.declared.slices.telling.StreamSlice.{StreamSlice}
use Rattle.rept_streams.proofs.SlicesLemmas.InTime.{Each, Ascend, FromTime}
use Rattle.rept_streams.proofs.SlicesLemmas.Sorting.{ascends_by}
use Rattle.rept_streams.proofs.SlicesLemmas.Apart.{HasTold, each_told, told_by_each, same_all_told, told_filter, told_slices, last_ends}

module _ {A : Type 0} (P : A → Type 0) where
  pub all_each : (xs : List A) → Each P xs → All P xs
  all_each [] h = All-nil P
  all_each (x ∷ xs) h = All-cons P x xs h.0 (all_each xs h.1)

  pub each_all : (xs : List A) → All P xs → Each P xs
  each_all [] h = tt
  each_all (x ∷ xs) h = (All-head P x xs h, each_all xs (All-tail P x xs h))

-- entries in another order stand for slices too
pub told_permuted : (es fs : List StreamSlice) (ts : List ToldSlice) → IsPermutation es fs → AreEntriesOf es ts → (us : List ToldSlice) × AreEntriesOf fs us
told_permuted es fs ts p a = told_by_each fs (each_all HasTold fs (All-permutation HasTold es fs p (all_each HasTold es (each_told es ts a))))

pub told_ascend : (es : List StreamSlice) (ts : List ToldSlice) → AreEntriesOf es ts → Ascend (λ (e : StreamSlice). context_of e.start) es → Ascend thread_of ts
told_ascend [] ts a h = subst (Ascend thread_of) (sym a) tt
told_ascend (e ∷ es) [] a h = absurd a
told_ascend (e ∷ es) (t ∷ ts) a h = (next es ts a.1 h.0, told_ascend es ts a.1 h.1) where
  next : (es : List StreamSlice) (ts : List ToldSlice) → AreEntriesOf es ts → FromTime (λ (e : StreamSlice). context_of e.start) (context_of e.start) (head_of es) → FromTime thread_of (thread_of t) (head_of ts)
  next [] ts b k = subst (λ (us : List ToldSlice). FromTime thread_of (thread_of t) (head_of us)) (sym b) tt
  next (f ∷ fs) [] b k = absurd b
  next (f ∷ fs) (u ∷ us) b k =
      let one = ap (λ (p : Packet). context_of p) (a.0).start in
      let two = ap (λ (p : Packet). context_of p) (b.0).start in
      omega (arith, k, one, two)

-- those of each thread in order
pub same_threads : (es fs : List StreamSlice) (ts us : List ToldSlice) → AreEntriesOf es ts → AreEntriesOf fs us
    → ((n : ℕ) → filter (λ (e : StreamSlice). context_of e.start == n) fs ≡ by_time (λ (e : StreamSlice). clock_of e.start) (filter (λ (e : StreamSlice). context_of e.start == n) es))
    → (n : ℕ) → filter (λ (t : ToldSlice). thread_of t == n) us ≡ slices_of n ts
same_threads es fs ts us a b times n =
    let own : AreEntriesOf (filter (λ (e : StreamSlice). context_of e.start == n) fs) (slices_of n ts) = subst (λ (xs : List StreamSlice). AreEntriesOf xs (slices_of n ts)) (sym (times n)) (told_slices n es ts a) in
    same_all_told (filter (λ (e : StreamSlice). context_of e.start == n) fs) (filter (λ (t : ToldSlice). thread_of t == n) us) (slices_of n ts) (told_filter n fs us b) own

pub until : (from : ℕ) (lists : List (List Packet)) (es fs : List StreamSlice) (time last : ℕ) → AreEntriesOf es (slices_told (windows from lists)) → IsPermutation es fs → IsNonDecreasingBy (λ (e : StreamSlice). context_of e.start) fs
    → ((n : ℕ) → filter (λ (e : StreamSlice). context_of e.start == n) fs ≡ by_time (λ (e : StreamSlice). clock_of e.start) (filter (λ (e : StreamSlice). context_of e.start == n) es))
    → ((us : List ToldSlice) → AreEntriesOf fs us → last ≡ greatest (time ∷ ends_in time us))
    → last ≡ greatest (time ∷ ends_of time (slices_told (windows from lists)))
until from lists es fs time last a p up times is =
    let ts = slices_told (windows from lists) in
    let b = told_permuted es fs ts p a in
    let rises = told_ascend fs b.0 b.1 (ascends_by (λ (e : StreamSlice). context_of e.start) fs up) in
    is b.0 b.1 ∙ last_ends ts b.0 rises (same_threads es fs ts b.0 a b.1 times) time

pub told_untraced : (several : Bool) (last greatest : ℕ) → several ≡ true → last ≡ greatest → Some last ≡ cond several (Some greatest) None
told_untraced true last greatest h is = ap Some is
told_untraced false last greatest h is = absurd (cc)
