-- Where no slice begins before a time.
use Rattle.std.proofs.Common.{◌≡◌, map, ℕ, nat_lt, inl, inr, arith, List, [], ◌∷◌, Bool, true, false, cond, ◌||◌, refl, sym, ◌∙◌, ap}
use Rattle.std.specs.List.{filter, list_any}
use Rattle.std.proofs.lemmas.Bool.Decides.{leb_tells}
use Rattle.rept_trace.specs.declared.packet.Packet.{Packet}
use Rattle.rept_streams.specs.Slices.Stamps.{clock_of}
use Rattle.rept_streams.specs.Slices.Parts.{ToldSlice, begin_of}
use Rattle.rept_streams.specs.Slices.Skipping.{greatest, end_skipped, ends_of}
use Rattle.rept_streams.specs.Slices.Entries.{AreEntriesOf}
use Rattle.rept_streams.specs.declared.slices.telling.StreamSlice.{StreamSlice}

no_or : (a b : Bool) → (a || b) ≡ false → (a ≡ false) × (b ≡ false)
no_or true b h = absurd ((cc))
no_or false b h = (refl, h)

none_kept : (time : ℕ) (es : List StreamSlice) (ts : List ToldSlice) → AreEntriesOf es ts → list_any (λ (e : StreamSlice). nat_lt (clock_of e.start) time) es ≡ false → filter (λ t. nat_lt (begin_of t) time) ts ≡ []
none_kept time [] ts h none = ap (filter (λ t. nat_lt (begin_of t) time)) h
none_kept time (e ∷ es) [] h none = absurd h
none_kept time (e ∷ es) (t ∷ ts) h none =
    let n = no_or (nat_lt (clock_of e.start) time) (list_any (λ (e : StreamSlice). nat_lt (clock_of e.start) time) es) none in
    let late : nat_lt (begin_of t) time ≡ false = ap (λ (p : Packet). nat_lt (clock_of p) time) (sym (h.0).start) ∙ n.0 in
    ap (λ (b : Bool). cond b (t ∷ filter (λ t. nat_lt (begin_of t) time) ts) (filter (λ t. nat_lt (begin_of t) time) ts)) late ∙ none_kept time es ts h.1 n.1

pub greatest_one : (n : ℕ) → greatest (n ∷ []) ≡ n
greatest_one n = elim (leb_tells n 0) [
  | inl t ↦ let le = t.1 in let none : 0 ≡ n = omega (arith, le) in ap (λ (b : Bool). cond b 0 n) t.0 ∙ none
  | inr t ↦ ap (λ (b : Bool). cond b 0 n) t.0
]

pub time_alone : (time : ℕ) (es : List StreamSlice) (ts : List ToldSlice) → AreEntriesOf es ts → list_any (λ (e : StreamSlice). nat_lt (clock_of e.start) time) es ≡ false → time ≡ greatest (time ∷ ends_of time ts)
time_alone time es ts h none = sym (ap (λ (us : List ToldSlice). greatest (time ∷ map (end_skipped ts) us)) (none_kept time es ts h none) ∙ greatest_one time)
