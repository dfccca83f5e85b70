-- Each list of streams has a run or a refusal.
use Rattle.std.proofs.Common.{◌≡◌, ◌⊎◌, inl, inr, ℕ, suc, ◌+◌, List, [], ◌∷◌, Bool, true, false, cond, Option, Some, None, Result, Ok, Err, refl}
use Rattle.std.specs.Prelude.{is_none}
use Rattle.rept_steps.specs.declared.run.Run.{Run}
use Rattle.rept_trace.specs.declared.packet.Packet.{Packet}
use Rattle.rept_path.specs.Code.{Code}
use Rattle.rept_path.specs.declared.fault.PathFault.{PathFault}
use Rattle.rept_path.proofs.Decided.{route_of}
use Rattle.rept_streams.specs.Slices.Stamps.{is_start, running_after}
use Rattle.rept_streams.specs.Slices.Parts.{LeftPackets, ToldSlice, told_from, told_in, slices_told}
use Rattle.rept_streams.specs.Slices.Stretches.{stretch, heads, StretchLegs, origin_after, count_of, Walks, WalksFault}
use Rattle.rept_streams.specs.Slices.Checks.{check}
use Rattle.rept_streams.specs.Slices.Skipping.{kept}
use Rattle.rept_streams.proofs.SlicesLemmas.InTime.{Each, each_filter}
use Rattle.rept_streams.proofs.SlicesLemmas.Calm.{each_append}
use Rattle.rept_streams.specs.Slices.Many.{Traces, IsRunOfStreams, HasNoRunOfStreams, joined, left, processes}

-- A slice begins with a start packet.
abbrev pub Started : ToldSlice → Type 0
Started t = is_start t.start ≡ true

start_told : (s k : ℕ) (inside : Option ℕ) (packets : List Packet) → Each Started (told_from s k inside packets)
start_told s k inside [] = tt
start_told s k inside (p ∷ later) = go (is_start p) refl (start_told s (suc k) (running_after p inside) later) where
  here : ToldSlice
  here = record { stream = s; number = k; start = p; later = later; inside = inside }

  rest : List ToldSlice
  rest = told_from s (suc k) (running_after p inside) later

  go : (b : Bool) → is_start p ≡ b → Each Started rest → Each Started (cond b (here ∷ rest) rest)
  go true is more = (is, more)
  go false is more = more

pub starts_told : (lefts : List LeftPackets) → Each Started (slices_told lefts)
starts_told [] = tt
starts_told (l ∷ lefts) = each_append Started (told_in l) (slices_told lefts) (start_told l.stream l.number None l.packets) (starts_told lefts)

module _ (code : Code) where
  walks_of : (count : ℕ) (ts : List ToldSlice) → Each Started ts → ((ws : List StretchLegs) × Walks code count ts ws) ⊎ ((e : PathFault) × WalksFault code count ts e)
  walks_of count [] a = inl ([], refl)
  walks_of count (t ∷ ts) a = elim (route_of code (origin_after count t) (stretch t) a.0) [
    | inl r ↦
        let w : StretchLegs = record { head = t; legs = r.0 } in
        elim (walks_of (count + count_of code w) ts a.1) [
          | inl ws ↦ inl (w ∷ ws.0, (refl, r.1, ws.1))
          | inr f ↦ inr (f.0, inr (w, refl, r.1, f.1))
        ]
    | inr f ↦ inr (f.0, inl f.1)
  ]

module _ (t : Traces) where
  pub run_or_refusal_of : ((run : Run) × IsRunOfStreams t run) ⊎ ((e : PathFault) × HasNoRunOfStreams t e)
  run_or_refusal_of = by_check (check t.from (processes t) t.streams) refl where
    by_result : (passed : check t.from (processes t) t.streams ≡ None) (ws : List StretchLegs) → Walks t.code 0 (heads (left t)) ws → (r : Result Run PathFault) → joined t ws ≡ r → ((run : Run) × IsRunOfStreams t run) ⊎ ((e : PathFault) × HasNoRunOfStreams t e)
    by_result passed ws walks (Ok run) is = inl (run, record { passed = passed; walked = ws; walks = walks; result = is })
    by_result passed ws walks (Err e) is = inr (e, inr (passed, inr (ws, walks, is)))

    by_walks : check t.from (processes t) t.streams ≡ None → ((ws : List StretchLegs) × Walks t.code 0 (heads (left t)) ws) ⊎ ((e : PathFault) × WalksFault t.code 0 (heads (left t)) e) → ((run : Run) × IsRunOfStreams t run) ⊎ ((e : PathFault) × HasNoRunOfStreams t e)
    by_walks passed (inl ws) = by_result passed ws.0 ws.1 (joined t ws.0) refl
    by_walks passed (inr f) = inr (f.0, inr (passed, inl f.1))

    by_check : (o : Option PathFault) → check t.from (processes t) t.streams ≡ o → ((run : Run) × IsRunOfStreams t run) ⊎ ((e : PathFault) × HasNoRunOfStreams t e)
    by_check (Some e) is = inr (e, inl is)
    by_check None is = by_walks is (walks_of t.code 0 (heads (left t)) (each_filter Started (λ u. is_none u.inside) (left t) (starts_told (kept t.from t.streams))))
