-- From a walk over the window to the path of the trace.
use Rattle.std.proofs.Common.{◌≡◌, ◌⊎◌, inl, inr, ℕ, zero, suc, ◌+◌, ◌<◌, ◌^◌, List, [], ◌∷◌, ◌++◌, length, reverse, drop, slice_get, Option, Some, Err, true, refl, sym, ◌∙◌, ap, subst, arith}
use Rattle.std.proofs.lemmas.List.{reverse-reverse}
use Rattle.rept_isa.specs.declared.row.StepRow.{StepRow}
use Rattle.rept_path.specs.declared.program.Program.{Program}
use Rattle.rept_path.specs.Program.{code_of}
use Rattle.rept_trace.specs.declared.packet.Packet.{Packet}
use Rattle.rept_trace.specs.declared.packets.Packets.{Packets}
use Rattle.rept_trace.specs.Packets.{rest_of, number_of}
use Rattle.rept_trace.specs.Stream.{Hold}
use Rattle.rept_path.specs.declared.fault.PathFault.{PathFault}
use Rattle.rept_path.specs.declared.fault.PathFault.TheVariants.{OutOfMemory, End}
use Rattle.rept_path.specs.declared.walk.Walk.{Walk}
use Rattle.rept_path.specs.declared.window.Begin.{Begin}
use Rattle.rept_path.specs.declared.window.WindowSurvey.{WindowSurvey}
use Rattle.rept_path.specs.Gap.{gap_to_end}
use Rattle.rept_path.specs.Route.{place, alone, earlier_by}
use Rattle.rept_path.specs.State.{here, standing, Stands, Crossed, from_to}
use Rattle.rept_path.specs.Trace.{starts, Window, IsWindow, StopsAt}
use Rattle.rept_path.specs.Survey.{number_in, IsThere, Surveys}
use Rattle.rept_path.specs.Traced.{IsUntraced, pc_of, IsTracedPath, raw_by}

pub get_drop : (xs : List Packet) (n : ℕ) → slice_get (drop n xs) 0 ≡ slice_get xs n
get_drop [] zero = refl
get_drop [] (suc n) = refl
get_drop (x ∷ xs) zero = refl
get_drop (x ∷ xs) (suc n) = get_drop xs n

pub size : (xs : List Packet) (n : ℕ) (p : Packet) (later : List Packet) → drop n xs ≡ p ∷ later → n + 1 + length later ≡ length xs
size [] zero p later h = absurd (cc)
size [] (suc n) p later h = absurd (cc)
size (x ∷ xs) zero p later h = let e = ap (length {A = Packet}) h in omega (arith, e)
size (x ∷ xs) (suc n) p later h = let r = size xs n p later h in omega (arith, r)

module _ (packets : Packets) (from : ℕ) (list : List Packet) (s : WindowSurvey) (b : Begin) (found : Surveys (rest_of packets) list from s) (is : s.begin ≡ Some b) where
  window : Window list from b.number
  window = subst (λ (o : Option Begin). IsWindow list from (number_in o)) is found.window

  there : IsThere list (Some b)
  there = subst (λ (o : Option Begin). IsThere list o) is found.there

  pub begins : starts (Some b.first) ≡ true
  begins =
      let e : slice_get (drop b.number list) 0 ≡ Some b.first = ap (λ (xs : List Packet). slice_get xs 0) there.2 in
      rw (← get_drop list b.number, e) at window.may.start

  pub room : (later : List Packet) × Hold (rest_of b.later) later × (b.number + 1 + length later < 2 ^ 32)
  room = let n = size list b.number b.first there.0 there.2 in let few = found.few in (there.0, there.1, omega (arith, n, few))

  module _ (program : Program) where
    pub walk_refusal : (e : PathFault) → ((later : List Packet) → Hold (rest_of b.later) later → (e ≡ OutOfMemory) ⊎ StopsAt (code_of program) (alone b.number) (b.first ∷ later) e) → (e ≡ OutOfMemory) ⊎ IsUntraced (raw_by packets program from) (number_of packets) e
    walk_refusal e h = elim (h there.0 there.1) [
      | inl m ↦ inl m
      | inr f ↦ inr (inr (list, found.hold, inr (b.number, window, inl (subst (λ (xs : List Packet). StopsAt (code_of program) (alone b.number) xs e) (sym there.2) f))))
    ]

    module _ (w : Walk) (stood : (later : List Packet) → Hold (rest_of b.later) later → (legs : List (List StepRow)) × Stands (code_of program) (earlier_by (alone b.number) (reverse (b.first ∷ later)) legs) w) where
      stands : (legs : List (List StepRow)) × Stands (code_of program) (earlier_by (alone b.number) (reverse (drop b.number list)) legs) w
      stands = subst (λ (xs : List Packet). (legs : List (List StepRow)) × Stands (code_of program) (earlier_by (alone b.number) (reverse xs) legs) w) (sym there.2) (stood there.0 there.1)

      pub join_refusal : (e : PathFault) → (e ≡ OutOfMemory) ⊎ (gap_to_end (code_of program) (standing s.count w) (pc_of program.dump) ≡ Err e) → (e ≡ OutOfMemory) ⊎ IsUntraced (raw_by packets program from) (number_of packets) e
      join_refusal e h = elim h [
        | inl m ↦ inl m
        | inr f ↦
            let st = stands in
            inr (inr (list, found.hold, inr (b.number, window, inr (record { legs = st.0; route = st.1.route; end = (let g = rw st.1.room at f in rw (← st.1.seen, ← st.1.bits, ← found.count) g) }))))
      ]

      pub joined : (new : Walk) → Crossed (code_of program) (record { address = pc_of program.dump; otherwise = End w.at (pc_of program.dump) }) (from_to s.count w new) → IsTracedPath (raw_by packets program from) b.number new.steps
      joined new x =
          let st = stands in
          let rows : (here w).rows ≡ (place (code_of program) (reverse (drop b.number list)) st.0).rows = ap (λ p. p.rows) st.1.seen in (
            list,
            found.hold,
            record {
              window = window;
              legs = st.0;
              route = st.1.route;
              last = x.rows;
              end = (let g = rw st.1.room at x.crosses in rw (← st.1.seen, ← st.1.bits, ← found.count) g);
              order = sym (reverse-reverse new.steps) ∙ ap reverse (x.seen ∙ ap (λ (ys : List StepRow). x.rows ++ ys) rows);
            },
          )
