-- Legs by index.
use Rattle.std.proofs.Common.{◌≡◌, ℕ, zero, suc, ◌+◌, ◌<◌, ◌≤◌, List, [], ◌∷◌, ◌++◌, length, reverse, slice_get, Some, false, refl, sym, ◌∙◌, ap, arith, inl, inr, length-append}
use Rattle.std.proofs.lemmas.Bool.{cases_order}
use Rattle.std.proofs.lemmas.List.{reverse-append, reverse-reverse, take-append-le}
use Rattle.std.proofs.lemmas.Option.{slice_get_within}
use Rattle.std.proofs.Math.Seq.{take-length}
use Rattle.rept_path.specs.Code.{Code}
use Rattle.rept_isa.specs.declared.row.StepRow.{StepRow}
use Rattle.rept_path.specs.declared.aim.Aim.{Aim}
use Rattle.rept_path.specs.Moves.{Lead, Place, place_along, IsMove, stops, heading_by}
use Rattle.rept_path.specs.Legs.{LegPasses, Reaches}
use Rattle.rept_path.specs.Index.{at_index, LeastStop}

get_front : (xs ys : List StepRow) (i : ℕ) → i < length xs → slice_get (xs ++ ys) i ≡ slice_get xs i
get_front [] ys i lt = absurd (omega arith)
get_front (x ∷ xs) ys zero lt = refl
get_front (x ∷ xs) ys (suc i) lt = get_front xs ys i (omega arith)

get_seam : (xs : List StepRow) (r : StepRow) → slice_get (xs ++ r ∷ []) (length xs) ≡ Some r
get_seam [] r = refl
get_seam (x ∷ xs) r = get_seam xs r

turned : (r : StepRow) (leg : List StepRow) → reverse (r ∷ leg) ≡ reverse leg ++ r ∷ []
turned r leg = reverse-append (r ∷ []) leg

longer : (r : StepRow) (rows : List StepRow) → length (rows ++ r ∷ []) ≡ length rows + 1
longer r rows = length-append rows (r ∷ [])

module _ (code : Code) (lead : Lead) (aim : Aim) (past : Place) where
  -- one row more at the end
  index_front : (rows : List StepRow) (r : StepRow) (i : ℕ) → i ≤ length rows → at_index code past (rows ++ r ∷ []) i ≡ at_index code past rows i
  index_front rows r i le = ap (λ (xs : List StepRow). place_along code past (reverse xs)) (take-append-le i rows (r ∷ []) le)

  index_all : (rows : List StepRow) → at_index code past rows (length rows) ≡ place_along code past (reverse rows)
  index_all rows = ap (λ (xs : List StepRow). place_along code past (reverse xs)) (take-length rows)

  index_end : (leg : List StepRow) (i : ℕ) → i ≡ length (reverse leg) → at_index code past (reverse leg) i ≡ place_along code past leg
  index_end leg i e = rw e (index_all (reverse leg) ∙ ap (λ (xs : List StepRow). place_along code past xs) (reverse-reverse leg))

  abbrev Moves : List StepRow → Type 0
  Moves rows = (i : ℕ) (r : StepRow) → slice_get rows i ≡ Some r → IsMove code lead (at_index code past rows i) r

  -- moves, and no stop after them
  record Idle (rows : List StepRow) : Type 0 where
    moves : Moves rows
    stays : (i : ℕ) → 0 < i → i ≤ length rows → stops code lead.bits aim (at_index code past rows i) ≡ false

  moves_on : (leg : List StepRow) (q : StepRow) → Moves (reverse leg) → IsMove code lead (place_along code past leg) q → Moves (reverse leg ++ q ∷ [])
  moves_on leg q moves last = λ i r at.
      let rows = reverse leg in
      elim (cases_order i (length rows)) [
        | inl e ↦
            let s : slice_get (rows ++ q ∷ []) i ≡ Some q = rw e (get_seam rows q) in
            let same : q ≡ r = cc in
            rw (index_front rows q i (omega arith), index_end leg i e, ← same) last
        | inr (inl l) ↦ rw (index_front rows q i (omega arith)) (moves i r (sym (get_front rows (q ∷ []) i l) ∙ at))
        | inr (inr l) ↦ let w = slice_get_within (rows ++ q ∷ []) i r at in absurd (omega (arith, longer q rows))
      ]

  idle : (leg : List StepRow) → LegPasses code (heading_by lead aim) past leg → Idle (reverse leg)
  idle [] x = record { moves = λ i r at. absurd (cc); stays = λ i lt le. absurd (omega arith) }
  idle (q ∷ leg) x =
      let rows = reverse leg in
      let h = idle leg x.0 in
      rw (turned q leg) (record {
        moves = moves_on leg q h.moves x.1;
        stays = λ i lt le. elim (cases_order i (length rows + 1)) [
          | inl e ↦ rw (← turned q leg, index_end (q ∷ leg) i (e ∙ sym (longer q rows) ∙ ap (length {A = StepRow}) (sym (turned q leg)))) x.2
          | inr (inl l) ↦ rw (index_front rows q i (omega arith)) (h.stays i lt (omega arith))
          | inr (inr l) ↦ absurd (omega (arith, longer q rows))
        ];
      })

  pub by_index : (leg : List StepRow) → Reaches code (heading_by lead aim) past leg → LeastStop code (heading_by lead aim) past (reverse leg)
  by_index [] x = elim x [ ]
  by_index (q ∷ leg) x =
      let rows = reverse leg in
      let h = idle leg x.0 in
      rw (turned q leg) (record {
        moves = moves_on leg q h.moves x.1;
        later = omega (arith, longer q rows);
        stop = rw (← turned q leg, index_end (q ∷ leg) (length (reverse (q ∷ leg))) refl) x.2;
        least = λ i lt le. rw (index_front rows q i (omega (arith, longer q rows))) (h.stays i lt (omega (arith, longer q rows)));
      })

  -- and back
  moves_front : (rows : List StepRow) (q : StepRow) → Moves (rows ++ q ∷ []) → Moves rows
  moves_front rows q moves = λ i r at.
      let lt = slice_get_within rows i r at in
      rw (← index_front rows q i (omega arith)) (moves i r (get_front rows (q ∷ []) i lt ∙ at))

  last_move : (leg : List StepRow) (q : StepRow) → Moves (reverse leg ++ q ∷ []) → IsMove code lead (place_along code past leg) q
  last_move leg q moves =
      let rows = reverse leg in
      let e : at_index code past (rows ++ q ∷ []) (length rows) ≡ place_along code past leg = index_front rows q (length rows) (omega arith) ∙ index_end leg (length rows) refl in
      rw (← e) (moves (length rows) q (get_seam rows q))

  passes : (leg : List StepRow) → Idle (reverse leg) → LegPasses code (heading_by lead aim) past leg
  passes [] h = tt
  passes (q ∷ leg) h =
      let rows = reverse leg in
      let g : Idle (rows ++ q ∷ []) = rw (turned q leg) at h in
      let front : Idle rows = record {
        moves = moves_front rows q g.moves;
        stays = λ i lt le. rw (← index_front rows q i le) (g.stays i lt (omega (arith, longer q rows)));
      } in
      let n = length (reverse (q ∷ leg)) in
      let some : 0 < n = omega (arith, longer q rows, ap (length {A = StepRow}) (turned q leg)) in
      (passes leg front, last_move leg q g.moves, rw (index_end (q ∷ leg) n refl) at (h.stays n some (omega arith)))

  pub from_index : (leg : List StepRow) → LeastStop code (heading_by lead aim) past (reverse leg) → Reaches code (heading_by lead aim) past leg
  from_index [] h = let some = h.later in omega (arith, some)
  from_index (q ∷ leg) h =
      let rows = reverse leg in
      let g : LeastStop code (heading_by lead aim) past (rows ++ q ∷ []) = rw (turned q leg) at h in
      let front : Idle rows = record {
        moves = moves_front rows q g.moves;
        stays = λ i lt le. rw (← index_front rows q i le) (g.least i lt (omega (arith, longer q rows)));
      } in
      (passes leg front, last_move leg q g.moves, rw (index_end (q ∷ leg) (length (reverse (q ∷ leg))) refl) at h.stop)
