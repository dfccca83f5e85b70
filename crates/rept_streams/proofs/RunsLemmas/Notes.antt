-- The notes of a core file are those of few threads, no two of one process, and there are no
-- others.
use Rattle.std.proofs.Common.{◌≡◌, ℕ, nat_lt, cond, Bool, List, [], ◌∷◌, length, map, Option, Some, None, Result, Ok, Err, inl, inr, refl, sym, ap, ◌∙◌, subst}
use Rattle.std.specs.List.{filter}
use Rattle.std.proofs.lemmas.Bool.{cases_lt, lt-ltb, le-ltb}
use Rattle.rept_elf.specs.Segments.{segments}
use Rattle.rept_maps.specs.Notes.Notes.{Note}
use Rattle.rept_dump.specs.Registers.{is_status, all_registers, by_size, by_count, by_twin, first_short, first_twin, descs_of, pid_of, most_threads}
use Rattle.rept_dump.specs.declared.fault.CoreFault.{CoreFault}
use Rattle.rept_dump.specs.declared.fault.CoreFault.TheVariants.{TooManyThreads}
use Rattle.rept_dump.proofs.NoteLemmas.{all_said_once}
use Rattle.rept_streams.specs.Runs.Told.{AreNotesApart}
use Rattle.rept_streams.specs.Runs.Notes.{OneFileBytes, HasThreadNotes}

ok_descs : {a b : List (List ℕ)} → ◌≡◌ {A = Result (List (List ℕ)) CoreFault} (Ok a) (Ok b) → a ≡ b
ok_descs e = cc

ok_err : {a : List (List ℕ)} {f : CoreFault} → ◌≡◌ {A = Result (List (List ℕ)) CoreFault} (Ok a) (Err f) → ⊥
ok_err e = cc

-- notes that are read are those of few threads, no two of one process
apart_by_twin : (descs ds : List (List ℕ)) (o : Option ℕ) → first_twin (map pid_of ds) ≡ o → Ok descs ≡ by_twin o ds → (descs ≡ ds) × (first_twin (map pid_of ds) ≡ None)
apart_by_twin descs ds (Some pid) e h = absurd (ok_err h)
apart_by_twin descs ds None e h = (ok_descs h, e)

apart_by_count : (descs ds : List (List ℕ)) → Ok descs ≡ by_count ds → AreNotesApart descs
apart_by_count descs ds h =
    elim (cases_lt most_threads (length ds)) [
      | inl over ↦ absurd (ok_err (said_at (lt-ltb most_threads (length ds) over)))
      | inr few ↦
          let its = apart_by_twin descs ds (first_twin (map pid_of ds)) refl (said_at (le-ltb most_threads (length ds) few)) in
          subst (λ (xs : List (List ℕ)). AreNotesApart xs) (sym its.0) (record { few = few; apart = its.1 })
    ]
  where
    -- what is said where the count passes the limit, or doesn't
    said_at : {b : Bool} → nat_lt most_threads (length ds) ≡ b → Ok descs ≡ cond b (Err (TooManyThreads (length ds))) (by_twin (first_twin (map pid_of ds)) ds)
    said_at e = h ∙ ap (λ (b : Bool). cond b (Err (TooManyThreads (length ds))) (by_twin (first_twin (map pid_of ds)) ds)) e

apart_by_size : (descs ds : List (List ℕ)) (o : Option ℕ) → Ok descs ≡ by_size o ds → AreNotesApart descs
apart_by_size descs ds (Some size) h = absurd (ok_err h)
apart_by_size descs ds None h = apart_by_count descs ds h

apart_of : (descs : List (List ℕ)) (statuses : List Note) → Ok descs ≡ all_registers statuses → AreNotesApart descs
apart_of descs [] h = absurd (ok_err h)
apart_of descs (note ∷ notes) h = apart_by_size descs (descs_of (note ∷ notes)) (first_short (note ∷ notes)) h

pub notes_apart : (b : OneFileBytes) (descs : List (List ℕ)) → HasThreadNotes b descs → AreNotesApart descs
notes_apart b descs h =
    elim h.said [
      | inl cut ↦ absurd (ok_err cut.2)
      | inr whole ↦ apart_of descs (filter is_status whole.0) whole.2
    ]

pub notes_once : (b : OneFileBytes) (a d : List (List ℕ)) → HasThreadNotes b a → HasThreadNotes b d → a ≡ d
notes_once b a d h k = ok_descs (all_said_once (length b.core) (segments b.core) (Ok a) (Ok d) h.said k.said)
