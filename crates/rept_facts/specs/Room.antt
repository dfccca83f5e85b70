-- That the room which an analysis took at first is enough for all bytes that it can learn, where
-- its store joins what stands side by side: each byte that rows let one conclude is learnt once, as
-- is the byte of the dump at each tracked address, and what is carried takes none. This project's
-- own.
use Rattle.std.specs.Prelude.{◌≡◌, ℕ, ◌+◌, ◌<◌, ◌≤◌, Bool, false, min, List, length, Option, Some, None, Contains, sum_by, is_none}
use Rattle.rept_isa.specs.declared.row.StepRow.{StepRow}
use Rattle.rept_isa.specs.Numbers.{plus, beside}
use Rattle.rept_isa.specs.Operands.{first_read}
use Rattle.rept_reason.specs.declared.fact.Fact.{Fact}
use Rattle.rept_reason.specs.declared.fact.Cell.TheVariants.{Byte}
use Rattle.rept_reason.specs.Facts.{told, register_known}
use Rattle.rept_reason.specs.declared.view.inferred.When.TheVariants.{Before}
use Rattle.rept_reason.specs.declared.view.inferred.Conclusion.{Conclusion}
use Rattle.rept_reason.specs.View.Seen.{Seen, IsLawful}
use Rattle.rept_reason.specs.View.Rules.{Rules, offset_of}
use Rattle.rept_report.specs.Views.{moment_of}
use Rattle.rept_log.specs.Known.{Known}
use Rattle.rept_facts.specs.Sums.{one_if, count_true, sum_to}
use Rattle.rept_facts.specs.State.{Subject}

-- how many byte facts a row lets one conclude at most
abbrev pub places_of : Rules → Option StepRow → ℕ
places_of rules None = 0
places_of rules (Some row) = rules.places row

-- so many has row i
abbrev pub places_at : {W : Type 0} → Subject W → ℕ → ℕ
places_at P i = places_of P.rules (P.given.legs.row i)

-- how many bytes its rules look at
abbrev pub bytes_looked_at : {W : Type 0} → Subject W → ℕ → ℕ
bytes_looked_at P i = min (places_at P i) 4

-- of all the numbers below `width i`, for each i below n, how many are marked
abbrev pub marked : (ℕ → ℕ) → (ℕ → ℕ → Bool) → ℕ → ℕ
marked width marks n = sum_to (λ i. count_true (marks i) (width i)) n

-- at how many tracked addresses no byte is known at the end
abbrev pub unread : ℕ → Known → ℕ
unread last k = sum_by (λ a. one_if (is_none (k.store.fact last a))) k.store.tracked

-- a conclusion that row i's rules let one infer, from something that was seen around the row, in
-- which its base was what is known now
pub record IsInferable {W : Type 0} (P : Subject W) (log : List Fact) (i : ℕ) (d : Conclusion) : Type 0 where
  pub row : StepRow
  pub found : P.given.legs.row i ≡ Some row
  pub view : Seen
  pub lawful : IsLawful view
  pub inferred : Contains (P.rules.infer row view) d
  pub base_register : ℕ
  pub base : ℕ
  pub read : first_read row.instr ≡ Some base_register
  pub seen : view.register Before base_register ≡ Some base
  pub known : register_known (told log) i base_register ≡ Some base

-- such a conclusion on this byte at this moment
pub record IsInferredAt {W : Type 0} (P : Subject W) (log : List Fact) (p a : ℕ) : Type 0 where
  pub number : ℕ
  pub conclusion : Conclusion
  pub moment : p ≡ moment_of P.given.moments number conclusion.when
  pub cell : conclusion.cell ≡ Byte a
  pub inferred : IsInferable P log number conclusion

-- the byte of row i's slot j is known
pub record IsSlotLearnt {W : Type 0} (P : Subject W) (k : Known) (i j : ℕ) : Type 0 where
  pub conclusion : Conclusion
  pub address : ℕ
  pub value : ℕ
  pub slot : conclusion.slot ≡ j
  pub cell : conclusion.cell ≡ Byte address
  pub inferred : IsInferable P k.log i conclusion
  pub byte : k.store.fact (moment_of P.given.moments i conclusion.when) address ≡ Some value

-- a byte of a row: its number among those that the rules of the row look at, and its address
pub record OwnByte : Type 0 where
  pub row : ℕ
  pub number : ℕ
  pub address : ℕ

abbrev pub own_at : ℕ → ℕ → ℕ → OwnByte
own_at i j a = record { row = i; number = j; address = a }

-- that it is one of the row, whose base is known
pub record IsOwnByte {W : Type 0} (P : Subject W) (log : List Fact) (b : OwnByte) : Type 0 where
  pub row : StepRow
  pub found : P.given.legs.row b.row ≡ Some row
  pub base_register : ℕ
  pub base : ℕ
  pub read : first_read row.instr ≡ Some base_register
  pub known : register_known (told log) b.row base_register ≡ Some base
  pub below_places : b.number < P.rules.places row
  pub below_four : b.number < 4
  pub address : b.address ≡ beside (plus base (offset_of row.instr)) b.number

-- it is tracked
pub record IsByteTracked {W : Type 0} (P : Subject W) (k : Known) (i j : ℕ) : Type 0 where
  pub address : ℕ
  pub own : IsOwnByte P k.log (own_at i j address)
  pub tracked : Contains k.store.tracked address

-- The room that is left is enough for each slot whose byte isn't known, for each byte of a row that
-- isn't tracked, and for the byte of the dump at each tracked address at which none is known.
pub record HasRoom {W : Type 0} (P : Subject W) (k : Known) : Type 0 where
  pub unlearnt : ℕ → ℕ → Bool
  pub untracked : ℕ → ℕ → Bool
  pub spare : marked (places_at P) unlearnt (P.given.legs.count) + marked (bytes_looked_at P) untracked (P.given.legs.count) + unread P.given.moments.end k ≤ k.store.spare
  pub log : marked (places_at P) unlearnt (P.given.legs.count) ≤ k.left
  pub places : length k.store.tracked + marked (bytes_looked_at P) untracked (P.given.legs.count) ≤ k.store.places
  pub learnt : (i j : ℕ) → unlearnt i j ≡ false → IsSlotLearnt P k i j
  pub tracked : (i j : ℕ) → untracked i j ≡ false → IsByteTracked P k i j
