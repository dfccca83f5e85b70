-- What is told of a path: what was known before, narrowed by a table of sets, and bytes that can't
-- be written. This project's own.
use Rattle.std.specs.Prelude.{◌≡◌, ℕ, ◌&&◌, Bool, nat_le, if◌then◌else◌, List, Option, Some, None}
use Rattle.rept_isa.specs.declared.row.StepRow.{StepRow}
use Rattle.rept_known.specs.declared.both.Both.{Both}
use Rattle.rept_known.specs.Both.{both_meet}
use Rattle.rept_span.specs.Filled.{View}
use Rattle.rept_narrow.specs.declared.lanes.span.ByteSpan.{ByteSpan}
use Rattle.rept_narrow.specs.Lanes.{lane_byte}
use Rattle.rept_narrow.specs.Admitted.{Premises, Story}
use Rattle.rept_infer.specs.Holding.{Holding, holding_of}
use Rattle.rept_narrow.specs.Rules.{set_at}

-- a story of these rows, whatever dump they end in
pub record IsStoryOf (story : Story) (rows : List StepRow) (image_end : ℕ) (premises : Premises) : Type 0 where
  pub rows_are : story.rows ≡ rows
  pub image_end_is : story.image_end ≡ image_end
  pub premises_are : story.premises ≡ premises

abbrev pub or_else : {W : Type 0} → W → Option W → W
or_else a None = a
or_else a (Some b) = b

-- the values of the one set that the other has, too; those of the one where there is no other, or
-- none are left
abbrev pub met : Both → Option Both → Both
met a None = a
met a (Some b) = or_else a (both_meet a b)

-- the sets that are known, narrowed by those of a table
abbrev pub path_set : (ℕ → ℕ → Both) → View Both → ℕ → ℕ → Both
path_set known table p r = met (known p r) (set_at table p r)

abbrev pub first_some : Option ℕ → Option ℕ → Option ℕ
first_some None other = other
first_some (Some v) other = Some v

-- What else is told of bytes: spans that were found on the way on and back, and which bytes can't be
-- written, from which point on; and the last point.
pub record Fixed : Type 0 where
  pub on : List ByteSpan
  pub back : List ByteSpan
  pub is_read_only : ℕ → Bool
  pub settled : ℕ
  pub last : ℕ

-- a byte that can't be written has its last value from the point on from which pages keep their
-- protection
abbrev pub fixed_byte : (ℕ → ℕ → Option ℕ) → Fixed → ℕ → ℕ → Option ℕ
fixed_byte known fixed p a = if nat_le fixed.settled p && fixed.is_read_only a then known fixed.last a else None

abbrev pub path_byte : (ℕ → ℕ → Option ℕ) → Fixed → ℕ → ℕ → Option ℕ
path_byte known fixed p a = first_some (known p a) (first_some (lane_byte fixed.on p a) (first_some (lane_byte fixed.back p a) (fixed_byte known fixed p a)))

-- what follows of a path, as contracts see it
pub record PathView (K P : Type 0) : Type 0 where
  pub known : K
  pub premises : P
  pub table : View Both
  pub on : List ByteSpan
  pub back : List ByteSpan
  pub settled : ℕ
  pub last : ℕ

-- how what is known of a path, and its premises, are read
pub record PathReader (K P : Type 0) : Type 0 where
  pub set : K → ℕ → ℕ → Both
  pub byte : K → ℕ → ℕ → Option ℕ
  pub premises : P → Premises

abbrev pub path_reader : {K P : Type 0} → (K → ℕ → ℕ → Both) → (K → ℕ → ℕ → Option ℕ) → (P → Premises) → PathReader K P
path_reader set byte premises = record { set = set; byte = byte; premises = premises }

-- what was known before
abbrev pub known_in : {K P : Type 0} → PathReader K P → K → Holding
known_in reader known = holding_of (reader.set known) (reader.byte known)

abbrev pub fixed_in : {K P : Type 0} → PathReader K P → PathView K P → Fixed
fixed_in reader v = record { on = v.on; back = v.back; is_read_only = (reader.premises v.premises).is_read_only; settled = v.settled; last = v.last }

-- what follows
abbrev pub told_in : {K P : Type 0} → PathReader K P → PathView K P → Holding
told_in reader v = holding_of (path_set (reader.set v.known) v.table) (path_byte (reader.byte v.known) (fixed_in reader v))
