-- What a half spells is read from it.
use Rattle.std.specs.Prelude.{◌≡◌, ℕ, ◌+◌, ◌*◌, ◌^◌, ◌==◌, false, pos, Some}
use Rattle.std.proofs.Common.{arith, refl, ap}
use Rattle.std.proofs.lemmas.Bool.Decides.{nat_tests}
use Rattle.rept_isa.specs.declared.instr.Instr.{Instr}
use Rattle.rept_isa.specs.Numbers.{word}
use Rattle.rept_isa.specs.Words.{field, signed}
use Rattle.rept_rvc.specs.Halves.{quadrant, function, rd_field, rs2_field, addi4spn_immediate, addi16sp_immediate, lui_immediate, StandsAt, IsHalf}
use Rattle.rept_rvc.specs.Halves.IsHalf.{c_addi4spn, c_lw, c_sw, c_addi, c_jal, c_li, c_addi16sp, c_lui, c_srli, c_srai, c_andi, c_sub, c_xor, c_or, c_and, c_j, c_beqz, c_bnez, c_slli, c_lwsp, c_jr, c_mv, c_ebreak, c_jalr, c_add, c_swsp}
use Rattle.rept_rvc.specs.Reading.{read_by, six_bits}

pub other_than : (n m : ℕ) → ¬ (n ≡ m) → (n == m) ≡ false
other_than n m h = grind (arith, nat_tests)

-- the immediates of C.ADDI16SP and C.LUI are 0 exactly where the six bits are
pub no_bits_16 : (half : ℕ) → six_bits half ≡ 0 → addi16sp_immediate half ≡ pos 0
no_bits_16 half h =
    let e : 2 ^ 4 * field half 6 1 + 2 ^ 5 * field half 2 1 + 2 ^ 6 * field half 5 1 + 2 ^ 7 * field half 3 2 + 2 ^ 9 * field half 12 1 ≡ 0 = omega arith in
    ap (signed 10) e

pub no_bits_lui : (half : ℕ) → six_bits half ≡ 0 → lui_immediate half ≡ 0
unfolding word
no_bits_lui half h =
    let e : 2 ^ 12 * field half 2 5 + 2 ^ 17 * field half 12 1 ≡ 0 = omega arith in
    ap (λ n. word (signed 18 n)) e

stands : (half q f : ℕ) (i : Instr) → StandsAt half q f → read_by q f half ≡ Some i → read_by (quadrant half) (function half) half ≡ Some i
stands half q f i at h = rw (at.0, at.1) h

-- What a half spells is read from it.
pub reads : (half : ℕ) (i : Instr) → IsHalf half i → read_by (quadrant half) (function half) half ≡ Some i
reads half i (c_addi4spn at some is) = stands half 0 0 i at (rw (other_than (addi4spn_immediate half) 0 some, is) refl)
reads half i (c_lw at is) = stands half 0 2 i at (rw is refl)
reads half i (c_sw at is) = stands half 0 6 i at (rw is refl)
reads half i (c_addi at is) = stands half 1 0 i at (rw is refl)
reads half i (c_jal at is) = stands half 1 1 i at (rw is refl)
reads half i (c_li at is) = stands half 1 2 i at (rw is refl)
reads half i (c_addi16sp at two some is) = stands half 1 3 i at (rw (other_than (six_bits half) 0 (λ e. some (no_bits_16 half e)), two, is) refl)
reads half i (c_lui at other some is) = stands half 1 3 i at (rw (other_than (six_bits half) 0 (λ e. some (no_bits_lui half e)), other_than (rd_field half) 2 other, is) refl)
reads half i (c_srli at low is) = stands half 1 4 i at.0 (rw (at.1, low, is) refl)
reads half i (c_srai at low is) = stands half 1 4 i at.0 (rw (at.1, low, is) refl)
reads half i (c_andi at is) = stands half 1 4 i at.0 (rw (at.1, is) refl)
reads half i (c_sub at is) = stands half 1 4 i at.0.0 (rw (at.0.1, at.1, at.2, is) refl)
reads half i (c_xor at is) = stands half 1 4 i at.0.0 (rw (at.0.1, at.1, at.2, is) refl)
reads half i (c_or at is) = stands half 1 4 i at.0.0 (rw (at.0.1, at.1, at.2, is) refl)
reads half i (c_and at is) = stands half 1 4 i at.0.0 (rw (at.0.1, at.1, at.2, is) refl)
reads half i (c_j at is) = stands half 1 5 i at (rw is refl)
reads half i (c_beqz at is) = stands half 1 6 i at (rw is refl)
reads half i (c_bnez at is) = stands half 1 7 i at (rw is refl)
reads half i (c_slli at low is) = stands half 2 0 i at (rw (low, is) refl)
reads half i (c_lwsp at some is) = stands half 2 2 i at (rw (other_than (rd_field half) 0 some, is) refl)
reads half i (c_jr at some none is) = stands half 2 4 i at.0 (rw (at.1, none, other_than (rd_field half) 0 some, is) refl)
reads half i (c_mv at some is) = stands half 2 4 i at.0 (rw (at.1, other_than (rs2_field half) 0 some, is) refl)
reads half i (c_ebreak at zero_ none is) = stands half 2 4 i at.0 (rw (at.1, none, zero_, is) refl)
reads half i (c_jalr at some none is) = stands half 2 4 i at.0 (rw (at.1, none, other_than (rd_field half) 0 some, is) refl)
reads half i (c_add at some is) = stands half 2 4 i at.0 (rw (at.1, other_than (rs2_field half) 0 some, is) refl)
reads half i (c_swsp at is) = stands half 2 6 i at (rw is refl)
