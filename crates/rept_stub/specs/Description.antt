-- The description of the registers (GDB manual, appendix Target Descriptions, sections Target
-- Description Format and RISC-V Features): x0 to x31 by the names of the psABI, and the address of
-- the instruction. No OS ABI is named: for one that gdb knows, as GNU/Linux, it makes a step
-- forward by a breakpoint at the address that it works out itself, and takes a register that isn't
-- known for 0.
use Rattle.std.specs.Prelude.{ℕ, List, codes}

unfoldable pub description_text : List ℕ
description_text = codes "<?xml version=\"1.0\"?><!DOCTYPE target SYSTEM \"gdb-target.dtd\"><target version=\"1.0\"><architecture>riscv:rv32</architecture><osabi>none</osabi><feature name=\"org.gnu.gdb.riscv.cpu\"><reg name=\"zero\" bitsize=\"32\"/><reg name=\"ra\" bitsize=\"32\"/><reg name=\"sp\" bitsize=\"32\"/><reg name=\"gp\" bitsize=\"32\"/><reg name=\"tp\" bitsize=\"32\"/><reg name=\"t0\" bitsize=\"32\"/><reg name=\"t1\" bitsize=\"32\"/><reg name=\"t2\" bitsize=\"32\"/><reg name=\"fp\" bitsize=\"32\"/><reg name=\"s1\" bitsize=\"32\"/><reg name=\"a0\" bitsize=\"32\"/><reg name=\"a1\" bitsize=\"32\"/><reg name=\"a2\" bitsize=\"32\"/><reg name=\"a3\" bitsize=\"32\"/><reg name=\"a4\" bitsize=\"32\"/><reg name=\"a5\" bitsize=\"32\"/><reg name=\"a6\" bitsize=\"32\"/><reg name=\"a7\" bitsize=\"32\"/><reg name=\"s2\" bitsize=\"32\"/><reg name=\"s3\" bitsize=\"32\"/><reg name=\"s4\" bitsize=\"32\"/><reg name=\"s5\" bitsize=\"32\"/><reg name=\"s6\" bitsize=\"32\"/><reg name=\"s7\" bitsize=\"32\"/><reg name=\"s8\" bitsize=\"32\"/><reg name=\"s9\" bitsize=\"32\"/><reg name=\"s10\" bitsize=\"32\"/><reg name=\"s11\" bitsize=\"32\"/><reg name=\"t3\" bitsize=\"32\"/><reg name=\"t4\" bitsize=\"32\"/><reg name=\"t5\" bitsize=\"32\"/><reg name=\"t6\" bitsize=\"32\"/><reg name=\"pc\" bitsize=\"32\" type=\"code_ptr\"/></feature></target>"
