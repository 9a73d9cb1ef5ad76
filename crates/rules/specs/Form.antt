-- Document 01, "Lines": the table of kinds and the numbers, as one record.
-- Assumes nothing.
use Rattle.std.specs.Prelude.{ℕ}

-- how many bytes a number takes; two-byte numbers are high byte first
pub data Width : Type 0 where
  one two : Width

pub record Form : Type 0 where
  -- It carries 1 to 257 bytes.
  pub line_most : ℕ
  -- inputs 1 to 64, gates 1 to 512, outputs 1 to 64, row size 2 to 256, instructions 1 to 1,024
  pub inputs_most : ℕ
  pub gates_most : ℕ
  pub outputs_most : ℕ
  pub row_most : ℕ
  pub instructions_most : ℕ
  -- a cell, a row size, and a head's inputs and outputs take 1 byte
  pub cell_width : Width
  -- The first byte is the kind.
  pub netlist_head : ℕ
  pub gate_kind : ℕ
  pub output_kind : ℕ
  pub job_kind : ℕ
  pub sequence_head : ℕ
  pub set_kind : ℕ
  pub nor_kind : ℕ
  pub place_kind : ℕ

unfoldable pub form01 : Form
form01 = record {
  line_most = 257;
  inputs_most = 64;
  gates_most = 512;
  outputs_most = 64;
  row_most = 256;
  instructions_most = 1024;
  cell_width = one;
  netlist_head = 0x01;
  gate_kind = 0x02;
  output_kind = 0x03;
  job_kind = 0x0F;
  sequence_head = 0x11;
  set_kind = 0x12;
  nor_kind = 0x13;
  place_kind = 0x14;
}
