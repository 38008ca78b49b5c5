-- `opcodes::decode` meets its contract: the opcodes of each arm by one comparison with the table. Assumes nothing.
-- Given `row_at`, the check finds seven of the sixteen alone (tried): so that they stand together, each is here.
use Rattle.std.proofs.Common.{ℕ, get_or, refl, arith, None}
use Rattle.opcodes.proofs.Places.{row_at}
use Rattle.opcodes.specs.Opcodes.{decode_of, row0, row1, row2, row3}
use Rattle.opcodes.specs.Parts.{one_byte_of, modified_of, two_bytes_of, immediate_of}
use Rattle.opcodes.specs.declared.Accumulator.TheVariants.{A, B}
use Rattle.opcodes.specs.declared.Place.TheVariants.{AccumulatorA, AccumulatorB, Direct, Indexed, Extended}
use Rattle.opcodes.proofs.decode.Goals as goal

pub returns-in-0-to-15 : goal.returns-in-0-to-15
unfolding decode_of
returns-in-0-to-15 c = row_at (λ (k : ℕ). get_or row0 k None) 0x00 c.args.opcode
    c.row_0.ensures refl (omega arith) (omega arith)

pub returns-in-16-to-31 : goal.returns-in-16-to-31
unfolding decode_of
returns-in-16-to-31 c = row_at (λ (k : ℕ). get_or row1 k None) 0x10 c.args.opcode
    c.row_1.ensures refl (omega arith) (omega arith)

pub returns-in-32-to-47 : goal.returns-in-32-to-47
unfolding decode_of
returns-in-32-to-47 c = row_at (λ (k : ℕ). get_or row2 k None) 0x20 c.args.opcode
    c.row_2.ensures refl (omega arith) (omega arith)

pub returns-in-48-to-63 : goal.returns-in-48-to-63
unfolding decode_of
returns-in-48-to-63 c = row_at (λ (k : ℕ). get_or row3 k None) 0x30 c.args.opcode
    c.row_3.ensures refl (omega arith) (omega arith)

pub returns-in-64-to-79 : goal.returns-in-64-to-79
unfolding decode_of
returns-in-64-to-79 c = row_at (λ (k : ℕ). one_byte_of k AccumulatorA 1 2) 0x40 c.args.opcode
    c.one_byte.ensures refl (omega arith) (omega arith)

pub returns-in-80-to-95 : goal.returns-in-80-to-95
unfolding decode_of
returns-in-80-to-95 c = row_at (λ (k : ℕ). one_byte_of k AccumulatorB 1 2) 0x50 c.args.opcode
    c.one_byte-in-80-to-95.ensures refl (omega arith) (omega arith)

pub returns-in-96-to-111 : goal.returns-in-96-to-111
unfolding decode_of
returns-in-96-to-111 c = row_at (λ (k : ℕ). modified_of k Indexed 2) 0x60 c.args.opcode
    c.modified.ensures refl (omega arith) (omega arith)

pub returns-in-112-to-127 : goal.returns-in-112-to-127
unfolding decode_of
returns-in-112-to-127 c = row_at (λ (k : ℕ). modified_of k Extended 3) 0x70 c.args.opcode
    c.modified-in-112-to-127.ensures refl (omega arith) (omega arith)

pub returns-in-128-to-143 : goal.returns-in-128-to-143
unfolding decode_of
returns-in-128-to-143 c = row_at (λ (k : ℕ). immediate_of A k) 0x80 c.args.opcode
    c.immediate.ensures refl (omega arith) (omega arith)

pub returns-in-144-to-159 : goal.returns-in-144-to-159
unfolding decode_of
returns-in-144-to-159 c = row_at (λ (k : ℕ). two_bytes_of k A Direct 2 3) 0x90 c.args.opcode
    c.two_bytes.ensures refl (omega arith) (omega arith)

pub returns-in-160-to-175 : goal.returns-in-160-to-175
unfolding decode_of
returns-in-160-to-175 c = row_at (λ (k : ℕ). two_bytes_of k A Indexed 2 4) 0xA0 c.args.opcode
    c.two_bytes-in-160-to-175.ensures refl (omega arith) (omega arith)

pub returns-in-176-to-191 : goal.returns-in-176-to-191
unfolding decode_of
returns-in-176-to-191 c = row_at (λ (k : ℕ). two_bytes_of k A Extended 3 4) 0xB0 c.args.opcode
    c.two_bytes-in-176-to-191.ensures refl (omega arith) (omega arith)

pub returns-in-192-to-207 : goal.returns-in-192-to-207
unfolding decode_of
returns-in-192-to-207 c = row_at (λ (k : ℕ). immediate_of B k) 0xC0 c.args.opcode
    c.immediate-in-192-to-207.ensures refl (omega arith) (omega arith)

pub returns-in-208-to-223 : goal.returns-in-208-to-223
unfolding decode_of
returns-in-208-to-223 c = row_at (λ (k : ℕ). two_bytes_of k B Direct 2 3) 0xD0 c.args.opcode
    c.two_bytes-in-208-to-223.ensures refl (omega arith) (omega arith)

pub returns-in-224-to-239 : goal.returns-in-224-to-239
unfolding decode_of
returns-in-224-to-239 c = row_at (λ (k : ℕ). two_bytes_of k B Indexed 2 4) 0xE0 c.args.opcode
    c.two_bytes-in-224-to-239.ensures refl (omega arith) (omega arith)

pub returns-in-240-to-255 : goal.returns-in-240-to-255
unfolding decode_of
returns-in-240-to-255 c = row_at (λ (k : ℕ). two_bytes_of k B Extended 3 4) 0xF0 c.args.opcode
    c.two_bytes-in-240-to-255.ensures refl (omega arith) (omega arith)
