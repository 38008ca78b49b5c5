-- The published lines, written, read and assembled, and lines that are refused: computed from the definitions. Assumes nothing.
use Prim.Native.Nat.{ℕ}
use mathlib.Core.Path.{◌≡◌, refl}
use mathlib.Core.List.{List, [], ◌∷◌, ◌++◌, map}
use Rattle.std.specs.Prelude.{Err}
use Rattle.characters.specs.Characters.{ascii}
use Rattle.opcodes.specs.Opcodes.{decode_of}
use Rattle.mnemonics.specs.Mnemonics.{mnemonic_of}
use Rattle.listing_lines.specs.Lines.{line_end, published_line, item_line}
use Rattle.listing_codes.specs.Codes.{code_for, piece, line_of, coded_of}
use Rattle.listing_codes.specs.declared.Unread.TheVariants.{Bad, Far}
use Rattle.listing_reading.specs.Reading.{digit_in, form_in, begins, line_in}
use Rattle.assembling.specs.declared.Fault.TheVariants.{Malformed, TooFar}
use Rattle.assembling.specs.Assembling.{bad, good, assembled_from, text_from, outcome_of}

abbrev item : ℕ → ℕ → ℕ → ℕ → List ℕ
item address first second third = item_line address (decode_of first) first second third

written : item 0x0100 0x86 0x05 0 ∷ item 0x0102 0xB6 0x00 0x12 ∷ item 0x0105 0x20 0xFE 0 ∷ item 0x0107 0x87 0 0 ∷ item 0x0108 0x01 0 0
    ∷ item 0xFFFE 0x20 0x00 0 ∷ item 0x0000 0x6F 0x12 0 ∷ item 0x0002 0xCE 0x12 0x34 ∷ item 0x0005 0x40 0 0 ∷ item 0x0006 0xD7 0x80 0 ∷ []
    ≡ map (λ l. ascii l ++ line_end)
    ("0100  86 05     LDAA #$05" ∷ "0102  B6 00 12  LDAA $0012" ∷ "0105  20 FE     BRA  $0105" ∷ "0107  87        FCB  $87" ∷ "0108  01        NOP"
    ∷ "FFFE  20 00     BRA  $0000" ∷ "0000  6F 12     CLR  $12,X" ∷ "0002  CE 12 34  LDX  #$1234" ∷ "0005  40        NEGA" ∷ "0006  D7 80     STAB $80" ∷ [])
unfolding item_line published_line mnemonic_of decode_of
written = refl

-- the published lines, "any 8 bytes" in columns 7 to 14, both ends of a branch's reach, one beyond each, a target past $FFFF
read : map (λ l. line_in (ascii l ++ line_end))
    ("0100  86 05     LDAA #$05" ∷ "0102  B6 00 12  LDAA $0012" ∷ "0105  20 FE     BRA  $0105" ∷ "0107  87        FCB  $87" ∷ "0108  01        NOP"
    ∷ "0100  ;a byte;  LDAA #$05" ∷ "0100  20 7F     BRA  $0181" ∷ "0100  20 80     BRA  $0082" ∷ "0100            BRA  $0182" ∷ "0100            BRA  $0081"
    ∷ "FFFE  20 00     BRA  $0000" ∷ [])
    ≡ line_of (piece 0x0100 2 0x86 0x05 0) 26 ∷ line_of (piece 0x0102 3 0xB6 0x00 0x12) 27 ∷ line_of (piece 0x0105 2 0x20 0xFE 0) 27 ∷ line_of (piece 0x0107 1 0x87 0 0) 25
    ∷ line_of (piece 0x0108 1 0x01 0 0) 20 ∷ line_of (piece 0x0100 2 0x86 0x05 0) 26 ∷ line_of (piece 0x0100 2 0x20 0x7F 0) 27 ∷ line_of (piece 0x0100 2 0x20 0x80 0) 27
    ∷ Err (Far 0x0100) ∷ Err (Far 0x0100) ∷ line_of (piece 0xFFFE 2 0x20 0x00 0) 27 ∷ []
unfolding line_in begins form_in digit_in published_line coded_of code_for mnemonic_of decode_of
read = refl

-- lower case, a tab, CR, a trailing blank, a comment, an empty line, another blank, no LF; a place that the mnemonic lacks; bytes past $FFFF
refused : map (λ l. line_in (ascii l))
    ("0100  86 05     ldaa #$05\n" ∷ "f100  86 05     LDAA #$05\n" ∷ "0100  86 05     LDAA\t#$05\n" ∷ "0108  01        NOP\r\n" ∷ "0108  01        NOP \n"
    ∷ "0108  01        NOP ;none\n" ∷ "\n" ∷ "0100  86 05      LDAA #$05\n" ∷ "0108  01        NOP" ∷ "0000  00 12     NEG  $12\n" ∷ "0000  00 12     STAA #$12\n"
    ∷ "0000  00 12     LDX  #$12\n" ∷ "FFFE  CE 12 34  LDX  #$1234\n" ∷ [])
    ≡ Err Bad ∷ Err Bad ∷ Err Bad ∷ Err Bad ∷ Err Bad ∷ Err Bad ∷ Err Bad ∷ Err Bad ∷ Err Bad ∷ Err Bad ∷ Err Bad ∷ Err Bad ∷ Err Bad ∷ []
unfolding line_in begins form_in digit_in published_line coded_of code_for mnemonic_of decode_of
refused = refl

-- texts: the published one; a line that does not follow on; 13 before 14; 14 with the line
texts : map (λ ls. outcome_of (ascii ls))
    ("0100  86 05     LDAA #$05\n0102  B6 00 12  LDAA $0012\n0105  20 FE     BRA  $0105\n0107  87        FCB  $87\n0108  01        NOP\n"
    ∷ "0100  01        NOP\n0102  01        NOP\n" ∷ "0100  01        NOP\n0102            BRA  $1234\n" ∷ "0100  01        NOP\n0101            BRA  $1234\n" ∷ [])
    ≡ good (0x86 ∷ 0x05 ∷ 0xB6 ∷ 0x00 ∷ 0x12 ∷ 0x20 ∷ 0xFE ∷ 0x87 ∷ 0x01 ∷ []) ∷ bad Malformed 2 ∷ bad Malformed 2 ∷ bad TooFar 2 ∷ []
unfolding outcome_of text_from assembled_from line_in begins form_in digit_in published_line coded_of code_for mnemonic_of decode_of
texts = refl
