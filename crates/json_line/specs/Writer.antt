-- The fields of a `Writer`, and of a `Piece`.
use Rattle.std.specs.Prelude.{◌≡◌, ◌≤◌, ◌-◌, true, List, [], ◌∷◌, length, take, drop}
use Rattle.json.specs.Token.{Token}
use Rattle.json.specs.Lex.{tokens}
use Rattle.json.specs.Print.{print, print_from, begins, ends_value, ArePrintable}
use Rattle.json_line.specs.Written.{Written}
use Rattle.json_line.specs.declared.writer.Writer.TheInside as writer
use Rattle.json_line.specs.declared.piece.Piece.TheInside as piece

-- the tokens are those that a reader finds in the text
abbrev pub writer_view : writer.Inside → Written
writer_view w = record { before = take w.start w.out.items; tokens = tokens (drop w.start w.out.items); capacity = w.out.capacity }

-- the text after the start is a print of some tokens
pub record IsWriter (w : writer.Inside) : Type 0 where
  pub within : w.start ≤ length w.out.items
  pub printed : List Token
  pub printable : ArePrintable printed
  pub text : drop w.start w.out.items ≡ print printed
  pub place : w.after_value ≡ ends_value printed

-- whether the first token begins a value or a member
abbrev pub IsBegun : List Token → Type 0
IsBegun [] = ⊥
IsBegun (t ∷ ts) = begins t ≡ true

-- the tokens are those that a reader finds after the comma
abbrev pub piece_view : piece.Inside → List Token
piece_view p = tokens (drop 1 (take (length p.bytes.items - 16) p.bytes.items))

-- the text is a comma and a print of some tokens; 16 bytes follow it
pub record IsPiece (p : piece.Inside) : Type 0 where
  pub room : 16 ≤ length p.bytes.items
  pub printed : List Token
  pub begun : IsBegun printed
  pub printable : ArePrintable printed
  pub text : take (length p.bytes.items - 16) p.bytes.items ≡ print_from true printed
  pub place : p.ends_value ≡ ends_value printed
