-- Lines whose long texts stand apart from them.
use Rattle.std.specs.Prelude.{ℕ, List, ◌++◌}
use Rattle.std.specs.List.{flat_map}
use Rattle.json.specs.Print.{escape}
use Rattle.row_json.specs.declared.charset.Charset.{Charset}
use Rattle.row_json.specs.declared.charset.Charset.TheVariants.{Latin1}
use Rattle.row_json.specs.declared.long.LongText.{LongText}
use Rattle.row_json.specs.Charsets.{latin1_text}

-- the characters of text, in UTF-8
abbrev pub utf8_of : Charset → List ℕ → List ℕ
utf8_of Latin1 bytes = latin1_text bytes
utf8_of charset bytes = bytes

abbrev pub characters : LongText → List ℕ
characters t = utf8_of t.charset t.bytes.now

-- what stands before a text, up to its opening quote, and the text
pub record LinePart : Type 0 where
  pub before : List ℕ
  pub text : LongText

-- a line: what stands before each text and the text, and what stands after the last one
pub record LongLine : Type 0 where
  pub parts : List LinePart
  pub rest : List ℕ

-- a text stands in its line with the escapes of JSON
abbrev pub part_bytes : LinePart → List ℕ
part_bytes p = p.before ++ escape (characters p.text)

abbrev pub line_bytes : LongLine → List ℕ
line_bytes l = flat_map part_bytes l.parts ++ l.rest
