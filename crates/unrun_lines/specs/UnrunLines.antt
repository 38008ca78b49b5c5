-- What `unrun` prints: "an address, `none` or `refused 15`".
use Rattle.std.specs.Prelude.{ℕ, cond, List, ◌++◌, Option, Some, None}
use Rattle.std.proofs.Math.Option.{none}
use Rattle.printing.specs.Printing.{ascii, hexadecimal_of}
use Rattle.lines.specs.Lines.{refused_text}
use Rattle.asking.specs.Asking.{Given, gives, replies}
use Rattle.execution_map.specs.Map.{unrun_answer}
use Rattle.map_file.specs.MapFile.{file_bytes, is_map_file}

unfoldable pub search_text : Given (Option ℕ) → List ℕ
search_text (gives (Some at)) = hexadecimal_of 4 at ++ ascii "\n"
search_text (gives None) = ascii "none\n"
search_text (replies k) = refused_text k none ++ ascii "\n"

-- of a map's file and a range
unfoldable pub unrun_text : List ℕ → ℕ → ℕ → List ℕ
unrun_text file first last = search_text (cond (is_map_file file) (unrun_answer (file_bytes file) first last) (replies 15))
