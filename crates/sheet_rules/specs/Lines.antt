-- The lines of the exam sheet (document 01, "The exam sheet"), each as its bytes.
-- Assumes nothing.
use Rattle.std.specs.Prelude.{List, ◌++◌, ℕ}
use Prim.Native.String.{String}
use Rattle.sheet_rules.specs.Text.{ascii, decimal}

-- a number after a word
abbrev pub labelled : String → ℕ → List ℕ
labelled word n = ascii word ++ decimal n

abbrev pub head_line : ℕ → ℕ → ℕ → ℕ → ℕ → List ℕ
head_line d theta qn qd buckets =
    labelled "codes " d ++ labelled " theta " theta ++ labelled " q " qn ++ labelled "/" qd ++ labelled " buckets " buckets ++ ascii "\n"

abbrev pub bucket_line : ℕ → ℕ → ℕ → ℕ → List ℕ
bucket_line start end code number =
    labelled "bucket " start ++ labelled " " end ++ labelled " total " code ++ labelled " " number ++ ascii "\n"

abbrev pub bucketlet_line : ℕ → ℕ → ℕ → ℕ → List ℕ
bucketlet_line start end class number =
    labelled "" start ++ labelled " " end ++ labelled " code " class ++ labelled " count " number ++ ascii "\n"

abbrev pub refused_line : ℕ → List ℕ
refused_line number = labelled "refused " number ++ ascii "\n"
