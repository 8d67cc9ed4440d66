-- The lines of a lending journal, and what they make of a list (document 02, request vii). A line is an entry and a change with sign to its
-- frequency; a journal is lent as two lists, the entries of its lines and their changes. Past the end of a list 0 is read and nothing is changed; 25
-- and 26 refuse each journal for which that would matter.
-- Assumes nothing.
use Rattle.std.specs.Prelude.{cond, List, [], ◌∷◌, map, ℕ, zero, suc, eqb, ℤ, pos, nat_abs, ◌+ℤ◌, get_or, set}

-- frequencies as whole numbers with sign, since a line may take one below 0; and back, where none is below 0

abbrev pub signed : List ℕ → List ℤ
signed fs = map pos fs

abbrev pub unsigned : List ℤ → List ℕ
unsigned zs = map nat_abs zs

abbrev pub sumℤ : List ℤ → ℤ
sumℤ [] = pos 0
sumℤ (z ∷ zs) = z +ℤ sumℤ zs

abbrev pub frequency_at : List ℤ → ℕ → ℤ
frequency_at zs e = get_or zs e (pos 0)

-- the entry and the change of line i

abbrev pub entry_at : List ℕ → ℕ → ℕ
entry_at es i = get_or es i 0

abbrev pub change_at : List ℤ → ℕ → ℤ
change_at cs i = get_or cs i (pos 0)

-- the list after a line: "an entry and a signed 32-bit change to its frequency"
abbrev pub after_line : List ℤ → ℕ → ℤ → List ℤ
after_line zs e c = set zs e (frequency_at zs e +ℤ c)

-- the list after the first n lines, one after the other
unfoldable pub after_lines : List ℤ → List ℕ → List ℤ → ℕ → List ℤ
after_lines zs es cs zero = zs
after_lines zs es cs (suc n) = after_line (after_lines zs es cs n) (entry_at es n) (change_at cs n)

-- the sum of the changes of an entry in the first n lines
unfoldable pub changes_of : List ℕ → List ℤ → ℕ → ℕ → ℤ
changes_of es cs e zero = pos 0
changes_of es cs e (suc n) = changes_of es cs e n +ℤ cond (eqb (entry_at es n) e) (change_at cs n) (pos 0)
