-- The words of the private contract of a pattern.
-- Assumes nothing.
use Rattle.std.specs.Prelude.{cond, List, [], ◌∷◌, ◌++◌, ℕ, eqb}
use Rattle.sheet_rules.specs.Text.{decimal}

-- the byte of #
abbrev pub mark : ℕ
mark = 35

-- a pattern with a number in the place of each mark, as long as there are numbers
unfoldable pub filled_in : List ℕ → List ℕ → List ℕ
filled_in [] ns = []
filled_in (c ∷ cs) [] = c ∷ filled_in cs []
filled_in (c ∷ cs) (n ∷ ns) = cond (eqb c mark) (decimal n ++ filled_in cs ns) (c ∷ filled_in cs (n ∷ ns))
