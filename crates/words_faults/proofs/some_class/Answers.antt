-- `words_faults::some_class` meets its contract.
-- Assumes nothing.
use Rattle.std.proofs.Common.{◌∙◌, not, eqb, rules, tests}
use Rattle.std.proofs.lemmas.Iterator.{YieldsList-from_slice}
use Rattle.std.proofs.lemmas.Iterator.Search.{any_from_yields_List}
use Rattle.laws.proofs.SomeLaws.{any_is_some}
use Rattle.words_faults.proofs.some_class.Goals as goal

pub returns : goal.returns
returns c =
    let classes = c.args.bucket.classes in
    any_from_yields_List (λ n. not (eqb n 0)) _ _ _ c.any.ensures.ran (YieldsList-from_slice classes cc) (λ x b q k. search (rules, tests))
    ∙ any_is_some (λ n. not (eqb n 0)) 8 classes (search rules)
