-- `words_faults::some_class_broken` meets its contract.
-- Assumes nothing.
use Rattle.std.proofs.Common.{◌∙◌, rules, tests}
use Rattle.std.proofs.lemmas.Iterator.{YieldsList-from_slice, YieldsList-from_zip}
use Rattle.std.proofs.lemmas.Iterator.Search.{any_from_yields_List}
use Rattle.words_rules.specs.Reading.{class_broken}
use Rattle.laws.proofs.SomeLaws.{any_of_two}
use Rattle.words_faults.proofs.some_class_broken.Goals as goal

pub returns : goal.returns
returns c =
    let r = c.args.bucket in
    any_from_yields_List
    (λ w. class_broken w.0 w.1)
    c.any.new.self
    _
    _
    c.any.ensures.ran
    (YieldsList-from_zip (YieldsList-from_slice r.widths cc) (YieldsList-from_slice r.classes cc))
    (λ x b q k. search (rules, tests))
    ∙ any_of_two class_broken 8 r.widths r.classes (search rules) (search rules)
