-- `journal::outside_fault` meets its contract: what `any` finds among the entries is what `some` finds among the lines.
-- Assumes nothing.
use Rattle.std.proofs.Common.{◌∙◌, length, rules, tests}
use Rattle.std.proofs.Math.Dec.{leb}
use Rattle.std.proofs.lemmas.Iterator.{YieldsList-from_slice}
use Rattle.std.proofs.lemmas.Iterator.Search.{any_from_yields_List}
use Rattle.journal.proofs.FaultLaws.{any_outside}
use Rattle.journal.proofs.outside_fault.Goals as goal

pub returns : goal.returns
returns c =
    any_from_yields_List (λ e. leb (length c.args.freqs.now) e) _ _ _ c.any.ensures.ran (YieldsList-from_slice c.args.entries.now cc) (λ x b q k. search (rules, tests))
    ∙ any_outside c.args.freqs.now c.args.entries.now
