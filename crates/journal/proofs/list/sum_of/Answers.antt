-- `journal::list::sum_of` meets its contract: the library's sum is that of the definition.
-- Assumes nothing.
use Rattle.std.proofs.Common.{arith, ◌∙◌, ◌<◌, ◌^◌}
use Rattle.std.specs.List.{sum as total}
use Rattle.std.proofs.lemmas.Iterator.{YieldsList-from_slice}
use Rattle.std.proofs.lemmas.Iterator.Consumers.{sum_from_yields_List, fits_from_yields_list}
use Rattle.laws.proofs.SumsLaws.{sum_is_by}
use Rattle.journal.proofs.list.sum_of.Goals as goal

pub sum-requires-clause-fits : goal.sum-requires-clause-fits
sum-requires-clause-fits c =
    let small : total c.args.freqs.now < 2 ^ 32 = omega (arith, c.requires, sum_is_by c.args.freqs.now) in
    fits_from_yields_list c.iter.result _ (YieldsList-from_slice c.args.freqs.now cc) small

pub returns : goal.returns
returns c = sum_from_yields_List _ _ c.sum.ensures.ran (YieldsList-from_slice c.args.freqs.now cc) ∙ sum_is_by c.args.freqs.now
