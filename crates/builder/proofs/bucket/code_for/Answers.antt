-- `builder::bucket::code_for` meets its contract. A total within the limit has a code.
-- Assumes nothing.
use mathlib.Core.Path.{refl}
use Rattle.counts.proofs.CallLaws.{total_code_lem}
use Rattle.builder.proofs.bucket.code_for.Goals as goal

pub unwrap-requires : goal.unwrap-requires
unwrap-requires c = rw (total_code_lem _ _ c.requires c.code_of_total.ensures) refl

pub returns : goal.returns
returns c = let e = total_code_lem _ _ c.requires c.code_of_total.ensures in let d = c.unwrap.ensures in cc
