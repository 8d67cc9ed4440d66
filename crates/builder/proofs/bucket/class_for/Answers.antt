-- `builder::bucket::class_for` meets its contract. A count within the limit has a class.
-- Assumes nothing.
use mathlib.Core.Path.{refl}
use Rattle.counts.proofs.CallLaws.{class_code}
use Rattle.builder.proofs.bucket.class_for.Goals as goal

pub unwrap-requires : goal.unwrap-requires
unwrap-requires c = rw (class_code _ _ c.requires c.class_of.ensures) refl

pub returns : goal.returns
returns c = let e = class_code _ _ c.requires c.class_of.ensures in let d = c.unwrap.ensures in cc
