-- `builder::growth::class_value` meets its contract. The count has a class, the class is in use, and each call answers.
-- Assumes nothing.
use mathlib.Core.Path.{◌≡◌, refl, ap, ◌∙◌}
use Rattle.counts_rules.specs.Form.{base, used_class}
use Rattle.counts_rules.specs.Class.{class_of, class_number}
use Rattle.counts_rules.proofs.BaseLaws.{class_used}
use Rattle.counts.proofs.CallLaws.{class_code, class_number_lem}
use Rattle.builder.proofs.growth.class_value.Goals as goal

pub unwrap-class-requires : goal.unwrap-class-requires
unwrap-class-requires c = rw (class_code _ _ c.requires c.class_of.ensures) refl

pub unreachable-requires : goal.unreachable-requires
unreachable-requires c =
    let e = class_code _ _ c.requires c.class_of.ensures in
    let d = c.unwrap-class.ensures in
    let class : c.unwrap-class.result ≡ class_of base c.args.count = cc in
    c.in_default.not-Ok _ (class_number_lem _ _ (ap used_class class ∙ class_used _ c.requires) c.number_of_class.ensures)

pub returns : goal.returns
returns c =
    let e = class_code _ _ c.requires c.class_of.ensures in
    let d = c.unwrap-class.ensures in
    let class : c.unwrap-class.result ≡ class_of base c.args.count = cc in
    let f = class_number_lem _ _ (ap used_class class ∙ class_used _ c.requires) c.number_of_class.ensures in
    let number : c.from.result ≡ class_number base c.unwrap-class.result = cc in
    number ∙ ap (class_number base) class
