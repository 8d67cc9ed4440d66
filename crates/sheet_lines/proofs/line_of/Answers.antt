-- `sheet_lines::line_of` meets its contract: the pattern's bytes before i are put, with the numbers that had a mark there.
-- Assumes nothing.
use Rattle.std.proofs.Common.{arith, sym, ap, ◌∙◌, List, ◌∷◌, ℕ, length}
use denote.Bor.{Bor}
use Rattle.sheet_lines.proofs.PatternLaws.{begun_none, begun_number, begun_byte, begun_all}
use Rattle.sheet_lines.proofs.line_of.Goals as goal
use Rattle.sheet_lines.proofs.line_of.Goals.{in-Some, in_default, in_default-via-in-Some+else-byte-eq-MARK, in_default-via-in_default}

pub loop-byte-init : goal.loop-byte-init
loop-byte-init c = begun_none c.args.pattern.now c.args.numbers.now c.requires c.new-line.result c.new-line.ensures

pub push_number-requires : goal.push_number-requires
push_number-requires c = omega (arith, c.loop-byte.invariant.room, ap length c.in-Some.ensures.cases.0)

pub push-requires : goal.push-requires
push-requires c = omega (arith, c.loop-byte.invariant.room)

pub loop-byte-preserved : goal.loop-byte-preserved
loop-byte-preserved c =
    let l = c.loop-byte in
    elim c.match-split_first.branch [
      | in-Some w ↦
          begun_number c.args.pattern.now c.args.numbers.now l.line l.left.now l.byte-index l.invariant (omega arith) _ _ w.if-byte-eq-MARK.true w.in-Some.number.now
          (w.in-Some.ensures.cases.0 ∙ ap (λ (b : Bor (List ℕ)). w.in-Some.number.now ∷ b.now) (sym w.left-is))
          (w.line-is ∙ w.push_number.ensures.text) (omega (arith, ap length w.line-is, w.push_number.ensures.short))
      | in_default w ↦
          begun_byte c.args.pattern.now c.args.numbers.now l.line l.left.now l.byte-index l.invariant (omega arith) _ _
          (λ e. elim w.in_default.branch [
            | in_default-via-in-Some+else-byte-eq-MARK v ↦ absurd (v.if-byte-eq-MARK.false e)
            | in_default-via-in_default v ↦ v.in_default.ensures.cases
          ])
          (w.line-is ∙ w.push.ensures) (ap (λ (b : Bor (List ℕ)). b.now) w.left-is)
    ]

pub returns : goal.returns
returns c = begun_all c.args.pattern.now c.args.numbers.now c.loop-byte.line c.loop-byte.left.now c.loop-byte.byte-index c.loop-byte.invariant (omega arith)
