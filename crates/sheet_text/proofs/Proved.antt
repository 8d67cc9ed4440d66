-- The claim of specs/Claims.antt.
-- Assumes nothing.
use Rattle.std.proofs.Common.{◌≡◌, ◌∙◌, ◌<◌, ℕ, refl, sym, ap, arith}
use Rattle.std.specs.Prelude.{Option, None, Some}
use Rattle.refusals.proofs.NumberLaws.{numbered, same_number}
use Rattle.sheet_input.specs.declared.InputFault.{InputFault}
use Rattle.sheet_text.specs.declared.SheetError.{SheetError}
use Rattle.sheet_text.specs.declared.SheetError.TheVariants as at
use Rattle.sheet_text.specs.Printed.{error_number, number_of, line_of}
use Rattle.sheet_text.specs.Claims.{Errors}

some_numbered : (e : SheetError) → 0 < error_number e
some_numbered (at.Input _) = omega arith
some_numbered (at.List e) = numbered e

-- faults of the same line are the same
same_fault : (f g : InputFault) → f.line ≡ g.line → f ≡ g
same_fault f g h = ap (λ (n : ℕ). record { line = n }) h

same_error : (r s : Option SheetError) → number_of r ≡ number_of s → line_of r ≡ line_of s → (number_of r ≡ 18 → 0 < line_of r) → r ≡ s
same_error None None n l p = refl
same_error None (Some e) n l p = absurd (let k = some_numbered e in omega (arith, n))
same_error (Some e) None n l p = absurd (let k = some_numbered e in omega (arith, n))
same_error (Some (at.Input f)) (Some (at.Input g)) n l p = ap (λ (x : InputFault). Some (at.Input x)) (same_fault f g l)
same_error (Some (at.Input f)) (Some (at.List e)) n l p = absurd (let k = p refl in omega (arith, l))
same_error (Some (at.List e)) (Some (at.Input f)) n l p = absurd (let k = p n in omega arith)
same_error (Some (at.List e)) (Some (at.List d)) n l p = ap (λ x. Some (at.List x)) (same_number e d n)

pub errors : Errors
errors = record { same_error = same_error }
