-- Laws of the numbers of refusals: each is above 0, and a number leads back to its refusal.
-- Assumes nothing.
use Rattle.std.proofs.Common.{◌≡◌, ℕ, ◌<◌, List, [], ◌∷◌, get_or, refl, sym, ap, ◌∙◌}
use Rattle.std.proofs.Math.Dec.{lit≤}
use Rattle.refusals.specs.declared.Refusal.{Refusal}
use Rattle.refusals.specs.declared.Refusal.TheVariants as at
use Rattle.refusals.specs.Numbers.{number_of}

-- the refusal of a number, and the first where no sentence has it
refusals : List Refusal
refusals = at.ListLength ∷ at.ListLength ∷ at.ListLength ∷ at.Sum ∷ at.Theta ∷ at.Q ∷ at.Room ∷ at.Head ∷ at.WordCount ∷ at.BucketWord ∷ at.Start ∷ at.Width ∷ at.Code ∷ at.OtherList ∷ at.Range ∷ at.Entry ∷ at.Count ∷ at.Reading ∷ at.Input ∷ at.Places ∷ at.Totals ∷ at.Worksheet ∷ at.RangeCount ∷ at.RangeOrder ∷ at.LargeQ ∷ at.JournalLength ∷ at.JournalEntry ∷ at.JournalChange ∷ []

refusal_of : ℕ → Refusal
refusal_of n = get_or refusals n at.ListLength

back : (e : Refusal) → refusal_of (number_of e) ≡ e
unfolding refusal_of refusals
back at.ListLength = refl
back at.Sum = refl
back at.Theta = refl
back at.Q = refl
back at.Room = refl
back at.Head = refl
back at.WordCount = refl
back at.BucketWord = refl
back at.Start = refl
back at.Width = refl
back at.Code = refl
back at.OtherList = refl
back at.Range = refl
back at.Entry = refl
back at.Count = refl
back at.Reading = refl
back at.Input = refl
back at.Places = refl
back at.Totals = refl
back at.Worksheet = refl
back at.RangeCount = refl
back at.RangeOrder = refl
back at.LargeQ = refl
back at.JournalLength = refl
back at.JournalEntry = refl
back at.JournalChange = refl

pub same_number : (e f : Refusal) → number_of e ≡ number_of f → e ≡ f
same_number e f h = sym (back e) ∙ ap refusal_of h ∙ back f

pub numbered : (e : Refusal) → 0 < number_of e
numbered at.ListLength = lit≤ tt
numbered at.Sum = lit≤ tt
numbered at.Theta = lit≤ tt
numbered at.Q = lit≤ tt
numbered at.Room = lit≤ tt
numbered at.Head = lit≤ tt
numbered at.WordCount = lit≤ tt
numbered at.BucketWord = lit≤ tt
numbered at.Start = lit≤ tt
numbered at.Width = lit≤ tt
numbered at.Code = lit≤ tt
numbered at.OtherList = lit≤ tt
numbered at.Range = lit≤ tt
numbered at.Entry = lit≤ tt
numbered at.Count = lit≤ tt
numbered at.Reading = lit≤ tt
numbered at.Input = lit≤ tt
numbered at.Places = lit≤ tt
numbered at.Totals = lit≤ tt
numbered at.Worksheet = lit≤ tt
numbered at.RangeCount = lit≤ tt
numbered at.RangeOrder = lit≤ tt
numbered at.LargeQ = lit≤ tt
numbered at.JournalLength = lit≤ tt
numbered at.JournalEntry = lit≤ tt
numbered at.JournalChange = lit≤ tt
