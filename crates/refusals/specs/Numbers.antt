-- The number of each sentence (document 01 and document 02, "When a call is turned away").
-- Assumes nothing.
use Rattle.std.specs.Prelude.{ℕ}
use Rattle.refusals.specs.declared.Refusal.{Refusal}
use Rattle.refusals.specs.declared.Refusal.TheVariants as at

abbrev pub number_of : Refusal → ℕ
number_of at.ListLength = 1
number_of at.Sum = 3
number_of at.Theta = 4
number_of at.Q = 5
number_of at.Room = 6
number_of at.Head = 7
number_of at.WordCount = 8
number_of at.BucketWord = 9
number_of at.Start = 10
number_of at.Width = 11
number_of at.Code = 12
number_of at.OtherList = 13
number_of at.Range = 14
number_of at.Entry = 15
number_of at.Count = 16
number_of at.Reading = 17
number_of at.Input = 18
number_of at.Places = 19
number_of at.Totals = 20
number_of at.Worksheet = 21
number_of at.RangeCount = 22
number_of at.RangeOrder = 23
number_of at.LargeQ = 24
number_of at.JournalLength = 25
number_of at.JournalEntry = 26
number_of at.JournalChange = 27
