-- Journals that add up (document 02, request viii): two journals one after the other and joined to one, and a journal read backwards. What is claimed of
-- them is proved in proofs/Joining.antt and proofs/ReadingBackwards.antt.
--
-- Why it is true. Replaying the joined journal goes through the same lists as replaying the two one after the other, so both bounds are tested of the
-- same lists. A line and then its negation leave a list as it was, so the backward journal goes back through the lists that the journal made, each of
-- which keeps both bounds.
-- Assumes nothing.
use Rattle.std.specs.Prelude.{◌≡◌, Bool, true, false, cond, not, ◌&&◌, List, [], ◌∷◌, ◌++◌, map, reverse, ℕ, ◌+◌, ◌≤◌, ◌<◌, eqb, ℤ, pos, negsuc, neg_ℤ, length, replicate}
use Rattle.std.specs.Int.Signed.{le_z}
use Rattle.laws.specs.Each.{each}
use Rattle.laws.specs.Reply.{Reply, answered, refused}
use Rattle.laws.specs.Sums.{sum}
use Rattle.list_rules.specs.Frequencies.{list_fault}
use Rattle.journal_rules.specs.Lines.{change_at}
use Rattle.journal_rules.specs.Replaying.{max_lines, outside_fault, replay_fault, replayed, replay_reply}

-- a journal as it is lent: the entries of its lines and their changes
pub record Journal : Type 0 where
  pub entries : List ℕ
  pub changes : List ℤ

-- what replaying it over a list comes to: the refusal, the reply, and the list afterwards

abbrev pub fault_of : List ℕ → Journal → ℕ
fault_of fs j = replay_fault fs j.entries j.changes

abbrev pub reply_of : List ℕ → Journal → Reply
reply_of fs j = replay_reply fs j.entries j.changes

abbrev pub list_after : List ℕ → Journal → List ℕ
list_after fs j = replayed fs j.entries j.changes

-- ---- one after the other, and joined

-- the lines of the first and then those of the second
abbrev pub joined : Journal → Journal → Journal
joined a b = record { entries = a.entries ++ b.entries; changes = a.changes ++ b.changes }

-- one after the other: the second is replayed over what the first made of the list, if the first is not refused
abbrev pub in_turn_fault : List ℕ → Journal → Journal → ℕ
in_turn_fault fs a b = cond (eqb (fault_of fs a) 0) (fault_of (list_after fs a) b) (fault_of fs a)

-- the joined journal's number is the same, but where 27 names the first and an entry of the second is outside the list: 26 is said of all lines before
-- 27 of any
abbrev pub joined_fault : List ℕ → Journal → Journal → ℕ
joined_fault fs a b = cond (eqb (in_turn_fault fs a b) 27 && outside_fault fs b.entries) 26 (in_turn_fault fs a b)

-- "each of two equal lists"
abbrev pub EqualLists : Journal → Type 0
EqualLists j = length j.entries ≡ length j.changes

-- "together within the line limit"
pub record Joinable (a b : Journal) : Type 0 where
  pub first_equal : EqualLists a
  pub second_equal : EqualLists b
  pub within_limit : length a.entries + length b.entries ≤ max_lines

-- more than two: the first of them, and the others

abbrev pub joined_all : Journal → List Journal → Journal
joined_all a [] = a
joined_all a (b ∷ bs) = joined a (joined_all b bs)

abbrev pub all_in_turn_fault : List ℕ → Journal → List Journal → ℕ
all_in_turn_fault fs a [] = fault_of fs a
all_in_turn_fault fs a (b ∷ bs) = cond (eqb (fault_of fs a) 0) (all_in_turn_fault (list_after fs a) b bs) (fault_of fs a)

-- where none is refused
abbrev pub list_after_all : List ℕ → Journal → List Journal → List ℕ
list_after_all fs a [] = list_after fs a
list_after_all fs a (b ∷ bs) = list_after_all (list_after fs a) b bs

abbrev pub AllEqual : Journal → List Journal → Type 0
AllEqual a [] = EqualLists a
AllEqual a (b ∷ bs) = EqualLists a × AllEqual b bs

pub record AllJoinable (a : Journal) (bs : List Journal) : Type 0 where
  pub all_equal : AllEqual a bs
  pub within_limit : length (joined_all a bs).entries ≤ max_lines

-- n lines that change nothing
abbrev pub idle : ℕ → Journal
idle n = record { entries = replicate n 0; changes = replicate n (pos 0) }

pub record Joining : Type 0 where
  -- "the joined one is accepted exactly then"
  pub joined_accepted : (fs : List ℕ) (a b : Journal) → Joinable a b → in_turn_fault fs a b ≡ 0 → fault_of fs (joined a b) ≡ 0
  pub accepted_in_turn : (fs : List ℕ) (a b : Journal) → EqualLists a → EqualLists b → fault_of fs (joined a b) ≡ 0 → Joinable a b × (in_turn_fault fs a b ≡ 0)
  -- journals that are accepted one after the other are of equal lists
  pub in_turn_equal : (fs : List ℕ) (a b : Journal) → in_turn_fault fs a b ≡ 0 → EqualLists a × EqualLists b
  -- the two then "act as the joined journal": the list afterwards is the same, and so is the last reply
  pub same_list : (fs : List ℕ) (a b : Journal) → Joinable a b → in_turn_fault fs a b ≡ 0 → list_after (list_after fs a) b ≡ list_after fs (joined a b)
  pub same_reply : (fs : List ℕ) (a b : Journal) → Joinable a b → in_turn_fault fs a b ≡ 0 → reply_of (list_after fs a) b ≡ reply_of fs (joined a b)
  -- and, refused, with which number
  pub joined_number_lem : (fs : List ℕ) (a b : Journal) → Joinable a b → fault_of fs (joined a b) ≡ joined_fault fs a b
  -- the same of more than two, as the journals of the weeks of a month
  pub all_joined_accepted : (fs : List ℕ) (a : Journal) (bs : List Journal) → AllJoinable a bs → all_in_turn_fault fs a bs ≡ 0 → fault_of fs (joined_all a bs) ≡ 0
  pub all_accepted_in_turn : (fs : List ℕ) (a : Journal) (bs : List Journal) → AllEqual a bs → fault_of fs (joined_all a bs) ≡ 0
      → AllJoinable a bs × (all_in_turn_fault fs a bs ≡ 0)
  pub all_in_turn_equal : (fs : List ℕ) (a : Journal) (bs : List Journal) → all_in_turn_fault fs a bs ≡ 0 → AllEqual a bs
  pub all_same_list : (fs : List ℕ) (a : Journal) (bs : List Journal) → AllJoinable a bs → all_in_turn_fault fs a bs ≡ 0
      → list_after_all fs a bs ≡ list_after fs (joined_all a bs)
  -- the line limit is needed: beyond it journals that change nothing are accepted one after the other, and refused when joined
  pub limit_needed : (fs : List ℕ) (m n : ℕ) → list_fault fs ≡ 0 → m ≤ max_lines → n ≤ max_lines → max_lines < m + n
      → (in_turn_fault fs (idle m) (idle n) ≡ 0) × (reply_of fs (joined (idle m) (idle n)) ≡ refused 25)

-- ---- backwards

-- the largest of 32 bits with sign; the least is -(max_change + 1), and `negsuc n` is -(n + 1)
abbrev pub max_change : ℕ
max_change = 2147483647

abbrev pub in32_bits : ℤ → Bool
in32_bits c = le_z (negsuc max_change) c && le_z c (pos max_change)

-- "a change of -2,147,483,648"
abbrev pub is_least : ℤ → Bool
is_least (pos n) = false
is_least (negsuc n) = eqb n max_change

-- "the backward journal is defined where none stands"
unfoldable pub has_backward : Journal → Bool
has_backward j = each (length j.changes) (λ i. not (is_least (change_at j.changes i)))

-- "read backwards with every change negated"; where a negation has more than 32 bits this is no journal that can be lent
abbrev pub backward : Journal → Journal
backward j = record { entries = reverse j.entries; changes = reverse (map neg_ℤ j.changes) }

-- changes that can be lent: each has 32 bits
unfoldable pub of32_bits : Journal → Bool
of32_bits j = each (length j.changes) (λ i. in32_bits (change_at j.changes i))

-- the backward journal of an accepted one "brings the list back"
pub record BroughtBack (fs : List ℕ) (j : Journal) : Type 0 where
  pub defined : has_backward j ≡ true
  pub in_32_bits : of32_bits (backward j) ≡ true
  pub accepted : fault_of (list_after fs j) (backward j) ≡ 0
  pub old_list : list_after (list_after fs j) (backward j) ≡ fs
  pub old_sum : reply_of (list_after fs j) (backward j) ≡ answered (sum fs)

pub record ReadingBackwards : Type 0 where
  pub brings_back : (fs : List ℕ) (j : Journal) → fault_of fs j ≡ 0 → BroughtBack fs j
  -- an accepted journal never holds the change that has no negation
  pub never_least : (fs : List ℕ) (j : Journal) → fault_of fs j ≡ 0 → (i : ℕ) → i < length j.changes → is_least (change_at j.changes i) ≡ false
  -- where all changes have 32 bits, all negations have them exactly if the backward journal is defined
  pub negations_in_32_bits : (j : Journal) → of32_bits j ≡ true → of32_bits (backward j) ≡ has_backward j
  -- the backward journal of a joined one is that of the second and then that of the first
  pub joined_backwards : (a b : Journal) → backward (joined a b) ≡ joined (backward b) (backward a)
  -- the backward journal's backward journal is the journal
  pub twice : (j : Journal) → backward (backward j) ≡ j
