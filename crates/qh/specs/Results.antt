-- The number and the values of each exported struct.
-- Assumes nothing.
use Rattle.std.specs.Prelude.{◌≡◌, ℕ, cond, Result, Ok, Err}
use Rattle.laws.specs.Reply.{Reply}
use Rattle.refusals.specs.declared.Refusal.{Refusal}
use Rattle.refusals.specs.Numbers.{number_of}
use Rattle.check_rules.specs.Reply.{Answer}
use Rattle.qh.specs.declared.QhCoded.{QhCoded}
use Rattle.qh.specs.declared.QhBuilt.{QhBuilt}
use Rattle.qh.specs.declared.QhVerdict.{QhVerdict}
use Rattle.qh.specs.declared.QhEstimate.{QhEstimate}
use Rattle.qh.specs.declared.QhFilled.{QhFilled}
use Rattle.qh.specs.declared.QhAnswered.{QhAnswered}
use Rattle.qh.specs.declared.QhFound.{QhFound}
use Rattle.qh.specs.declared.QhReplayed.{QhReplayed}

-- the number and the value of an answer: beside a refusal the value that is none
abbrev pub PartsOf : {T : Type 0} → Result T Refusal → (T → Type 0) → ℕ × T → Type 0
PartsOf (Ok v) None r = r ≡ (0, v)
PartsOf (Err e) None r = (r.0 ≡ number_of e) × None r.1

abbrev pub coded_out : QhCoded → Reply
coded_out r = record { refusal = r.refusal; value = r.value }

abbrev pub built_out : QhBuilt → Reply
built_out r = record { refusal = r.refusal; value = r.words }

abbrev pub estimate_out : QhEstimate → Reply
estimate_out r = record { refusal = r.refusal; value = r.estimate }

abbrev pub filled_out : QhFilled → Reply
filled_out r = record { refusal = r.refusal; value = r.places }

abbrev pub answered_out : QhAnswered → Reply
answered_out r = record { refusal = r.refusal; value = r.answers }

abbrev pub found_out : QhFound → Reply
found_out r = record { refusal = r.refusal; value = r.at }

abbrev pub replayed_out : QhReplayed → Reply
replayed_out r = record { refusal = r.refusal; value = r.sum }

-- the struct of a reply: accepted is 1 or 0
abbrev pub verdict_struct : Answer → QhVerdict
verdict_struct a = record { refusal = a.refusal; accepted = cond a.accepted 1 0; sort = a.sort; start = a.start; end = a.end }
