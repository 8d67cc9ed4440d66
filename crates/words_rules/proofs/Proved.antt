-- The claims of specs/Claims.antt, from the laws beside this file.
-- Assumes nothing.
use Rattle.words_rules.specs.Claims.{Inverse, Histogram}
use Rattle.words_rules.proofs.DecodedLaws.{decode_encode, encode_decode, encoded, decoded}
use Rattle.words_rules.proofs.HeadLaws.{head_back, head_again}
use Rattle.words_rules.proofs.StartLaws.{tiles}
use Rattle.words_rules.proofs.ReadingLaws.{no_fault, limits, starts_in, holds}
use Rattle.words_rules.proofs.EntryLaws.{entries_in, finds}

pub inverse : Inverse
inverse =
    record { head_back = head_back; head_again = head_again; decode_encode = decode_encode; encode_decode = encode_decode; encoded = encoded; decoded = decoded }

pub histogram : Histogram
histogram =
    record {
      limits = λ ws r. limits ws (no_fault ws r);
      tiles = λ ws r. tiles ws (starts_in ws (no_fault ws r));
      entries = λ ws r. entries_in ws (no_fault ws r);
      finds = finds;
      holds = λ ws r. holds ws (no_fault ws r);
    }
