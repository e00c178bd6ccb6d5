use Rattle.std.proofs.Common.{◌≡◌, ◌≤◌, ◌+◌, ◌++◌, map, take}
use Rattle.arrayvec.specs.ArrayVec.{array_vec_len}
use Rattle.ckr_report.specs.Listings.{shown}
use Rattle.ckr_report.proofs.listing.shown_bytes.Given as goal

abbrev pub invariant-loop-byte : goal.invariant-loop-byte
invariant-loop-byte l = record { text : l.out.items ≡ l.fn.out.items ++ map shown (take l.byte-index l.bytes); few : array_vec_len l.out ≤ array_vec_len l.fn.out + l.byte-index }
