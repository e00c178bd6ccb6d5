-- The fields of each kind are read and written both ways.
use Rattle.std.proofs.Common.{◌≡◌, ◌==◌, ◌||◌, ℕ, Bool, true, cond, eqb, List, ◌∷◌, ◌++◌, length, Ok, Err, refl, sym, subst, arith}
use Rattle.ckr_base.specs.Grammar.{is_ds_name, is_check_id}
use Rattle.ckr_fields.specs.Bytes.{AreBytes, Takes, BothWays}
use Rattle.ckr_fields.specs.Fields.{byte_at, byte, two_bytes, four_bytes, judged, between, ◌&◌, check_id, record_bytes, optional, flag, code, blocks}
use Rattle.ckr_fields.proofs.Steps.{bind_ok, ok_is}
use Rattle.ckr_fields.proofs.Laws.{byte_both, two_bytes_both, four_bytes_both, judged_both, both_both, depending_both, text_both, short_text_both, optional_both, flag_both, code_both, items_both, blocks_both, seen_both, made_again, IsTagged, none_tagged, is_tagged, if_tag}
use Rattle.ckr_events.specs.Format.{from_one, length_list, lengths_at, lengths, piece_parts, piece_at, piece, piece_list, all_made, pieces_at, pieces, made_parts, made_at, made, made_list_at, made_list, coded, number_if_at, number_if, numbers_of, allocation, coded_at, allocation_at, ending_at, ending, job, submitted, selected, denied, started, rewritten, checkpointed, step_ended, restarted, held, ended}
use Rattle.ckr_events.specs.declared.event.Ending.{Ending}
use Rattle.ckr_events.specs.declared.event.Ending.TheVariants.{Completed, Coded, Allocation}

from_one_both : BothWays from_one
from_one_both = judged_both (between 1 255) byte byte_both

count_both : (most : ℕ) → BothWays (judged (between 0 most) byte)
count_both most = judged_both (between 0 most) byte byte_both

pub lengths_both : BothWays lengths
unfolding lengths_at
lengths_both = seen_both (λ xs. record { items = xs }) length_list (items_both four_bytes four_bytes_both (judged (between 0 16) byte) (count_both 16)) (λ v. v.items) (λ v. refl) (λ xs. refl)

piece_both : BothWays piece
unfolding piece_at
piece_both = seen_both (λ x. record { start = x.0; records = x.1 }) piece_parts (both_both four_bytes four_bytes four_bytes_both four_bytes_both) (λ p. (p.start, p.records)) (λ p. refl) (λ x. refl)

pieces_both : BothWays pieces
unfolding pieces_at
pieces_both = seen_both (λ xs. record { items = xs }) piece_list (items_both piece piece_both (judged (between 0 5) byte) (count_both 5)) (λ v. v.items) (λ v. refl) (λ xs. refl)

made_both : BothWays made
unfolding made_at
made_both =
    seen_both (λ x. record { dd = x.0; volume = x.1.0; pieces = x.1.1 }) made_parts
    (both_both from_one (byte & pieces) from_one_both (both_both byte pieces byte_both pieces_both)) (λ m. (m.dd, (m.volume, m.pieces))) (λ m. refl) (λ x. refl)

made_list_both : BothWays made_list
unfolding made_list_at
made_list_both = seen_both (λ xs. record { items = xs }) all_made (items_both made made_both (judged (between 0 80) byte) (count_both 80)) (λ v. v.items) (λ v. refl) (λ xs. refl)

-- ---- how a run ended

coded_both : BothWays coded
coded_both =
    both_both code (judged (between 1 6) byte & four_bytes & lengths) code_both
    (both_both (judged (between 1 6) byte) (four_bytes & lengths) (judged_both (between 1 6) byte byte_both)
    (both_both four_bytes lengths four_bytes_both lengths_both))

number_if_both : (has : Bool) → BothWays (number_if has)
unfolding number_if_at
number_if_both has = judged_both (λ n. has || n == 0) four_bytes four_bytes_both

allocation_both : BothWays allocation
allocation_both =
    depending_both (byte & judged (between 1 8) byte) (λ x. numbers_of x.1)
    (both_both byte (judged (between 1 8) byte) byte_both (judged_both (between 1 8) byte byte_both))
    (λ x. both_both (number_if (between 6 8 x.1)) (number_if (between 6 7 x.1)) (number_if_both (between 6 8 x.1)) (number_if_both (between 6 7 x.1)))

ending_again : (e : Ending) (rest : List ℕ) → ending.fits e → ending_at (ending.spell e ++ rest) ≡ Ok (e, rest)
unfolding ending_at byte_at coded_at allocation_at
ending_again Completed rest h = refl
ending_again (Coded code rule writes lengths) rest h = made_again (λ x. Coded x.0 x.1.0 x.1.1.0 x.1.1.1) coded coded_both (code, (rule, (writes, lengths))) rest h
ending_again (Allocation dd cause first second) rest h = made_again (λ x. Allocation x.0.0 x.0.1 x.1.0 x.1.1) allocation allocation_both ((dd, cause), (first, second)) rest h

completed_tagged : (bytes : List ℕ) → AreBytes bytes → IsTagged ending.spell ending.fits bytes 0 (Ok (Completed, bytes))
completed_tagged bytes are y rest e =
    subst (λ (p : Ending × List ℕ). Takes (0 ∷ bytes) (ending.spell p.0) p.1 × ending.fits p.0) (ok_is (Completed, bytes) (y, rest) e) (record { parts = refl; rest_fits = are }, tt)

ending_takes : (bytes : List ℕ) (e : Ending) (rest : List ℕ) → AreBytes bytes → ending_at bytes ≡ Ok (e, rest) → Takes bytes (ending.spell e) rest × ending.fits e
unfolding ending_at coded_at allocation_at
ending_takes bytes y rest are e =
    let forms = λ (tag : ℕ × List ℕ). cond (eqb tag.0 0) (Ok (Completed, tag.1)) (cond (eqb tag.0 1) (coded_at tag.1) (cond (eqb tag.0 2) (allocation_at tag.1) (Err (length bytes)))) in
    let a = bind_ok (byte_at bytes) forms (y, rest) e in
    let tag = a.0.0 in
    let behind = a.0.1 in
    let t = byte_both.takes bytes tag behind are a.1 in
    let here = t.0.rest_fits in
    let good =
    if_tag ending.spell ending.fits behind tag 0 (Ok (Completed, behind)) (cond (eqb tag 1) (coded_at behind) (cond (eqb tag 2) (allocation_at behind) (Err (length bytes)))) (completed_tagged behind here)
    (if_tag ending.spell ending.fits behind tag 1 (coded_at behind) (cond (eqb tag 2) (allocation_at behind) (Err (length bytes)))
    (is_tagged ending.spell ending.fits behind 1 (λ x. Coded x.0 x.1.0 x.1.1.0 x.1.1.1) coded coded_both (λ x. refl) (λ x h. h) here)
    (if_tag ending.spell ending.fits behind tag 2 (allocation_at behind) (Err (length bytes))
    (is_tagged ending.spell ending.fits behind 2 (λ x. Allocation x.0.0 x.0.1 x.1.0 x.1.1) allocation allocation_both (λ x. refl) (λ x h. h) here)
    (none_tagged ending.spell ending.fits behind tag (length bytes))))
    y rest a.2 in
    (subst (λ (l : List ℕ). Takes l (ending.spell y) rest) (sym t.0.parts) good.0, good.1)

ending_both : BothWays ending
ending_both = record { again = ending_again; takes = ending_takes }

-- ---- the kinds

pub submitted_both : BothWays submitted
submitted_both = both_both job (blocks 80) four_bytes_both (blocks_both 80 (omega arith))

pub selected_both : BothWays selected
selected_both =
    both_both job (byte & four_bytes & byte & optional 16 is_check_id) four_bytes_both
    (both_both byte (four_bytes & byte & optional 16 is_check_id) byte_both
    (both_both four_bytes (byte & optional 16 is_check_id) four_bytes_both
    (both_both byte (optional 16 is_check_id) byte_both (optional_both 16 is_check_id))))

pub denied_both : BothWays denied
denied_both =
    both_both job (judged (between 17 26) byte & optional 44 is_ds_name) four_bytes_both
    (both_both (judged (between 17 26) byte) (optional 44 is_ds_name) (judged_both (between 17 26) byte byte_both) (optional_both 44 is_ds_name))

pub started_both : BothWays started
started_both = both_both job (from_one & made_list) four_bytes_both (both_both from_one made_list from_one_both made_list_both)

record_bytes_both : BothWays record_bytes
record_bytes_both = text_both (judged (between 0 256) two_bytes) (λ _. true) (judged_both (between 0 256) two_bytes two_bytes_both)

pub rewritten_both : BothWays rewritten
rewritten_both =
    both_both job (four_bytes & four_bytes & lengths & four_bytes & record_bytes) four_bytes_both
    (both_both four_bytes (four_bytes & lengths & four_bytes & record_bytes) four_bytes_both
    (both_both four_bytes (lengths & four_bytes & record_bytes) four_bytes_both
    (both_both lengths (four_bytes & record_bytes) lengths_both
    (both_both four_bytes record_bytes four_bytes_both record_bytes_both))))

pub checkpointed_both : BothWays checkpointed
checkpointed_both =
    both_both job (check_id & four_bytes & four_bytes & lengths & four_bytes & four_bytes) four_bytes_both
    (both_both check_id (four_bytes & four_bytes & lengths & four_bytes & four_bytes) (short_text_both 16 is_check_id)
    (both_both four_bytes (four_bytes & lengths & four_bytes & four_bytes) four_bytes_both
    (both_both four_bytes (lengths & four_bytes & four_bytes) four_bytes_both
    (both_both lengths (four_bytes & four_bytes) lengths_both
    (both_both four_bytes four_bytes four_bytes_both four_bytes_both)))))

pub job_both : BothWays job
job_both = four_bytes_both

pub step_ended_both : BothWays step_ended
step_ended_both =
    both_both job (from_one & two_bytes & four_bytes & lengths) four_bytes_both
    (both_both from_one (two_bytes & four_bytes & lengths) from_one_both
    (both_both two_bytes (four_bytes & lengths) two_bytes_both
    (both_both four_bytes lengths four_bytes_both lengths_both)))

pub restarted_both : BothWays restarted
restarted_both =
    both_both job (byte & code & flag) four_bytes_both (both_both byte (code & flag) byte_both (both_both code flag code_both flag_both))

pub held_both : BothWays held
held_both =
    both_both job (code & four_bytes & lengths) four_bytes_both
    (both_both code (four_bytes & lengths) code_both (both_both four_bytes lengths four_bytes_both lengths_both))

pub ended_both : BothWays ended
ended_both = both_both job ending four_bytes_both ending_both
