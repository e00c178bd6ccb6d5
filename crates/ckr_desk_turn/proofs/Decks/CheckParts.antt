-- What the checkpoints of an accepted deck's steps are taken by: IDS, and records of 256 bytes.
use Rattle.std.proofs.Common.{◌≡◌, ℕ, Bool, true, false, ◌&&◌, ◌||◌, not, cond, List, length, nat_le, Option, Some, None, Result, Ok, Err, refl, ap, sym, ◌∙◌, subst}
use Rattle.std.proofs.lemmas.Bool.{and_from, false≢true, or_parts}
use Rattle.std.proofs.lemmas.Option.{same_Some}
use Rattle.std.proofs.lemmas.Slice.Eq.{bytes_eq-Decides}
use Rattle.std.specs.Prelude.{◌==◌, bytes_eq, codes, unwrap_or}
use Rattle.std.specs.List.{AllByRecursion, list_all}
use Rattle.std.specs.Option.{option_map}
use Rattle.ckr_base.specs.Grammar.{is_name_byte, is_text_of}
use Rattle.ckr_base.proofs.Bools.{and-first, and-second, or-false}
use Rattle.ckr_base.proofs.Numbers.{equal-from}
use Rattle.ckr_base.proofs.Sequences.{each-both, each-implies}
use Rattle.ckr_cards.specs.Tables.{is_among}
use Rattle.ckr_jcl.specs.Text.{if_holds}
use Rattle.ckr_jcl.specs.declared.deck.Job.{Job}
use Rattle.ckr_jcl.specs.declared.deck.Kind.{Kind}
use Rattle.ckr_jcl.specs.declared.deck.Kind.TheVariants.{Br14}
use Rattle.ckr_jcl.specs.declared.deck.Parm.{Parm}
use Rattle.ckr_jcl.specs.declared.deck.Role.{Role}
use Rattle.ckr_jcl.specs.declared.deck.Role.TheVariants.{Reads, Writes, Updates, Checkpoints, Unused}
use Rattle.ckr_jcl.specs.declared.parm.ParmKey.{ParmKey}
use Rattle.ckr_jcl.specs.declared.parm.ParmKey.TheVariants.{Chk, Ids, Cancel, Key, Col, Val, Title, Sum}
use Rattle.ckr_jcl.specs.declared.refusal.ParmError.{ParmError}
use Rattle.ckr_jcl.specs.ParmGrammar.{column_and_length, is_title, plain_number, read_parm_text, with_value}
use Rattle.ckr_jcl.specs.Programs.{is_checkpointed_by, is_read_by, is_updated_by, is_written_by, names_checkpointed, role_of}
use Rattle.ckr_jcl_decks.specs.Parts.DdFaults.{breaks, breaks_role, is_chkdd, is_shared}
use Rattle.ckr_jcl_decks.specs.Parts.DdRule.TheVariants.{WrongUse}
use Rattle.ckr_jcl_decks.specs.Parts.DdText.{DdText}
use Rattle.ckr_jcl_decks.specs.Parts.StepText.{StepText}
use Rattle.ckr_jcl_decks.specs.DeckFaults.{parm_of, parm_or_none}
use Rattle.ckr_jcl_decks.specs.Deck.{dd_of, default_length, job_of, record_length, step_with, stored_deck}
use Rattle.ckr_points.specs.Tables.{is_checkpoints}
use Rattle.ckr_desk_turn.specs.DeckLimits.{HasCheckParts, are_ids, has_check_records}
use Rattle.ckr_desk_turn.proofs.Decks.DeckTests.{OfStep, all_pass, steps_hold}
use Rattle.ckr_desk_turn.proofs.Decks.JobForm.{judged}
use Rattle.ckr_desk_turn.proofs.Decks.ParmItems.{read-holds}
use Rattle.ckr_desk_turn.proofs.Decks.Roles.{IsJudged, dd_role, keeps_role}
use Rattle.ckr_desk_turn.proofs.Decks.Texts.{IsReadFrom, IsStated, read_from}

-- ---- IDS

abbrev HasIds : Parm → Type 0
HasIds parm = are_ids parm.ids.items ≡ true

given-ids : (text : List ℕ) → is_text_of is_name_byte 8 text ≡ true → are_ids text ≡ true
given-ids text is =
    and_from (nat_le (length text) 8) (list_all is_name_byte text)
    (and-second (nat_le 1 (length text)) (nat_le (length text) 8) (and-first (nat_le 1 (length text) && nat_le (length text) 8) (list_all is_name_byte text) is))
    (and-second (nat_le 1 (length text) && nat_le (length text) 8) (list_all is_name_byte text) is)

mapped : {X : Type 0} (f : X → Parm) (found : Option X) (next : Parm) → ((x : X) → HasIds (f x)) → option_map f found ≡ Some next → HasIds next
mapped f None next keeps e = absurd (cc)
mapped f (Some x) next keeps e = subst HasIds (same_Some (f x) next e) (keeps x)

held : (b : Bool) (parm next : Parm) → (b ≡ true → HasIds parm) → if_holds b parm ≡ Some next → HasIds next
held true parm next its e = subst HasIds (same_Some parm next e) (its refl)
held false parm next its e = absurd (cc)

ids-kept : (key : ParmKey) (value : List ℕ) (parm next : Parm) → HasIds parm → with_value key value parm ≡ Some next → HasIds next
unfolding with_value
ids-kept Chk value parm next its e = mapped (λ number. record parm { chk = number }) (plain_number 9999999 value) next (λ x. its) e
ids-kept Cancel value parm next its e = mapped (λ number. record parm { cancel = number }) (plain_number 9999999 value) next (λ x. its) e
ids-kept Ids value parm next its e = held (is_text_of is_name_byte 8 value) (record parm { ids = record { items = value } }) next (given-ids value) e
ids-kept Key value parm next its e = mapped (λ pair. record parm { key = pair }) (column_and_length 32 256 value) next (λ x. its) e
ids-kept Col value parm next its e = mapped (λ number. record parm { col = number }) (plain_number 256 value) next (λ x. its) e
ids-kept Val value parm next its e = held (is_title value) (record parm { val = record { items = value } }) next (λ is. its) e
ids-kept Title value parm next its e = held (is_title value) (record parm { title = record { items = value } }) next (λ is. its) e
ids-kept Sum value parm next its e = mapped (λ pair. record parm { sum = pair }) (column_and_length 15 257 value) next (λ x. its) e

ids-read : (kind : Kind) (text : List ℕ) (read : Result Parm ParmError) → read_parm_text kind text ≡ read → HasIds (parm_or_none read)
ids-read kind text (Ok parm) is = read-holds HasIds refl ids-kept kind text parm is
ids-read kind text (Err error) is = refl

has-ids : (kind : Kind) (text : List ℕ) → HasIds (parm_of kind text)
unfolding parm_of
has-ids kind text = ids-read kind text (read_parm_text kind text) refl

-- ---- records

-- only a DD of the name CHKDD is one for checkpoints
among-checks : (kind : Kind) (name : List ℕ) → is_among (names_checkpointed kind) name ≡ true → bytes_eq (codes "CHKDD") name ≡ true
among-checks Br14 name is = absurd (false≢true is)
among-checks _ name is = ap (bytes_eq (codes "CHKDD")) ((bytes_eq-Decides name (codes "CHKDD")).0 (sym (or-false (bytes_eq name (codes "CHKDD"))) ∙ is))

check-name : (kind : Kind) (name : List ℕ) → role_of kind name ≡ Checkpoints → bytes_eq (codes "CHKDD") name ≡ true
unfolding role_of is_checkpointed_by
check-name kind name is =
    among-checks kind name (by (is_read_by kind name) (is_written_by kind name) (is_updated_by kind name) (is_checkpointed_by kind name) is)
  where
    by : (reads writes updates checks : Bool) → cond reads Reads (cond writes Writes (cond updates Updates (cond checks Checkpoints Unused))) ≡ Checkpoints → checks ≡ true
    by true writes updates checks e = cc
    by false true updates checks e = cc
    by false false true checks e = cc
    by false false false true e = refl
    by false false false false e = cc

check-length : (dd : DdText) → dd.in_stream ≡ false → is_chkdd dd ≡ true → record_length dd ≡ 256
unfolding record_length
check-length dd read named =
    ap (λ b. cond b 80 (cond (is_chkdd dd) 256 (unwrap_or dd.dcb.length (default_length dd)))) read
    ∙ ap (λ b. cond b 256 (unwrap_or dd.dcb.length (default_length dd))) named

check-records : (kind : Kind) (dd : DdText) → dd.role ≡ role_of kind dd.name → breaks WrongUse dd ≡ false → has_check_records (dd_of dd) ≡ true
unfolding dd_of breaks_role
check-records kind dd own right = by dd.role refl
  where
    by : (role : Role) → dd.role ≡ role → (not (is_checkpoints role) || record_length dd == 256) ≡ true
    by Checkpoints is =
        let apart : breaks_role Checkpoints dd ≡ false = subst (λ (r : Role). breaks_role r dd ≡ false) is (keeps_role dd right) in
        equal-from (record_length dd) 256
        (check-length dd (or_parts dd.in_stream (is_shared dd.disp.status) (or_parts (dd.in_stream || is_shared dd.disp.status) dd.sysout apart).0).0 (check-name kind dd.name (sym own ∙ is)))
    by _ is = refl

-- ---- a deck

step_checked : (step : StepText) → IsJudged step → OfStep HasCheckParts step
unfolding step_with
step_checked step judged kind is = record {
  ids = has-ids kind step.parm.items;
  records =
      all_pass has_check_records dd_of step.dds
      (each-both (IsStated step.program) (λ dd. breaks WrongUse dd ≡ false) (λ dd. has_check_records (dd_of dd) ≡ true) step.dds
      (λ dd stated used. check-records kind dd (dd_role kind step.program dd is stated) used) judged.stated judged.used);
}

checked : (job : Job) → IsReadFrom job → AllByRecursion HasCheckParts job.steps
unfolding job_of
checked job read =
    subst (λ (j : Job). AllByRecursion HasCheckParts j.steps) (sym read.is)
    (steps_hold HasCheckParts read.text.steps (each-implies IsJudged (OfStep HasCheckParts) read.text.steps step_checked (judged job read)))

pub steps_checked : (cards : List ℕ) (job : Job) → stored_deck cards ≡ Ok job → AllByRecursion HasCheckParts job.steps
steps_checked cards job accepted = checked job (read_from cards job accepted)
