-- Worked decks with RESTART: which are denied and why, and where those go on that are not.
use Rattle.std.specs.Prelude.{◌≡◌, ℕ, true, List, [], ◌∷◌, ◌++◌, codes, None, Some, refl}
use Rattle.ckr_base.specs.declared.code.Code.TheVariants.{System}
use Rattle.ckr_jcl_decks.proofs.Definitions.{decks_open}
use Rattle.ckr_meaning.proofs.Definitions.{jobs_open}
use Rattle.ckr_points.specs.Freshness.{named_denial, plain_denial}
use Rattle.ckr_rules.specs.declared.cases.Rule.TheVariants.{A1, D1, D3, D7, D9}
use Rattle.ckr_points.specs.declared.reply.Chkpt.TheVariants.{Done}
use Rattle.ckr_points.specs.declared.reply.How.TheVariants.{Abended, Completed}
use Rattle.ckr_points.specs.declared.reply.Reply.{Reply}
use Rattle.ckr_points.specs.declared.reply.Reply.TheVariants.{Checkpointed, DeniedRestart, Idle, JobEnded, Restarted, Selected, Started, StepEnded, Worked}
use Rattle.ckr_desk_turn.specs.Desk.{DeskModel}
use Rattle.ckr_desk_turn.specs.EntryStates.{checkpoint_state}
use Rattle.ckr_desk_turn.specs.Turns.{desk_after, replies_of}
use Rattle.ckr_desk_turn.proofs.Definitions.{turns_open}
use Rattle.ckr_desk_turn.proofs.Examples.Decks.{deck}
use Rattle.ckr_desk_turn.proofs.Examples.Desks.{all_come, behind, failing, fresh, line, listing, replies, turns_by, with_deck}

-- COPY of four cards with two checkpoints, which isn't restarted by itself; what it makes stays, however it ends
abbrev keeping : List ℕ → List (List ℕ) → List ℕ → List (List ℕ)
keeping operands syschk last =
    (codes "//N JOB" ++ operands) ∷
    syschk ++
    codes "//S1 EXEC PGM=COPY,RD=NR,PARM='CHK=2'" ∷
    codes "//SYSUT1 DD *" ∷
    codes "A" ∷
    codes "B" ∷
    codes "C" ∷
    last ∷
    codes "/*" ∷
    codes "//SYSUT2 DD DSN=OUT.A,DISP=(NEW,CATLG,CATLG),SPACE=(80,10)" ∷
    codes "//CHKDD DD DSN=CHK.A,DISP=(NEW,CATLG,CATLG),SPACE=(256,4)" ∷
    []

abbrev syschk_card : List (List ℕ)
syschk_card = codes "//SYSCHK DD DSN=CHK.A,DISP=OLD" ∷ []

-- COPY of two cards, which leaves nothing where it is given up
abbrev dropping : List ℕ → List (List ℕ)
dropping operands =
    (codes "//N JOB" ++ operands) ∷
    codes "//S1 EXEC PGM=COPY,RD=NR" ∷
    codes "//SYSUT1 DD *" ∷
    codes "A" ∷
    codes "B" ∷
    codes "/*" ∷
    codes "//SYSUT2 DD DSN=OUT.A,DISP=(NEW,CATLG,DELETE),SPACE=(80,10)" ∷
    []

-- no run of the name was selected
never_selected : replies 2 (with_deck (deck (keeping (codes " RESTART=S1") [] (codes "D"))) fresh) ≡ DeniedRestart 1 (plain_denial D1) ∷ Idle ∷ []
unfolding decks_open jobs_open turns_open
never_selected = refl

-- the run has written an entry behind two cards, has taken a third one, and is given up
abbrev given_up : DeskModel
given_up = desk_after (failing (System 1) ∷ []) (behind 6 (with_deck (deck (keeping [] [] (codes "D"))) fresh))

given_up_replies : replies_of (turns_by 1 6 ++ failing (System 1) ∷ []) (with_deck (deck (keeping [] [] (codes "D"))) fresh)
    ≡ Selected 1 ∷ Started 1 (codes "S1") ∷ Worked 1 (codes "S1") 1 ∷ Worked 1 (codes "S1") 2 ∷ Checkpointed 1 (codes "S1") Done (Some (codes "C0000001")) ∷ Worked 1 (codes "S1") 3
    ∷ JobEnded 1 (Abended (System 1) A1) ∷ []
unfolding decks_open jobs_open turns_open checkpoint_state
given_up_replies = refl

-- at the start of the step what it made is in the way
made_before : replies 2 (with_deck (deck (keeping (codes " RESTART=S1") [] (codes "D"))) given_up) ≡ DeniedRestart 2 (named_denial D9 (codes "CHK.A")) ∷ Idle ∷ []
unfolding decks_open jobs_open turns_open checkpoint_state
made_before = refl

-- no such entry, and a step with other cards
no_entry : replies 2 (with_deck (deck (keeping (codes " RESTART=(S1,C0000009)") syschk_card (codes "D"))) given_up) ≡ DeniedRestart 2 (plain_denial D3) ∷ Idle ∷ []
unfolding decks_open jobs_open turns_open checkpoint_state
no_entry = refl

other_cards : replies 2 (with_deck (deck (keeping (codes " RESTART=(S1,C0000001)") syschk_card (codes "E"))) given_up) ≡ DeniedRestart 2 (plain_denial D7) ∷ Idle ∷ []
unfolding decks_open jobs_open turns_open checkpoint_state
other_cards = refl

-- at the checkpoint it goes on behind two cards, and leaves what it leaves with no failure
abbrev continued : DeskModel
continued = with_deck (deck (keeping (codes " RESTART=(S1,C0000001)") syschk_card (codes "D"))) given_up

abbrev on_s1 : ℕ → Reply
on_s1 taken = Worked 2 (codes "S1") taken

at_checkpoint : replies 8 continued
    ≡ Restarted 2 (codes "S1") (Some (codes "C0000001")) 2 ∷ on_s1 3 ∷ on_s1 4 ∷ Checkpointed 2 (codes "S1") Done (Some (codes "C0000002")) ∷ on_s1 4 ∷ StepEnded 2 (codes "S1") 0 ∷ JobEnded 2 Completed ∷ Idle ∷ []
unfolding decks_open jobs_open turns_open checkpoint_state
at_checkpoint = refl

checkpoint_comes : all_come (turns_by 1 8) continued ≡ true
unfolding decks_open jobs_open turns_open checkpoint_state
checkpoint_comes = refl

checkpoint_listed : listing (behind 8 continued) ≡ line (codes "CHK.A") 0 true 256 2 4 (1, 1, 0) ∷ line (codes "OUT.A") 0 true 80 4 10 (1, 1, 0) ∷ []
unfolding decks_open jobs_open turns_open checkpoint_state
checkpoint_listed = refl

-- where nothing is left of the step it starts again
abbrev started_over : DeskModel
started_over = with_deck (deck (dropping (codes " RESTART=S1"))) (desk_after (failing (System 1) ∷ []) (behind 3 (with_deck (deck (dropping [])) fresh)))

at_start : replies 7 started_over
    ≡ Restarted 2 (codes "S1") None 0 ∷ Started 2 (codes "S1") ∷ on_s1 1 ∷ on_s1 2 ∷ on_s1 2 ∷ StepEnded 2 (codes "S1") 0 ∷ JobEnded 2 Completed ∷ []
unfolding decks_open jobs_open turns_open
at_start = refl

start_comes : all_come (turns_by 1 7) started_over ≡ true
unfolding decks_open jobs_open turns_open
start_comes = refl
