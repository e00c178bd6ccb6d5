-- The lines for decks, commands, disks and streams.
use Rattle.std.specs.Prelude.{ℕ, List, [], ◌∷◌, ◌++◌, length, codes}
use Rattle.std.specs.Fmt.{decimal}
use Rattle.ckr_volumes.specs.declared.layout.Layout.{Layout}
use Rattle.ckr_report.specs.Numbers.{job_text, two_digits}

-- ---- decks

abbrev pub accepted_text : ℕ → List ℕ → List ℕ
accepted_text number name = job_text number ++ codes " " ++ name ++ codes " SUBMITTED" ++ 10 ∷ []

-- the rule by its number, and the card
abbrev pub deck_refused_text : ℕ → ℕ → List ℕ
deck_refused_text rule card = codes "DECK REFUSED J" ++ two_digits rule ++ codes " CARD " ++ decimal card ++ 10 ∷ []

-- ---- commands

abbrev pub line_refused_text : ℕ → List ℕ
line_refused_text number = codes "LINE " ++ decimal number ++ codes " REFUSED" ++ 10 ∷ []

abbrev pub released_text : ℕ → List ℕ
released_text job = job_text job ++ codes " RELEASED" ++ 10 ∷ []

abbrev pub purged_text : ℕ → List ℕ
purged_text job = job_text job ++ codes " PURGED" ++ 10 ∷ []

abbrev pub operator_text : ℕ → List ℕ
operator_text place = codes "OPERATOR " ++ decimal place ++ 10 ∷ []

-- ---- disks and streams

abbrev pub formatted_text : Layout → List ℕ
formatted_text layout =
    codes "FORMATTED VOLUMES " ++ decimal (length layout.volumes.items) ++ codes " UNITS " ++ decimal layout.units ++ codes " INITIATORS " ++ decimal layout.initiators ++ 10 ∷ []

abbrev pub no_volume_text : List ℕ
no_volume_text = codes "NO VOLUME" ++ 10 ∷ []

-- jobs, records and restarts
abbrev pub totals_text : ℕ → ℕ → ℕ → List ℕ
totals_text jobs records restarts = codes "MADE " ++ decimal jobs ++ codes " JOBS " ++ decimal records ++ codes " RECORDS " ++ decimal restarts ++ (codes " RESTARTS" ++ 10 ∷ [])
