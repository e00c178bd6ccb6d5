-- The two tables of rules: the first line that holds gives the verdict.
use Rattle.std.specs.Prelude.{ℕ, Bool, true, false, ◌&&◌, ◌||◌, not, nat_le, List, [], ◌∷◌, Option, None, Some}
use Rattle.std.specs.Option.{is_some}
use Rattle.ckr_jcl.specs.declared.deck.Rd.{Rd}
use Rattle.ckr_jcl.specs.declared.deck.Rd.TheVariants.{R, Rnc, Nr, Nc}
use Rattle.ckr_rules.specs.declared.cases.AutoCase.{AutoCase}
use Rattle.ckr_rules.specs.declared.cases.DeferredCase.{DeferredCase}
use Rattle.ckr_rules.specs.declared.cases.Rule.{Rule}
use Rattle.ckr_rules.specs.declared.cases.Rule.TheVariants.{A1, A2, A3, A4, A5, A6, D1, D2, D3, D4, D5, D6, D7, D8, D9, D10}
use Rattle.ckr_rules.specs.declared.cases.Verdict.{Verdict}
use Rattle.ckr_rules.specs.declared.cases.Verdict.TheVariants.{Step, Checkpoint, Denied}

-- RD is NR or NC
abbrev pub forbids_restart : Option Rd → Bool
forbids_restart None = false
forbids_restart (Some R) = false
forbids_restart (Some Rnc) = false
forbids_restart (Some Nr) = true
forbids_restart (Some Nc) = true

-- RD is RNC or NC
abbrev pub suppresses : Option Rd → Bool
suppresses None = false
suppresses (Some R) = false
suppresses (Some Rnc) = true
suppresses (Some Nr) = false
suppresses (Some Nc) = true

-- RD is RNC
abbrev pub is_rnc : Option Rd → Bool
is_rnc None = false
is_rnc (Some R) = false
is_rnc (Some Rnc) = true
is_rnc (Some Nr) = false
is_rnc (Some Nc) = false

-- the verdict of the first line that holds, else the last one
abbrev pub first_line : List (Bool × Verdict) → Verdict → Verdict
first_line [] last = last
first_line (line ∷ lines) last = elim line.0 [ true ↦ line.1 | false ↦ first_line lines last ]

-- the rules A1 to A6, and then the restart
abbrev pub automatic : AutoCase → Verdict
automatic case =
    first_line (
    (forbids_restart case.rd, Denied A1)
    ∷ (not (is_some case.rd) && not case.checkpoint, Denied A2)
    ∷ (not case.eligible, Denied A3)
    ∷ (case.rewritten, Denied A4)
    ∷ (nat_le 3 case.restarts, Denied A5)
    ∷ (case.refused, Denied A6)
    ∷ (is_rnc case.rd || not case.checkpoint, Step)
    ∷ []) Checkpoint

-- the rule among D8 to D10 that some needed name meets
abbrev pub stale_line : Option Rule → Bool × Verdict
stale_line None = (false, Step)
stale_line (Some rule) = (true, Denied rule)

-- D1 to D10, and then the restart; D2, D3 and D4 belong to checkpoint restarts alone
abbrev pub deferred : DeferredCase → Verdict
deferred case =
    first_line (
    (not case.known, Denied D1)
    ∷ (case.checkpoint && not case.found_set, Denied D2)
    ∷ (case.checkpoint && not case.found_entry, Denied D3)
    ∷ (case.checkpoint && not case.same_job_step, Denied D4)
    ∷ (not case.ended, Denied D5)
    ∷ (not case.reached, Denied D6)
    ∷ (not case.same_statements, Denied D7)
    ∷ stale_line case.stale
    ∷ (case.checkpoint, Checkpoint)
    ∷ []) Step

-- the number of a rule in an event
abbrev pub rule_number : Rule → ℕ
rule_number A1 = 1
rule_number A2 = 2
rule_number A3 = 3
rule_number A4 = 4
rule_number A5 = 5
rule_number A6 = 6
rule_number D1 = 17
rule_number D2 = 18
rule_number D3 = 19
rule_number D4 = 20
rule_number D5 = 21
rule_number D6 = 22
rule_number D7 = 23
rule_number D8 = 24
rule_number D9 = 25
rule_number D10 = 26
