-- The events stay kept where a run is selected, and who holds a name.
use Rattle.std.proofs.Common.{◌≡◌, ℕ, Bool, true, false, cond, ◌&&◌, if◌then◌else◌, List, [], ◌∷◌, ap, sym, ◌∙◌, Option, Some, None}
use Rattle.std.specs.Prelude.{◌==◌, nat_lt}
use Rattle.std.specs.List.{AllByRecursion, find}
use Rattle.std.specs.Option.{option_map_or}
use Rattle.ckr_base.proofs.Bools.{and-first, and-second, bool-cases}
use Rattle.ckr_base.proofs.Numbers.{equal-itself}
use Rattle.ckr_base.proofs.Options.{is_some-true, some-not-none}
use Rattle.ckr_base.proofs.Sequences.{find-holds, find-nothing, find-passes}
use Rattle.ckr_library.specs.NameMaps.{Name}
use Rattle.ckr_meaning.specs.EffectiveJob.{is_among}
use Rattle.ckr_volumes.specs.declared.layout.Layout.{Layout}
use Rattle.ckr_points_invariant.specs.Invariant.{IsFree, IsHolder, IsAgreed, IsKnownLeg}
use Rattle.ckr_points.specs.Office.{Leg, Office, holder_of, holds_name, is_holder, with_leg}
use Rattle.ckr_points.specs.Rows.{RunRow, run_of}
use Rattle.ckr_points_invariant.proofs.Holders.Rows.{leg-number}
use Rattle.ckr_points_invariant.proofs.Holders.Moves.{Among}

-- ---- who holds a name

pub free-of : (layout : Layout) (office : Office) (name : Name) → IsAgreed layout office → holder_of office name ≡ None → IsFree office name
free-of layout office name kept none number row leg holder =
    unheld (is_among leg.reach name)
    (ap (λ (o : Option RunRow). option_map_or (λ row. is_holder row.state) o false && is_among leg.reach name) (sym (ap (run_of office.tables) (leg-number office number leg holder.leg_at) ∙ holder.row_at))
    ∙ find-nothing (holds_name office name) (λ (one : Leg). one.number == number) office.legs leg none holder.leg_at)
  where
    unheld : (among : Bool) → (is_holder row.state && among) ≡ false → among ≡ false
    unheld among e = sym (ap (λ b. b && among) holder.holds) ∙ e

pub record Holding (office : Office) (leg : Leg) (name : Name) (row : RunRow) : Type 0 where
  pub holder : IsHolder office leg.number row leg
  pub among : Among leg name

pub holder-of : (layout : Layout) (office : Office) (name : Name) (leg : Leg) → IsAgreed layout office → holder_of office name ≡ Some leg → (row : RunRow) × Holding office leg name row
holder-of layout office name leg kept found =
    let is : IsKnownLeg office leg = find-holds (IsKnownLeg office) (holds_name office name) office.legs leg kept.legs found in
    let passes : holds_name office name leg ≡ true = find-passes (holds_name office name) office.legs leg found in
    is_some-true (run_of office.tables leg.number) is.listed
    (λ row e. (
      row,
      record {
        holder = record {
          row_at = e;
          holds = sym (ap (λ (o : Option RunRow). option_map_or (λ row. is_holder row.state) o false) e) ∙ and-first _ (is_among leg.reach name) passes;
          leg_at = is.found;
        };
        among = and-second _ (is_among leg.reach name) passes;
      },
    ))

-- ---- one more leg

pub leg_here : (leg : Leg) (legs : List Leg) → find (λ (one : Leg). one.number == leg.number) legs ≡ None → find (λ (one : Leg). one.number == leg.number) (with_leg leg legs) ≡ Some leg
leg_here leg [] none = ap (λ b. cond b (Some leg) None) (equal-itself leg.number)
leg_here leg (first ∷ rest) none =
    bool-cases (first.number == leg.number)
    (λ same. absurd (some-not-none first (sym (ap (λ b. cond b (Some first) (find (λ (one : Leg). one.number == leg.number) rest)) same) ∙ none)))
    (λ apart.
    bool-cases (nat_lt leg.number first.number)
    (λ below. ap (λ b. find (λ (one : Leg). one.number == leg.number) (if b then leg ∷ first ∷ rest else first ∷ with_leg leg rest)) below ∙ ap (λ b. cond b (Some leg) (find (λ (one : Leg). one.number == leg.number) (first ∷ rest))) (equal-itself leg.number))
    (λ above.
    ap (λ b. find (λ (one : Leg). one.number == leg.number) (if b then leg ∷ first ∷ rest else first ∷ with_leg leg rest)) above
    ∙ ap (λ b. cond b (Some first) (find (λ (one : Leg). one.number == leg.number) (with_leg leg rest))) apart
    ∙ leg_here leg rest (sym (ap (λ b. cond b (Some first) (find (λ (one : Leg). one.number == leg.number) rest)) apart) ∙ none)))

pub leg_there : (leg : Leg) (number : ℕ) (legs : List Leg) → (leg.number == number) ≡ false → find (λ (one : Leg). one.number == number) (with_leg leg legs) ≡ find (λ (one : Leg). one.number == number) legs
leg_there leg number [] apart = ap (λ b. cond b (Some leg) None) apart
leg_there leg number (first ∷ rest) apart =
    bool-cases (nat_lt leg.number first.number)
    (λ below. ap (λ b. find (λ (one : Leg). one.number == number) (if b then leg ∷ first ∷ rest else first ∷ with_leg leg rest)) below ∙ ap (λ b. cond b (Some leg) (find (λ (one : Leg). one.number == number) (first ∷ rest))) apart)
    (λ above.
    ap (λ b. find (λ (one : Leg). one.number == number) (if b then leg ∷ first ∷ rest else first ∷ with_leg leg rest)) above
    ∙ ap (cond (first.number == number) (Some first)) (leg_there leg number rest apart))

pub all_legs : (P : Leg → Type 0) (leg : Leg) (legs : List Leg) → P leg → AllByRecursion P legs → AllByRecursion P (with_leg leg legs)
all_legs P leg [] mine each = (mine, tt)
all_legs P leg (first ∷ rest) mine each =
    elim (nat_lt leg.number first.number) as (λ b. AllByRecursion P (if b then leg ∷ first ∷ rest else first ∷ with_leg leg rest)) [
      | true ↦ (mine, each)
      | false ↦ (each.0, all_legs P leg rest mine each.1)
    ]
