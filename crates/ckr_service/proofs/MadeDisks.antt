-- What the cards of `make` ask for, and how formatting by them ends.
use Rattle.std.proofs.Common.{◌≡◌, ◌≤◌, ℕ, Bool, false, cond, nat_lt, List, [], ◌++◌, None, Some, Result, Ok, refl, sym, ap, subst, ◌∙◌, append-nil, length, codes, ◌∷◌, arith}
use Rattle.std.proofs.lemmas.Bool.{false≢true}
use Rattle.std.proofs.lemmas.List.{length-append}
use Rattle.std.specs.Prelude.{MatchResult, IsOkAnd, IsErr}
use Rattle.std.specs.Str.Lines.{lines}
use Rattle.std.specs.Io.KnownBytes.{Consumes, IsAtEnd}
use Rattle.ckr_base.proofs.Numbers.{nat_lt-beyond}
use Rattle.ckr_outside.specs.Faults.{Rose}
use Rattle.ckr_session.specs.Model.Layout.{Layout}
use Rattle.ckr_desk_format.specs.declared.command.FormatOutcome.{FormatOutcome}
use Rattle.ckr_desk_format.specs.declared.command.FormatOutcome.TheVariants as Outcomes
use Rattle.ckr_desk_format.specs.Formats.{CausedBy, Ends, FormatsBy, IsFormatted}
use Rattle.ckr_desk_format.specs.declared.disk_layout.Said.{Said}
use Rattle.ckr_desk_format.specs.declared.installation.CardRefusal.{CardRefusal}
use Rattle.ckr_desk_format.specs.Installation.{by_lines, by_said, by_sizes, installation_of, nothing_said}
use Rattle.ckr_desk_format.specs.Streams.{TookAll, TookTooMany}
use Rattle.ckr_service.specs.MadeDisk.{FormatsSo, made_layout}
use Rattle.ckr_service.specs.MadeStream.{made_cards, made_size}

-- all that was there to be read
pub all_read : (whole : List ℕ) (rest : List ℕ) (all : List ℕ) → Consumes (Some whole) (Some rest) all → IsAtEnd (Some rest) → all ≡ whole
all_read whole rest all given end = sym (append-nil all) ∙ ap (λ (r : List ℕ). all ++ r) (sym end) ∙ sym given

-- what the cards say, the sizes aside
made_said : Said
made_said = record {
  initiators = Some 2;
  units = Some 1;
  book = Some 33554432;
  volumes = record { items = record { serial = codes "GEN001"; start = 0; bytes = 16777216 } ∷ [] };
  eligible = None;
  shares = record { items = record { line = 3; bytes = 33554432 } ∷ record { line = 4; bytes = 16777216 } ∷ [] };
}

all_said : by_lines 1 nothing_said (lines made_cards) ≡ Ok made_said
unfolding made_said
all_said = refl

pub installed : (size : ℕ) → made_size ≤ size → installation_of (lines made_cards) size ≡ Ok made_layout
unfolding installation_of made_layout made_said
installed size enough =
    let book : nat_lt size 33554944 ≡ false = nat_lt-beyond size 33554944 (omega (arith, enough)) in
    let volume : nat_lt size 50332160 ≡ false = nat_lt-beyond size 50332160 enough in
    ap (by_said size) all_said
    ∙ ap (λ (b : Bool). by_sizes made_said (cond b (Some 3) (cond (nat_lt size 50332160) (Some 4) None))) book
    ∙ ap (λ (b : Bool). by_sizes made_said (cond b (Some 4) None)) volume

pub not_rose : Rose 0 0 → ⊥
not_rose rose = grind (arith, rose)

module _ {D : Type 0} (told : Type 0) (content : D → List ℕ) (may_leave : D → List ℕ → Type 0) (moment : D → ℕ) (left_since : D → ℕ → List ℕ → Type 0) (size faults : D → ℕ) (old new : D) where
  abbrev Formatted' : Layout → Type 0
  Formatted' layout = IsFormatted told (content new) (may_leave new) (size new) layout

  abbrev Formats' : Layout → Type 0
  Formats' layout = FormatsBy told content may_leave moment left_since (size old) old new layout

  -- what the cards of the source asked for
  said_so : {rest all : List ℕ} → made_size ≤ size old → TookAll (Some made_cards) (Some rest) all → installation_of (lines all) (size old) ≡ Ok made_layout
  said_so {rest} {all} enough took = ap (λ (l : List ℕ). installation_of (lines l) (size old)) (all_read made_cards rest all took.given took.end) ∙ installed (size old) enough

  pub formats_so : (outcome : FormatOutcome) (rest : List ℕ) → made_size ≤ size old → Ends outcome (Some made_cards) (Some rest) (size old) Formatted' Formats' (new ≡ old) None None
      → CausedBy outcome (Rose 0 0) (Rose 0 0) (Rose (faults old) (faults new)) → FormatsSo told content may_leave moment left_since size faults outcome old new
  formats_so Outcomes.Formatted rest enough ends cause =
      let is = said_so enough ends.took in
      (subst (λ (s : Result Layout CardRefusal). IsOkAnd s Formatted') is ends.carried.0, subst (λ (s : Result Layout CardRefusal). MatchResult s Formats' (λ refusal. new ≡ old)) is ends.stays)
  formats_so Outcomes.Refused rest enough ends cause = absurd (false≢true (subst (λ (s : Result Layout CardRefusal). IsErr s) (said_so enough ends.took) ends.carried.0))
  formats_so Outcomes.SourceFailed rest enough ends cause = absurd (not_rose cause)
  formats_so Outcomes.SinkFailed rest enough ends cause = absurd (not_rose cause)
  formats_so Outcomes.DiskFailed rest enough ends cause =
      (cause, subst (λ (s : Result Layout CardRefusal). MatchResult s Formats' (λ refusal. new ≡ old)) (said_so enough ends.took) ends.stays)
  formats_so Outcomes.NoMemory rest enough ends cause = ends.1
  formats_so Outcomes.TooLong rest enough ends cause = absurd (too_long ends.0)
    where
      too_long : TookTooMany (Some made_cards) (Some rest) → ⊥
      too_long many =
          (let given : length made_cards ≡ length (many.taken ++ rest) = ap length many.given in
          let both = length-append many.taken rest in
          let few : length made_cards ≤ 100 = omega arith in
          omega (arith, given, both, few, many.many))
