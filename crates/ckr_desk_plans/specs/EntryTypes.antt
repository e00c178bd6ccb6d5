-- What the parts of an entry are by their types.
use Rattle.std.specs.Prelude.{◌≤◌, ◌<◌, ◌^◌, length, IfSome}
use Rattle.ckr_entry.specs.declared.point.Mark.{Mark}
use Rattle.ckr_entry.specs.declared.point.State.{State}
use Rattle.ckr_entry.specs.declared.point.State.TheVariants.{Plain, Matched}
use Rattle.ckr_entry.specs.Numbers.{given}
use Rattle.ckr_entry.specs.Parts.{Entry}
use Rattle.ckr_entry.specs.Sets.{present}
use Rattle.ckr_fields.specs.Fields.{ds_name}
use Rattle.ckr_match.specs.declared.state.MatchState.{MatchState}
use Rattle.ckr_desk_turn.specs.EntryForms.{IsEntryForm, IsStateForm}

-- a key has at most 32 bytes, a record at most 256, and the place of one is a number of four bytes
pub record IsTypedMatch (state : MatchState) : Type 0 where
  pub first_key : length state.first_key.items ≤ 32
  pub second_key : length state.second_key.items ≤ 32
  pub held : IfSome state.held (λ bytes. length bytes ≤ 256)
  pub last : IfSome state.last (λ at. (at.0 < 2 ^ 32) × (length at.1 ≤ 256))

-- what a state has beside its counts is as its types have it
abbrev pub IsTyped : State → Type 0
IsTyped (Plain state) = Unit {0}
IsTyped (Matched state) = IsTypedMatch state

-- the name of a mark is in its grammar, and the numbers of its data set have their widths
pub record IsTypedMark (mark : Mark) : Type 0 where
  pub name : ds_name.fits mark.name
  pub set : (given present).fits mark.present

-- the entry has its form, if its state has
abbrev pub IsFormedWithState : Entry → Type 0
IsFormedWithState entry = IsStateForm entry.taken entry.state → IsEntryForm entry
