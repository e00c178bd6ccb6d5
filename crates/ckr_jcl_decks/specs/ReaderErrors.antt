-- What is said of a reader: its error is a fault of the deck, or the want of memory.
use Rattle.ckr_jcl.specs.declared.refusal.DeckError.{DeckError}
use Rattle.ckr_jcl.specs.declared.refusal.DeckError.TheVariants.{NoMemory, At}
use Rattle.ckr_jcl_faults.specs.declared.deck_text.JobText.{JobText}
use Rattle.ckr_jcl_faults.specs.declared.faults.Fault.{Fault}
use Rattle.ckr_cards.specs.declared.statement.Statement.{Statement}
use Rattle.std.specs.Prelude.{◌≡◌, List, [], ◌∷◌, Option, Some}
use Rattle.ckr_jcl_faults.specs.DeckText.{deck_text}

-- an error tells the fault that there is
abbrev pub TellsFault : DeckError → Option Fault → Type 0
TellsFault NoMemory fault = Unit {0}
TellsFault (At number card) fault = fault ≡ Some (record { number = number; card = card })

-- what the statements of a deck say
abbrev pub IsDeckText : List Statement → JobText → Type 0
IsDeckText [] job = ⊥
IsDeckText (first ∷ rest) job = job ≡ deck_text first rest
