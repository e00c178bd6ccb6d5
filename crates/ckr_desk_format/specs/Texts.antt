-- The one line that is written, by what the cards say.
use Rattle.std.specs.Prelude.{ℕ, List, Result, Ok, Err}
use Rattle.ckr_volumes.specs.declared.layout.Layout.{Layout}
use Rattle.ckr_report.specs.Notices.{formatted_text, line_refused_text, no_volume_text}
use Rattle.ckr_desk_format.specs.declared.installation.CardRefusal.{CardRefusal}
use Rattle.ckr_desk_format.specs.declared.installation.CardRefusal.TheVariants.{Line, NoVolume}

abbrev pub refusal_text : CardRefusal → List ℕ
refusal_text (Line number) = line_refused_text number
refusal_text NoVolume = no_volume_text

-- the line for what the cards say
abbrev pub said_text : Result Layout CardRefusal → List ℕ
said_text (Ok layout) = formatted_text layout
said_text (Err refusal) = refusal_text refusal
