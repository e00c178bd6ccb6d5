-- What installation cards say of a disk.
use Rattle.std.specs.Prelude.{ℕ, ◌≡◌, ◌≤◌, ◌+◌, ◌==◌, ◌&&◌, not, Bool, nat_lt, IsTrue, if◌then◌else◌, List, [], ◌∷◌, ◌++◌, length, Option, Some, None, is_none, unwrap_or, Result, Ok, Err}
use Rattle.arrayvec.specs.ArrayVec.{ArrayVec}
use Rattle.ckr_base.specs.declared.code.Code.{Code}
use Rattle.ckr_base.specs.declared.code.Code.TheVariants.{System}
use Rattle.ckr_volumes.specs.declared.layout.Layout.{Layout}
use Rattle.ckr_volumes.specs.declared.layout.Volume.{Volume}
use Rattle.ckr_volumes.specs.Header.{is_within, has_serial, volumes_fit, codes_fit}
use Rattle.ckr_volumes.specs.Layouts.{volumes_end}
use Rattle.ckr_desk_format.specs.declared.cards.InstallationCard.{InstallationCard}
use Rattle.ckr_desk_format.specs.declared.cards.InstallationCard.TheVariants as Cards
use Rattle.ckr_desk_format.specs.declared.disk_layout.Share.{Share}
use Rattle.ckr_desk_format.specs.declared.disk_layout.Said.{Said}
use Rattle.ckr_desk_format.specs.declared.installation.CardRefusal.{CardRefusal}
use Rattle.ckr_desk_format.specs.declared.installation.CardRefusal.TheVariants.{Line, NoVolume}
use Rattle.ckr_desk_format.specs.declared.installation.Installation.{Installation}
use Rattle.ckr_desk_format.specs.Cards.{is_blank_line, card_of}

-- nothing has been said
abbrev pub nothing_said : Said
nothing_said = record { initiators = None; units = None; book = None; volumes = record { items = [] }; eligible = None; shares = record { items = [] } }

-- whether a card may follow: each but a volume stands once, a serial stands once, and there are at most 32 volumes
abbrev pub may_follow : Said → InstallationCard → Bool
may_follow said (Cards.Initiators count) = is_none said.initiators
may_follow said (Cards.Units count) = is_none said.units
may_follow said (Cards.Book bytes) = is_none said.book
may_follow said (Cards.Volume serial bytes) = nat_lt (length said.volumes.items) 32 && not (has_serial said.volumes.items serial)
may_follow said (Cards.Eligible list) = is_none said.eligible

abbrev pub with_share : Said → ℕ → ℕ → List Share
with_share said line bytes = said.shares.items ++ record { line = line; bytes = bytes } ∷ []

-- what is said with a card more, which stands on this line; where the volumes begin is known when all is said
abbrev pub with_card : Said → ℕ → InstallationCard → Said
with_card said line (Cards.Initiators count) = record said { initiators = Some count }
with_card said line (Cards.Units count) = record said { units = Some count }
with_card said line (Cards.Book bytes) = record said { book = Some bytes; shares = record { items = with_share said line bytes } }
with_card said line (Cards.Volume serial bytes) = record said {
  volumes = record { items = said.volumes.items ++ record { serial = serial; start = 0; bytes = bytes } ∷ [] };
  shares = record { items = with_share said line bytes };
}
with_card said line (Cards.Eligible list) = record said { eligible = Some list }

abbrev pub by_card : ℕ → Said → Option InstallationCard → Result Said ℕ
by_card line said None = Err line
by_card line said (Some card) = if may_follow said card then Ok (with_card said line card) else Err line

-- what is said behind a line of this number, or that number where it is wrong
abbrev pub by_line : ℕ → Said → List ℕ → Result Said ℕ
by_line number said line = if is_blank_line line then Ok said else by_card number said (card_of line)

-- what lines say, of which the first has this number, or the number of the first wrong one
abbrev pub by_lines : ℕ → Said → List (List ℕ) → Result Said ℕ
by_lines number said [] = Ok said
by_lines number said (line ∷ rest) = elim (by_line number said line) [
  | Ok more ↦ by_lines (number + 1) more rest
  | Err wrong ↦ Err wrong
]

-- ---- the layout

abbrev pub default_book : ℕ
default_book = 1048576

-- S001, S2F3 and SB37
abbrev pub default_codes : List Code
default_codes = System 1 ∷ System 755 ∷ System 2871 ∷ []

abbrev pub codes_of : Option (ArrayVec Code) → List Code
codes_of (Some list) = list.items
codes_of None = default_codes

-- the volumes one after another, the first from this byte on
abbrev pub one_after_another : ℕ → List Volume → List Volume
one_after_another start [] = []
one_after_another start (volume ∷ rest) = record volume { start = start } ∷ one_after_another (start + volume.bytes) rest

abbrev pub layout_of : Said → Layout
layout_of said = record {
  version = 1;
  initiators = unwrap_or said.initiators 2;
  units = unwrap_or said.units 4;
  volumes = record { items = one_after_another (512 + unwrap_or said.book default_book) said.volumes.items };
  eligible = record { items = codes_of said.eligible };
  book = unwrap_or said.book default_book;
  image = 0;
}

-- ---- the sizes

-- the bytes that no card says: the header, and the book where it has no card
abbrev pub unsaid_bytes : Option ℕ → ℕ
unsaid_bytes None = 512 + default_book
unsaid_bytes (Some bytes) = 512

-- the line of the first share that doesn't fit a disk of this size, of which so many bytes are taken
abbrev pub first_over : ℕ → ℕ → List Share → Option ℕ
first_over size taken [] = None
first_over size taken (share ∷ rest) = if nat_lt size (taken + share.bytes) then Some share.line else first_over size (taken + share.bytes) rest

abbrev pub by_sizes : Said → Option ℕ → Result Layout CardRefusal
by_sizes said None = Ok (layout_of said)
by_sizes said (Some line) = Err (Line line)

abbrev pub by_said : ℕ → Result Said ℕ → Result Layout CardRefusal
by_said size (Err line) = Err (Line line)
by_said size (Ok said) =
    if length said.volumes.items == 0 then Err NoVolume
    else by_sizes said (first_over size (unsaid_bytes said.book) said.shares.items)

-- what installation cards, one on a line, say of a disk of this size: the layout, or why there is none
unfoldable pub installation_of : List (List ℕ) → ℕ → Result Layout CardRefusal
installation_of lines size = by_said size (by_lines 1 nothing_said lines)

-- ---- a reader between two lines

-- what a reader will have read, however the lines go on
abbrev pub read_on : Installation → List (List ℕ) → Result Said ℕ
read_on reader rest = elim reader.wrong [
  | Some line ↦ Err line
  | None ↦ by_lines (reader.lines + 1) reader.said rest
]

abbrev pub book_count : Option ℕ → ℕ
book_count None = 0
book_count (Some bytes) = 1

abbrev pub bytes_asked : List Share → ℕ
bytes_asked [] = 0
bytes_asked (share ∷ rest) = share.bytes + bytes_asked rest

-- what is said is such as a header may have, but for the size of the disk
pub record IsSoundLayout (said : Said) : Type 0 where
  pub initiators : IsTrue (is_within 1 8 (unwrap_or said.initiators 2))
  pub units : IsTrue (is_within 1 16 (unwrap_or said.units 4))
  pub book : IsTrue (is_within 256 268435456 (unwrap_or said.book default_book))
  pub code_count : IsTrue (is_within 1 32 (length (codes_of said.eligible)))
  pub codes : IsTrue (codes_fit [] (codes_of said.eligible))
  pub few : length said.volumes.items ≤ 32
  pub volumes : (start : ℕ) → IsTrue (volumes_fit [] start (one_after_another start said.volumes.items))
  pub shares : length said.shares.items ≡ length said.volumes.items + book_count said.book
  pub sum : bytes_asked said.shares.items ≡ unwrap_or said.book 0 + volumes_end 0 said.volumes.items
