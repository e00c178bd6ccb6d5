-- The images and keys of each program's records.
use Rattle.std.specs.Prelude.{ℕ, ◌&&◌, Bool, true, false, if◌then◌else◌, List, [], ◌∷◌, drop, nat_eq}
use Rattle.std.specs.Cmp.Lexicographic.{pointwise}
use Rattle.ckr_base.specs.Columns.{columns}
use Rattle.ckr_jcl.specs.declared.deck.Kind.{Kind}
use Rattle.ckr_jcl.specs.declared.deck.Kind.TheVariants.{Master, Update}
use Rattle.ckr_jcl.specs.declared.deck.Parm.{Parm}
use Rattle.ckr_match.specs.InputOrder.{Taken, Keys, key_of}

-- whether the second input has transactions for the masters of the first
abbrev pub has_transactions : Kind → Bool
has_transactions Master = true
has_transactions Update = true
has_transactions _ = false

-- the image of a record: a transaction has its code before it
abbrev pub image_in : Kind → Bool → List ℕ → List ℕ
image_in program second bytes = if second && has_transactions program then drop 1 bytes else bytes

-- the columns of KEY in an image
abbrev pub key_in : Parm → List ℕ → List ℕ
key_in parm image = columns parm.key.0 parm.key.1 image

-- masters ascend strictly
abbrev pub keys_of : Kind → Parm → Keys
keys_of program parm = record {
  key = λ second bytes. key_in parm (image_in program second bytes);
  strict = has_transactions program;
}

abbrev pub same_bytes : List ℕ → List ℕ → Bool
same_bytes first second = pointwise nat_eq first second

abbrev pub same_key : Keys → Taken → Taken → Bool
same_key keys first second = same_bytes (key_of keys first) (key_of keys second)

-- the code of a transaction, in its column 1; a column beyond the record is a blank
abbrev pub code_of : List ℕ → ℕ
code_of [] = 32
code_of (byte ∷ bytes) = byte
