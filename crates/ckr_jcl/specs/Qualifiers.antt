-- The qualifiers that the names of the desk's own data sets begin with.
use Rattle.std.specs.Prelude.{ℕ, ◌||◌, Bool, List, codes, bytes_eq}
use Rattle.ckr_jcl.specs.Text.{before}

-- what stands before the first period
abbrev pub first_qualifier : List ℕ → List ℕ
first_qualifier text = before 46 text

-- the desk's own names begin with these
unfoldable pub is_kept_name : List ℕ → Bool
is_kept_name text = bytes_eq (codes "SYSOUT") (first_qualifier text) || bytes_eq (codes "SYSTEMP") (first_qualifier text)
