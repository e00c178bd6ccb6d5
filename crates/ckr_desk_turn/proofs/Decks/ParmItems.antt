-- What holds where nothing is given, and stays with each item, holds of a PARM that is read.
use Rattle.std.proofs.Common.{◌≡◌, ℕ, ◌+◌, Bool, true, false, not, ◌&&◌, cond, List, [], ◌∷◌, length, Option, Some, None, Result, Ok, Err, refl, subst}
use Rattle.ckr_jcl.specs.declared.deck.Kind.{Kind}
use Rattle.ckr_jcl.specs.declared.deck.Kind.TheVariants.{Copy, Select, Merge, Master, Update, Print, Br14}
use Rattle.ckr_jcl.specs.declared.deck.Parm.{Parm}
use Rattle.ckr_jcl.specs.declared.parm.ParmKey.{ParmKey}
use Rattle.ckr_jcl.specs.declared.refusal.ParmError.{ParmError}
use Rattle.ckr_jcl.specs.ParmGrammar.{all_items_read, if_complete, is_given, items_read, key_of, lacks_item, no_parm, read_on, read_parm_text, takes, value_of, with_item, with_key, with_value}

-- a value that is given
abbrev pub KeepsValues : (Parm → Type 0) → Type 0
KeepsValues P = (key : ParmKey) (value : List ℕ) (parm next : Parm) → P parm → with_value key value parm ≡ Some next → P next

module _ (P : Parm → Type 0) (nothing : P no_parm) (keeps : KeepsValues P) where
  key-keeps : (kind : Kind) (key : Option ParmKey) (value : List ℕ) (parm next : Parm) → P parm → with_key kind key value parm ≡ Some next → P next
  key-keeps kind None value parm next its e = absurd (cc)
  key-keeps kind (Some key) value parm next its e = by (takes kind key && not (is_given key parm)) e
    where
      by : (b : Bool) → cond b (with_value key value parm) None ≡ Some next → P next
      by true f = keeps key value parm next its f
      by false f = absurd (cc)

  item-keeps : (kind : Kind) (item : List ℕ) (parm next : Parm) → P parm → with_item kind item parm ≡ Some next → P next
  unfolding with_item
  item-keeps kind item parm next its e = key-keeps kind (key_of item) (value_of item) parm next its e

  on-keeps : (read : Option Parm) (place : ℕ) (rest : Parm → Result Parm ParmError) → ((next : Parm) → read ≡ Some next → (parm : Parm) → rest next ≡ Ok parm → P parm) → (parm : Parm) → read_on read place rest ≡ Ok parm → P parm
  on-keeps None place rest more parm e = absurd (cc)
  on-keeps (Some next) place rest more parm e = more next refl parm e

  items-keep : (kind : Kind) (place : ℕ) (items : List (List ℕ)) (before parm : Parm) → P before → items_read kind place items before ≡ Ok parm → P parm
  items-keep kind place [] before parm its e = let same : before ≡ parm = cc in subst P same its
  items-keep kind place (item ∷ rest) before parm its e =
      on-keeps (with_item kind item before) place (λ next. items_read kind (place + length item + 1) rest next)
      (λ next f found g. items-keep kind (place + length item + 1) rest next found (item-keeps kind item before next its f) g)
      parm e

  all-keep : (kind : Kind) (text : List ℕ) (parm : Parm) → all_items_read kind text ≡ Ok parm → P parm
  unfolding all_items_read
  all-keep kind [] parm e = let same : no_parm ≡ parm = cc in subst P same nothing
  all-keep kind (byte ∷ rest) parm e = items-keep kind 0 _ no_parm parm nothing e

  complete-keeps : (kind : Kind) (text : List ℕ) (parm : Parm) → if_complete kind (length text) (all_items_read kind text) ≡ Ok parm → P parm
  complete-keeps kind text parm e = by-read (all_items_read kind text) (all-keep kind text) e
    where
      by : (b : Bool) (found : Parm) → P found → cond {A = Result Parm ParmError} b (Err (record { place = length text })) (Ok found) ≡ Ok parm → P parm
      by true found its f = absurd (cc)
      by false found its f = let same : found ≡ parm = cc in subst P same its

      by-read : (read : Result Parm ParmError) → ((found : Parm) → read ≡ Ok found → P found) → if_complete kind (length text) read ≡ Ok parm → P parm
      by-read (Err error) more f = absurd (cc)
      by-read (Ok found) more f = by (lacks_item kind found) found (more found refl) f

  pub read-holds : (kind : Kind) (text : List ℕ) (parm : Parm) → read_parm_text kind text ≡ Ok parm → P parm
  unfolding read_parm_text
  read-holds Br14 text parm e = let same : no_parm ≡ parm = cc in subst P same nothing
  read-holds Copy text parm e = complete-keeps Copy text parm e
  read-holds Select text parm e = complete-keeps Select text parm e
  read-holds Merge text parm e = complete-keeps Merge text parm e
  read-holds Master text parm e = complete-keeps Master text parm e
  read-holds Update text parm e = complete-keeps Update text parm e
  read-holds Print text parm e = complete-keeps Print text parm e
