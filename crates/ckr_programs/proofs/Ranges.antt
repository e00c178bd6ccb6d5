-- A PARM that is read has its numbers in their ranges.
use Rattle.std.proofs.Common.{◌≡◌, ◌≤◌, ℕ, ◌+◌, Bool, true, false, not, ◌&&◌, cond, leb, List, [], ◌∷◌, length, Option, Some, None, Result, Ok, Err, refl, ap, subst, arith}
use Rattle.std.specs.Option.{option_map}
use Rattle.std.proofs.lemmas.Bool.{leb-true}
use Rattle.ckr_base.specs.Grammar.{is_digit, is_text_of}
use Rattle.ckr_base.specs.Words.{number_in_digits}
use Rattle.ckr_base.proofs.Bools.{and-second}
use Rattle.ckr_jcl.specs.Text.{if_holds, before, behind}
use Rattle.ckr_jcl.specs.declared.deck.Kind.{Kind}
use Rattle.ckr_jcl.specs.declared.deck.Kind.TheVariants.{Copy, Select, Merge, Master, Update, Print, Br14}
use Rattle.ckr_jcl.specs.declared.deck.Parm.{Parm}
use Rattle.ckr_jcl.specs.declared.parm.ParmKey.{ParmKey}
use Rattle.ckr_jcl.specs.declared.parm.ParmKey.TheVariants.{Chk, Ids, Cancel, Key, Col, Val, Title, Sum}
use Rattle.ckr_jcl.specs.declared.refusal.ParmError.{ParmError}
use Rattle.ckr_jcl.specs.ParmGrammar.{begins_with_zero, plain_number, pair_within, column_and_length, no_parm, with_value, takes, is_given, key_of, value_of, with_key, with_item, read_on, items_read, all_items_read, if_complete, lacks_item, read_parm_text}
use Rattle.ckr_programs.specs.Ranges.{IsInRange}

number_if : (b : Bool) (value number most : ℕ) → (b ≡ true → value ≤ most) → cond b (Some value) None ≡ Some number → number ≤ most
number_if true value number most bound e = let same : value ≡ number = cc in subst (λ n. n ≤ most) same (bound refl)
number_if false value number most bound e = absurd (cc)

plain_number_bound : (most : ℕ) (text : List ℕ) (number : ℕ) → plain_number most text ≡ Some number → number ≤ most
unfolding plain_number
plain_number_bound most text number e =
    number_if (is_text_of is_digit 7 text && not (begins_with_zero text) && leb (number_in_digits text) most) (number_in_digits text) number most
    (λ c. leb-true (number_in_digits text) most (and-second (is_text_of is_digit 7 text && not (begins_with_zero text)) (leb (number_in_digits text) most) c))
    e

pair_bound : (most longest : ℕ) (column count : Option ℕ) (pair : ℕ × ℕ) → ((n : ℕ) → count ≡ Some n → n ≤ longest) → pair_within most column count ≡ Some pair → pair.1 ≤ longest
pair_bound most longest (Some column) (Some count) pair bound e = by (leb (column + count) most) e
  where
    by : (b : Bool) → if_holds b (column, count) ≡ Some pair → pair.1 ≤ longest
    by true f = let same : (column, count) ≡ pair = cc in subst (λ n. n ≤ longest) (ap (λ p. p.1) same) (bound count refl)
    by false f = absurd (cc)
pair_bound most longest (Some column) None pair bound e = absurd (cc)
pair_bound most longest None count pair bound e = absurd (cc)

column_and_length_bound : (longest most : ℕ) (value : List ℕ) (pair : ℕ × ℕ) → column_and_length longest most value ≡ Some pair → pair.1 ≤ longest
unfolding column_and_length
column_and_length_bound longest most value pair e =
    pair_bound most longest (plain_number most (before 58 value)) (plain_number longest (behind 58 value)) pair
    (λ n f. plain_number_bound longest (behind 58 value) n f) e

mapped : {X : Type 0} (f : X → Parm) (found : Option X) (next : Parm) → ((x : X) → found ≡ Some x → IsInRange (f x)) → option_map f found ≡ Some next → IsInRange next
mapped f None next keeps e = absurd (cc)
mapped f (Some x) next keeps e = let same : f x ≡ next = cc in subst IsInRange same (keeps x refl)

held : (b : Bool) (parm next : Parm) → IsInRange parm → if_holds b parm ≡ Some next → IsInRange next
held true parm next ranges e = let same : parm ≡ next = cc in subst IsInRange same ranges
held false parm next ranges e = absurd (cc)

with_value_keeps : (key : ParmKey) (value : List ℕ) (parm next : Parm) → IsInRange parm → with_value key value parm ≡ Some next → IsInRange next
unfolding with_value
with_value_keeps Chk value parm next ranges e = mapped (λ number. record parm { chk = number }) (plain_number 9999999 value) next (λ x f. record { sum = ranges.sum; key = ranges.key }) e
with_value_keeps Cancel value parm next ranges e = mapped (λ number. record parm { cancel = number }) (plain_number 9999999 value) next (λ x f. record { sum = ranges.sum; key = ranges.key }) e
with_value_keeps Ids value parm next ranges e = held _ (record parm { ids = record { items = value } }) next (record { sum = ranges.sum; key = ranges.key }) e
with_value_keeps Key value parm next ranges e = mapped (λ pair. record parm { key = pair }) (column_and_length 32 256 value) next (λ x f. record { sum = ranges.sum; key = column_and_length_bound 32 256 value x f }) e
with_value_keeps Col value parm next ranges e = mapped (λ number. record parm { col = number }) (plain_number 256 value) next (λ x f. record { sum = ranges.sum; key = ranges.key }) e
with_value_keeps Val value parm next ranges e = held _ (record parm { val = record { items = value } }) next (record { sum = ranges.sum; key = ranges.key }) e
with_value_keeps Title value parm next ranges e = held _ (record parm { title = record { items = value } }) next (record { sum = ranges.sum; key = ranges.key }) e
with_value_keeps Sum value parm next ranges e = mapped (λ pair. record parm { sum = pair }) (column_and_length 15 257 value) next (λ x f. record { sum = column_and_length_bound 15 257 value x f; key = ranges.key }) e

with_key_keeps : (kind : Kind) (key : Option ParmKey) (value : List ℕ) (parm next : Parm) → IsInRange parm → with_key kind key value parm ≡ Some next → IsInRange next
with_key_keeps kind None value parm next ranges e = absurd (cc)
with_key_keeps kind (Some key) value parm next ranges e = by (takes kind key && not (is_given key parm)) e
  where
    by : (b : Bool) → cond b (with_value key value parm) None ≡ Some next → IsInRange next
    by true f = with_value_keeps key value parm next ranges f
    by false f = absurd (cc)

with_item_keeps : (kind : Kind) (item : List ℕ) (parm next : Parm) → IsInRange parm → with_item kind item parm ≡ Some next → IsInRange next
unfolding with_item
with_item_keeps kind item parm next ranges e = with_key_keeps kind (key_of item) (value_of item) parm next ranges e

read_on_keeps : (read : Option Parm) (place : ℕ) (rest : Parm → Result Parm ParmError) → ((next : Parm) → read ≡ Some next → (parm : Parm) → rest next ≡ Ok parm → IsInRange parm) → (parm : Parm) → read_on read place rest ≡ Ok parm → IsInRange parm
read_on_keeps None place rest keeps parm e = absurd (cc)
read_on_keeps (Some next) place rest keeps parm e = keeps next refl parm e

items_keep : (kind : Kind) (place : ℕ) (items : List (List ℕ)) (before parm : Parm) → IsInRange before → items_read kind place items before ≡ Ok parm → IsInRange parm
items_keep kind place [] before parm ranges e = let same : before ≡ parm = cc in subst IsInRange same ranges
items_keep kind place (item ∷ rest) before parm ranges e =
    read_on_keeps (with_item kind item before) place (λ next. items_read kind (place + length item + 1) rest next)
    (λ next f found g. items_keep kind (place + length item + 1) rest next found (with_item_keeps kind item before next ranges f) g)
    parm e

nothing_given : IsInRange no_parm
nothing_given = record { sum = omega arith; key = omega arith }

all_keep : (kind : Kind) (text : List ℕ) (parm : Parm) → all_items_read kind text ≡ Ok parm → IsInRange parm
unfolding all_items_read
all_keep kind [] parm e = let same : no_parm ≡ parm = cc in subst IsInRange same nothing_given
all_keep kind (byte ∷ rest) parm e = items_keep kind 0 _ no_parm parm nothing_given e

complete_keeps : (kind : Kind) (count : ℕ) (read : Result Parm ParmError) → ((parm : Parm) → read ≡ Ok parm → IsInRange parm) → (parm : Parm) → if_complete kind count read ≡ Ok parm → IsInRange parm
complete_keeps kind count (Err error) keeps parm e = absurd (cc)
complete_keeps kind count (Ok found) keeps parm e = by (lacks_item kind found) e
  where
    by : (b : Bool) → cond {A = Result Parm ParmError} b (Err (record { place = count })) (Ok found) ≡ Ok parm → IsInRange parm
    by true f = absurd (cc)
    by false f = let same : found ≡ parm = cc in subst IsInRange same (keeps found refl)

pub read_parm_ranges : (kind : Kind) (text : List ℕ) (parm : Parm) → read_parm_text kind text ≡ Ok parm → IsInRange parm
unfolding read_parm_text
read_parm_ranges Br14 text parm e = let same : no_parm ≡ parm = cc in subst IsInRange same nothing_given
read_parm_ranges Copy text parm e = complete_keeps Copy (length text) (all_items_read Copy text) (all_keep Copy text) parm e
read_parm_ranges Select text parm e = complete_keeps Select (length text) (all_items_read Select text) (all_keep Select text) parm e
read_parm_ranges Merge text parm e = complete_keeps Merge (length text) (all_items_read Merge text) (all_keep Merge text) parm e
read_parm_ranges Master text parm e = complete_keeps Master (length text) (all_items_read Master text) (all_keep Master text) parm e
read_parm_ranges Update text parm e = complete_keeps Update (length text) (all_items_read Update text) (all_keep Update text) parm e
read_parm_ranges Print text parm e = complete_keeps Print (length text) (all_items_read Print text) (all_keep Print text) parm e
