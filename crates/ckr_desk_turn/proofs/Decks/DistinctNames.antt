-- DDs of different names, and with different data set names, have different names in the library.
use Rattle.std.proofs.Common.{◌≡◌, ℕ, Bool, true, false, ◌&&◌, not, List, ◌∷◌, ◌++◌, map, Option, Some, None, refl, ap, sym, ◌∙◌, subst, cond, append_assoc, drop}
use Rattle.std.proofs.lemmas.Bool.{and_parts, false≢true, not-true}
use Rattle.std.proofs.lemmas.List.{append_cancel_left}
use Rattle.std.proofs.lemmas.List.Folds.{list_all-append}
use Rattle.std.proofs.lemmas.Slice.Eq.{bytes_eq-Decides}
use Rattle.std.specs.Prelude.{bytes_eq, codes}
use Rattle.std.specs.List.{list_all}
use Rattle.std.specs.Option.{option_map}
use Rattle.ckr_base.specs.Grammar.{is_ds_name, is_name8, is_name_byte}
use Rattle.ckr_base.proofs.Sequences.{tail-same}
use Rattle.ckr_base.proofs.NameBytes.{name8-named}
use Rattle.ckr_jcl.specs.declared.deck.Kind.{Kind}
use Rattle.ckr_jcl.specs.declared.deck.Origin.{Origin}
use Rattle.ckr_jcl.specs.declared.deck.Origin.TheVariants.{InStream, Named, Temporary, Unnamed, Sysout, Dummy}
use Rattle.ckr_jcl.specs.declared.deck.Role.{Role}
use Rattle.ckr_jcl_decks.specs.Parts.DsnText.{DsnText}
use Rattle.ckr_jcl_decks.specs.Parts.DsnText.TheVariants.{Permanent, Passing, Referring, IllFormed}
use Rattle.ckr_jcl_decks.specs.Parts.DdText.{DdText}
use Rattle.ckr_cards.specs.declared.statement.Statement.{Statement}
use Rattle.ckr_cards.specs.Statement.{name_in}
use Rattle.ckr_jcl_decks.specs.Parts.DdValues.{dsn_value, is_passing, is_referring, passing_name, permanent_name}
use Rattle.ckr_jcl_decks.specs.Parts.DeckText.{dd_text, role_in}
use Rattle.ckr_jcl_decks.specs.Parts.Keywords.{value_of}
use Rattle.ckr_jcl_decks.specs.DeckFaults.{is_same_dsn}
use Rattle.ckr_jcl_decks.specs.Deck.{bytes_of, named_origin, origin_of}
use Rattle.ckr_jcl.specs.Qualifiers.{is_kept_name}
use Rattle.ckr_jcl.specs.Text.{before}
use Rattle.ckr_library.specs.NameMaps.{Name, same_name}
use Rattle.ckr_uses.specs.SetNames.{origin_name, qualified, step_name}
use Rattle.ckr_desk_turn.proofs.Decks.Names.{not_same}
use Rattle.ckr_desk_turn.proofs.Decks.Texts.{IsStated}

-- ---- the names that are given

-- a data set name that is written has no qualifier of the desk, and one behind `&&` is a name
abbrev pub IsGiven : Option DsnText → Type 0
IsGiven None = Unit {0}
IsGiven (Some (Permanent name)) = is_kept_name name ≡ false
IsGiven (Some (Passing name)) = is_name8 name ≡ true
IsGiven (Some Referring) = Unit {0}
IsGiven (Some IllFormed) = Unit {0}

permanent_given : (text : List ℕ) (b : Bool) → (is_ds_name text && not (is_kept_name text)) ≡ b → IsGiven (Some (cond b (Permanent text) IllFormed))
permanent_given text true is = not-true (is_kept_name text) (and_parts (is_ds_name text) (not (is_kept_name text)) is).1
permanent_given text false is = tt

passing_given : (name : List ℕ) (b : Bool) → is_name8 name ≡ b → IsGiven (Some (cond b (Passing name) IllFormed))
passing_given name true is = is
passing_given name false is = tt

value_given : (text : List ℕ) → IsGiven (Some (dsn_value text))
unfolding dsn_value
value_given text =
    elim (is_referring text) as (λ b. IsGiven (Some (cond b Referring (cond (is_passing text) (passing_name (drop 2 text)) (permanent_name text))))) [
      | true ↦ tt
      | false ↦ elim (is_passing text) as (λ b. IsGiven (Some (cond b (passing_name (drop 2 text)) (permanent_name text)))) [
        | true ↦ passing_given (drop 2 text) (is_name8 (drop 2 text)) refl
        | false ↦ permanent_given text (is_ds_name text && not (is_kept_name text)) refl
      ]
    ]

text_given : (text : Option (List ℕ)) → IsGiven (option_map dsn_value text)
text_given None = tt
text_given (Some text) = value_given text

dd_given : (role : Role) (s : Statement) → IsGiven (dd_text role s).dsn
unfolding dd_text
dd_given role s = text_given (value_of (codes "DSN") s)

pub stated_given : (program : Option Kind) (dd : DdText) → IsStated program dd → IsGiven dd.dsn
stated_given program dd stated = subst (λ (d : DdText). IsGiven d.dsn) (sym stated.is) (dd_given (role_in program (name_in stated.statement)) stated.statement)

-- ---- the same of where the records are

abbrev pub IsOwn : Origin → Type 0
IsOwn (InStream cards) = Unit {0}
IsOwn (Named name) = is_kept_name name ≡ false
IsOwn (Temporary name) = is_name8 name ≡ true
IsOwn Unnamed = Unit {0}
IsOwn Sysout = Unit {0}
IsOwn Dummy = Unit {0}

abbrev pub is_one : Origin → Origin → Bool
is_one (Named one) (Named other) = bytes_eq one other
is_one (Temporary one) (Temporary other) = bytes_eq one other
is_one one other = false

named_own : (dsn : Option DsnText) → IsGiven dsn → IsOwn (named_origin dsn)
unfolding named_origin
named_own None given = tt
named_own (Some (Permanent name)) given = given
named_own (Some (Passing name)) given = given
named_own (Some Referring) given = tt
named_own (Some IllFormed) given = tt

-- what holds of each origin that a DD may have
by_origin : (P : Origin → Type 0) (dd : DdText) → P (InStream (map bytes_of dd.records)) → P Dummy → P Sysout → P (named_origin dd.dsn) → P (origin_of dd)
unfolding origin_of
by_origin P dd stream dummy sysout named =
    elim dd.in_stream as (λ b. P (cond b (InStream (map bytes_of dd.records)) (cond dd.dummy Dummy (cond dd.sysout Sysout (named_origin dd.dsn))))) [
      | true ↦ stream
      | false ↦ elim dd.dummy as (λ b. P (cond b Dummy (cond dd.sysout Sysout (named_origin dd.dsn)))) [
        | true ↦ dummy
        | false ↦ elim dd.sysout as (λ b. P (cond b Sysout (named_origin dd.dsn))) [ true ↦ sysout | false ↦ named ]
      ]
    ]

pub origin_own : (dd : DdText) → IsGiven dd.dsn → IsOwn (origin_of dd)
origin_own dd given = by_origin IsOwn dd tt tt tt (named_own dd.dsn given)

dsns_apart : (one other : Option DsnText) → is_same_dsn one other ≡ false → is_one (named_origin one) (named_origin other) ≡ false
unfolding named_origin
dsns_apart (Some (Permanent name)) (Some (Permanent other)) apart = apart
dsns_apart (Some (Passing name)) (Some (Passing other)) apart = apart
dsns_apart _ other apart = refl

-- one that no name is given
abbrev is_nameless : Origin → Bool
is_nameless (InStream cards) = true
is_nameless (Named name) = false
is_nameless (Temporary name) = false
is_nameless Unnamed = true
is_nameless Sysout = true
is_nameless Dummy = true

nameless_apart : (one other : Origin) → is_nameless other ≡ true → is_one one other ≡ false
nameless_apart (Named name) (Named other) none = absurd (false≢true none)
nameless_apart (Temporary name) (Temporary other) none = absurd (false≢true none)
nameless_apart _ other none = refl

pub origins_apart : (dd other : DdText) → is_same_dsn dd.dsn other.dsn ≡ false → is_one (origin_of dd) (origin_of other) ≡ false
origins_apart dd other apart =
    by_origin (λ o. is_one (origin_of dd) o ≡ false) other
    (nameless_apart (origin_of dd) (InStream (map bytes_of other.records)) refl) (nameless_apart (origin_of dd) Dummy refl) (nameless_apart (origin_of dd) Sysout refl)
    (by_origin (λ o. is_one o (named_origin other.dsn) ≡ false) dd refl refl refl (dsns_apart dd.dsn other.dsn apart))

-- ---- names with qualifiers

behind_same : (front one other : Name) → qualified front one ≡ qualified front other → one ≡ other
behind_same front one other is = tail-same 46 46 one other (append_cancel_left front (46 ∷ one) (46 ∷ other) is)

last_false : (a : Bool) → (a && false) ≡ true → ⊥
last_false true is = false≢true is
last_false false is = false≢true is

no_period : (front name : List ℕ) → is_name8 (front ++ 46 ∷ name) ≡ true → ⊥
no_period front name is = last_false (list_all is_name_byte front) (sym (list_all-append is_name_byte front (46 ∷ name)) ∙ name8-named (front ++ 46 ∷ name) is)

-- a name behind two qualifiers isn't one behind three
three_apart : (front name step dd : Name) → is_name8 name ≡ true → qualified front name ≡ qualified (qualified front step) dd → ⊥
three_apart front name step dd own is =
    no_period step dd
    (subst (λ (n : Name). is_name8 n ≡ true) (behind_same front name (step ++ 46 ∷ dd) (is ∙ append_assoc front (46 ∷ step) (46 ∷ dd))) own)

kept_temporary : (root name : Name) → is_kept_name (qualified (qualified (codes "SYSTEMP") root) name) ≡ true
unfolding is_kept_name
kept_temporary root name = refl

kept_unnamed : (root step dd : Name) → is_kept_name (step_name (codes "SYSTEMP") root step dd) ≡ true
unfolding is_kept_name
kept_unnamed root step dd = refl

kept_sysout : (owner step dd : Name) → is_kept_name (step_name (codes "SYSOUT") owner step dd) ≡ true
unfolding is_kept_name
kept_sysout owner step dd = refl

not_kept : (name other : Name) → is_kept_name name ≡ false → is_kept_name other ≡ true → name ≡ other → ⊥
not_kept name other free kept is = false≢true (sym free ∙ (ap is_kept_name is ∙ kept))

-- the first qualifiers tell them apart
temporary_apart : (root name owner step dd : Name) → qualified (qualified (codes "SYSTEMP") root) name ≡ step_name (codes "SYSOUT") owner step dd → ⊥
temporary_apart root name owner step dd is = false≢true (sym (ap (λ (n : Name). bytes_eq (codes "SYSTEMP") (before 46 n)) is))

unnamed_apart : (root step dd owner other : Name) → step_name (codes "SYSTEMP") root step dd ≡ step_name (codes "SYSOUT") owner step other → ⊥
unnamed_apart root step dd owner other is = false≢true (sym (ap (λ (n : Name). bytes_eq (codes "SYSTEMP") (before 46 n)) is))

not_equal : (one other : List ℕ) → bytes_eq one other ≡ false → one ≡ other → ⊥
not_equal one other apart is = false≢true (sym apart ∙ (bytes_eq-Decides one other).1 is)

turned : {one other : Name} → (other ≡ one → ⊥) → one ≡ other → ⊥
turned apart is = apart (sym is)

-- ---- the names of two DDs

abbrev pub differ : Option Name → Option Name → Bool
differ None other = true
differ (Some name) None = true
differ (Some name) (Some other) = not (same_name name other)

they_differ : (name other : Name) → (name ≡ other → ⊥) → differ (Some name) (Some other) ≡ true
they_differ name other apart = ap not (not_same name other apart)

pub names_differ : (one two : Origin) (root owner step dd other : Name) → IsOwn one → IsOwn two → is_one one two ≡ false → bytes_eq dd other ≡ false
    → differ (origin_name one root owner step dd) (origin_name two root owner step other) ≡ true
names_differ (InStream cards) two root owner step dd other own also apart names = refl
names_differ Dummy two root owner step dd other own also apart names = refl
names_differ (Named name) (InStream cards) root owner step dd other own also apart names = refl
names_differ (Named name) Dummy root owner step dd other own also apart names = refl
names_differ (Named name) (Named two) root owner step dd other own also apart names = they_differ _ _ (not_equal name two apart)
names_differ (Named name) (Temporary two) root owner step dd other own also apart names = they_differ _ _ (not_kept name _ own (kept_temporary root two))
names_differ (Named name) Unnamed root owner step dd other own also apart names = they_differ _ _ (not_kept name _ own (kept_unnamed root step other))
names_differ (Named name) Sysout root owner step dd other own also apart names = they_differ _ _ (not_kept name _ own (kept_sysout owner step other))
names_differ (Temporary name) (InStream cards) root owner step dd other own also apart names = refl
names_differ (Temporary name) Dummy root owner step dd other own also apart names = refl
names_differ (Temporary name) (Named two) root owner step dd other own also apart names = they_differ _ _ (turned (not_kept two _ also (kept_temporary root name)))
names_differ (Temporary name) (Temporary two) root owner step dd other own also apart names =
    they_differ _ _ (λ is. not_equal name two apart (behind_same (qualified (codes "SYSTEMP") root) name two is))
names_differ (Temporary name) Unnamed root owner step dd other own also apart names = they_differ _ _ (three_apart (qualified (codes "SYSTEMP") root) name step other own)
names_differ (Temporary name) Sysout root owner step dd other own also apart names = they_differ _ _ (temporary_apart root name owner step other)
names_differ Unnamed (InStream cards) root owner step dd other own also apart names = refl
names_differ Unnamed Dummy root owner step dd other own also apart names = refl
names_differ Unnamed (Named two) root owner step dd other own also apart names = they_differ _ _ (turned (not_kept two _ also (kept_unnamed root step dd)))
names_differ Unnamed (Temporary two) root owner step dd other own also apart names = they_differ _ _ (turned (three_apart (qualified (codes "SYSTEMP") root) two step dd also))
names_differ Unnamed Unnamed root owner step dd other own also apart names =
    they_differ _ _ (λ is. not_equal dd other names (behind_same (qualified (qualified (codes "SYSTEMP") root) step) dd other is))
names_differ Unnamed Sysout root owner step dd other own also apart names = they_differ _ _ (unnamed_apart root step dd owner other)
names_differ Sysout (InStream cards) root owner step dd other own also apart names = refl
names_differ Sysout Dummy root owner step dd other own also apart names = refl
names_differ Sysout (Named two) root owner step dd other own also apart names = they_differ _ _ (turned (not_kept two _ also (kept_sysout owner step dd)))
names_differ Sysout (Temporary two) root owner step dd other own also apart names = they_differ _ _ (turned (temporary_apart root two owner step dd))
names_differ Sysout Unnamed root owner step dd other own also apart names = they_differ _ _ (turned (unnamed_apart root step other owner dd))
names_differ Sysout Sysout root owner step dd other own also apart names =
    they_differ _ _ (λ is. not_equal dd other names (behind_same (qualified (qualified (codes "SYSOUT") owner) step) dd other is))
