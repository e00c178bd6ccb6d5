-- SYSOUT and DISP don't stand in one statement, so a DD with SYSOUT is NEW.
use Rattle.std.proofs.Common.{◌≡◌, ℕ, Bool, true, false, ◌||◌, not, List, [], ◌∷◌, ◌++◌, Option, None, find, refl, ap, sym, ◌∙◌, subst, cond}
use Rattle.std.proofs.lemmas.Bool.{and_from, and_parts, false≢true, not-false, or_left, or_parts, or_right}
use Rattle.std.proofs.lemmas.List.Folds.{list_any-append}
use Rattle.std.proofs.lemmas.Option.{none-some}
use Rattle.std.proofs.lemmas.Slice.Eq.{bytes_eq-Decides}
use Rattle.std.specs.Prelude.{bytes_eq, codes, unwrap_or}
use Rattle.std.specs.List.{list_any}
use Rattle.std.specs.Option.{is_some, option_and_then, option_map}
use Rattle.ckr_base.proofs.Options.{option_or-none}
use Rattle.ckr_cards.specs.declared.kind.StatementKind.{StatementKind}
use Rattle.ckr_cards.specs.declared.operand.Operand.{Operand}
use Rattle.ckr_cards.specs.declared.statement.Statement.{Statement}
use Rattle.ckr_cards.specs.Tables.{is_among, words}
use Rattle.ckr_jcl.specs.declared.deck.Role.{Role}
use Rattle.ckr_jcl.specs.declared.deck.Status.TheVariants.{New}
use Rattle.ckr_jcl_decks.specs.Parts.MetFaults.{MetFaults}
use Rattle.ckr_jcl_decks.specs.Parts.DdValues.{disp_of, disp_value}
use Rattle.ckr_jcl_decks.specs.Parts.DeckText.{dd_text}
use Rattle.ckr_jcl_decks.specs.Parts.Faults.{are_alike, are_apart, clash_from, clashes_with, clashing_operand, faults_of, faults_of_field, faults_of_operands, is_known, known_front, room_behind, unknown_from, unknown_operand}
use Rattle.ckr_jcl_decks.specs.Parts.Keywords.{has_key, positional_room, value_of}
use Rattle.ckr_jcl_decks.specs.Least.{HasNone}
use Rattle.ckr_jcl.specs.Text.{if_holds}
use Rattle.ckr_jcl_decks.proofs.LeastFault.{own_none, rows_none}

-- ---- tests

pub if_none : {X : Type 0} (b : Bool) (x : X) → if_holds b x ≡ None → b ≡ false
if_none true x none = absurd (none-some x (sym none))
if_none false x none = refl

-- ---- operands that clash

-- operands of which one meets the first test, and the other the second, clash, whichever stands first
abbrev Clash : (Operand → Bool) → (Operand → Bool) → Type 0
Clash first second = (a b : Operand) → first a ≡ true → second b ≡ true → clashes_with a b ≡ true

clash_before : (first second : Operand → Bool) → Clash first second → (operand : Operand) (before : List Operand) → first operand ≡ true → list_any second before ≡ true → list_any (clashes_with operand) before ≡ true
clash_before first second clash operand [] is any = any
clash_before first second clash operand (other ∷ rest) is any = by_test (clash_before first second clash operand rest is) (second other) refl
  where
    by_test : (list_any second rest ≡ true → list_any (clashes_with operand) rest ≡ true) → (b : Bool) → second other ≡ b → (clashes_with operand other || list_any (clashes_with operand) rest) ≡ true
    by_test later true same = rw (clash operand other is same) refl
    by_test later false same = or_right (clashes_with operand other) (list_any (clashes_with operand) rest) (later (rw same at any))

any_more : (test : Operand → Bool) (before : List Operand) (operand : Operand) → list_any test before ≡ true → list_any test (before ++ operand ∷ []) ≡ true
any_more test before operand any = list_any-append test before (operand ∷ []) ∙ ap (λ (b : Bool). b || (test operand || false)) any

any_last : (test : Operand → Bool) (before : List Operand) (operand : Operand) → test operand ≡ true → list_any test (before ++ operand ∷ []) ≡ true
any_last test before operand is = list_any-append test before (operand ∷ []) ∙ or_right (list_any test before) (test operand || false) (rw is refl)

-- what clashes with an operand before doesn't stand behind
none_behind : (first second : Operand → Bool) → Clash first second → (before rest : List Operand) → clash_from before rest ≡ None → list_any second before ≡ true → list_any first rest ≡ false
none_behind first second clash before [] none any = refl
none_behind first second clash before (operand ∷ rest) none any =
    let both = option_or-none (if_holds (list_any (clashes_with operand) before) operand.card) (clash_from (before ++ operand ∷ []) rest) none in
    by_test (if_none (list_any (clashes_with operand) before) operand.card both.0) (none_behind first second clash (before ++ operand ∷ []) rest both.1 (any_more second before operand any)) (first operand) refl
  where
    by_test : list_any (clashes_with operand) before ≡ false → list_any first rest ≡ false → (b : Bool) → first operand ≡ b → (first operand || list_any first rest) ≡ false
    by_test apart later true is = absurd (false≢true (sym apart ∙ clash_before first second clash operand before is any))
    by_test apart later false is = rw is later

-- so where no two operands clash, both don't stand in one statement
one_alone : (first second : Operand → Bool) → Clash first second → Clash second first → ((a : Operand) → first a ≡ true → second a ≡ true → ⊥) → (before rest : List Operand) → clash_from before rest ≡ None
    → list_any second rest ≡ true → list_any first rest ≡ false
one_alone first second clash turned apart before [] none any = refl
one_alone first second clash turned apart before (operand ∷ rest) none any =
    let later = (option_or-none (if_holds (list_any (clashes_with operand) before) operand.card) (clash_from (before ++ operand ∷ []) rest) none).1 in
    by_tests later (one_alone first second clash turned apart (before ++ operand ∷ []) rest later) (first operand) refl (second operand) refl
  where
    by_tests : clash_from (before ++ operand ∷ []) rest ≡ None → (list_any second rest ≡ true → list_any first rest ≡ false) → (b : Bool) → first operand ≡ b → (c : Bool) → second operand ≡ c → (first operand || list_any first rest) ≡ false
    by_tests later alone true is true same = absurd (apart operand is same)
    by_tests later alone true is false same =
        absurd (false≢true (sym (none_behind second first turned (before ++ operand ∷ []) rest later (any_last first before operand is)) ∙ (rw same at any)))
    by_tests later alone false is true same = rw is (none_behind first second clash (before ++ operand ∷ []) rest later (any_last second before operand same))
    by_tests later alone false is false same = rw is (alone (rw same at any))

-- ---- DISP and SYSOUT

key_is : (key : List ℕ) (operand : Operand) → has_key key operand ≡ true → (operand.is_keyword ≡ true) × (key ≡ operand.key)
key_is key operand is =
    let both = and_parts operand.is_keyword (bytes_eq key operand.key) is in
    (both.0, (bytes_eq-Decides key operand.key).0 both.1)

among_sysout : is_among (words (codes "SYSOUT")) (codes "SYSOUT") ≡ true
among_sysout = refl

among_disp : is_among (words (codes "DSN DISP VOL")) (codes "DISP") ≡ true
among_disp = refl

are_not_beside : (disp sysout : Operand) → has_key (codes "DISP") disp ≡ true → has_key (codes "SYSOUT") sysout ≡ true → are_apart sysout disp ≡ true
unfolding are_apart
are_not_beside disp sysout one other =
    let first = key_is (codes "DISP") disp one in
    let second = key_is (codes "SYSOUT") sysout other in
    or_right _ _
    (and_from _ _ (and_from _ _ second.0 (subst (λ (key : List ℕ). is_among (words (codes "SYSOUT")) key ≡ true) second.1 among_sysout))
    (and_from _ _ first.0 (subst (λ (key : List ℕ). is_among (words (codes "DSN DISP VOL")) key ≡ true) first.1 among_disp)))

disp_clashes : Clash (has_key (codes "DISP")) (has_key (codes "SYSOUT"))
unfolding clashes_with
disp_clashes a b one other = or_right (are_alike a b || are_apart a b) (are_apart b a) (are_not_beside a b one other)

sysout_clashes : Clash (has_key (codes "SYSOUT")) (has_key (codes "DISP"))
unfolding clashes_with
sysout_clashes a b one other = or_left (are_alike a b || are_apart a b) (are_apart b a) (or_right (are_alike a b) (are_apart a b) (are_not_beside b a other one))

not_both : (a : Operand) → has_key (codes "DISP") a ≡ true → has_key (codes "SYSOUT") a ≡ true → ⊥
not_both a one other =
    false≢true (ap (λ (key : List ℕ). bytes_eq (codes "SYSOUT") key) ((key_is (codes "DISP") a one).1 ∙ sym (key_is (codes "SYSOUT") a other).1))

-- ---- all operands of a statement without a fault are in the tables

all_known : (kind : StatementKind) (room : ℕ) (operands : List Operand) → unknown_from kind room operands ≡ None → known_front kind room operands ≡ operands
all_known kind room [] none = refl
all_known kind room (operand ∷ rest) none =
    let both = option_or-none (if_holds (not (is_known kind room operand)) operand.card) (unknown_from kind (room_behind room operand) rest) none in
    let known = not-false (is_known kind room operand) (if_none (not (is_known kind room operand)) operand.card both.0) in
    ap (λ (b : Bool). cond b (operand ∷ known_front kind (room_behind room operand) rest) []) known
    ∙ ap (λ (more : List Operand). operand ∷ more) (all_known kind (room_behind room operand) rest both.1)

record HasKnown (s : Statement) : Type 0 where
  known : unknown_operand s ≡ None
  apart : clashing_operand s ≡ None

has_known : (seen : MetFaults) (s : Statement) → HasNone (faults_of seen s) → HasKnown s
unfolding faults_of faults_of_field faults_of_operands
has_known seen s none =
    let from_2 = rows_none _ _ none in
    let from_3 = rows_none _ _ from_2 in
    let from_4 = rows_none _ _ from_3 in
    let from_5 = rows_none _ _ from_4 in
    let from_6 = rows_none _ _ from_5 in
    let from_7 = rows_none _ _ from_6 in
    let from_8 = rows_none _ _ from_7 in
    let from_9 = rows_none _ _ from_8 in
    let from_10 = rows_none _ _ from_9 in
    let from_11 = rows_none _ _ from_10 in
    record { known = own_none 8 (unknown_operand s) _ from_8; apart = own_none 11 (clashing_operand s) _ from_11 }

no_clash : (s : Statement) → HasKnown s → clash_from [] s.operands ≡ None
unfolding unknown_operand clashing_operand
no_clash s known = ap (λ (operands : List Operand). clash_from [] operands) (sym (all_known s.kind (positional_room s.kind) s.operands known.known)) ∙ known.apart

some_found : (test : Operand → Bool) (operands : List Operand) → is_some (option_map (λ (operand : Operand). operand.value) (find test operands)) ≡ true → list_any test operands ≡ true
some_found test [] some = some
some_found test (operand ∷ rest) some = by_test (some_found test rest) (test operand) refl
  where
    by_test : (is_some (option_map (λ (one : Operand). one.value) (find test rest)) ≡ true → list_any test rest ≡ true) → (b : Bool) → test operand ≡ b → (test operand || list_any test rest) ≡ true
    by_test later true is = rw is refl
    by_test later false is = rw is (later (rw is at some))

none_found : (test : Operand → Bool) (operands : List Operand) → list_any test operands ≡ false → option_map (λ (operand : Operand). operand.value) (find test operands) ≡ None
none_found test [] none = refl
none_found test (operand ∷ rest) none =
    let both = or_parts (test operand) (list_any test rest) none in
    rw both.0 (none_found test rest both.1)

no_disp : (s : Statement) → clash_from [] s.operands ≡ None → is_some (value_of (codes "SYSOUT") s) ≡ true → value_of (codes "DISP") s ≡ None
unfolding value_of
no_disp s none some =
    none_found (has_key (codes "DISP")) s.operands
    (one_alone (has_key (codes "DISP")) (has_key (codes "SYSOUT")) disp_clashes sysout_clashes not_both [] s.operands none (some_found (has_key (codes "SYSOUT")) s.operands some))

pub sysout_new : (seen : MetFaults) (s : Statement) (role : Role) → HasNone (faults_of seen s) → (dd_text role s).sysout ≡ true → (dd_text role s).disp.status ≡ New
unfolding dd_text
sysout_new seen s role sound some =
    ap (λ (text : Option (List ℕ)). (unwrap_or (option_and_then disp_value text) (disp_of None None None)).status) (no_disp s (no_clash s (has_known seen s sound)) some)
